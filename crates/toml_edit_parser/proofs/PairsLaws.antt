-- The loop over the pairs of an inline table: how far it is, and its steps.
use Rattle.std.proofs.Common.{◌≡◌, ℕ, suc, ◌+◌, ◌≤◌, List, [], ◌∷◌, ◌++◌, length, refl, sym, ap, ◌∙◌, subst, append_assoc, arith, Some}
use Rattle.std.proofs.Common.{None, codes, inl, inr}
use Rattle.std.specs.Prelude.{Contains}
use Rattle.std.proofs.lemmas.List.{length-append}
use Rattle.std.proofs.lemmas.List.Elements.{Contains-append_left, Contains-append_right}
use Rattle.toml_edit_model.specs.Text.{Text}
use Rattle.toml_edit_model.specs.Syntax.{Frame, Value, Pairs, no_pairs, pair, IsValue, IsFrame, ArePairs, value_text, path_text, frame_text}
use Rattle.toml_edit_model.specs.Syntax.{pairs_text, nesting_limit}
use Rattle.toml_edit_model.specs.Trivia.{IsWholeTrivia}
use Rattle.toml_edit_model.specs.Paths.{pair_mentions}
use Rattle.toml_edit_model.specs.Faults.{Fault, long_path, value_faults, pairs_faults, pair_clashes}
use Rattle.toml_edit_model.specs.Tree.{Slots, no_slots}
use Rattle.toml_edit_model.specs.TreeOf.{spanned_form}
use Rattle.toml_edit_laws.specs.Standing.{Stands}
use Rattle.toml_edit_laws.specs.InlineTree.{IsPairNode, add_entry, entry_clash, way_fault, pair_path, next_pair, followed_by, end_of_pairs}
use Rattle.toml_edit_laws.proofs.inline_tables.InlineLoop.{AreSlotsOfPairs, at_first, one_more, one_clash, keyed_pairs}
use Rattle.toml_edit_laws.proofs.common.StandingLaws.{stands-left, stands-right}
use Rattle.toml_edit_error.specs.Report.{Report, fault_of}
use Rattle.toml_edit_error.specs.Fault.{IfToml}
use Rattle.toml_edit_error.specs.declared.toml_error.ParseFault.{ParseFault}
use Rattle.toml_edit_syntax.specs.declared.event.Event.{Event}
use Rattle.toml_edit_syntax.specs.declared.event.EventKind.TheVariants.{Leading, After}
use Rattle.toml_edit_syntax.specs.declared.event.Span.{Span}
use Rattle.toml_edit_syntax.specs.ValueEvents.{event, frame_events, value_at_byte, value_events, pairs_events, shortened}
use Rattle.toml_edit_parser.specs.PairRead.{AddsPair, ArePairsRead, NamesClash, NamesPair, PairsStand, key_events}
use Rattle.toml_edit_parser.specs.ValueRead.{NamesOne, span_at, split_leading}
use Rattle.toml_edit_parser.proofs.PairLaws.{key-whole}
use Rattle.toml_edit_parser.proofs.ReadLaws.{here, mapped, same_spans}

-- what is said of a list of pairs whose events these are
pub record AreBefore (source : Text) (ps : Pairs) (start level : ℕ) (more events : List Event) : Type 0 where
  pub grammar : ArePairs ps
  pub stand : PairsStand source start ps
  pub below : level ≤ nesting_limit
  pub ends : split_leading (shortened level more) ≡ None
  pub events_are : events ≡ shortened level (pairs_events start ps ++ more)

-- some pairs are done, and these are left
pub record Left (source : Text) (ps : Pairs) (start level : ℕ) (more : List Event) (rest : List Event) (ss : Slots) : Type 0 where
  pub done : Pairs
  pub left : Pairs
  pub all : followed_by done left ≡ ps
  pub slots : AreSlotsOfPairs spanned_form done start ss
  pub before : AreBefore source left (end_of_pairs start done) level more rest
  pub faultless : pairs_faults left (end_of_pairs start done) level ≡ [] → pairs_faults ps start level ≡ []
  pub fault : (f : Fault) → Contains (pairs_faults left (end_of_pairs start done) level) f → Contains (pairs_faults ps start level) f

pub at_start : (source : Text) (ps : Pairs) (start level : ℕ) (more events : List Event) (ss : Slots) → ss ≡ no_slots
    → AreBefore source ps start level more events → Left source ps start level more events ss
at_start source ps start level more events ss none h =
    record {
      done = no_pairs;
      left = ps;
      all = refl;
      slots = subst (AreSlotsOfPairs spanned_form no_pairs start) (sym none) (at_first spanned_form start);
      before = h;
      faultless = λ e. e;
      fault = λ f c. c;
    }

one_by_one : (ps : Pairs) (f : Frame) (v : Value) (qs : Pairs) → followed_by (followed_by ps (pair f v no_pairs)) qs
    ≡ followed_by ps (pair f v qs)
one_by_one no_pairs f v qs = refl
one_by_one (pair g w ps) f v qs = ap (pair g w) (one_by_one ps f v qs)

end_of-more : (start : ℕ) (ps : Pairs) (f : Frame) (v : Value) → end_of_pairs start (followed_by ps (pair f v no_pairs))
    ≡ next_pair (end_of_pairs start ps) f v
end_of-more start no_pairs f v = refl
end_of-more start (pair g w ps) f v = end_of-more (next_pair start g w) ps f v

followed_by-none : (ps : Pairs) → followed_by ps no_pairs ≡ ps
followed_by-none no_pairs = refl
followed_by-none (pair f v ps) = ap (pair f v) (followed_by-none ps)

-- ---- the next pair

pub record Next (source : Text) (ps : Pairs) (start level : ℕ) (more : List Event) (leading : Span) (tail : List Event) (ss : Slots) : Type
    0 where
  pub done : Pairs
  pub frame : Frame
  pub value : Value
  pub others : Pairs
  pub place : ℕ
  pub place_is : end_of_pairs start done ≡ place
  pub all : followed_by done (pair frame value others) ≡ ps
  pub slots : AreSlotsOfPairs spanned_form done start ss
  pub grammar : IsFrame IsWholeTrivia frame
  pub value_grammar : IsValue value
  pub others_grammar : ArePairs others
  pub stands : Stands source place (frame_text frame (value_text value))
  pub others_stand : PairsStand source (next_pair place frame value) others
  pub below : level ≤ nesting_limit
  pub ends : split_leading (shortened level more) ≡ None
  pub leading_is : leading ≡ span_at place frame.leading
  pub tail_is : tail ≡ key_events place frame ++ shortened level (value_events (value_at_byte place frame) value
      ++ (event After (value_at_byte place frame + length (value_text value)) frame.trailing
      ∷ (pairs_events (next_pair place frame value) others ++ more)))
  pub faultless : long_path frame.path ≡ [] → value_faults value (value_at_byte place frame) level ≡ []
      → pairs_faults others (next_pair place frame value) level ≡ [] → pairs_faults ps start level ≡ []
  pub fault : (f : Fault) → Contains (long_path frame.path ++ value_faults value (value_at_byte place frame) level) f
      → Contains (pairs_faults ps start level) f
  pub later_fault : (f : Fault) → Contains (pairs_faults others (next_pair place frame value) level) f
      → Contains (pairs_faults ps start level) f

frame_length : (f : Frame) (t : Text) → length (frame_text f t)
    ≡ length f.leading + (length (path_text f.path) + (length f.before_equals
    + suc (length f.after_equals + (length t + length f.trailing))))
frame_length f t =
    let signs : Text = codes "=" ++ (f.after_equals ++ (t ++ f.trailing)) in
    length-append f.leading (path_text f.path ++ (f.before_equals ++ signs))
    ∙ ap (λ n. length f.leading + n) (length-append (path_text f.path) (f.before_equals ++ signs)
    ∙ ap (λ n. length (path_text f.path) + n) (length-append f.before_equals signs
    ∙ ap (λ n. length f.before_equals + suc n) (length-append f.after_equals (t ++ f.trailing)
    ∙ ap (λ n. length f.after_equals + n) (length-append t f.trailing))))

next_place : (start : ℕ) (f : Frame) (v : Value) → value_at_byte start f + length (value_text v) + length f.trailing + 1
    ≡ next_pair start f v
next_place start f v = let h = frame_length f (value_text v) in omega (arith, h)

pair_stands : (source : Text) (start : ℕ) (f : Frame) (v : Value) (ps : Pairs) → Stands source start (pairs_text (pair f v ps))
    → Stands source start (frame_text f (value_text v))
pair_stands source start f v no_pairs h = h
pair_stands source start f v (pair g w ps) h = stands-left source start (frame_text f (value_text v)) _ h

others_stand_there : (source : Text) (start : ℕ) (f : Frame) (v : Value) (ps : Pairs) → Stands source start (pairs_text (pair f v ps))
    → PairsStand source (next_pair start f v) ps
others_stand_there source start f v no_pairs h = tt
others_stand_there source start f v (pair g w ps) h =
    let others : Text = pairs_text (pair g w ps) in
    stands-right source (start + length (frame_text f (value_text v))) (codes ",") others
    (stands-right source start (frame_text f (value_text v)) (codes "," ++ others) h)

all_none : (a b c : List Fault) → a ≡ [] → b ≡ [] → c ≡ [] → a ++ (b ++ c) ≡ []
all_none a b c e f g = ap (λ (x : List Fault). x ++ (b ++ c)) e ∙ ap (λ (x : List Fault). x ++ c) f ∙ g

among_all : (a b c : List Fault) (f : Fault) → Contains (a ++ b) f → Contains (a ++ (b ++ c)) f
among_all a b c f h = subst (λ (x : List Fault). Contains x f) (append_assoc a b c) (Contains-append_left (a ++ b) c f h)

-- the events of a pair up to its value have no brackets
frame_whole : (level start : ℕ) (f : Frame) (more : List Event) → shortened level (frame_events start f ++ more) ≡ frame_events start f
    ++ shortened level more
frame_whole level start f more = ap (λ (x : List Event). event Leading start f.leading ∷ x) (key-whole level start f more)

split_pair : (place level : ℕ) (f : Frame) (v : Value) (others : Pairs) (more : List Event)
    → shortened level (pairs_events place (pair f v others) ++ more) ≡ frame_events place f
    ++ shortened level (value_events (value_at_byte place f) v
    ++ (event After (value_at_byte place f + length (value_text v)) f.trailing ∷ (pairs_events (next_pair place f v) others ++ more)))
split_pair place level f v others more =
    let value = value_events (value_at_byte place f) v in
    let end = value_at_byte place f + length (value_text v) in
    let after = event After end f.trailing in
    let later = pairs_events (end + length f.trailing + 1) others in
    ap (shortened level) (append_assoc (frame_events place f) (value ++ (after ∷ later)) more
    ∙ ap (λ (x : List Event). frame_events place f ++ x) (append_assoc value (after ∷ later) more))
    ∙ frame_whole level place f (value ++ (after ∷ (later ++ more)))
    ∙ ap (λ n. frame_events place f ++ shortened level (value ++ (after ∷ (pairs_events n others ++ more)))) (next_place place f v)

next_of : (source : Text) (ps : Pairs) (start level : ℕ) (more rest : List Event) (leading : Span) (tail : List Event) (ss : Slots)
    (done left : Pairs) → followed_by done left ≡ ps → AreSlotsOfPairs spanned_form done start ss
    → AreBefore source left (end_of_pairs start done) level more rest
    → (pairs_faults left (end_of_pairs start done) level ≡ [] → pairs_faults ps start level ≡ [])
    → ((f : Fault) → Contains (pairs_faults left (end_of_pairs start done) level) f → Contains (pairs_faults ps start level) f)
    → Some (leading, tail) ≡ split_leading rest → Next source ps start level more leading tail ss
next_of source ps start level more rest leading tail ss done no_pairs all slots h faultless fault e =
    let f = e ∙ ap split_leading h.events_are ∙ h.ends in absurd cc
next_of source ps start level more rest leading tail ss done (pair f v others) all slots h faultless fault e =
    let place = end_of_pairs start done in
    let faults = value_faults v (value_at_byte place f) level in
    let later = pairs_faults others (next_pair place f v) level in
    let p = same_spans leading (span_at place f.leading) tail _ (e
    ∙ ap split_leading (h.events_are ∙ split_pair place level f v others more)) in
    record {
      done = done;
      frame = f;
      value = v;
      others = others;
      place = place;
      place_is = refl;
      all = all;
      slots = slots;
      grammar = h.grammar.0;
      value_grammar = h.grammar.1;
      others_grammar = h.grammar.2;
      stands = pair_stands source place f v others h.stand;
      others_stand = others_stand_there source place f v others h.stand;
      below = h.below;
      ends = h.ends;
      leading_is = p.0;
      tail_is = p.1;
      faultless = λ one two three. faultless (all_none (long_path f.path) faults later one two three);
      fault = λ g c. fault g (among_all (long_path f.path) faults later g c);
      later_fault = λ g c. fault g (Contains-append_right (long_path f.path) (faults ++ later) g (Contains-append_right faults later g c));
    }

pub next : (source : Text) (ps : Pairs) (start level : ℕ) (more rest : List Event) (leading : Span) (tail : List Event) (ss : Slots)
    → Left source ps start level more rest ss → Some (leading, tail) ≡ split_leading rest → Next source ps start level more leading tail ss
next source ps start level more rest leading tail ss h e =
    next_of source ps start level more rest leading tail ss h.done h.left h.all h.slots h.before h.faultless h.fault e

-- one more is done
pub added : (source : Text) (ps : Pairs) (start level : ℕ) (more : List Event) (leading : Span) (tail : List Event) (ss now : Slots)
    (rest : List Event)
    (n : Next source ps start level more leading tail ss)
    → AddsPair n.frame n.value n.place level (pairs_events (next_pair n.place n.frame n.value) n.others ++ more) ss now rest
    → Left source ps start level more rest now
added source ps start level more leading tail ss now rest n h =
    let next = next_pair n.place n.frame n.value in
    let done = followed_by n.done (pair n.frame n.value no_pairs) in
    let end : end_of_pairs start done ≡ next = end_of-more start n.done n.frame n.value
    ∙ ap (λ i. next_pair i n.frame n.value) n.place_is in
    let keyed = (keyed_pairs (pair n.frame n.value no_pairs) (n.grammar, n.value_grammar, tt)).0 in
    record {
      done = done;
      left = n.others;
      all = one_by_one n.done n.frame n.value n.others ∙ n.all;
      slots = one_more spanned_form n.done n.frame n.value start h.item ss now n.slots keyed
          (subst (λ i. IsPairNode spanned_form i n.frame n.value h.item) (sym n.place_is) h.node)
          (subst (λ i. add_entry spanned_form (pair_path spanned_form i n.frame n.value) h.item ss ≡ Some now) (sym n.place_is) h.added);
      before = subst (λ i. AreBefore source n.others i level more rest) (sym end)
          (record { grammar = n.others_grammar; stand = n.others_stand; below = n.below; ends = n.ends; events_are = h.rest_is });
      faultless = λ e. n.faultless h.short h.faultless (subst (λ i. pairs_faults n.others i level ≡ []) end e);
      fault = λ g c. n.later_fault g (subst (λ i. Contains (pairs_faults n.others i level) g) end c);
    }

-- ---- a pair that is refused

clash_named : (source : Text) (ps : Pairs) (start level : ℕ) (more : List Event) (leading : Span) (tail : List Event) (ss : Slots)
    (r : Report)
    (n : Next source ps start level more leading tail ss)
    → NamesClash source (entry_clash (pair_path spanned_form n.place n.frame n.value) ss) r
    → NamesOne source (pair_clashes [] (pair_mentions start ps) ++ pairs_faults ps start level) r
clash_named source ps start level more leading tail ss r n h =
    let clashes = pair_clashes [] (pair_mentions start ps) in
    let begins = (one_clash spanned_form n.done n.frame n.value n.others start 0 ss h.1 n.slots
    (ap (λ i. entry_clash (pair_path spanned_form i n.frame n.value) ss) n.place_is ∙ h.2)).1 in
    let first : clashes ≡ way_fault h.1 ∷ begins.0 = ap (λ qs. pair_clashes [] (pair_mentions start qs)) (sym n.all) ∙ begins.1 in (
      h.0,
      Contains-append_left clashes (pairs_faults ps start level) (fault_of r)
          (subst (λ (fs : List Fault). Contains fs (fault_of r)) (sym first)
          (subst (Contains (way_fault h.1 ∷ begins.0)) (sym h.3) (here (way_fault h.1) begins.0))),
    )

pub refused : (source : Text) (ps : Pairs) (start level : ℕ) (more : List Event) (leading : Span) (tail : List Event) (ss : Slots)
    (e : ParseFault)
    (n : Next source ps start level more leading tail ss) → IfToml e (NamesPair source n.frame n.value n.place level ss)
    → IfToml e (NamesOne source (pair_clashes [] (pair_mentions start ps) ++ pairs_faults ps start level))
refused source ps start level more leading tail ss e n h = mapped e _ _ (λ r is. by_kind r is) h
  where
    by_kind : (r : Report) → NamesPair source n.frame n.value n.place level ss r
        → NamesOne source (pair_clashes [] (pair_mentions start ps) ++ pairs_faults ps start level) r
    by_kind r (inl is) = (
      is.0,
      Contains-append_right (pair_clashes [] (pair_mentions start ps)) (pairs_faults ps start level) (fault_of r)
          (n.fault (fault_of r) is.1),
    )
    by_kind r (inr is) = clash_named source ps start level more leading tail ss r n is

-- ---- the end

ended_of : (source : Text) (ps : Pairs) (start level : ℕ) (more rest : List Event) (ss : Slots) (done left : Pairs) → followed_by done left
    ≡ ps
    → AreSlotsOfPairs spanned_form done start ss → AreBefore source left (end_of_pairs start done) level more rest
    → (pairs_faults left (end_of_pairs start done) level ≡ [] → pairs_faults ps start level ≡ []) → None ≡ split_leading rest
    → ArePairsRead ps start level more ss rest
ended_of source ps start level more rest ss done no_pairs all slots h faultless e =
    let whole = subst (λ qs. AreSlotsOfPairs spanned_form qs start ss) (sym (followed_by-none done) ∙ all) slots in
    record { faultless = faultless refl; rest_is = h.events_are; slots = whole.slots; agreement = whole.agreement }
ended_of source ps start level more rest ss done (pair f v others) all slots h faultless e =
    let g = e ∙ ap split_leading (h.events_are ∙ split_pair (end_of_pairs start done) level f v others more) in absurd cc

pub ended : (source : Text) (ps : Pairs) (start level : ℕ) (more rest : List Event) (ss : Slots) → Left source ps start level more rest ss
    → None ≡ split_leading rest
    → ArePairsRead ps start level more ss rest
ended source ps start level more rest ss h e =
    ended_of source ps start level more rest ss h.done h.left h.all h.slots h.before h.faultless e
