-- Elements and pairs are members, and the first of the members that are left is split off.
use Rattle.std.proofs.Common.{◌≡◌, refl, sym, ap, subst, ◌∙◌, arith, ℕ, suc, ◌+◌, ◌-◌, Bool, true, false, List, [], ◌∷◌, ◌++◌, length, codes, append_assoc}
use Rattle.std.proofs.Common.{Option, Some, None, is_none, unwrap_or}
use Rattle.std.proofs.lemmas.List.{length-append}
use Rattle.std.specs.List.{AllByRecursion}
use Rattle.toml_edit_model.specs.OwnedForm.{cut_out}
use Rattle.toml_edit_model.specs.Syntax.{Frame, array, inline_table, Elements, no_elements, element, Pairs, no_pairs, pair, AreElements, ArePairs, IsClose, IsValue}
use Rattle.toml_edit_model.specs.Syntax.{comma_text, elements_text, frame_text, has_elements, has_pairs, pairs_text, path_text, value_text}
use Rattle.toml_edit_model.specs.Text.{Text}
use Rattle.toml_edit_laws.specs.Standing.{Stands}
use Rattle.toml_edit_laws.proofs.common.StandingLaws.{stands-left, stands-right, cut_out-is}
use Rattle.toml_edit_syntax.specs.declared.event.Event.{Event}
use Rattle.toml_edit_syntax.specs.declared.event.EventKind.{EventKind}
use Rattle.toml_edit_syntax.specs.declared.event.EventKind.TheVariants.{After, ArrayClose, Before, InlineTableClose, Leading}
use Rattle.toml_edit_syntax.specs.declared.event.Span.{Span}
use Rattle.toml_edit_syntax.specs.ValueEvents.{close_events, elements_events, event, pairs_events, value_events}
use Rattle.toml_edit_fmt_laws.specs.Rules.{Rules}
use Rattle.toml_edit_fmt_laws.specs.Formatted.{inner_depth, inner_room}
use Rattle.toml_edit_fmt.specs.ValueBits.{Listed, after_bits, before_bits, elements_bits, pairs_bits, value_bits}
use Rattle.toml_edit_fmt.specs.MemberView.{AreNext, End, IsMember, Member, begins, has_any, head, kind_before, head_bits, head_events, members_bits, members_events, members_text, of_array, of_inline, text_after, text_before, value_at, value_of, with_comma}
use Rattle.toml_edit_fmt.specs.ValueView.{split_member}

abbrev pub of_elements : Elements → List Member
of_elements no_elements = []
of_elements (element a v es) = of_array a v ∷ of_elements es

abbrev pub of_pairs : Pairs → List Member
of_pairs no_pairs = []
of_pairs (pair f v ps) = of_inline f v ∷ of_pairs ps

-- ---- bits

pub elements-bits : (r : Rules) (x : Listed) (e : End) (last : Option Text) (es : Elements) → e.bracket ≡ codes "]"
    → members_bits r x e last (of_elements es) ≡ elements_bits r x last e.comma e.inner es
elements-bits r x e last no_elements b = ap (λ t. members_bits r x (record e { bracket = t }) last []) b
elements-bits r x e last (element a v es) b =
    ap (λ bs. after_bits r x last ++ (before_bits r x (is_none last) a.before
    ++ (value_bits r (inner_depth x.layout x.depth) (inner_room r x.layout x.depth) v ++ bs)))
    (elements-bits r x e (Some a.after) es b)

pub pairs-bits : (r : Rules) (x : Listed) (e : End) (last : Option Text) (ps : Pairs) → e.bracket ≡ codes "}"
    → members_bits r x e last (of_pairs ps) ≡ pairs_bits r x last e.comma e.inner ps
pairs-bits r x e last no_pairs b = ap (λ t. members_bits r x (record e { bracket = t }) last []) b
pairs-bits r x e last (pair f v ps) b =
    ap (λ bs. after_bits r x last ++ (before_bits r x (is_none last) f.leading
    ++ (head_bits r (of_inline f v) ++ (value_bits r (inner_depth x.layout x.depth) None v ++ bs))))
    (pairs-bits r x e (Some f.trailing) ps b)

-- ---- texts

three : (a v b rest : Text) → (a ++ (v ++ b)) ++ rest ≡ a ++ (v ++ (b ++ rest))
three a v b rest = simp append_assoc

five : (a v b c d rest : Text) → (a ++ (v ++ (b ++ (c ++ d)))) ++ rest ≡ a ++ (v ++ ((b ++ c) ++ (d ++ rest)))
five a v b c d rest = simp append_assoc

pub elements-text : (e : End) (es : Elements)
    → elements_text es ++ (comma_text e.comma ++ (e.inner ++ e.bracket)) ≡ members_text e None (of_elements es)
elements-text e no_elements = refl
elements-text e (element a v no_elements) = three a.before (value_text v) a.after (comma_text e.comma ++ (e.inner ++ e.bracket))
elements-text e (element a v (element b w es)) =
    five a.before (value_text v) a.after (codes ",") (elements_text (element b w es)) (comma_text e.comma ++ (e.inner ++ e.bracket))
    ∙ ap (λ t. a.before ++ (value_text v ++ ((a.after ++ codes ",") ++ t))) (elements-text e (element b w es))

framed : (l p b c a v t rest : Text)
    → (l ++ (p ++ (b ++ (c ++ (a ++ (v ++ t)))))) ++ rest ≡ l ++ ((p ++ (b ++ (c ++ a))) ++ (v ++ (t ++ rest)))
framed l p b c a v t rest = simp append_assoc

frame-text : (f : Frame) (v rest : Text) → frame_text f v ++ rest ≡ f.leading ++ (head (of_inline f (inline_table no_pairs false [])) ++ (v ++ (f.trailing ++ rest)))
frame-text f v rest = framed f.leading (path_text f.path) f.before_equals (codes "=") f.after_equals v f.trailing rest

pub pairs-text : (e : End) (ps : Pairs)
    → pairs_text ps ++ (comma_text e.comma ++ (e.inner ++ e.bracket)) ≡ members_text e None (of_pairs ps)
pairs-text e no_pairs = refl
pairs-text e (pair f v no_pairs) = frame-text f (value_text v) (comma_text e.comma ++ (e.inner ++ e.bracket))
pairs-text e (pair f v (pair g w ps)) =
    let close = comma_text e.comma ++ (e.inner ++ e.bracket) in
    append_assoc (frame_text f (value_text v)) (codes "," ++ pairs_text (pair g w ps)) close
    ∙ frame-text f (value_text v) (codes "," ++ (pairs_text (pair g w ps) ++ close))
    ∙ ap (λ t. f.leading ++ (head (of_inline f v) ++ (value_text v ++ t)))
    (sym (append_assoc f.trailing (codes ",") (pairs_text (pair g w ps) ++ close))
    ∙ ap (λ t. (f.trailing ++ codes ",") ++ t) (pairs-text e (pair g w ps)))

-- ---- places

pub begins-is : (last : Option Text) (at : ℕ) → at + length (with_comma last) ≡ begins last at
begins-is None at = omega arith
begins-is (Some t) at = omega (arith, length-append t (codes ","))

pub value-is : (start : ℕ) (m : Member) → start + length (text_before m) + length (head m) ≡ value_at start m
value-is start (of_array a v) = omega arith
value-is start (of_inline f v) =
    omega (
      arith,
      length-append (path_text f.path) (f.before_equals ++ (codes "=" ++ f.after_equals)),
      length-append f.before_equals (codes "=" ++ f.after_equals),
    )

-- ---- events

-- where the value of a member ends
abbrev pub ends : ℕ → Member → ℕ
ends start m = value_at start m + length (value_text (value_of m))

text-length : (e : End) (last : Option Text) (m : Member) (ms : List Member) (at : ℕ)
    → at + length (members_text e last (m ∷ ms)) ≡ ends (begins last at) m + length (members_text e (Some (text_after m)) ms)
text-length e last m ms at =
    let behind = members_text e (Some (text_after m)) ms in
    let value = value_text (value_of m) ++ behind in
    omega (
      arith,
      begins-is last at,
      value-is (begins last at) m,
      length-append (with_comma last) (text_before m ++ (head m ++ value)),
      length-append (text_before m) (head m ++ value),
      length-append (head m) value,
      length-append (value_text (value_of m)) behind,
    )

close-length : (e : End) (last : Option Text) (at close : ℕ) → close + length e.bracket ≡ at + length (members_text e last [])
    → close ≡ at + length (unwrap_or last []) + length (comma_text e.comma) + length e.inner
close-length e last at close h =
    omega (
      arith,
      length-append (unwrap_or last []) (comma_text e.comma ++ (e.inner ++ e.bracket)),
      length-append (comma_text e.comma) (e.inner ++ e.bracket),
      length-append e.inner e.bracket,
    )

regrouped : (v others close : List Event) (after : Event) → (v ++ (after ∷ others)) ++ close ≡ v ++ (after ∷ (others ++ close))
regrouped v others close after = append_assoc v (after ∷ others) close

pub elements-events : (e : End) (last : Option Text) (at close : ℕ) (es : Elements)
    → close + length e.bracket ≡ at + length (members_text e last (of_elements es))
    → elements_events (begins last at) es ++ close_events e.kind e.bracket close e.comma e.inner ≡ members_events e last at (of_elements es)
elements-events e last at close no_elements h =
    ap (λ n. close_events e.kind e.bracket n e.comma e.inner) (close-length e last at close h)
elements-events e last at close (element a v es) h =
    let m = of_array a v in
    let start = begins last at in
    ap (λ xs. event Before start a.before ∷ xs)
    (regrouped (value_events (value_at start m) v) (elements_events (begins (Some a.after) (ends start m)) es) _ (event After (ends start m) a.after)
    ∙ ap (λ xs. value_events (value_at start m) v ++ (event After (ends start m) a.after ∷ xs))
    (elements-events e (Some a.after) (ends start m) close es (h ∙ text-length e last m (of_elements es) at)))

pub pairs-events : (e : End) (last : Option Text) (at close : ℕ) (ps : Pairs)
    → close + length e.bracket ≡ at + length (members_text e last (of_pairs ps))
    → pairs_events (begins last at) ps ++ close_events e.kind e.bracket close e.comma e.inner ≡ members_events e last at (of_pairs ps)
pairs-events e last at close no_pairs h =
    ap (λ n. close_events e.kind e.bracket n e.comma e.inner) (close-length e last at close h)
pairs-events e last at close (pair f v ps) h =
    let m = of_inline f v in
    let start = begins last at in
    let ends_at = close_events e.kind e.bracket close e.comma e.inner in
    let others = pairs_events (begins (Some f.trailing) (ends start m)) ps in
    let value = value_events (value_at start m) v in
    let after = event After (ends start m) f.trailing in
    append_assoc (event Leading start f.leading ∷ head_events (start + length f.leading) m) (value ++ (after ∷ others)) ends_at
    ∙ ap (λ xs. (event Leading start f.leading ∷ head_events (start + length f.leading) m) ++ xs) (regrouped value others ends_at after
    ∙ ap (λ xs. value ++ (after ∷ xs)) (pairs-events e (Some f.trailing) (ends start m) close ps (h ∙ text-length e last m (of_pairs ps) at)))

-- ---- the grammar

pub are-elements : (es : Elements) → AreElements es → AllByRecursion (IsMember true) (of_elements es)
are-elements no_elements h = tt
are-elements (element a v es) (before, after, value, more) = ((refl, value), are-elements es more)

pub are-pairs : (ps : Pairs) → ArePairs ps → AllByRecursion (IsMember false) (of_pairs ps)
are-pairs no_pairs h = tt
are-pairs (pair f v ps) (frame, value, more) = ((refl, frame.1, value), are-pairs ps more)

any-elements : (es : Elements) → has_elements es ≡ has_any None (of_elements es)
any-elements no_elements = refl
any-elements (element a v es) = refl

any-pairs : (ps : Pairs) → has_pairs ps ≡ has_any None (of_pairs ps)
any-pairs no_pairs = refl
any-pairs (pair f v ps) = refl

any-after : (t : Text) (ms : List Member) → has_any (Some t) ms ≡ true
any-after t [] = refl
any-after t (m ∷ ms) = refl

-- ---- members that are left

abbrev pub array_end : Bool → Text → End
array_end comma t = record { comma = comma; inner = t; kind = ArrayClose; bracket = codes "]" }

abbrev pub inline_end : Bool → Text → End
inline_end comma t = record { comma = comma; inner = t; kind = InlineTableClose; bracket = codes "}" }

last-byte : (e : End) (text : Text) (start len : ℕ) → length e.bracket ≡ 1 → suc (length text) ≡ len → start + len - 1 + length e.bracket ≡ start + 1 + length text
last-byte e text start len b l = omega arith

pub array-next : (source : Text) (start : ℕ) (es : Elements) (comma : Bool) (t : Text) (more : List Event) → IsValue (array es comma t)
    → Stands source start (value_text (array es comma t))
    → AreNext source true (elements_events (start + 1) es
    ++ close_events ArrayClose (codes "]") (start + length (value_text (array es comma t)) - 1) comma t ++ more)
    (array_end comma t) None (of_elements es) (start + 1) more
array-next source start es comma t more is stands =
    let e = array_end comma t in
    record {
      members = are-elements es is.1;
      close = subst (λ b. IsClose b comma t) (any-elements es) is.0;
      stands = subst (Stands source (start + 1)) (elements-text e es) (stands-right source start (codes "[") _ stands);
      events_are = ap (λ xs. xs ++ more) (elements-events e None (start + 1) _ es (last-byte e _ start _ refl (ap (λ x. suc (length x)) (sym (elements-text e es)))));
    }

pub inline-next : (source : Text) (start : ℕ) (ps : Pairs) (comma : Bool) (t : Text) (more : List Event) → IsValue (inline_table ps comma t)
    → Stands source start (value_text (inline_table ps comma t))
    → AreNext source false (pairs_events (start + 1) ps
    ++ close_events InlineTableClose (codes "}") (start + length (value_text (inline_table ps comma t)) - 1) comma t ++ more)
    (inline_end comma t) None (of_pairs ps) (start + 1) more
inline-next source start ps comma t more is stands =
    let e = inline_end comma t in
    record {
      members = are-pairs ps is.1;
      close = subst (λ b. IsClose b comma t) (any-pairs ps) is.0;
      stands = subst (Stands source (start + 1)) (pairs-text e ps) (stands-right source start (codes "{") _ stands);
      events_are = ap (λ xs. xs ++ more) (pairs-events e None (start + 1) _ ps (last-byte e _ start _ refl (ap (λ x. suc (length x)) (sym (pairs-text e ps)))));
    }

-- ---- the first of them

none-splits : (kind : EventKind) (bracket : Text) (at : ℕ) (comma : Bool) (t : Text) (more : List Event)
    → split_member (close_events kind bracket at comma t ++ more) ≡ None
none-splits kind bracket at true t more = refl
none-splits kind bracket at false t more = refl

-- one is left where one can be split off
pub one-left : (source : Text) (is_array : Bool) (events : List Event) (e : End) (last : Option Text) (ms : List Member) (at : ℕ)
    (more : List Event) (first : Span × List Event) → AreNext source is_array events e last ms at more → split_member events ≡ Some first
    → (m : Member) × (others : List Member) × (ms ≡ m ∷ others)
one-left source is_array events e last [] at more first h split =
    let none = ap split_member h.events_are ∙ none-splits e.kind e.bracket _ e.comma e.inner more in
    absurd cc
one-left source is_array events e last (m ∷ ms) at more first h split = (m, ms, refl)

grouped : (h v rest more : List Event) (after : Event) → (h ++ (v ++ (after ∷ rest))) ++ more ≡ h ++ (v ++ (after ∷ (rest ++ more)))
grouped h v rest more after = simp append_assoc

after-text : (source : Text) (at : ℕ) (e : End) (t : Text) (ms : List Member) → Stands source at (members_text e (Some t) ms) → Stands source at t
after-text source at e t [] h = stands-left source at t _ h
after-text source at e t (m ∷ ms) h = stands-left source at t (codes ",") (stands-left source at (t ++ codes ",") _ h)

module _ (source : Text) (is_array : Bool) (events : List Event) (e : End) (last : Option Text) (m : Member) (others : List Member) (at : ℕ) (more : List Event) (h : AreNext source is_array events e last (m ∷ others) at more) where
  abbrev pub start : ℕ
  start = begins last at

  -- the events after it, and from its value on
  abbrev pub behind : List Event
  behind = members_events e (Some (text_after m)) (ends start m) others ++ more

  abbrev pub after_value : List Event
  after_value = event After (ends start m) (text_after m) ∷ behind

  abbrev pub from_value : List Event
  from_value = value_events (value_at start m) (value_of m) ++ after_value

  pub first-splits : split_member events
      ≡ Some ((event (kind_before m) start (text_before m)).span, head_events (start + length (text_before m)) m ++ from_value)
  first-splits = ap split_member h.events_are ∙ by_kind m (head_events (start + length (text_before m)) m) (value_events (value_at start m) (value_of m))
      (members_events e (Some (text_after m)) (ends start m) others) (event After (ends start m) (text_after m)) (text_before m)
    where
      by_kind : (n : Member) (hs vs rest : List Event) (after : Event) (t : Text)
          → split_member ((event (kind_before n) start t ∷ (hs ++ (vs ++ (after ∷ rest)))) ++ more)
          ≡ Some ((event (kind_before n) start t).span, hs ++ (vs ++ (after ∷ (rest ++ more))))
      by_kind (of_array a v) hs vs rest after t = ap (λ xs. Some ((event Before start t).span, xs)) (grouped hs vs rest more after)
      by_kind (of_inline f v) hs vs rest after t = ap (λ xs. Some ((event Before start t).span, xs)) (grouped hs vs rest more after)

  abbrev value_left : Text
  value_left = value_text (value_of m) ++ members_text e (Some (text_after m)) others

  stands : Stands source start (text_before m ++ (head m ++ value_left))
  stands = subst (λ n. Stands source n (text_before m ++ (head m ++ value_left))) (begins-is last at) (stands-right source at (with_comma last) _ h.stands)

  pub before-cut : cut_out source start (start + length (text_before m)) ≡ text_before m
  before-cut = cut_out-is source start (text_before m) (stands-left source start (text_before m) _ stands)

  from_head : Stands source (start + length (text_before m)) (head m ++ value_left)
  from_head = stands-right source start (text_before m) _ stands

  pub head-stands : Stands source (start + length (text_before m)) (head m)
  head-stands = stands-left source (start + length (text_before m)) (head m) _ from_head

  value_on : Stands source (value_at start m) value_left
  value_on = subst (λ n. Stands source n value_left) (value-is start m) (stands-right source (start + length (text_before m)) (head m) _ from_head)

  pub value-stands : Stands source (value_at start m) (value_text (value_of m))
  value-stands = stands-left source (value_at start m) (value_text (value_of m)) _ value_on

  pub value-spelled : (n : Member) → IsMember is_array n → IsValue (value_of n)
  value-spelled (of_array a v) is = is.1
  value-spelled (of_inline f v) is = is.2

  after_stands : Stands source (ends start m) (members_text e (Some (text_after m)) others)
  after_stands = stands-right source (value_at start m) (value_text (value_of m)) _ value_on

  pub after-cut : cut_out source (ends start m) (ends start m + length (text_after m)) ≡ text_after m
  after-cut = cut_out-is source (ends start m) (text_after m) (after-text source (ends start m) e (text_after m) others after_stands)

  pub others-next : AreNext source is_array behind e (Some (text_after m)) others (ends start m) more
  others-next =
      record {
        members = h.members.1;
        close = subst (λ b. IsClose b e.comma e.inner) (sym (any-after (text_after m) others)) h.close;
        stands = after_stands;
        events_are = refl;
      }
