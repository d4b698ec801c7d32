-- The loop over the statements of a document: how far it is, and its steps.
use Rattle.std.proofs.Common.{◌≡◌, ℕ, suc, ◌+◌, ◌-◌, ◌<◌, Bool, true, false, List, [], ◌∷◌, ◌++◌, length, map, refl, sym, ap, ap₂, subst}
use Rattle.std.proofs.Common.{◌∙◌, append_assoc, arith, is_some, ◌⊎◌, inl, inr, append-nil}
use Rattle.std.specs.Prelude.{◌||◌}
use Rattle.std.proofs.lemmas.Bool.{false≢true}
use Rattle.std.proofs.lemmas.List.{length-append}
use Rattle.toml_edit_model.specs.Mode.{Mode}
use Rattle.toml_edit_model.specs.Text.{Text, joined}
use Rattle.toml_edit_model.specs.Syntax.{document_text, Statement, key_line, header, Document, AreStatements, IsStatement, IsCut}
use Rattle.toml_edit_model.specs.Syntax.{IsDocument, statement_text, newline_after, mark_text}
use Rattle.std.specs.List.{list_any}
use Rattle.toml_edit_model.specs.Trivia.{IsNewline}
use Rattle.toml_edit_model.specs.Version.{Version, is_of_version}
use Rattle.toml_edit_model.specs.Accepted.{is_accepted_in}
use Rattle.toml_edit_model.specs.Faults.{late_faults}
use Rattle.toml_edit_model.specs.Tree.{Raw, Slots, no_slots}
use Rattle.toml_edit_model.specs.TreeOf.{span_of, spanned_in, IsTreeOf}
use Rattle.toml_edit_laws.specs.AddPath.{put_along}
use Rattle.toml_edit_laws.specs.Building.{slots_along, Builder, first_builder, faults_at, behind}
use Rattle.toml_edit_laws.specs.PlaceOrder.{slots_by_place, ArePlaced}
use Rattle.toml_edit_laws.specs.Standing.{Stands}
use Rattle.toml_edit_laws.specs.Versions.{IsRefusedIn}
use Rattle.toml_edit_laws.proofs.common.StandingLaws.{stands-left, stands-right, stands-whole}
use Rattle.toml_edit_laws.proofs.building.Run.{stands_block}
use Rattle.toml_edit_laws.proofs.versions.VersionFaults.{StandsBeforeIn, stands_first_in, stands_next_in, stands_last_in, stands_refused_in}
use Rattle.toml_edit_error.specs.Report.{fault_of}
use Rattle.toml_edit_error.specs.Fault.{IfToml}
use Rattle.toml_edit_error.specs.declared.toml_error.ParseFault.{ParseFault}
use Rattle.toml_edit_error.specs.declared.toml_error.ParseFault.TheVariants.{Toml, Memory}
use Rattle.toml_edit_syntax.specs.declared.event.Event.{Event}
use Rattle.toml_edit_syntax.specs.Batches.{IsBatch, last_events}
use Rattle.toml_edit_syntax.specs.declared.lexer.BatchEnd.{BatchEnd}
use Rattle.toml_edit_syntax.specs.declared.lexer.BatchEnd.TheVariants.{MoreStatements, WholeText, TooManyBrackets}
use Rattle.toml_edit_syntax.specs.Events.{statement_events, events_from, has_deep_value}
use Rattle.toml_edit_syntax.specs.ValueEvents.{event, shortened}
use Rattle.toml_edit_syntax.specs.declared.event.EventKind.TheVariants.{Final}
use Rattle.toml_edit_tree.specs.View.{slots_view}
use Rattle.toml_edit_parser.specs.StatementParts.{IsEnded}
use Rattle.toml_edit_parser.specs.ValueRead.{NamesOne, split_leading}
use Rattle.toml_edit_parser.specs.declared.document.building.Building.{Building}
use Rattle.toml_edit_parser.specs.BlockRead.{names}
use Rattle.toml_edit_parser.specs.StatementRead.{IsWhole, IsHeld, IsAdded, tree_of}
use Rattle.toml_edit_parser.proofs.ShallowLaws.{added-shallow}

-- ---- the start

-- nothing is held before the first statement
pub held_first : (m : Bool) (h : Building) → slots_view h.root ≡ no_slots → slots_view h.current ≡ no_slots → h.block.items ≡ [] → h.headers
    ≡ 0
    → IsHeld (first_builder m) h
held_first m h root current block headers =
    record {
      block = sym (ap names block);
      headers = sym headers;
      counted = omega arith;
      left = slots_view h.root;
      there = refl;
      slots = sym (ap slots_by_place current);
      placed = subst (ArePlaced (first_builder m).start) (sym current) tt;
    }

-- other text ahead makes no difference
pub held_same : (b : Builder) (h new : Building) → new.root ≡ h.root → new.current ≡ h.current → new.block ≡ h.block → new.headers
    ≡ h.headers → IsHeld b h → IsHeld b new
held_same b h new root current block headers held =
    record {
      block = held.block ∙ sym (ap (λ v. names v.items) block);
      headers = held.headers ∙ sym headers;
      counted = held.counted;
      left = held.left;
      there = ap (λ r. slots_along b.block (slots_view r)) root ∙ held.there;
      slots = held.slots ∙ sym (ap₂ (λ c r. slots_by_place (put_along b.block (slots_view c) (slots_view r))) current root);
      placed = subst (ArePlaced b.start) (sym (ap₂ (λ c r. put_along b.block (slots_view c) (slots_view r)) current root)) held.placed;
    }

-- The builder stands before the statements that are left, whose text is what is left of the text, and is what is held; the statements
-- before
-- are of the version. Some are left, or else the document has none.
pub record Between (mode : Mode) (version : Version) (t : Text) (d : Document) (rest : Text) (h : Building) : Type 0 where
  pub left : List Statement
  pub builder : Builder
  pub grammar : AreStatements d.final left
  pub there : Stands t builder.start (joined (map statement_text left) ++ d.final)
  pub size : length t ≡ builder.start + length (joined (map statement_text left) ++ d.final)
  pub before : StandsBeforeIn version mode d left builder
  pub held : IsHeld builder h
  pub rest_is : rest ≡ joined (map statement_text left) ++ d.final
  pub some : left ≡ [] → d.statements ≡ []

pub at_start : (mode : Mode) (version : Version) (t : Text) (d : Document) (rest : Text) (h : Building) → IsCut d t → rest
    ≡ joined (map statement_text d.statements) ++ d.final
    → IsHeld (first_builder d.has_mark) h → Between mode version t d rest h
at_start mode version t d rest h cut e held =
    let body = joined (map statement_text d.statements) ++ d.final in
    let from_start : 0 + length (mark_text d.has_mark) ≡ length (mark_text d.has_mark) = omega arith in
    record {
      left = d.statements;
      builder = first_builder d.has_mark;
      grammar = cut.0.0;
      there = subst (λ n. Stands t n body) from_start (stands-right t 0 (mark_text d.has_mark) body
          (subst (Stands t 0) (sym cut.1) (stands-whole t)));
      size = ap (λ (x : Text). length x) (sym cut.1) ∙ length-append (mark_text d.has_mark) body;
      before = stands_first_in version mode d cut.0;
      held = held;
      rest_is = e;
      some = λ e. e;
    }

-- In a batch: of the statements that are left, these are here, and have the events that are left, and those are ahead, and have the text
-- after the batch.
pub record Progress (mode : Mode) (version : Version) (t : Text) (d : Document) (end : BatchEnd) (behind_it : Text) (rest : List Event)
    (h : Building) : Type 0 where
  pub here : List Statement
  pub ahead : List Statement
  pub builder : Builder
  pub grammar : AreStatements d.final (here ++ ahead)
  pub there : Stands t builder.start (joined (map statement_text (here ++ ahead)) ++ d.final)
  pub size : length t ≡ builder.start + length (joined (map statement_text (here ++ ahead)) ++ d.final)
  pub before : StandsBeforeIn version mode d (here ++ ahead) builder
  pub held : IsHeld builder h
  pub rest_is : rest ≡ shortened 0 (events_from builder.start here ++ last_events end (length t) d.final)
  pub left : end ≡ MoreStatements → behind_it ≡ joined (map statement_text ahead) ++ d.final
  pub some : end ≡ MoreStatements → (s : Statement) × (more : List Statement) × (ahead ≡ s ∷ more)
  pub none : end ≡ WholeText → ahead ≡ []
  pub deep : end ≡ TooManyBrackets → list_any has_deep_value here ≡ true

-- where the next batch begins
pub batch-place : (mode : Mode) (version : Version) (t : Text) (d : Document) (rest : Text) (h : Building)
    (p : Between mode version t d rest h) → length t - length rest ≡ p.builder.start
batch-place mode version t d rest h p =
    let whole = p.size in
    let same = ap (λ (x : Text). length x) p.rest_is in
    omega (arith, whole, same)

before-same : (version : Version) (mode : Mode) (d : Document) (left same : List Statement) (b : Builder) → left ≡ same
    → StandsBeforeIn version mode d left b → StandsBeforeIn version mode d same b
before-same version mode d left same b e at =
    record {
      before = record {
        done = at.before.done;
        split = at.before.split ∙ ap (λ (ss : List Statement). at.before.done ++ ss) e;
        behind =
            at.before.behind;
      };
      early = at.early;
    }

pub in_batch : (mode : Mode) (version : Version) (t : Text) (d : Document) (rest : Text) (h : Building) (end : BatchEnd) (behind_it : Text)
    (es : List Event) (p : Between mode version t d rest h)
    → IsBatch (length t) (length t - length rest) p.left d.final es end behind_it → Progress mode version t d end behind_it es h
in_batch mode version t d rest h end behind_it es p b =
    let place = batch-place mode version t d rest h p in
    record {
      here = b.here;
      ahead = b.ahead;
      builder = p.builder;
      grammar = subst (AreStatements d.final) b.parts p.grammar;
      there = subst (λ (ss : List Statement). Stands t p.builder.start (joined (map statement_text ss) ++ d.final)) b.parts p.there;
      size = p.size ∙ ap (λ (ss : List Statement). p.builder.start + length (joined (map statement_text ss) ++ d.final)) b.parts;
      before = before-same version mode d p.left (b.here ++ b.ahead) p.builder b.parts p.before;
      held = p.held;
      rest_is = b.events ∙ ap (λ (i : ℕ). shortened 0 (events_from i b.here ++ last_events end (length t) d.final)) place;
      left = b.left;
      some = b.some;
      none = b.none;
      deep = b.deep;
    }

-- where the text ahead is set
pub ahead_set : (mode : Mode) (version : Version) (t : Text) (d : Document) (end : BatchEnd) (behind_it : Text) (es : List Event)
    (h new : Building)
    → new.root ≡ h.root → new.current ≡ h.current → new.block ≡ h.block → new.headers ≡ h.headers
    → Progress mode version t d end behind_it es h → Progress mode version t d end behind_it es new
ahead_set mode version t d end behind_it es h new root current block headers p =
    record {
      here = p.here;
      ahead = p.ahead;
      builder = p.builder;
      grammar = p.grammar;
      there = p.there;
      size = p.size;
      before = p.before;
      held = held_same p.builder h new root current block headers p.held;
      rest_is = p.rest_is;
      left = p.left;
      some = p.some;
      none = p.none;
      deep = p.deep;
    }

-- ---- the next statement

whole-of : (MayEnd : Text → Type 0) (s : Statement) → IsStatement MayEnd s → IsWhole s
whole-of MayEnd (key_line f v end) h = (h.0, h.1, tt)
whole-of MayEnd (header hd end) h = (h.0, tt)

first-whole : (final : Text) (s : Statement) (rest : List Statement) → AreStatements final (s ∷ rest) → IsWhole s
first-whole final s [] h = whole-of _ s h
first-whole final s (r ∷ rest) h = whole-of _ s h.0

by_end : (t final : Text) (start : ℕ) (s : Statement) → IsNewline (newline_after s) ⊎ ((newline_after s ≡ []) × (final ≡ []))
    → length t ≡ start + length (statement_text s ++ final) → IsEnded t start s
by_end t final start s (inl is) size = inl is
by_end t final start s (inr (none, last)) size =
    inr (
      none,
      size ∙ ap (λ (x : Text). start + length (statement_text s ++ x)) last
          ∙ ap (λ (x : Text). start + length x) (append-nil (statement_text s)),
    )

-- the last one ends with the text where it has no newline
first-ends : (t final : Text) (start : ℕ) (s : Statement) (rest : List Statement) → AreStatements final (s ∷ rest)
    → length t ≡ start + length (statement_text s ++ (joined (map statement_text rest) ++ final)) → IsEnded t start s
first-ends t final start (key_line f v end) [] h size = by_end t final start (key_line f v end) h.2 size
first-ends t final start (header hd end) [] h size = by_end t final start (header hd end) h.1 size
first-ends t final start (key_line f v end) (r ∷ rest) h size = inl h.0.2
first-ends t final start (header hd end) (r ∷ rest) h size = inl h.0.1

others-are : (final : Text) (s : Statement) (rest : List Statement) → AreStatements final (s ∷ rest) → AreStatements final rest
others-are final s [] h = tt
others-are final s (r ∷ rest) h = h.1

-- the events after a statement
abbrev pub events_behind : Text → Document → BatchEnd → Builder → Statement → List Statement → List Event
events_behind t d end b s others = events_from (b.start + length (statement_text s)) others ++ last_events end (length t) d.final

pub record Next (mode : Mode) (version : Version) (t : Text) (d : Document) (end : BatchEnd) (behind_it : Text) (rest : List Event)
    (h : Building) : Type 0 where
  pub statement : Statement
  pub others : List Statement
  pub ahead : List Statement
  pub builder : Builder
  pub grammar : AreStatements d.final (statement ∷ (others ++ ahead))
  pub there : Stands t builder.start (statement_text statement ++ (joined (map statement_text (others ++ ahead)) ++ d.final))
  pub size : length t ≡ builder.start + length (statement_text statement ++ (joined (map statement_text (others ++ ahead)) ++ d.final))
  pub before : StandsBeforeIn version mode d (statement ∷ (others ++ ahead)) builder
  pub held : IsHeld builder h
  pub rest_is : rest ≡ shortened 0 (statement_events builder.start statement ++ events_behind t d end builder statement others)
  pub left : end ≡ MoreStatements → behind_it ≡ joined (map statement_text ahead) ++ d.final
  pub some : end ≡ MoreStatements → (s : Statement) × (more : List Statement) × (ahead ≡ s ∷ more)
  pub none : end ≡ WholeText → ahead ≡ []
  pub deep : end ≡ TooManyBrackets → list_any has_deep_value (statement ∷ others) ≡ true

none-first : (end : BatchEnd) (whole : ℕ) (final : Text) → is_some (split_leading (shortened 0 (last_events end whole final))) ≡ false
none-first MoreStatements whole final = refl
none-first WholeText whole final = refl
none-first TooManyBrackets whole final = refl

next-of : (mode : Mode) (version : Version) (t : Text) (d : Document) (end : BatchEnd) (behind_it : Text) (rest : List Event) (h : Building)
    → (here ahead : List Statement) (b : Builder) → AreStatements d.final (here ++ ahead)
    → Stands t b.start (joined (map statement_text (here ++ ahead)) ++ d.final)
    → length t ≡ b.start + length (joined (map statement_text (here ++ ahead)) ++ d.final) → StandsBeforeIn version mode d (here ++ ahead) b
    → IsHeld b h
    → rest ≡ shortened 0 (events_from b.start here ++ last_events end (length t) d.final)
    → (end ≡ MoreStatements → behind_it ≡ joined (map statement_text ahead) ++ d.final)
    → (end ≡ MoreStatements → (s : Statement) × (more : List Statement) × (ahead ≡ s ∷ more)) → (end ≡ WholeText → ahead ≡ [])
    → (end ≡ TooManyBrackets → list_any has_deep_value here ≡ true) → is_some (split_leading rest) ≡ true
    → Next mode version t d end behind_it rest h
next-of mode version t d end behind_it rest h [] ahead b grammar there size before held is left others_ahead whole deep some =
    absurd (false≢true (sym (ap (λ es. is_some (split_leading es)) is ∙ none-first end (length t) d.final) ∙ some))
next-of mode version t d end behind_it rest h (s ∷ others) ahead b grammar there size before held is left others_ahead whole deep some =
    record {
      statement = s;
      others = others;
      ahead = ahead;
      builder = b;
      grammar = grammar;
      there = subst (Stands t b.start) (append_assoc (statement_text s) (joined (map statement_text (others ++ ahead))) d.final) there;
      size = size ∙ ap (λ (x : Text). b.start + length x)
          (append_assoc (statement_text s) (joined (map statement_text (others ++ ahead))) d.final);
      before = before;
      held = held;
      rest_is = is ∙ ap (shortened 0) (append_assoc (statement_events b.start s) (events_from (b.start + length (statement_text s)) others)
          (last_events end (length t) d.final));
      left = left;
      some = others_ahead;
      none = whole;
      deep = deep;
    }

pub next : (mode : Mode) (version : Version) (t : Text) (d : Document) (end : BatchEnd) (behind_it : Text) (rest : List Event)
    (h : Building) → Progress mode version t d end behind_it rest h
    → is_some (split_leading rest) ≡ true → Next mode version t d end behind_it rest h
next mode version t d end behind_it rest h p some =
    next-of mode version t d end behind_it rest h p.here p.ahead p.builder p.grammar p.there p.size p.before p.held p.rest_is p.left p.some
    p.none p.deep some

module _ (mode : Mode) (version : Version) (t : Text) (d : Document) (end : BatchEnd) (behind_it : Text) (rest : List Event)
    (old : Building) (n : Next mode version t d end behind_it rest old) where
  -- it is of the grammar, and stands in the text
  pub is-whole : IsWhole n.statement
  is-whole = first-whole d.final n.statement (n.others ++ n.ahead) n.grammar

  pub stands-here : Stands t n.builder.start (statement_text n.statement)
  stands-here = stands-left t n.builder.start (statement_text n.statement) _ n.there

  pub ends-here : IsEnded t n.builder.start n.statement
  ends-here = first-ends t d.final n.builder.start n.statement (n.others ++ n.ahead) n.grammar n.size

  abbrev pub more : List Event
  more = events_behind t d end n.builder n.statement n.others

  -- once it is added
  pub goes_on : (new : Building) (left : List Event) → IsDocument d → (is_of_version version n.statement ≡ true)
      × IsAdded mode n.builder n.statement more new left
      → Progress mode version t d end behind_it left new
  goes_on new left is (early, adds) =
      let b = behind n.builder n.statement adds.slots in
      let later = n.others ++ n.ahead in
      let before = stands_next_in version mode d n.statement later n.builder adds.node adds.slots is n.before early adds.faultless
      adds.is_node adds.added_is in
      let block = stands_block mode d later b is before.before in
      record {
        here = n.others;
        ahead = n.ahead;
        builder = b;
        grammar = others-are d.final n.statement later n.grammar;
        there = stands-right t n.builder.start (statement_text n.statement) (joined (map statement_text later) ++ d.final) n.there;
        size =
            let behind_it : Text = joined (map statement_text later) ++ d.final in
            let both = length-append (statement_text n.statement) behind_it in
            let whole = n.size in
            omega (arith, whole, both);
        before = before;
        held = adds.held block.0 block.1;
        rest_is = adds.rest_is;
        left = n.left;
        some = n.some;
        none = n.none;
        deep = λ e. sym (ap (λ (x : Bool). x || list_any has_deep_value n.others)
            (added-shallow n.builder.start n.statement adds.faultless)) ∙ n.deep e;
      }

  -- where it is refused
  pub refused : (e : ParseFault) → IsDocument d → IfToml e (NamesOne t (late_faults version n.builder.start n.statement
      ++ faults_at n.builder n.statement))
      → IfToml e (λ r. IsRefusedIn version d (fault_of r))
  refused (Toml r) is h = stands_refused_in version mode d n.statement (n.others ++ n.ahead) n.builder (fault_of r) is n.before h.1
  refused Memory is h = tt

-- ---- the end of a batch

-- none of its statements is left
pub record Ended (mode : Mode) (version : Version) (t : Text) (d : Document) (end : BatchEnd) (behind_it : Text) (rest : List Event)
    (h : Building) : Type 0 where
  pub ahead : List Statement
  pub builder : Builder
  pub grammar : AreStatements d.final ahead
  pub there : Stands t builder.start (joined (map statement_text ahead) ++ d.final)
  pub size : length t ≡ builder.start + length (joined (map statement_text ahead) ++ d.final)
  pub before : StandsBeforeIn version mode d ahead builder
  pub held : IsHeld builder h
  pub rest_is : rest ≡ shortened 0 (last_events end (length t) d.final)
  pub left : end ≡ MoreStatements → behind_it ≡ joined (map statement_text ahead) ++ d.final
  pub some : end ≡ MoreStatements → (s : Statement) × (more : List Statement) × (ahead ≡ s ∷ more)
  pub none : end ≡ WholeText → ahead ≡ []
  pub deep : end ≡ TooManyBrackets → ⊥

first-leading : (start : ℕ) (s : Statement) (es : List Event) → is_some (split_leading (shortened 0 (statement_events start s ++ es)))
    ≡ true
first-leading start (key_line f v end) es = refl
first-leading start (header h end) es = refl

ended-of : (mode : Mode) (version : Version) (t : Text) (d : Document) (end : BatchEnd) (behind_it : Text) (rest : List Event)
    (h : Building)
    → (here ahead : List Statement) (b : Builder) → AreStatements d.final (here ++ ahead)
    → Stands t b.start (joined (map statement_text (here ++ ahead)) ++ d.final)
    → length t ≡ b.start + length (joined (map statement_text (here ++ ahead)) ++ d.final) → StandsBeforeIn version mode d (here ++ ahead) b
    → IsHeld b h
    → rest ≡ shortened 0 (events_from b.start here ++ last_events end (length t) d.final)
    → (end ≡ MoreStatements → behind_it ≡ joined (map statement_text ahead) ++ d.final)
    → (end ≡ MoreStatements → (s : Statement) × (more : List Statement) × (ahead ≡ s ∷ more)) → (end ≡ WholeText → ahead ≡ [])
    → (end ≡ TooManyBrackets → list_any has_deep_value here ≡ true) → is_some (split_leading rest) ≡ false
    → Ended mode version t d end behind_it rest h
ended-of mode version t d end behind_it rest h [] ahead b grammar there size before held is left others_ahead whole deep none =
    record {
      ahead = ahead;
      builder = b;
      grammar = grammar;
      there = there;
      size = size;
      before = before;
      held = held;
      rest_is = is;
      left = left;
      some = others_ahead;
      none = whole;
      deep = λ e. false≢true (deep e);
    }
ended-of mode version t d end behind_it rest h (s ∷ others) ahead b grammar there size before held is left others_ahead whole deep none =
    let same = append_assoc (statement_events b.start s) (events_from (b.start + length (statement_text s)) others)
    (last_events end (length t) d.final) in
    let some = ap (λ es. is_some (split_leading es)) (is ∙ ap (shortened 0) same)
    ∙ first-leading b.start s (events_behind t d end b s others) in
    absurd (false≢true (sym none ∙ some))

pub ended : (mode : Mode) (version : Version) (t : Text) (d : Document) (end : BatchEnd) (behind_it : Text) (rest : List Event)
    (h : Building) → Progress mode version t d end behind_it rest h
    → is_some (split_leading rest) ≡ false → Ended mode version t d end behind_it rest h
ended mode version t d end behind_it rest h p none =
    ended-of mode version t d end behind_it rest h p.here p.ahead p.builder p.grammar p.there p.size p.before p.held p.rest_is p.left p.some
    p.none p.deep none

module _ (mode : Mode) (version : Version) (t : Text) (d : Document) (end : BatchEnd) (behind_it : Text) (rest : List Event) (h : Building)
    (e : Ended mode version t d end behind_it rest h) where
  -- more statements are left, where the batch is not the last
  pub next_is : end ≡ MoreStatements → Between mode version t d behind_it h
  next_is is =
      let (s, others, some) = e.some is in
      record {
        left = e.ahead;
        builder = e.builder;
        grammar = e.grammar;
        there = e.there;
        size = e.size;
        before = e.before;
        held = e.held;
        rest_is = e.left is;
        some = λ none. absurd (let g = sym none ∙ some in cc);
      }

  -- the document is accepted in the version, and this is its tree
  pub built : (ss : Slots) (trailing : Raw) → IsCut d t → end ≡ WholeText → ss ≡ e.builder.slots
      → ((start : ℕ) (final : Text) → rest ≡ event Final start final ∷ [] → trailing ≡ span_of start final)
      → (is_accepted_in version d ≡ true) × IsTreeOf (spanned_in mode) d (tree_of ss trailing)
  built ss trailing cut is same last =
      let before = before-same version mode d e.ahead [] e.builder (e.none is) e.before in
      let (accepted, tree) = stands_last_in version mode d e.builder cut.0 before in
      let place : length t - length d.final ≡ length (document_text d) - length d.final =
      ap (λ (x : Text). length x - length d.final) (sym cut.1) in
      let told = last (length t - length d.final) d.final (e.rest_is ∙ ap (λ x. shortened 0 (last_events x (length t) d.final)) is)
      ∙ ap (λ (i : ℕ). (spanned_in mode).raw i d.final) place in (
        accepted,
        subst (λ us. IsTreeOf (spanned_in mode) d (tree_of us trailing)) (sym same)
            (subst (λ r. IsTreeOf (spanned_in mode) d (tree_of e.builder.slots r)) (sym told) tree),
      )

-- ---- batch after batch

-- how much text may be left after a batch
abbrev pub left_after : BatchEnd → Text → ℕ
left_after MoreStatements rest = suc (length rest)
left_after WholeText rest = 0
left_after TooManyBrackets rest = 0

-- less is left after the next
pub fewer : (end : BatchEnd) (rest before : Text) → (end ≡ MoreStatements → length rest < length before)
    → left_after end rest < left_after MoreStatements before
fewer MoreStatements rest before shorter = let less = shorter refl in omega (arith, less)
fewer WholeText rest before shorter = omega arith
fewer TooManyBrackets rest before shorter = omega arith
