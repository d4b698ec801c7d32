-- What a version accepts and TOML 1.1 accepts.
use Rattle.std.proofs.Common.{◌≡◌, refl, sym, ◌∙◌, ap, true, false, List, [], ◌∷◌, ◌++◌}
use Rattle.std.specs.Prelude.{◌&&◌, not}
use Rattle.std.specs.List.{AllByRecursion, list_all}
use Rattle.toml_edit_model.specs.Syntax.{Statement, key_line, header, Document}
use Rattle.toml_edit_model.specs.Version.{v1_0, v1_1, is_of_version, is_late_statement}
use Rattle.toml_edit_model.specs.Paths.{Placed, placed, placed_from, Context, start_context, context_after, source_of, mentions_of}
use Rattle.toml_edit_model.specs.Accepted.{is_accepted, is_accepted_in}
use Rattle.toml_edit_laws.specs.OneByOne.{is_right_after, all_right_in}
use Rattle.toml_edit_laws.specs.Versions.{LaterAccepts}
use Rattle.toml_edit_laws.proofs.one_by_one.Together.{right-together, accepted-right}
use Rattle.toml_edit_laws.proofs.common.Tests.{and_left, and_right, and_both, not-true}

pub all-later : (earlier places : List Placed) → all_right_in v1_0 earlier places ≡ true → all_right_in v1_1 earlier places ≡ true
all-later earlier [] h = refl
all-later earlier (s ∷ places) h =
    let here = is_of_version v1_0 s.source.statement && is_right_after earlier s in
    let rest = all_right_in v1_0 (earlier ++ (s ∷ [])) places in
    and_both (is_right_after earlier s) (all_right_in v1_1 (earlier ++ (s ∷ [])) places)
    (and_right (is_of_version v1_0 s.source.statement) (is_right_after earlier s) (and_left here rest h))
    (all-later (earlier ++ (s ∷ [])) places (and_right here rest h))

-- What a version accepts is accepted under 1.1, by the same cut.
pub later-accepts : LaterAccepts
unfolding is_accepted
later-accepts v1_0 t d h = (h.0, right-together v1_1 (placed d) ∙ all-later [] (placed d) (sym (right-together v1_0 (placed d)) ∙ h.1))
later-accepts v1_1 t d h = h

all-early : (earlier places : List Placed) → all_right_in v1_1 earlier places ≡ true
    → list_all (λ (s : Placed). not (is_late_statement s.source.statement)) places ≡ true → all_right_in v1_0 earlier places ≡ true
all-early earlier [] h g = refl
all-early earlier (s ∷ places) h g =
    let early = not (is_late_statement s.source.statement) in
    let rest = all_right_in v1_1 (earlier ++ (s ∷ [])) places in
    let others = list_all (λ (s : Placed). not (is_late_statement s.source.statement)) places in
    and_both (early && is_right_after earlier s) (all_right_in v1_0 (earlier ++ (s ∷ [])) places)
    (and_both early (is_right_after earlier s) (and_left early others g) (and_left (is_right_after earlier s) rest h))
    (all-early (earlier ++ (s ∷ [])) places (and_right (is_right_after earlier s) rest h) (and_right early others g))

-- no statement is late
abbrev pub AreEarly : List Statement → Type 0
AreEarly ss = AllByRecursion (λ s. is_late_statement s ≡ false) ss

own-early : (c : Context) (s : Statement) → not (is_late_statement (source_of c s).statement) ≡ true → is_late_statement s ≡ false
own-early c (key_line f v end) h = not-true (is_late_statement (key_line f v end)) h
own-early c (header k end) h = not-true (is_late_statement (header k end)) h

early-of : (c : Context) (earlier : List Placed) (ss : List Statement) → all_right_in v1_0 earlier (placed_from c ss) ≡ true → AreEarly ss
early-of c earlier [] h = tt
early-of c earlier (s ∷ ss) h =
    let here : Placed = record { source = source_of c s; mentions = mentions_of c s } in
    let rest = all_right_in v1_0 (earlier ++ (here ∷ [])) (placed_from (context_after c s) ss) in
    let early = not (is_late_statement (source_of c s).statement) in (
      own-early c s (and_left early (is_right_after earlier here) (and_left (early && is_right_after earlier here) rest h)),
      early-of (context_after c s) (earlier ++ (here ∷ [])) ss (and_right (early && is_right_after earlier here) rest h),
    )

place-early : (c : Context) (s : Statement) → is_late_statement s ≡ false → not (is_late_statement (source_of c s).statement) ≡ true
place-early c (key_line f v end) h = ap not h
place-early c (header k end) h = ap not h

places-early : (c : Context) (ss : List Statement) → AreEarly ss
    → list_all (λ (s : Placed). not (is_late_statement s.source.statement)) (placed_from c ss) ≡ true
places-early c [] h = refl
places-early c (s ∷ ss) h =
    and_both (not (is_late_statement (source_of c s).statement))
    (list_all (λ (s : Placed). not (is_late_statement s.source.statement)) (placed_from (context_after c s) ss))
    (place-early c s h.0) (places-early (context_after c s) ss h.1)

-- What 1.0 accepts has no late statement, and what 1.1 accepts and has none is accepted under 1.0.
pub early-accepted : (d : Document) → is_accepted_in v1_0 d ≡ true → AreEarly d.statements
early-accepted d h = early-of (start_context d) [] d.statements (sym (right-together v1_0 (placed d)) ∙ h)

pub accepted-early : (d : Document) → is_accepted d ≡ true → AreEarly d.statements → is_accepted_in v1_0 d ≡ true
accepted-early d h g = right-together v1_0 (placed d)
    ∙ all-early [] (placed d) (accepted-right d h) (places-early (start_context d) d.statements g)
