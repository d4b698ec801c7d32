-- Which values are not too deep.
use Rattle.std.proofs.Common.{◌≡◌, ◌≤◌, ℕ, ◌+◌, true, false, List, [], ◌∷◌, ◌++◌, length, refl, subst, arith}
use Rattle.std.proofs.lemmas.Bool.Decides.{nat_tests}
use Rattle.std.proofs.lemmas.Bool.{leb-true}
use Rattle.std.specs.Prelude.{◌&&◌, nat_le}
use Rattle.std.specs.List.{list_any}
use Rattle.toml_edit_model.specs.Text.{one}
use Rattle.toml_edit_model.specs.Syntax.{Value, Statement, key_line, header, Document, depth, nesting_limit, is_short, has_short_keys}
use Rattle.toml_edit_model.specs.Syntax.{keeps_limits, is_ranged, statement_text}
use Rattle.toml_edit_model.specs.Paths.{Placed, Context, source_of, mentions_of, context_after, placed_from, start_context}
use Rattle.toml_edit_model.specs.Accepted.{has_agreeing_tables, is_sound, is_accepted}
use Rattle.toml_edit_model.specs.Faults.{own_faults}
use Rattle.toml_edit_laws.specs.OneByOne.{is_right_after, all_right_after}
use Rattle.toml_edit_laws.proofs.common.Tests.{and_left, and_right, or-left, or-right}
use Rattle.toml_edit_laws.proofs.building.Places.{sound-of-none}
use Rattle.toml_edit_laws.proofs.mentions.Placed.{source-statement}
use Rattle.toml_edit_laws.proofs.one_by_one.Together.{accepted-right}
use Rattle.toml_edit_syntax.specs.Events.{exceeds_depth, has_deep_value, statement_events, events_from}
use Rattle.toml_edit_syntax.proofs.ShortenedLaws.{Fits, Stays, stays_then}
use Rattle.toml_edit_syntax.proofs.StatementLaws.{depth_of, statement_stays}
use Rattle.toml_edit_parser.proofs.ReadLaws.{within_depth}

-- ---- none of an accepted document

-- nor of a sound statement
sound-shallow : (s : Statement) → is_sound s ≡ true → has_deep_value s ≡ false
sound-shallow (key_line f v end) h =
    let s = key_line f v end in
    let limits = and_left (keeps_limits s) (is_ranged s) (and_left (keeps_limits s && is_ranged s) (has_agreeing_tables s) h) in
    within_depth v (leb-true (depth v) nesting_limit
    (and_left (nat_le (depth v) nesting_limit) (has_short_keys v) (and_right (is_short f.path) (nat_le (depth v) nesting_limit
    && has_short_keys v) limits)))
sound-shallow (header h end) is = refl

-- nor of one without a fault
pub added-shallow : (start : ℕ) (s : Statement) → own_faults start s ≡ [] → has_deep_value s ≡ false
added-shallow start s none = sound-shallow s (sound-of-none start s none)

right-shallow : (c : Context) (earlier : List Placed) (ss : List Statement) → all_right_after earlier (placed_from c ss) ≡ true
    → list_any has_deep_value ss ≡ false
right-shallow c earlier [] h = refl
right-shallow c earlier (s ∷ ss) h =
    let here : Placed = record { source = source_of c s; mentions = mentions_of c s } in
    let later = placed_from (context_after c s) ss in
    let right = and_left (is_right_after earlier here) (all_right_after (earlier ++ one here) later) h in
    let rest = and_right (is_right_after earlier here) (all_right_after (earlier ++ one here) later) h in
    let sound : is_sound (source_of c s).statement ≡ true = and_left (is_sound (source_of c s).statement) _ right in
    rw (sound-shallow s (subst (λ x. is_sound x ≡ true) (source-statement c s) sound)) (right-shallow (context_after c s) (earlier
    ++ one here) ss rest)

pub accepted-shallow : (d : Document) → is_accepted d ≡ true → list_any has_deep_value d.statements ≡ false
accepted-shallow d h = right-shallow (start_context d) [] d.statements (accepted-right d h)

-- ---- the events of the others

-- where none of both has it
pub none-right : (done here : List Statement) → list_any has_deep_value (done ++ here) ≡ false → list_any has_deep_value here ≡ false
none-right [] here h = h
none-right (s ∷ done) here h = none-right done here (or-right (has_deep_value s) (list_any has_deep_value (done ++ here)) h)

room-for : (v : Value) → exceeds_depth v ≡ false → depth v ≤ nesting_limit
room-for v h = grind (arith, nat_tests)

shallow-fits : (s : Statement) → has_deep_value s ≡ false → Fits 0 (depth_of s)
shallow-fits (key_line f v end) h = λ _. let few = room-for v h in omega (arith, few)
shallow-fits (header h end) none = λ _. omega arith

-- are cut nowhere
pub uncut : (start : ℕ) (ss : List Statement) → list_any has_deep_value ss ≡ false → Stays 0 (events_from start ss)
uncut start [] h = λ more. refl
uncut start (s ∷ ss) h =
    let here = shallow-fits s (or-left (has_deep_value s) (list_any has_deep_value ss) h) in
    let later = uncut (start + length (statement_text s)) ss (or-right (has_deep_value s) (list_any has_deep_value ss) h) in
    stays_then 0 (statement_events start s) (events_from (start + length (statement_text s)) ss) (statement_stays 0 start s here) later
