use Rattle.std.proofs.Common.{◌≡◌, ◌+◌, ◌*◌, List, length, sym, ap, subst, ◌∙◌, arith, append-nil, le_refl}
use Rattle.std.proofs.lemmas.Grind.{common_steps}
use Rattle.toml_edit_syntax.specs.declared.event.Event.{Event}
use Rattle.toml_edit_syntax.specs.ValueReading.{Reading, got}
use Rattle.toml_edit_syntax.specs.Gives.{StopsAs}
use Rattle.toml_edit_syntax.specs.EventReading.{preceded, value_read}
use Rattle.toml_edit_syntax.proofs.EventSteps.{goes}
use Rattle.toml_edit_syntax.proofs.ItemLoop.{stops, leaves_err}
use Rattle.toml_edit_syntax.proofs.LoneTurns.{nothing_read, nothing_left, something_left, lone_turn}
use Rattle.toml_edit_syntax.proofs.lone_value.lone_value.Goals as goal

pub returns-in_err-rest : goal.returns-in_err-rest
returns-in_err-rest c =
    let s = c.args.s.now in
    let old = c.args.events.now.items in
    let start = c.split_run.result.1.now in
    let new = c.value.new.events.items in
    let why = c.in_err-rest.field-0.0 in
    let n = 2 * length start + 2 in
    leaves_err new c.from_residual.result _ why _ c.from_residual.ensures.1 (λ y e. e)
    (subst (λ (r : Reading (List Event)). StopsAs new r why)
    (sym (ap (preceded old) (lone_turn s c.split_run.result.0.now start c.split_run.ensures.parts c.split_run.ensures.lens)))
    (stops new old (value_read n 0 (length s) start) nothing_read why (c.in_err-rest.ensures.adds n (le_refl _))))

pub returns-then-not-is_empty : goal.returns-then-not-is_empty
returns-then-not-is_empty c =
    let s = c.args.s.now in
    let old = c.args.events.now.items in
    let start = c.split_run.result.1.now in
    let new = c.value.new.events.items in
    let rest = c.in_ok-rest.rest.now in
    let n = 2 * length start + 2 in
    let some : length c.split_run-2.result.1.now ≡ 0 → ⊥ = grind (arith, common_steps) in
    ap (preceded old) (lone_turn s c.split_run.result.0.now start c.split_run.ensures.parts c.split_run.ensures.lens)
    ∙ goes old new (value_read n 0 (length s) start) rest nothing_read (c.in_ok-rest.ensures.adds n (le_refl _))
    ∙ ap (preceded new) (something_left rest c.split_run-2.result.0.now c.split_run-2.result.1.now c.split_run-2.ensures.parts some)

pub returns : goal.returns
returns c =
    let s = c.args.s.now in
    let old = c.args.events.now.items in
    let start = c.split_run.result.1.now in
    let new = c.value.new.events.items in
    let rest = c.in_ok-rest.rest.now in
    let n = 2 * length start + 2 in
    let none : length c.split_run-2.result.1.now ≡ 0 = grind (arith, common_steps) in
    ap (preceded old) (lone_turn s c.split_run.result.0.now start c.split_run.ensures.parts c.split_run.ensures.lens)
    ∙ goes old new (value_read n 0 (length s) start) rest nothing_read (c.in_ok-rest.ensures.adds n (le_refl _))
    ∙ ap (preceded new) (nothing_left rest c.split_run-2.result.0.now c.split_run-2.result.1.now c.split_run-2.ensures.parts none)
    ∙ ap (λ (es : List Event). got es rest) (append-nil new)
