-- The parts of a key line are added one after the other.
use Rattle.std.proofs.Common.{◌+◌, ◌*◌, List, length, sym, ap, subst, ◌∙◌, le_refl}
use Rattle.toml_edit_model.specs.Text.{Text}
use Rattle.toml_edit_syntax.specs.declared.event.Event.{Event}
use Rattle.toml_edit_syntax.specs.ValueReading.{Reading}
use Rattle.toml_edit_syntax.specs.Gives.{StopsAs, Leaves}
use Rattle.toml_edit_syntax.specs.EventReading.{preceded, frame_read, value_read}
use Rattle.toml_edit_syntax.specs.StatementReading.{end_read}
use Rattle.toml_edit_syntax.proofs.EventSteps.{followed, goes}
use Rattle.toml_edit_syntax.proofs.ItemLoop.{stops, leaves_err}
use Rattle.toml_edit_syntax.proofs.StatementTurns.{key_line_turn}
use Rattle.toml_edit_syntax.proofs.statement.key_line.Goals as goal

pub returns-in_err-text-clause-adds : goal.returns-in_err-text-clause-adds
returns-in_err-text-clause-adds c =
    let whole = c.args.whole in
    let old = c.args.events.now.items in
    let new = c.frame.new.events.items in
    let why = c.in_err-text.field-0.0 in
    let after = λ (value : Text). followed (value_read (2 * length value + 2) 0 whole value) (end_read whole) in
    leaves_err new c.from_residual.result _ why _ c.from_residual.ensures.1 (λ y e. e)
    (subst (λ (r : Reading (List Event)). StopsAs new r why)
    (sym (ap (preceded old) (key_line_turn whole c.args.leading.now c.args.s.now c.requires)))
    (stops new old (frame_read whole c.args.leading.now c.args.s.now) after why c.in_err-text.ensures.adds))

pub returns-in_err-rest-clause-adds : goal.returns-in_err-rest-clause-adds
returns-in_err-rest-clause-adds c =
    let whole = c.args.whole in
    let old = c.args.events.now.items in
    let fronted = c.frame.new.events.items in
    let new = c.value.new.events.items in
    let text = c.in_ok-text.text.now in
    let why = c.in_err-rest.field-0.0 in
    let after = λ (value : Text). followed (value_read (2 * length value + 2) 0 whole value) (end_read whole) in
    let all = ap (preceded old) (key_line_turn whole c.args.leading.now c.args.s.now c.requires)
    ∙ goes old fronted (frame_read whole c.args.leading.now c.args.s.now) text after c.in_ok-text.ensures.adds in
    leaves_err new c.from_residual-in_err-rest.result _ why _ c.from_residual-in_err-rest.ensures.1 (λ y e. e)
    (subst (λ (r : Reading (List Event)). StopsAs new r why) (sym all)
    (stops new fronted (value_read (2 * length text + 2) 0 whole text) (end_read whole) why (c.in_err-rest.ensures.adds (2 * length text
    + 2) (le_refl _))))

pub returns-clause-adds : goal.returns-clause-adds
returns-clause-adds c =
    let whole = c.args.whole in
    let old = c.args.events.now.items in
    let fronted = c.frame.new.events.items in
    let valued = c.value.new.events.items in
    let text = c.in_ok-text.text.now in
    let rest = c.in_ok-rest.rest.now in
    let after = λ (value : Text). followed (value_read (2 * length value + 2) 0 whole value) (end_read whole) in
    let all = ap (preceded old) (key_line_turn whole c.args.leading.now c.args.s.now c.requires)
    ∙ goes old fronted (frame_read whole c.args.leading.now c.args.s.now) text after c.in_ok-text.ensures.adds
    ∙ goes fronted valued (value_read (2 * length text + 2) 0 whole text) rest (end_read whole) (c.in_ok-rest.ensures.adds (2 * length text
    + 2) (le_refl _)) in
    subst (Leaves c.push_line_end.new.events.items c.push_line_end.result) (sym all) c.push_line_end.ensures.adds
