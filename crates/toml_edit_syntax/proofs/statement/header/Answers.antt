-- The parts up to the key are added, and then the key and what follows it.
use Rattle.std.proofs.Common.{◌-◌, List, [], length, sym, ap, subst, ◌∙◌}
use Rattle.toml_edit_syntax.specs.declared.event.EventKind.{EventKind}
use Rattle.toml_edit_syntax.specs.declared.event.Event.{Event}
use Rattle.toml_edit_syntax.specs.ValueReading.{Reading}
use Rattle.toml_edit_syntax.specs.Gives.{StopsAs, Leaves}
use Rattle.toml_edit_syntax.specs.EventReading.{preceded, path_read}
use Rattle.toml_edit_syntax.specs.StatementReading.{header_end_read}
use Rattle.toml_edit_syntax.proofs.EventSteps.{between, preceded-twice, followed, goes, added_three}
use Rattle.toml_edit_syntax.proofs.ItemLoop.{stops, leaves_err}
use Rattle.toml_edit_syntax.proofs.StatementTurns.{heads, header_turn}
use Rattle.toml_edit_syntax.proofs.statement.header.Goals as goal

pub returns-in_err-rest-clause-adds : goal.returns-in_err-rest-clause-adds
returns-in_err-rest-clause-adds c =
    let whole = c.args.whole in
    let leading = c.args.leading.now in
    let s = c.args.s.now in
    let is_array = c.split_opening-is_array.result.0 in
    let inside = c.split_opening-is_array.result.1.now in
    let before = c.split_run.result.0.now in
    let key = c.split_run.result.1.now in
    let old = c.args.events.now.items in
    let why = c.in_err-rest.field-0.0 in
    let new = c.path.new.events.items in
    let es = heads whole leading s c.requires.fits is_array inside before key c.split_opening-is_array.ensures.value
    c.split_opening-is_array.ensures.lens
    c.split_run.ensures.parts c.split_run.ensures.lens in
    let keyed = path_read (length key) whole [] key in
    let pushed = added_three old c.push.new.self.items c.push-2.new.self.items c.push-3.new.self.items c.new_event.result
    c.new_event-2.result
    c.new_event-3.result _ _ _ c.in_ok-push.ensures.items c.in_ok-push-2.ensures.items c.in_ok-push-3.ensures.items c.new_event.ensures
    (c.new_event-2.ensures ∙ ap (λ (k : EventKind). between k (whole - length s) (whole - length inside)) c.open_kind.ensures)
    c.new_event-3.ensures in
    let all = ap (preceded old) (header_turn whole leading s c.requires.fits is_array inside before key
    c.split_opening-is_array.ensures.value
    c.split_opening-is_array.ensures.lens c.split_run.ensures.parts c.split_run.ensures.lens)
    ∙ preceded-twice old es (followed keyed (header_end_read whole is_array))
    ∙ ap (λ (x : List Event). preceded x (followed keyed (header_end_read whole is_array))) (sym pushed) in
    leaves_err new c.from_residual-in_err-rest.result _ why _ c.from_residual-in_err-rest.ensures.1 (λ y e. e)
    (subst (λ (r : Reading (List Event)). StopsAs new r why) (sym all)
    (stops new c.push-3.new.self.items keyed (header_end_read whole is_array) why c.in_err-rest.ensures.adds))

pub returns-clause-adds : goal.returns-clause-adds
returns-clause-adds c =
    let whole = c.args.whole in
    let leading = c.args.leading.now in
    let s = c.args.s.now in
    let is_array = c.split_opening-is_array.result.0 in
    let inside = c.split_opening-is_array.result.1.now in
    let before = c.split_run.result.0.now in
    let key = c.split_run.result.1.now in
    let old = c.args.events.now.items in
    let es = heads whole leading s c.requires.fits is_array inside before key c.split_opening-is_array.ensures.value
    c.split_opening-is_array.ensures.lens
    c.split_run.ensures.parts c.split_run.ensures.lens in
    let keyed = path_read (length key) whole [] key in
    let pushed = added_three old c.push.new.self.items c.push-2.new.self.items c.push-3.new.self.items c.new_event.result
    c.new_event-2.result
    c.new_event-3.result _ _ _ c.in_ok-push.ensures.items c.in_ok-push-2.ensures.items c.in_ok-push-3.ensures.items c.new_event.ensures
    (c.new_event-2.ensures ∙ ap (λ (k : EventKind). between k (whole - length s) (whole - length inside)) c.open_kind.ensures)
    c.new_event-3.ensures in
    let all = ap (preceded old) (header_turn whole leading s c.requires.fits is_array inside before key
    c.split_opening-is_array.ensures.value
    c.split_opening-is_array.ensures.lens c.split_run.ensures.parts c.split_run.ensures.lens)
    ∙ preceded-twice old es (followed keyed (header_end_read whole is_array))
    ∙ ap (λ (x : List Event). preceded x (followed keyed (header_end_read whole is_array))) (sym pushed)
    ∙ goes c.push-3.new.self.items c.path.new.events.items keyed c.in_ok-rest.rest.now (header_end_read whole is_array)
    c.in_ok-rest.ensures.adds in
    subst (Leaves c.header_end.new.events.items c.header_end.result) (sym all) c.header_end.ensures.adds
