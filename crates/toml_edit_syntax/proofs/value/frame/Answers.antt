-- The parts round the key are added as the pair is read.
use Rattle.std.proofs.Common.{List, [], ◌∷◌, length, sym, ap, subst, ◌∙◌}
use Rattle.toml_edit_syntax.specs.declared.event.Event.{Event}
use Rattle.toml_edit_syntax.specs.Gives.{Leaves}
use Rattle.toml_edit_syntax.specs.EventReading.{preceded, equals_read, path_read}
use Rattle.toml_edit_syntax.proofs.EventSteps.{preceded-twice, followed, goes, added}
use Rattle.toml_edit_syntax.proofs.PathTurns.{lead, frame_turn}
use Rattle.toml_edit_syntax.proofs.value.frame.Goals as goal

pub returns-clause-adds : goal.returns-clause-adds
returns-clause-adds c =
    let whole = c.args.whole in
    let old = c.args.events.now.items in
    let s = c.args.s.now in
    let keyed = path_read (length s) whole [] s in
    let push = added old c.push.new.self.items c.new_event.result _ c.in_ok-push.ensures.items c.new_event.ensures in
    let all = ap (preceded old) (frame_turn whole c.args.leading.now s c.requires)
    ∙ preceded-twice old (lead whole c.args.leading.now s c.requires ∷ []) (followed keyed (equals_read whole))
    ∙ ap (λ (es : List Event). preceded es (followed keyed (equals_read whole))) (sym push)
    ∙ goes c.push.new.self.items c.path.new.events.items keyed c.in_ok-rest.rest.now (equals_read whole) c.in_ok-rest.ensures.adds in
    subst (Leaves c.push_equals.new.events.items c.push_equals.result) (sym all) c.push_equals.ensures.adds
