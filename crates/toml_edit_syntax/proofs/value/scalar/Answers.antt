use Rattle.std.proofs.Common.{◌≡◌, List, Some, sym, ap, ◌∙◌, arith}
use Rattle.std.specs.Prelude.{option_map}
use Rattle.std.proofs.lemmas.Grind.{common_steps}
use Rattle.toml_edit_model.specs.Text.{Text}
use Rattle.toml_edit_model.specs.Scalars.{Scalar}
use Rattle.toml_edit_syntax.specs.declared.event.Event.{Event}
use Rattle.toml_edit_laws.specs.reading.ScalarReading.{scalar_at}
use Rattle.toml_edit_syntax.specs.ValueReading.{got}
use Rattle.toml_edit_syntax.specs.EventReading.{preceded}
use Rattle.toml_edit_syntax.proofs.EventSteps.{added}
use Rattle.toml_edit_syntax.proofs.ScalarTurns.{scalar_found, scalar_shorter}
use Rattle.toml_edit_syntax.proofs.value.scalar.Goals as goal

pub returns-clause-adds : goal.returns-clause-adds
returns-clause-adds c =
    let rest = c.in-Some.rest.now in
    let old = c.args.events.now.items in
    let found : option_map (λ (p : Scalar × Text). p.1) (scalar_at c.args.s.now) ≡ Some rest = grind (arith, common_steps) in
    let new = added old c.push.new.self.items c.new_event.result _ c.in_ok-push.ensures.items c.new_event.ensures in
    ap (preceded old) (scalar_found c.args.whole c.args.s.now rest c.requires c.in-Some.ensures.within found)
    ∙ ap (λ (es : List Event). got es rest) (sym new)

pub returns-clause-shorter : goal.returns-clause-shorter
returns-clause-shorter c =
    let rest = c.in-Some.rest.now in
    let found : option_map (λ (p : Scalar × Text). p.1) (scalar_at c.args.s.now) ≡ Some rest = grind (arith, common_steps) in
    scalar_shorter c.args.whole c.args.s.now rest c.requires c.in-Some.ensures.within found
