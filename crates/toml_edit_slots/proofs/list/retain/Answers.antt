-- What std's `retain` leaves.
use Rattle.std.proofs.Common.{rules}
use Rattle.std.specs.Fn.{FnReturnsAt}
use Rattle.toml_edit_laws.proofs.slots.Retains.{retains_by}
use Rattle.toml_edit_slots.specs.Elements.{SaysOfHeld}
use Rattle.toml_edit_slots.proofs.list.retain.Goals as goal

pub returns : goal.returns
returns g c =
    retains_by _ (λ item. SaysOfHeld (FnReturnsAt g.F.Fn c.args.keep) (g.T.Holds.held item)) _ (λ x b f k. search rules) _ _
    c.retain.ensures.filtered
