-- The closure at an item that holds an element.
use Rattle.std.proofs.Common.{refl, subst}
use Rattle.std.specs.Fn.{FnReturnsAt}
use Rattle.toml_edit_slots.specs.Elements.{SaysOfHeld}
use Rattle.toml_edit_slots.proofs.list.fn.retain.retain.Goals as goal

pub returns-in-Some : goal.returns-in-Some
returns-in-Some g c =
    subst (λ o. SaysOfHeld (FnReturnsAt g.F.Fn c.captures.keep) o c.keep.result) c.in-Some.ensures
    (record { shown = c.in-Some.element; shows = refl; says = record { met = c.keep.ensures } })
