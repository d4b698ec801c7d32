-- The place of a key, unless it is a placeholder.
use Rattle.std.proofs.Common.{◌≡◌, Some, None, IfSome, ℕ, List, Option, sym, ap, subst, ◌∙◌}
use Rattle.toml_edit_model.specs.Slots as model
use Rattle.toml_edit_model.specs.Text.{Text}
use Rattle.toml_edit_slots.specs.Slots.{place}
use Rattle.toml_edit_slots.specs.declared.slots.Slot.{Slot}
use Rattle.toml_edit_table_like.specs.Shown.{shown}
use Rattle.toml_edit_table_like.proofs.ShownLaws.{place-shown}
use Rattle.toml_edit_table_like.proofs.has_slots.HasSlots.filled_place_of.Goals as goal
use Rattle.toml_edit_tree.specs.declared.item.Item.{Item}

there : (k : Text) (es : List (Slot Item)) (o : Option ℕ) → IfSome o (λ at. place k es ≡ Some at)
    → IfSome o (λ at. model.place k (shown es) ≡ Some at)
there k es None h = tt
there k es (Some at) h = place-shown k es ∙ h

pub returns-clause-there : goal.returns-clause-there
returns-clause-there g c =
    let t = c.args.self.now in
    let k = c.args.key.now in
    subst (λ l. IfSome c.filled_place.result (λ at. model.place k l ≡ Some at)) (ap shown c.as_slots.ensures
    ∙ sym (g.Self.HasSlots.shows t))
    (there k c.as_slots.result.now c.filled_place.result c.filled_place.ensures.place)
