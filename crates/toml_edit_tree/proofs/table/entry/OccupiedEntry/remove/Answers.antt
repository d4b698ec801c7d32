-- The slot of an entry taken out.
use Rattle.std.proofs.Common.{◌≡◌, Option, None, Some, IfSome, option_map, slice_get}
use Rattle.toml_edit_model.specs.Slots.{without}
use Rattle.toml_edit_model.specs.Tree.{Key}
use Rattle.toml_edit_slots.specs.declared.slots.Slot.{Slot}
use Rattle.toml_edit_tree.specs.SlotsOf.{slots_of}
use Rattle.toml_edit_tree.specs.declared.item.Item.{Item}
use Rattle.toml_edit_tree.specs.declared.table.Table.{out-Table}
use Rattle.toml_edit_tree.proofs.table.entry.OccupiedEntry.remove.Goals as goal

of_key : (P : Key → Type 0) (o : Option (Slot Item)) → IfSome o (λ s. P s.key) → IfSome (option_map (λ s. s.key) o) P
of_key P None h = h
of_key P (Some s) h = h

pub returns-clause-removed : goal.returns-clause-removed
returns-clause-removed c =
    let t = c.args.self.table.now in
    of_key (λ key. slots_of c.remove_at.new.self ≡ without key.name (slots_of t)) (slice_get (out-Table t).slots c.args.self.at)
    c.remove_at.ensures.removed
