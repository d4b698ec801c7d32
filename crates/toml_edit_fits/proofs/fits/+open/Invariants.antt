-- What was passed is well made.
use Rattle.std.proofs.Common.{take}
use Rattle.std.specs.List.{AllByRecursion}
use Rattle.toml_edit_model.specs.Spelling.{SpellsKey}
use Rattle.toml_edit_model.specs.Tree.{HasTrueSpelling, IsWellMade}
use Rattle.toml_edit_tree.specs.View.{item_view}
use Rattle.toml_edit_fits.proofs.fits.+open.Given as goal

abbrev pub invariant-open_slots-slots : goal.invariant-open_slots-slots
invariant-open_slots-slots l =
    record {
      keys : AllByRecursion (λ s. ∥ HasTrueSpelling (SpellsKey s.key.name) s.key.spelling ∥₁) (take l.slot-index l.entries);
      items : AllByRecursion (λ s. ∥ IsWellMade (item_view s.item) ∥₁) (take l.slot-index l.entries);
    }

abbrev pub invariant-open_items-items : goal.invariant-open_items-items
invariant-open_items-items l = AllByRecursion (λ x. ∥ IsWellMade (item_view x) ∥₁) (take l.item-index l.item-items)
