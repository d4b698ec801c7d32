-- A measure of items: each is larger than those right in it.
use Rattle.toml_edit.specs.slots.declared.slots.Slot as held
use Rattle.toml_edit.specs.tree.Indexed.{shown_slots}
use Rattle.toml_edit.specs.tree.View.{item_view}
use Rattle.toml_edit.specs.tree.declared.item.Item.{Item}
use Rattle.std.proofs.Common.{◌≡◌, ◌+◌, ◌<◌, ℕ, zero, suc, List, [], ◌∷◌, Some, slice_get, arith}
use Rattle.std.proofs.lemmas.Grind.{common_steps}
use Rattle.toml_edit.specs.model.Lists.{slot_list, slots_in}
use Rattle.toml_edit.specs.model.Slots.{Slot}
use Rattle.toml_edit.specs.model.Tree.{Node, nothing, leaf, list, inline, table, tables, Items, no_items, item, Slots, no_slots, slot}

abbrev mutual
  pub size : Node → ℕ
  size (table f ss) = suc (slots_size ss)
  size (inline f ss) = suc (slots_size ss)
  size n = 0

  pub slots_size : Slots → ℕ
  slots_size no_slots = 0
  slots_size (slot k n ss) = size n + slots_size ss

in_slots : (ss : Slots) (i : ℕ) (s : Slot Node) → slice_get (slot_list ss) i ≡ Some s → size s.item < suc (slots_size ss)
in_slots no_slots i s got = grind (arith, common_steps, got)
in_slots (slot k n ss) zero s got = grind (arith, common_steps, got)
in_slots (slot k n ss) (suc i) s got = let below = in_slots ss i s got in omega (arith, below)

-- an item in a table is smaller than the table
pub smaller : (n : Node) (es : List (Slot Node)) (i : ℕ) (s : Slot Node) → slots_in n ≡ Some es → slice_get es i ≡ Some s → size s.item < size n
smaller (table f ss) es i s is got = grind (arith, common_steps, in_slots ss i s, is, got)
smaller (inline f ss) es i s is got = grind (arith, common_steps, in_slots ss i s, is, got)
smaller nothing es i s is got = grind (arith, common_steps, is)
smaller (leaf x y z) es i s is got = grind (arith, common_steps, is)
smaller (list f xs) es i s is got = grind (arith, common_steps, is)
smaller (tables e xs) es i s is got = grind (arith, common_steps, is)

shown_get : (es : List (held.Slot Item)) (i : ℕ) (s : held.Slot Item) → slice_get es i ≡ Some s
    → slice_get (shown_slots es) i ≡ Some (record { key = s.key; item = item_view s.item })
shown_get [] i s got = grind (arith, common_steps, got)
shown_get (e ∷ es) zero s got = grind (arith, common_steps, got)
shown_get (e ∷ es) (suc i) s got = shown_get es i s got

-- so is an item in the slots that are lent
pub held_smaller : (n : Node) (es : List (held.Slot Item)) (i : ℕ) (s : held.Slot Item) → slots_in n ≡ Some (shown_slots es) → slice_get es i ≡ Some s
    → size (item_view s.item) < size n
held_smaller n es i s is got = smaller n (shown_slots es) i (record { key = s.key; item = item_view s.item }) is (shown_get es i s got)
