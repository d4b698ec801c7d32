-- An item by its slots and by what it has beside them.
use Rattle.std.proofs.Common.{◌≡◌, [], refl, ap}
use Rattle.std.specs.Option.{unwrap_or}
use Rattle.toml_edit_model.specs.Lists.{on_slots, slot_list, slots_from, slots_in}
use Rattle.toml_edit_model.specs.Tree.{Node, Slots, inline, leaf, list, no_slots, nothing, slot, table, tables}

slots-again : (ss : Slots) → ss ≡ slots_from (slot_list ss)
slots-again no_slots = refl
slots-again (slot k n ss) = ap (slot k n) (slots-again ss)

pub whole : (n : Node) → n ≡ on_slots (λ _. unwrap_or (slots_in n) []) (on_slots (λ _. []) n)
whole (table f ss) = ap (table f) (slots-again ss)
whole (inline f ss) = ap (inline f) (slots-again ss)
whole nothing = refl
whole (leaf s spelling d) = refl
whole (list f xs) = refl
whole (tables t xs) = refl
