-- The items below an item, each with the steps that lead to it.
use Rattle.std.specs.Prelude.{ℕ, suc, Bool, if◌then◌else◌, List, [], ◌∷◌, ◌++◌}
use Rattle.toml_edit_model.specs.Lists.{is_item}
use Rattle.toml_edit_model.specs.Shown.{is_table_node}
use Rattle.toml_edit_model.specs.Tree.{Key, Node, nothing, leaf, list, inline, table, tables, Items, no_items, item, Slots, no_slots, slot, is_value_node}

-- a step down: into the slot of a key, or to the element at a place
pub data Step : Type 0 where
  key : Key → Step
  element : ℕ → Step

-- Each before those below it, in the order of slots and elements: no placeholders, of an array the
-- values, and of an array of tables the tables.
abbrev mutual
  pub items_below : List Step → Node → List (List Step × Node)
  items_below p (table f ss) = from_slots p ss
  items_below p (inline f ss) = from_slots p ss
  items_below p (list f xs) = from_elements is_value_node p 0 xs
  items_below p (tables e xs) = from_elements is_table_node p 0 xs
  items_below p (leaf s spelling d) = []
  items_below p nothing = []

  pub from_slots : List Step → Slots → List (List Step × Node)
  from_slots p no_slots = []
  from_slots p (slot k n ss) =
      (if is_item n then (p ++ (key k ∷ []), n) ∷ items_below (p ++ (key k ∷ [])) n else [])
      ++ from_slots p ss

  pub from_elements : (Node → Bool) → List Step → ℕ → Items → List (List Step × Node)
  from_elements is p i no_items = []
  from_elements is p i (item n xs) =
      (if is n then (p ++ (element i ∷ []), n) ∷ items_below (p ++ (element i ∷ [])) n else [])
      ++ from_elements is p (suc i) xs

-- an item and those below it, where it is shown
abbrev pub found : Bool → List Step → Node → List (List Step × Node)
found shown p n = if shown then (p, n) ∷ items_below p n else []
