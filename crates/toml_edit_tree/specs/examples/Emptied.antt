-- Worked items without the items that they hold.
use Rattle.std.specs.Prelude.{◌≡◌, refl, [], ◌∷◌, None}
use Rattle.toml_edit_model.specs.Conversions.{new_array}
use Rattle.toml_edit_model.specs.Tree.{InlineFields, TableFields, Key, nothing, list, inline, table, tables, no_items, item, no_slots, slot}
use Rattle.toml_edit_model.specs.examples.Parts.{plain_int}
use Rattle.toml_edit_tree.specs.Emptied.{emptied}

-- arrays lose their items and keep what else they have; a value and a placeholder stay
emptied_items : emptied (list new_array (item (plain_int 1) (item nothing no_items)))
    ∷ emptied (tables None (item nothing no_items)) ∷ emptied (plain_int 1) ∷ emptied nothing ∷ []
    ≡ list new_array no_items ∷ tables None no_items ∷ plain_int 1 ∷ nothing ∷ []
emptied_items = refl

-- so do tables
emptied_tables : (f : InlineFields) (g : TableFields) (k : Key)
    → emptied (inline f (slot k nothing no_slots)) ∷ emptied (table g (slot k (plain_int 1) no_slots)) ∷ []
    ≡ inline f no_slots ∷ table g no_slots ∷ []
emptied_tables f g k = refl
