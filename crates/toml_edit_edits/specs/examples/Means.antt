-- Worked meanings of edits.
use Rattle.std.specs.Prelude.{refl, List, [], ◌∷◌, codes}
use Rattle.toml_edit_model.specs.Conversions.{new_array, new_table}
use Rattle.toml_edit_model.specs.Keys.{new_key}
use Rattle.toml_edit_model.specs.Lists.{items_from}
use Rattle.toml_edit_model.specs.Shown.{shown_meaning}
use Rattle.toml_edit_model.specs.Text.{Text}
use Rattle.toml_edit_model.specs.Tree.{Node, Tree, list, no_slots, owned, slot}
use Rattle.toml_edit_model.specs.examples.Parts.{plain_int}
use Rattle.toml_edit_edits.specs.Means.{EditsMean, RenamingMeans, ValuesMean}

abbrev a : Text
a = codes "a"

abbrev b : Text
b = codes "b"

-- `k = n`
abbrev line : Text → Node → Tree
line k n = record { root = new_table; slots = slot (new_key k) n no_slots; trailing = owned [] }

abbrev array : List Node → Node
array ns = list new_array (items_from ns)

-- ---- a name

named_b : RenamingMeans (a ∷ []) b (line a (plain_int 1)) (line b (plain_int 1))
unfolding shown_meaning
named_b n there f = (λ c. c, λ c. c)

-- ---- values of an array

put_last : ValuesMean (a ∷ []) (plain_int 1 ∷ []) (plain_int 1 ∷ plain_int 2 ∷ [])
    (line a (array (plain_int 1 ∷ []))) (line a (array (plain_int 1 ∷ plain_int 2 ∷ [])))
unfolding shown_meaning
put_last f shown g = (λ c. c, λ c. c)

-- ---- edits one after another

none_made : EditsMean [] (line a (plain_int 1)) (line a (plain_int 1))
none_made = refl
