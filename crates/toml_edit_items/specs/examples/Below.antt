-- Worked paths and keys of tables.
use Rattle.std.specs.Prelude.{◌≡◌, refl, pos, List, [], ◌∷◌, None, codes}
use Rattle.toml_edit_model.specs.Conversions.{new_array, new_inline, new_table}
use Rattle.toml_edit_model.specs.Keys.{new_key}
use Rattle.toml_edit_model.specs.Lists.{items_from, slots_from}
use Rattle.toml_edit_model.specs.Scalars.{integer}
use Rattle.toml_edit_model.specs.Slots.{Slot}
use Rattle.toml_edit_model.specs.Text.{Text, one}
use Rattle.toml_edit_model.specs.Tree.{Node, nothing, leaf, list, inline, table, tables, no_items, no_slots, unset}
use Rattle.toml_edit_visit.specs.Below.{Step, element, key}
use Rattle.toml_edit_items.specs.Below.{key_lines, path_lines, paths_below}

abbrev int : Node
int = leaf (integer (pos 1)) None unset

abbrev to : Text → Step
to k = key (new_key k)

abbrev at : Text → Node → Slot Node
at k n = record { key = new_key k; item = n }

abbrev table_of : List (Slot Node) → Node
table_of ss = table new_table (slots_from ss)

-- `a.b = 1`, `c = {}`, `d = []`, a placeholder, and two elements of `e`, the second with `f = 1`
abbrev some_slots : List (Slot Node)
some_slots =
    at (codes "a") (table_of (one (at (codes "b") int))) ∷ at (codes "c") (inline new_inline no_slots)
    ∷ at (codes "d") (list new_array no_items) ∷ at (codes "x y") nothing
    ∷ at (codes "e")
    (tables None (items_from (table_of [] ∷ table_of (one (at (codes "f") int)) ∷ [])))
    ∷ []

all-paths : paths_below [] (table_of some_slots)
    ≡ (to (codes "a") ∷ to (codes "b") ∷ []) ∷ one (to (codes "c")) ∷ one (to (codes "d"))
    ∷ (to (codes "e") ∷ element 0 ∷ []) ∷ (to (codes "e") ∷ element 1 ∷ to (codes "f") ∷ []) ∷ []
all-paths = refl

some-lines : path_lines ((to (codes "a") ∷ to (codes "b c") ∷ []) ∷ one (to (codes "d")) ∷ [])
    ≡ codes "a.\"b c\"\nd\n"
some-lines = refl

-- a table with a placeholder alone is empty, and the root has no path
empty-table : paths_below (one (to (codes "a"))) (table_of (one (at (codes "b") nothing)))
    ≡ one (one (to (codes "a")))
empty-table = refl

empty-root : path_lines (paths_below [] (table_of [])) ≡ []
empty-root = refl

-- what is no table is not found among tables
no-table : paths_below [] (tables None (items_from (one int))) ≡ []
no-table = refl

-- a name that is no bare key is quoted
some-keys : key_lines (at (codes "a b") int ∷ at (codes "c") nothing ∷ at (codes "d") int ∷ [])
    ≡ codes "\"a b\"\nd\n"
some-keys = refl
