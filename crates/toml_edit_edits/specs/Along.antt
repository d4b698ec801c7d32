-- The tables that a path goes through.
use Rattle.std.specs.Prelude.{◌≡◌, List, [], ◌∷◌, Some}
use Rattle.toml_edit_model.specs.Lists.{slots_in}
use Rattle.toml_edit_model.specs.Slots.{Slot, AreApart}
use Rattle.toml_edit_model.specs.Text.{Text}
use Rattle.toml_edit_model.specs.Tree.{Node}
use Rattle.toml_edit_edit_laws.specs.Commands.{child}

-- no two keys of a table on the path have one name
abbrev pub AreApartAlong : List Text → Node → Type 0
AreApartAlong [] n = Unit {0}
AreApartAlong (k ∷ path) n =
    ((es : List (Slot Node)) → slots_in n ≡ Some es → AreApart es)
    × ((m : Node) → child k n ≡ Some m → AreApartAlong path m)
