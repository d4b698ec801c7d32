-- Worked positions of empty tables, and refusals.
use Rattle.std.specs.Prelude.{◌≡◌, refl, pos, [], ◌∷◌, Some, Err, codes}
use Rattle.toml_edit_model.specs.Conversions.{new_table}
use Rattle.toml_edit_model.specs.Keys.{new_key}
use Rattle.toml_edit_model.specs.Text.{Text, newline}
use Rattle.toml_edit_model.specs.Tree.{Tree, no_slots, owned, slot, table}
use Rattle.toml_edit_edits.specs.Sections.{next_position, sectioned, space_before}
use Rattle.toml_edit_edits.specs.declared.fault.EditFault.TheVariants.{NoSuchPath, Taken}

abbrev x : Text
x = codes "x"

abbrev empty : Tree
empty = record { root = new_table; slots = no_slots; trailing = owned [] }

-- `[x]`, as the third header
abbrev third : Tree
third = record empty { slots = slot (new_key x) (table (record new_table { position = Some (pos 3) }) no_slots) no_slots }

first_is_one : next_position empty ≡ pos 1
first_is_one = refl

next_is_four : next_position third ≡ pos 4
next_is_four = refl

nothing_before_first : space_before empty ≡ []
nothing_before_first = refl

line_before_next : space_before third ≡ newline
line_before_next = refl

x_is_taken : sectioned (new_key x ∷ []) third ≡ Err Taken
x_is_taken = refl

root_is_taken : sectioned [] third ≡ Err Taken
root_is_taken = refl

-- no table is made for a number
number_is_none : sectioned (new_key x ∷ new_key x ∷ new_key (codes "0") ∷ []) third ≡ Err NoSuchPath
number_is_none = refl
