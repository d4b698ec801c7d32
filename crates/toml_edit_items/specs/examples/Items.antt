-- Worked kinds and texts of items.
use Rattle.std.specs.Prelude.{◌≡◌, refl, pos, [], ◌∷◌, codes, Some, None}
use Rattle.toml_edit_model.specs.Conversions.{new_array, new_table}
use Rattle.toml_edit_model.specs.Lists.{items_from}
use Rattle.toml_edit_model.specs.Scalars.{integer, string}
use Rattle.toml_edit_model.specs.Text.{Text, one}
use Rattle.toml_edit_model.specs.Tree.{Node, leaf, list, owned, table, no_slots, unset}
use Rattle.toml_edit_items.specs.Kinds.{kind_in, kind_named}
use Rattle.toml_edit_items.specs.Shapes.{array_lines, element_line, raw_line}
use Rattle.toml_edit_items.specs.declared.kind.Kind.TheVariants as kinds

abbrev text : Text → Node
text t = leaf (string t) None unset

abbrev hex : Node
hex = leaf (integer (pos 255)) (Some (owned (codes "0xFF"))) unset

raw-string : raw_line (text (codes "a b")) ≡ Some (codes "a b\n")
raw-string = refl

raw-integer : raw_line hex ≡ Some (codes "0xFF\n")
raw-integer = refl

raw-array : raw_line (list new_array (items_from (one hex))) ≡ None
raw-array = refl

-- a string of two lines is raw, but is no line of an array
two-lines : raw_line (text (codes "a\nb")) ≡ Some (codes "a\nb\n")
two-lines = refl

no-line : element_line (text (codes "a\nb")) ≡ None
no-line = refl

some-lines : array_lines (list new_array (items_from (text (codes "a") ∷ hex ∷ []))) ≡ Some (codes "a\n0xFF\n")
some-lines = refl

no-lines : array_lines (list new_array (items_from (text (codes "a") ∷ table new_table no_slots ∷ text (codes "b\n") ∷ []))) ≡ None
no-lines = refl

a-table : kind_in (table new_table no_slots) ≡ Some kinds.Table
a-table = refl

array-of-tables : kind_named (codes "tables") ≡ Some kinds.Tables
array-of-tables = refl
