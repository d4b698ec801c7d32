-- The law of the other lines of an array: what `insert_line` and `remove_line` leave of its print.
use Rattle.std.specs.Prelude.{◌≡◌, ◌⊎◌, ℕ, suc, ◌<◌, ◌≤◌, nat_lt, true, ◌||◌, List, ◌∷◌, ◌++◌, length}
use Rattle.std.specs.List.{list_all}
use Rattle.toml_edit_model.specs.Lists.{items_from}
use Rattle.toml_edit_model.specs.Mode.{Mode}
use Rattle.toml_edit_model.specs.Print.{value_of}
use Rattle.toml_edit_model.specs.Syntax.{value_text}
use Rattle.toml_edit_model.specs.Text.{Text, carriage_return, line_feed}
use Rattle.toml_edit_model.specs.Tree.{ArrayFields, Node, is_value_node, list}
use Rattle.toml_edit_tree.specs.ArrayLines.{fields_inserted, fields_removed, gap, is_broken, line_inserted, line_removed}

-- the text begins with a newline: LF, or CR LF
abbrev pub BeginsLine : Text → Type 0
BeginsLine t = (rest : Text) × ((t ≡ line_feed ∷ rest) ⊎ (t ≡ carriage_return ∷ (line_feed ∷ rest)))

-- The second text has lines more than the first, in one place, and the value is on them. All else is
-- the same, byte for byte.
pub record HasLinesMore (value first second : Text) : Type 0 where
  pub before : Text
  pub lines : Text
  pub after : Text
  pub first_is : first ≡ before ++ after
  pub second_is : second ≡ before ++ (lines ++ after)
  pub begins : BeginsLine lines
  pub goes_on : BeginsLine after
  pub on_them : (above : Text) × (rest : Text) × (lines ≡ above ++ (value ++ rest))

module _ (mode : Mode) where
  abbrev pub text_of : Node → Text
  text_of n = value_text (value_of mode n)

  -- A value is inserted before a gap with a newline. A comma is there, or ends the array.
  abbrev pub InsertedLines : Type 0
  InsertedLines =
      (f : ArrayFields) (xs : List Node) (v : Node) (i : ℕ) → list_all is_value_node xs ≡ true
      → is_value_node v ≡ true → i ≤ length xs → (f.comma || nat_lt i (length xs)) ≡ true
      → is_broken (gap i f xs) ≡ true
      → HasLinesMore (text_of v) (text_of (list f (items_from xs)))
      (text_of (list (fields_inserted i v f xs) (items_from (line_inserted i v f xs))))

  -- The value between two such gaps is removed.
  abbrev pub RemovedLines : Type 0
  RemovedLines =
      (f : ArrayFields) (xs : List Node) (i : ℕ) → list_all is_value_node xs ≡ true
      → i < length xs → (f.comma || nat_lt (suc i) (length xs)) ≡ true
      → is_broken (gap i f xs) ≡ true → is_broken (gap (suc i) f xs) ≡ true
      → (value : Text)
      × HasLinesMore value
      (text_of (list (fields_removed i f xs) (items_from (line_removed i f xs))))
      (text_of (list f (items_from xs)))
