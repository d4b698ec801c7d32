-- The law of the lines of arrays: what `push_line`, `insert_line` and `remove_line` leave is what
-- parsing its print gives, but for spans. A value is parsed in owned form.
use Rattle.std.specs.Prelude.{◌≡◌, ℕ, suc, ◌<◌, ◌≤◌, Bool, true, false, not, ◌||◌, ◌↔◌, List, [], ◌∷◌, length, Some}
use Rattle.toml_edit_model.specs.ArrayCalls.{inserted_at, removed_at}
use Rattle.toml_edit_model.specs.Conversions.{new_array, with_decor}
use Rattle.toml_edit_model.specs.Lists.{items_from}
use Rattle.toml_edit_model.specs.Mode.{Mode}
use Rattle.toml_edit_model.specs.Print.{around_of, value_of}
use Rattle.toml_edit_model.specs.Text.{Text, is_empty}
use Rattle.toml_edit_model.specs.Tree.{ArrayFields, Decor, Node, is_value_node, list, node_decor, owned, shown_raw}
use Rattle.toml_edit_model.specs.TreeOf.{IsValueNode, owned_in}
use Rattle.toml_edit_tree.specs.ArrayLines.{fields_inserted, fields_removed, line_inserted, line_removed}

-- the decor of two texts
abbrev pub texts_around : Text → Text → Decor
texts_around before after = record { prefix = Some (owned before); suffix = Some (owned after) }

-- no decor but empty texts
abbrev pub undecorated : Node → Node
undecorated = with_decor (texts_around [] [])

module _ (mode : Mode) where
  -- ---- parsing what was printed

  -- what the first value prints is parsed as the second, where their decors don't matter
  abbrev pub IsParsedAs : Node → Node → Type 0
  IsParsedAs n p =
      (is_value_node n ≡ true)
      × IsValueNode (owned_in mode) (value_of mode n) 0 [] [] (undecorated p)

  -- the values of an array are parsed as these, one by one
  abbrev pub AreParsedAs : List Node → List Node → Type 0
  AreParsedAs [] [] = Unit {0}
  AreParsedAs (n ∷ ns) (p ∷ ps) = IsParsedAs n p × AreParsedAs ns ps
  AreParsedAs _ _ = ⊥

  -- the second values, with the texts that an array shows around the first
  abbrev pub values_as_printed : Bool → List Node → List Node → List Node
  values_as_printed is_first (n ∷ ns) (p ∷ ps) =
      let a = around_of mode is_first (node_decor n) in
      with_decor (texts_around a.before a.after) p ∷ values_as_printed false ns ps
  values_as_printed is_first _ _ = []

  -- an array as it is printed: its comma, the text before its bracket, and those around its values,
  -- which are parsed as the second ones
  abbrev pub array_as_printed : ArrayFields → List Node → List Node → Node
  array_as_printed f ns ps =
      list (record new_array { comma = f.comma; trailing = owned (shown_raw mode f.trailing) })
      (items_from (values_as_printed true ns ps))

  -- What follows the last value is where parsing puts it: the suffix of that value, unless a comma
  -- ends the array. Without a value there is no comma.
  abbrev pub ends_as_parsed : ArrayFields → List Node → Bool
  ends_as_parsed f [] = not f.comma
  ends_as_parsed f (n ∷ ns) = f.comma || is_empty (shown_raw mode f.trailing)

  -- the array is what parsing its print gives, where its values are parsed as these
  pub record IsOwnParse (f : ArrayFields) (ns ps : List Node) : Type 0 where
    pub values : AreParsedAs ns ps
    pub ends : ends_as_parsed f ns ≡ true
    pub array : IsParsedAs (list f (items_from ns)) (array_as_printed f ns ps)

  -- ---- the laws

  -- each value is parsed as one other, but for its decor
  abbrev pub ParsedAsOne : Type 0
  ParsedAsOne =
      (n : Node) → is_value_node n ≡ true
      → (p : Node) × IsParsedAs n p
      × ((q : Node) → IsParsedAs n q → undecorated q ≡ undecorated p)

  -- wherever its text begins, and whatever is around it
  abbrev pub ParsedAnywhere : Type 0
  ParsedAnywhere =
      (n p : Node) → is_value_node n ≡ true → (i : ℕ) (before after : Text)
      → IsParsedAs n p
      ↔ IsValueNode (owned_in mode) (value_of mode n) i before after
      (with_decor (texts_around before after) p)

  -- An array is parsed as it is printed exactly if what follows its last value is in its place.
  abbrev pub ArraysAreParsed : Type 0
  ArraysAreParsed =
      (f : ArrayFields) (ns ps : List Node) → AreParsedAs ns ps
      → (ends_as_parsed f ns ≡ true)
      ↔ IsParsedAs (list f (items_from ns)) (array_as_printed f ns ps)

  -- `push_line`, `insert_line`: what follows the last value is put in its place where that is the
  -- new one, and else stays.
  abbrev pub InsertedIsOwnParse : Type 0
  InsertedIsOwnParse =
      (f : ArrayFields) (ns ps : List Node) (v q : Node) (i : ℕ)
      → AreParsedAs ns ps → IsParsedAs v q → i ≤ length ns
      → (i < length ns → ends_as_parsed f ns ≡ true)
      → IsOwnParse (fields_inserted i v f ns) (line_inserted i v f ns) (inserted_at i q ps)

  -- `remove_line`: likewise.
  abbrev pub RemovedIsOwnParse : Type 0
  RemovedIsOwnParse =
      (f : ArrayFields) (ns ps : List Node) (i : ℕ)
      → AreParsedAs ns ps → i < length ns
      → (suc i < length ns → ends_as_parsed f ns ≡ true)
      → IsOwnParse (fields_removed i f ns) (line_removed i f ns) (removed_at i ps)
