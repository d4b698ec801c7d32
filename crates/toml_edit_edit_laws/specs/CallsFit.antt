-- Calls by paths after which a tree that fits still fits, so that its print reads back.
use Rattle.std.specs.Prelude.{◌≡◌, ◌+◌, true, false, nat_le, List, ◌∷◌, ◌++◌, length, Some, None}
use Rattle.toml_edit_model.specs.Mode.{Mode}
use Rattle.toml_edit_model.specs.Text.{Text, is_empty}
use Rattle.toml_edit_model.specs.Syntax.{depth, nesting_limit}
use Rattle.toml_edit_model.specs.Tree.{Key, Node, IsWellMade, SlotsAreWellMade, Tree, node_decor}
use Rattle.toml_edit_model.specs.HeaderOrder.{Visit}
use Rattle.toml_edit_model.specs.Print.{value_of, lines_of}
use Rattle.toml_edit_model.specs.Fits.{FitsIn, is_steady_in}
use Rattle.toml_edit_model.specs.Keys.{names}
use Rattle.toml_edit_model.specs.Slots.{lookup_slot}
use Rattle.toml_edit_model.specs.Lists.{slot_list}
use Rattle.toml_edit_laws.specs.Locality.{is_plain_value, has_block}
use Rattle.toml_edit_edit_laws.specs.Commands.{done, item_at, set_at, remove_at}
use Rattle.toml_edit_edit_laws.specs.CommandLaws.{AreSpelled, NamesTable, is_scalar}
use Rattle.toml_edit_edit_laws.specs.Fitting.{IsSpaced, FitsAnywhere}

module _ (mode : Mode) where
  -- `set_at` of a scalar, at a value or inside one. The scalar gets the decor of that value, which is
  -- printed unless the value is a dotted inline table.
  abbrev pub SetReplacesFits : Type 0
  SetReplacesFits =
      (t u : Tree) (path : List Key) (v old : Node) → SlotsAreWellMade t.slots
      → is_steady_in mode t ≡ true → FitsIn mode t → IsWellMade v → is_scalar v ≡ true
      → item_at (names path) t ≡ Some old → is_plain_value old ≡ true
      → set_at path v t ≡ done u → FitsIn mode u

  -- a value with white space around it, which fits anywhere, also below that many new keys
  abbrev pub IsHarmlessBelow : List Key → Node → Type 0
  IsHarmlessBelow more v =
      IsSpaced mode (node_decor v) × FitsAnywhere mode v
      × (nat_le (length more + depth (value_of mode v)) nesting_limit ≡ true)

  -- `set_at` of such a value, at a new key of the root, or of a table whose header is printed, or
  -- below one.
  abbrev pub SetAddsUnderFits : Type 0
  SetAddsUnderFits =
      (t u : Tree) (path : List Key) (w : Visit) (k : Key) (more : List Key) (v : Node)
      → SlotsAreWellMade t.slots → is_steady_in mode t ≡ true → FitsIn mode t → IsWellMade v
      → is_plain_value v ≡ true → AreSpelled (k ∷ more) → NamesTable t (names path) w
      → lookup_slot k.name (slot_list w.slots) ≡ None → has_block mode w ≡ true
      → IsHarmlessBelow more v → set_at (path ++ (k ∷ more)) v t ≡ done u → FitsIn mode u

  -- The same at a new key of a table that has lines, as a dotted table has.
  abbrev pub SetAddsAfterLinesFits : Type 0
  SetAddsAfterLinesFits =
      (t u : Tree) (path : List Key) (w : Visit) (k : Key) (more : List Key) (v : Node)
      → SlotsAreWellMade t.slots → is_steady_in mode t ≡ true → FitsIn mode t
      → is_plain_value v ≡ true → NamesTable t (names path) w
      → lookup_slot k.name (slot_list w.slots) ≡ None → is_empty (lines_of mode w) ≡ false
      → IsHarmlessBelow more v → set_at (path ++ (k ∷ more)) v t ≡ done u → FitsIn mode u

  -- `remove_at`, whatever is removed.
  abbrev pub RemoveFits : Type 0
  RemoveFits =
      (t u : Tree) (path : List Text) → SlotsAreWellMade t.slots → is_steady_in mode t ≡ true
      → FitsIn mode t → remove_at path t ≡ done u → FitsIn mode u
