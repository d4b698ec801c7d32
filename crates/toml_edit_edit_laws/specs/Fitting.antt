-- Edits after which a tree that fits still fits, so that its print reads back.
use Rattle.std.specs.Prelude.{◌≡◌, ◌⊎◌, true, false, ◌&&◌, nat_le, List, [], ◌∷◌, ◌++◌, Option, None}
use Rattle.toml_edit_model.specs.Mode.{Mode}
use Rattle.toml_edit_model.specs.Text.{is_empty, one}
use Rattle.toml_edit_model.specs.Trivia.{IsWhiteSpace}
use Rattle.toml_edit_model.specs.Scalars.{Scalar}
use Rattle.toml_edit_model.specs.Syntax.{depth, nesting_limit, has_short_keys}
use Rattle.toml_edit_model.specs.Tree.{Raw, Decor, Key, Node, leaf, SlotsAreWellMade, Tree, shown_prefix, shown_suffix, node_decor}
use Rattle.toml_edit_model.specs.HeaderOrder.{Visit}
use Rattle.toml_edit_model.specs.Print.{value_of, lines_of}
use Rattle.toml_edit_model.specs.Fits.{Suits, FitsIn, is_steady_in}
use Rattle.toml_edit_model.specs.Slots.{keyed, lookup_slot}
use Rattle.toml_edit_model.specs.Lists.{slot_list}
use Rattle.toml_edit_laws.specs.Locality.{Turn, Leads, root_visit, edited, is_plain_value}
use Rattle.toml_edit_laws.specs.EditLists.{Edit, replace, add, remove, remove_element, after, after_all, Applies, AllApply}

module _ (mode : Mode) where
  -- ---- harmless edits

  -- white space on each side, or nothing
  abbrev pub IsSpaced : Decor → Type 0
  IsSpaced d = IsWhiteSpace (shown_prefix mode [] d) × IsWhiteSpace (shown_suffix mode [] d)

  -- the decor of what was there before, or white space
  abbrev pub IsKeptOrSpaced : Decor → Decor → Type 0
  IsKeptOrSpaced old d = (d ≡ old) ⊎ IsSpaced d

  -- The value fits wherever a value may stand: the decors inside it suit their places, and it keeps
  -- the limits.
  abbrev pub FitsAnywhere : Node → Type 0
  FitsAnywhere n =
      Suits mode n
      × ((nat_le (depth (value_of mode n)) nesting_limit && has_short_keys (value_of mode n)) ≡ true)

  -- such a value, with white space around it and its key
  abbrev pub IsHarmlessSlot : Key → Node → Type 0
  IsHarmlessSlot k n =
      IsSpaced k.leaf × IsSpaced k.dotted × IsSpaced (node_decor n) × FitsAnywhere n

  -- What is written is such a value, and one that replaces another may have its decors. Each removal
  -- is harmless.
  abbrev pub IsHarmless : (e : Edit) (t : Tree) → Applies mode e t → Type 0
  IsHarmless (replace way k f n) t a =
      IsKeptOrSpaced a.1.leaf (f a.1).leaf × IsKeptOrSpaced a.1.dotted (f a.1).dotted
      × IsKeptOrSpaced (node_decor a.2) (node_decor n) × FitsAnywhere n
  IsHarmless (add way k n) t a = IsHarmlessSlot k n
  IsHarmless (remove way k) t a = Unit {0}
  IsHarmless (remove_element way k i) t a = Unit {0}

  -- each of the tree that those before it leave
  abbrev pub AreHarmless : (es : List Edit) (t : Tree) → AllApply mode es t → Type 0
  AreHarmless [] t a = Unit {0}
  AreHarmless (e ∷ es) t a = IsHarmless e t a.0 × AreHarmless es (after e t) a.1

  -- ---- laws

  abbrev pub StillFits : Type 0
  StillFits =
      (e : Edit) (t : Tree) → SlotsAreWellMade t.slots → is_steady_in mode t ≡ true
      → FitsIn mode t → (a : Applies mode e t) → IsHarmless e t a → FitsIn mode (after e t)

  abbrev pub StillFitsAfterAll : Type 0
  StillFitsAfterAll =
      (es : List Edit) (t : Tree) → SlotsAreWellMade t.slots → is_steady_in mode t ≡ true
      → FitsIn mode t → (a : AllApply mode es t) → AreHarmless es t a
      → FitsIn mode (after_all es t)

  -- A value is added under a new key of a table that has lines, such as a dotted one.
  abbrev pub StillFitsAfterLines : Type 0
  StillFitsAfterLines =
      (t : Tree) (way : List Turn) (v : Visit) (k : Key) (n : Node)
      → SlotsAreWellMade t.slots → is_steady_in mode t ≡ true → FitsIn mode t
      → Leads way (root_visit t) v → lookup_slot k.name (slot_list v.slots) ≡ None
      → is_plain_value n ≡ true → is_empty (lines_of mode v) ≡ false → IsHarmlessSlot k n
      → FitsIn mode (edited way (λ ss. ss ++ one (keyed k n)) t)

  abbrev pub ScalarsFitAnywhere : Type 0
  ScalarsFitAnywhere =
      (s : Scalar) (spelling : Option Raw) (d : Decor) → FitsAnywhere (leaf s spelling d)
