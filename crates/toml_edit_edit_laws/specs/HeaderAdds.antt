-- A value set below keys that are missing, where the last of its new tables has a header.
use Rattle.std.specs.Prelude.{◌≡◌, Bool, true, false, List, [], ◌∷◌, ◌++◌, None}
use Rattle.toml_edit_model.specs.Mode.{Mode}
use Rattle.toml_edit_model.specs.Paths.{Path, to_key}
use Rattle.toml_edit_model.specs.Tree.{Key, Node, no_slots, slot, SlotsAreWellMade, Tree}
use Rattle.toml_edit_model.specs.HeaderOrder.{Visit, visit_of}
use Rattle.toml_edit_model.specs.Print.{printed, printed_table, print_in}
use Rattle.toml_edit_model.specs.Fits.{is_steady_in}
use Rattle.toml_edit_model.specs.Conversions.{new_table}
use Rattle.toml_edit_model.specs.Keys.{cleared_key, names}
use Rattle.toml_edit_model.specs.Slots.{lookup_slot}
use Rattle.toml_edit_model.specs.Lists.{slot_list}
use Rattle.toml_edit_laws.specs.Locality.{framed, is_plain_value, outside, texts}
use Rattle.toml_edit_edit_laws.specs.Commands.{done}
use Rattle.toml_edit_edit_laws.specs.CommandLaws.{NamesTable}
use Rattle.toml_edit_edit_laws.specs.Headed.{set_at_with_headers}
use Rattle.toml_edit_edit_laws.specs.Placing.{inside}

-- The last of the tables that new keys make, as the walk enters it: it alone has a header, and
-- holds the value alone.
abbrev pub last_table : Path → List Key → Key → Key → List Key → Node → Visit
last_table p ks k j [] v =
    visit_of (to_key p k.name) (ks ++ (cleared_key k ∷ [])) false new_table (slot (cleared_key j) v no_slots)
last_table p ks k j (i ∷ more) v = last_table (to_key p k.name) (ks ++ (cleared_key k ∷ [])) j i more v

module _ (mode : Mode) where
  -- The second tree prints the statements of the first, and besides those of one table more: its
  -- header, with an empty line before it unless it is first, and its lines. They are all that is at
  -- the path or below it.
  pub record OneTableMore (t u : Tree) (p : Path) (v : Visit) : Type 0 where
    pub others : outside mode p u ≡ printed mode t
    pub is_first : Bool
    pub own : inside mode p u ≡ printed_table mode is_first v
    pub text : print_in mode false u ≡ framed mode t (texts (printed mode u))

  -- `set_at_with_headers` of a value that is no dotted inline table, where a key before the last is
  -- missing in a table that the walk enters. The new table has no position, so the tree is not
  -- steady.
  abbrev pub SetAddsTable : Type 0
  SetAddsTable =
      (t u : Tree) (path : List Key) (w : Visit) (k j : Key) (more : List Key) (v : Node)
      → SlotsAreWellMade t.slots → is_steady_in mode t ≡ true → is_plain_value v ≡ true
      → NamesTable t (names path) w → lookup_slot k.name (slot_list w.slots) ≡ None
      → set_at_with_headers (path ++ (k ∷ j ∷ more)) v t ≡ done u
      → OneTableMore t u (to_key w.path k.name) (last_table w.path w.keys k j more v)
