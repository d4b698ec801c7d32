-- What edits leave of the printed statements of a steady tree: those at paths that they don't name.
use Rattle.std.specs.Prelude.{◌≡◌, ◌⊎◌, Bool, true, false, List, [], ◌∷◌, ◌++◌, map, string_bytes, IsPermutation, None, Some, Ok, Result, Err}
use Rattle.std.specs.List.{list_all}
use Rattle.toml_edit_model.specs.Conversions.{formatted, new_table}
use Rattle.toml_edit_model.specs.Fits.{FitsIn, is_steady_in}
use Rattle.toml_edit_model.specs.HeaderOrder.{Visit, visit_of}
use Rattle.toml_edit_model.specs.Keys.{cleared_key, names}
use Rattle.toml_edit_model.specs.Lists.{item_list, slot_list, slots_from}
use Rattle.toml_edit_model.specs.Mode.{Mode}
use Rattle.toml_edit_model.specs.Paths.{Path, to_element, to_key}
use Rattle.toml_edit_model.specs.Print.{lines_of, printed, printed_table}
use Rattle.toml_edit_model.specs.Slots.{keyed, lookup_slot}
use Rattle.toml_edit_model.specs.Text.{Text, is_empty, one}
use Rattle.toml_edit_model.specs.Tree.{ArrayFields, Extent, InlineFields, IsWellMade, Items, Key, Node, Slots, SlotsAreWellMade, TableFields, Tree, inline, is_value_node, list, no_slots, tables}
use Rattle.toml_edit_laws.specs.Locality.{StaysSteady, element_count, has_block, is_plain_value}
use Rattle.toml_edit_edit_laws.specs.CallsFit.{IsHarmlessBelow}
use Rattle.toml_edit_edit_laws.specs.Commands.{item_at}
use Rattle.toml_edit_edit_laws.specs.CommandLaws.{AreSpelled, NamesTable, is_scalar}
use Rattle.toml_edit_edit_laws.specs.HeaderAdds.{OneTableMore, last_table}
use Rattle.toml_edit_edit_laws.specs.PathEdits.{with_last}
use Rattle.toml_edit_edit_laws.specs.Staying.{StaysButAt}
use Rattle.toml_edit_tree.specs.View.{value_view}
use Rattle.toml_edit_edits.specs.Effects.{changed_below, headed}
use Rattle.toml_edit_edits.specs.Elements.{inserted, is_tables_at}
use Rattle.toml_edit_edits.specs.FirstTable.{tabled}
use Rattle.toml_edit_edits.specs.Lists.{applied, effect}
use Rattle.toml_edit_edits.specs.Sections.{HasNextPosition, section_fields, sectioned}
use Rattle.toml_edit_edit_laws.specs.Places.{place_of}
use Rattle.toml_edit_edits.specs.declared.edit.Edit.{Edit}
use Rattle.toml_edit_edits.specs.declared.edit.Edit.TheVariants as edits
use Rattle.toml_edit_edits.specs.declared.fault.EditFault.{EditFault}

-- ---- the paths of an edit

-- the paths that an edit names: of a renaming and of a move also the new one
abbrev pub paths_of : Edit → List (List Text)
paths_of (edits.Set path v) = one (names path.items)
paths_of (edits.Header path v) = one (names path.items)
paths_of (edits.Remove path) = one (names path.items)
paths_of (edits.Append path v) = one (names path.items)
paths_of (edits.Insert path v) = one (names path.items)
paths_of (edits.Take path v) = one (names path.items)
paths_of (edits.Table path v) = one (names path.items)
paths_of (edits.Section path) = one (names path.items)
paths_of (edits.Rename path u) = names path.items ∷ one (with_last (string_bytes u) (names path.items))
paths_of (edits.Move path to) = names path.items ∷ one (names to.items)
paths_of (edits.Sort path) = one (names path.items)
paths_of (edits.Comment path text) = one (names path.items)

-- the places in the tree that was left, if it was
abbrev pub where_done : (Tree → List Path) → Result Tree EditFault → List Path
where_done go (Ok u) = go u
where_done go (Err f) = []

-- the places of the paths of edits, of each in the tree that those before it left
abbrev pub places_of : List Edit → Tree → List Path
places_of [] t = []
places_of (e ∷ es) t = map (place_of t) (paths_of e) ++ where_done (places_of es) (effect e t)

-- ---- which edits are sorts

-- a sort of a table that its path names
abbrev pub IsSort : Edit → Tree → Type 0
IsSort (edits.Sort path) t = (v : Visit) × NamesTable t (names path.items) v
IsSort _ t = ⊥

-- so is each of edits, in the tree that those before it left
abbrev pub AreSorts : List Edit → Tree → Type 0
AreSorts [] t = Unit {0}
AreSorts (e ∷ es) t = IsSort e t × ((u : Tree) → effect e t ≡ Ok u → AreSorts es u)

-- ---- which trees are well made

-- the tree, and each that edits leave, one after another
abbrev pub LeaveWellMade : List Edit → Tree → Type 0
LeaveWellMade [] t = SlotsAreWellMade t.slots
LeaveWellMade (e ∷ es) t =
    SlotsAreWellMade t.slots × ((u : Tree) → effect e t ≡ Ok u → LeaveWellMade es u)

-- ---- values that are put

-- a well-made value that is no dotted inline table
abbrev pub IsWellMadePlain : Node → Type 0
IsWellMadePlain n = (is_plain_value n ≡ true) × IsWellMade n

-- ---- tables of the pairs of inline tables

abbrev pub has_values : Slots → Bool
has_values ss = list_all (λ s. is_value_node s.item) (slot_list ss)

-- such a table as the walk enters it, as an element
abbrev pub element_visit : Path → List Key → Slots → Visit
element_visit p ks ss = visit_of p ks true new_table (slots_from (formatted (slot_list ss)))

-- the same as the first element of an array below new keys
abbrev pub first_visit : Path → List Key → Key → List Key → Slots → Visit
first_visit p ks k [] ss = element_visit (to_element (to_key p k.name) 0) (ks ++ one (cleared_key k)) ss
first_visit p ks k (j ∷ more) ss = first_visit (to_key p k.name) (ks ++ one (cleared_key k)) j more ss

-- ---- empty tables with headers

-- where one may be added: at a new key of a table that the walk enters, or below such a key
pub record IsNewBelow (t : Tree) (path : List Key) : Type 0 where
  pub above : List Key
  pub key : Key
  pub below : List Key
  pub visit : Visit
  pub is : path ≡ above ++ (key ∷ below)
  pub spelled : AreSpelled (key ∷ below)
  pub named : NamesTable t (names above) visit
  pub none : lookup_slot key.name (slot_list visit.slots) ≡ None
  pub room : HasNextPosition t

-- such a table as the walk enters it, below new keys
abbrev pub section_visit : Path → List Key → Key → List Key → TableFields → Visit
section_visit p ks k [] f = visit_of (to_key p k.name) (ks ++ one (cleared_key k)) false f no_slots
section_visit p ks k (j ∷ more) f = section_visit (to_key p k.name) (ks ++ one (cleared_key k)) j more f

-- ---- which edits leave a steady tree

module _ (mode : Mode) where
  -- the root, a table whose header is printed, or one that has lines, as a dotted table has
  abbrev pub TakesLines : Visit → Type 0
  TakesLines w = (has_block mode w ≡ true) ⊎ (is_empty (lines_of mode w) ≡ false)

  -- Where a value may be put so that one statement changes or is added: in a value, or below a new
  -- key of such a table. These keys are between the new one and the value.
  pub data HasPlace (t : Tree) (path below : List Key) : Type 0 where
    in_value : (front inner : List Key) (old : Node) → path ≡ front ++ inner → AreSpelled inner
        → item_at (names front) t ≡ Some old → is_value_node old ≡ true → HasPlace t path below
    at_new_key : (front : List Key) (k : Key) (w : Visit) → path ≡ front ++ (k ∷ below)
        → AreSpelled (k ∷ below) → NamesTable t (names front) w
        → lookup_slot k.name (slot_list w.slots) ≡ None → TakesLines w → HasPlace t path below

  -- where a key may be moved so: below its own table; or with a value, into another value or table
  pub data MayMove (t : Tree) (from to : List Text) : Type 0 where
    beside : (above : List Text) (k u : Text) → from ≡ above ++ one k → to ≡ above ++ one u
        → is_tables_at above t ≡ false → MayMove t from to
    into_value : (n old : Node) (target : List Text) (u : Text) → item_at from t ≡ Some n
        → is_plain_value n ≡ true → to ≡ target ++ one u → item_at target t ≡ Some old
        → is_value_node old ≡ true → MayMove t from to
    into_table : (n : Node) (w : Visit) (target : List Text) (u : Text) → item_at from t ≡ Some n
        → is_plain_value n ≡ true → to ≡ target ++ one u → NamesTable t target w → TakesLines w
        → MayMove t from to

  -- What is put is well made and has a place. Of `header` no table is missing. What is added to an
  -- array of tables has no place of its own: see `ElementAddsTable`.
  abbrev pub IsLocal : Edit → Tree → Type 0
  IsLocal (edits.Set path v) t =
      IsWellMadePlain (value_view v) × ((below : List Key) × HasPlace t path.items below)
  IsLocal (edits.Header path v) t = IsWellMadePlain (value_view v) × HasPlace t path.items []
  IsLocal (edits.Append path v) t =
      IsWellMade (value_view v) × (is_tables_at (names path.items) t ≡ false)
  IsLocal (edits.Insert path v) t =
      IsWellMade (value_view v)
      × ((above : List Key) (k : Key) → path.items ≡ above ++ one k
      → is_tables_at (names above) t ≡ false)
  IsLocal (edits.Take path v) t = is_tables_at (names path.items) t ≡ false
  IsLocal (edits.Table path v) t = ⊥
  IsLocal (edits.Section path) t = IsNewBelow t path.items
  IsLocal (edits.Move path to) t = MayMove t (names path.items) (names to.items)
  IsLocal _ t = Unit {0}

  -- so is each of edits, in the tree that those before it left
  abbrev pub AreLocal : List Edit → Tree → Type 0
  AreLocal [] t = Unit {0}
  AreLocal (e ∷ es) t = IsLocal e t × ((u : Tree) → effect e t ≡ Ok u → AreLocal es u)

  -- ---- which of them leave a tree that fits

  -- a scalar in the place of a value, or a value with white space around it that fits anywhere
  abbrev pub IsHarmlessAt : (t : Tree) (path below : List Key) (v : Node) → HasPlace t path below → Type 0
  IsHarmlessAt t path below v (in_value front inner old same spelled there value) =
      (is_scalar v ≡ true) × (inner ≡ []) × (is_plain_value old ≡ true)
  IsHarmlessAt t path below v (at_new_key front k w same spelled named is_new takes) =
      IsHarmlessBelow mode below v

  -- Such a value is put, or what is removed is no element of an array.
  abbrev pub IsHarmless : (e : Edit) (t : Tree) → IsLocal e t → Type 0
  IsHarmless (edits.Set path v) t a = IsHarmlessAt t path.items a.1.0 (value_view v) a.1.1
  IsHarmless (edits.Header path v) t a = IsHarmlessAt t path.items [] (value_view v) a.1
  IsHarmless (edits.Remove path) t a =
      (above : List Text) (k : Text) (f : ArrayFields) (xs : Items)
      → names path.items ≡ above ++ one k → item_at above t ≡ Some (list f xs) → ⊥
  IsHarmless _ t a = ⊥

  abbrev pub AreHarmless : (es : List Edit) (t : Tree) → AreLocal es t → Type 0
  AreHarmless [] t a = Unit {0}
  AreHarmless (e ∷ es) t a =
      IsHarmless e t a.0 × ((u : Tree) (is : effect e t ≡ Ok u) → AreHarmless es u (a.1 u is))

  -- ---- what they leave

  -- All statements stay, byte for byte and in their order, but those at the places of the edits, and
  -- below them. After harmless edits a tree that fitted fits. After sorts of tables all statements
  -- are there, in another order. Each tree on the way is well made.
  pub record StayElsewhere (es : List Edit) (t u : Tree) (local : AreLocal es t) : Type 0 where
    pub stays : StaysButAt mode (places_of es t) t u
    pub fits : FitsIn mode t → AreHarmless es t local → FitsIn mode u
    pub sorts : AreSorts es t → IsPermutation (printed mode t) (printed mode u)
    pub made : LeaveWellMade es t

  -- So it is where such edits are made in a steady tree.
  abbrev pub OthersStay : List Edit → Tree → Tree → Type 0
  OthersStay es t u =
      SlotsAreWellMade t.slots → is_steady_in mode t ≡ true → (local : AreLocal es t)
      → StayElsewhere es t u local

  abbrev pub AppliedStay : Type 0
  AppliedStay = (es : List Edit) (t u : Tree) → applied es t ≡ Ok u → OthersStay es t u

  -- A header of which tables are missing adds one table. The new table has no position, so the tree
  -- is not steady then.
  abbrev pub HeaderAddsTable : Type 0
  HeaderAddsTable =
      (t u : Tree) (path : List Key) (w : Visit) (k j : Key) (more : List Key) (v : Node)
      → SlotsAreWellMade t.slots → is_steady_in mode t ≡ true → is_plain_value v ≡ true
      → NamesTable t (names path) w → lookup_slot k.name (slot_list w.slots) ≡ None
      → headed (path ++ (k ∷ j ∷ more)) v t ≡ Ok u
      → OneTableMore mode t u (to_key w.path k.name) (last_table w.path w.keys k j more v)

  -- A table that is added at the end of an array of tables, whose pairs are values, is one more. It
  -- has no position, so the tree is not steady then.
  abbrev pub ElementAddsTable : Type 0
  ElementAddsTable =
      (t u : Tree) (path : List Text) (w : Visit) (k : Text) (l : Key) (e : Extent) (xs : Items)
      (f : InlineFields) (ss : Slots) → SlotsAreWellMade t.slots → is_steady_in mode t ≡ true
      → NamesTable t path w → lookup_slot k (slot_list w.slots) ≡ Some (keyed l (tables e xs))
      → has_values ss ≡ true → changed_below (inserted None (inline f ss)) (path ++ one k) t ≡ Ok u
      → let q = to_element (to_key w.path l.name) (element_count (item_list xs)) in
      OneTableMore mode t u q (element_visit q (w.keys ++ one l) ss)

  -- So is the first one of an array.
  abbrev pub FirstAddsTable : Type 0
  FirstAddsTable =
      (t u : Tree) (path : List Key) (w : Visit) (k : Key) (more : List Key) (f : InlineFields)
      (ss : Slots) → SlotsAreWellMade t.slots → is_steady_in mode t ≡ true
      → NamesTable t (names path) w → lookup_slot k.name (slot_list w.slots) ≡ None
      → has_values ss ≡ true → tabled (path ++ (k ∷ more)) (inline f ss) t ≡ Ok u
      → OneTableMore mode t u (to_key w.path k.name) (first_visit w.path w.keys k more ss)

  -- The statements of the second tree are those of the first, and after them those of a table more,
  -- which is empty. It is steady.
  abbrev pub AddsHeader : Tree → Tree → Visit → Type 0
  AddsHeader t u v = (printed mode u ≡ printed mode t ++ printed_table mode true v) × StaysSteady mode t u

  -- So it is where such a table is added.
  abbrev pub SectionAddsHeader : Type 0
  SectionAddsHeader =
      (t u : Tree) (path : List Key) (w : Visit) (k : Key) (more : List Key)
      → SlotsAreWellMade t.slots → is_steady_in mode t ≡ true → HasNextPosition t
      → NamesTable t (names path) w → lookup_slot k.name (slot_list w.slots) ≡ None
      → sectioned (path ++ (k ∷ more)) t ≡ Ok u
      → AddsHeader t u (section_visit w.path w.keys k more (section_fields t))
