-- What `set` and `remove` change of the statements of what was read.
use Rattle.std.specs.Prelude.{◌≡◌, ℕ, true, List, [], ◌∷◌, ◌++◌, map, Some, None}
use Rattle.toml_edit_model.specs.Text.{Text}
use Rattle.toml_edit_model.specs.Mode.{Mode}
use Rattle.toml_edit_model.specs.Syntax.{Document}
use Rattle.toml_edit_model.specs.Paths.{to_key}
use Rattle.toml_edit_model.specs.Tree.{Key, Node, Tree, is_value_node}
use Rattle.toml_edit_model.specs.HeaderOrder.{Visit}
use Rattle.toml_edit_model.specs.Keys.{new_key}
use Rattle.toml_edit_model.specs.Slots.{Slot, keyed, lookup_slot}
use Rattle.toml_edit_model.specs.Lists.{slot_list}
use Rattle.toml_edit_laws.specs.Locality.{into_element, Leads, has_block}
use Rattle.toml_edit_edit_laws.specs.Commands.{Answer, done, number_of, set_below, set_at, remove_below, remove_at}
use Rattle.toml_edit_edit_laws.specs.CommandLaws.{NamesTable, ChangesStatement, AddsStatement, DropsStatements, made_below}

-- `set_at` of keys with these names: a missing one gets its default spelling
abbrev pub set_names : List Text → Node → Tree → Answer Tree
set_names names v t = set_at (map new_key names) v t

-- A claim about the key that ends a path in a table that the walk of the print enters: about the
-- table's path, the visit of that table, the key, and the keys below it.
abbrev pub AtKey : Tree → List Text → (List Text → Visit → Text → List Text → Type 0) → Type 0
AtKey t names Is =
    (path : List Text) (v : Visit) (k : Text) (inner : List Text) → names ≡ path ++ (k ∷ inner)
    → NamesTable t path v → Is path v k inner

module _ (mode : Mode) where
  -- ---- set

  -- At a value, or inside one: its statement changes, in its frame.
  abbrev pub ChangesOne : Document → Tree → Tree → List Text → Node → Type 0
  ChangesOne d t u names value =
      AtKey t names
      (λ path v k inner. (l : Key) (old n : Node)
      → lookup_slot k (slot_list v.slots) ≡ Some (keyed l old) → is_value_node old ≡ true
      → set_below value (map new_key inner) old ≡ done n
      → ChangesStatement mode d t u (to_key v.path l.name) old n)

  -- At a new key of the root or of a table that has a header, or below one: one statement more,
  -- after the others of the table.
  abbrev pub AddsOne : Document → Tree → Tree → List Text → Node → Type 0
  AddsOne d t u names value =
      AtKey t names
      (λ path v k more. lookup_slot k (slot_list v.slots) ≡ None → has_block mode v ≡ true
      → AddsStatement mode d t u v (new_key k) (made_below (map new_key more) value))

  -- The second tree is the first with the value at the path, all else as it was.
  pub record Sets (d : Document) (t u : Tree) (names : List Text) (value : Node) : Type 0 where
    pub done : set_names names value t ≡ done u
    pub changes : ChangesOne d t u names value
    pub adds : AddsOne d t u names value

  -- ---- remove

  -- At a slot: its statements go, with those of all below it.
  abbrev pub DropsSlot : Document → Tree → Tree → List Text → Type 0
  DropsSlot d t u names =
      (path : List Text) (v : Visit) (k : Text) (s : Slot Node) → names ≡ path ++ (k ∷ [])
      → NamesTable t path v → lookup_slot k (slot_list v.slots) ≡ Some s
      → DropsStatements mode d t u (to_key v.path s.key.name)

  -- At an element of an array of tables: its own go, with those of all below it.
  abbrev pub DropsElement : Document → Tree → Tree → List Text → Type 0
  DropsElement d t u names =
      (path : List Text) (v w : Visit) (k x : Text) (i : ℕ) → names ≡ path ++ (k ∷ x ∷ [])
      → NamesTable t path v → number_of x ≡ Some i
      → Leads (into_element k i ∷ []) v w → DropsStatements mode d t u w.path

  -- Inside a value: that value's statement changes, in its frame.
  abbrev pub DropsInside : Document → Tree → Tree → List Text → Type 0
  DropsInside d t u names =
      AtKey t names
      (λ path v k inner. (l : Key) (old n : Node)
      → lookup_slot k (slot_list v.slots) ≡ Some (keyed l old) → is_value_node old ≡ true
      → remove_below inner old ≡ done n → ChangesStatement mode d t u (to_key v.path l.name) old n)

  -- The second tree is the first without the slot or the element at the path, all else as it was.
  pub record Removes (d : Document) (t u : Tree) (names : List Text) : Type 0 where
    pub done : remove_at names t ≡ done u
    pub slot : DropsSlot d t u names
    pub element : DropsElement d t u names
    pub inside : DropsInside d t u names
