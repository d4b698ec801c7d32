-- What is left of a text where a table is removed and a string is added.
use Rattle.std.specs.Prelude.{◌≡◌, ◌++◌, false, List, [], ◌∷◌, Some, None}
use Rattle.toml_edit.specs.model.Keys.{new_key}
use Rattle.toml_edit.specs.model.Lists.{slot_list}
use Rattle.toml_edit.specs.model.Mode.{plain}
use Rattle.toml_edit.specs.model.Print.{print_in}
use Rattle.toml_edit.specs.model.Scalars.{string}
use Rattle.toml_edit.specs.model.Slots.{Slot, keyed, lookup_slot, without}
use Rattle.toml_edit.specs.model.Syntax.{Document}
use Rattle.toml_edit.specs.model.Text.{Text, one}
use Rattle.toml_edit.specs.model.Tree.{TableFields, Node, leaf, table, Slots, Tree, unset}
use Rattle.toml_edit.specs.laws.EditLists.{Edit, add, remove, after_all, AllApply, AllLeave, StaysBut}
use Rattle.toml_edit.specs.Documents.{IsOwnedTreeOf, MeansWhatIsShown}

-- the slot of the name has a table, and is gone
abbrev pub TakesTable : Text → List (Slot Node) → List (Slot Node) → Type 0
TakesTable name es new =
    (s : Slot Node) × (f : TableFields) × (ss : Slots) × (lookup_slot name es ≡ Some s)
    × (s.item ≡ table f ss) × (new ≡ without name es)

-- the key is new, and its slot is last
abbrev pub AddsNew : Text → Node → List (Slot Node) → List (Slot Node) → Type 0
AddsNew key n es new = (lookup_slot key es ≡ None) × (new ≡ es ++ one (keyed (new_key key) n))

abbrev pub Exchanges : Text → Text → Node → List (Slot Node) → List (Slot Node) → Type 0
Exchanges name key n es new = (mid : List (Slot Node)) × TakesTable name es mid × AddsNew key n mid new

abbrev pub ExchangesInTree : Text → Text → Node → Tree → Tree → Type 0
ExchangesInTree name key n t u =
    (u.root ≡ t.root) × (u.trailing ≡ t.trailing) × Exchanges name key n (slot_list t.slots) (slot_list u.slots)

-- the edits: a slot of the root is removed, and a string is added under a new key there
abbrev pub exchanging : Text → Text → Text → List Edit
exchanging name key value = remove [] name ∷ add [] (new_key key) (leaf (string value) None unset) ∷ []

-- What was written is the print of the text's tree without this table, and with this string under a
-- new key at the end of the root's lines:
-- the normal text of the text, but for those statements. It is accepted, and means what the tree
-- shows.
pub record HasExchanged (text name key value out : Text) : Type 0 where
  pub document : Document
  pub tree : Tree
  pub read : IsOwnedTreeOf text document tree
  pub applies : AllApply plain (exchanging name key value) tree
  pub fields : TableFields
  pub slots : Slots
  pub was : applies.0.1.item ≡ table fields slots
  pub leaves : AllLeave plain (exchanging name key value) tree applies
  pub stays : StaysBut plain (exchanging name key value) tree (after_all (exchanging name key value) tree) applies
  pub print : out ≡ print_in plain false (after_all (exchanging name key value) tree)
  pub back : MeansWhatIsShown plain false (after_all (exchanging name key value) tree)
