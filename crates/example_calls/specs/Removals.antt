-- What is left of a text of which a key is removed.
use Rattle.std.specs.Prelude.{◌≡◌, false, [], Some}
use Rattle.toml_edit.specs.Documents.{IsOwnedTreeOf, MeansWhatIsShown}
use Rattle.toml_edit.specs.laws.Locality.{StaysSteady, framed, outside, texts}
use Rattle.toml_edit.specs.model.Lists.{slot_list, slots_from}
use Rattle.toml_edit.specs.model.Mode.{plain}
use Rattle.toml_edit.specs.model.Paths.{to_key}
use Rattle.toml_edit.specs.model.Print.{printed}
use Rattle.toml_edit.specs.model.Slots.{Slot, lookup_slot, without}
use Rattle.toml_edit.specs.model.Syntax.{Document}
use Rattle.toml_edit.specs.model.Text.{Text}
use Rattle.toml_edit.specs.model.Tree.{Node, Tree}

-- the tree without the slot of this name in its root
abbrev pub without_key : Text → Tree → Tree
without_key name t = record t { slots = slots_from (without name (slot_list t.slots)) }

-- What was written is the normal text of the text without the statements of this key of the root
-- and of all below it. The others are as
-- they were, in their order. It is accepted, and means what the tree shows.
pub record HasKeyRemoved (text name out : Text) : Type 0 where
  pub document : Document
  pub tree : Tree
  pub read : IsOwnedTreeOf text document tree
  pub slot : Slot Node
  pub was : lookup_slot name (slot_list tree.slots) ≡ Some slot
  pub others : printed plain (without_key name tree) ≡ outside plain (to_key [] slot.key.name) tree
  pub print : out ≡ framed plain tree (texts (outside plain (to_key [] slot.key.name) tree))
  pub steady : StaysSteady plain tree (without_key name tree)
  pub back : MeansWhatIsShown plain false (without_key name tree)
