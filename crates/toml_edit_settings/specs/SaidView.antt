-- What the keys of the code say.
use Rattle.std.specs.Prelude.{◌≡◌, ◌++◌, List, OnOk, Result, Vec, map, string_bytes}
use Rattle.std.specs.declared.alloc.Global.{Global}
use Rattle.toml_edit_model.specs.Slots as model
use Rattle.toml_edit_model.specs.Tree.{Node}
use Rattle.toml_edit_settings.specs.Said as said
use Rattle.toml_edit_settings.specs.declared.keys.Said.{Said}
use Rattle.toml_edit_settings.specs.declared.keys.Said.TheVariants.{Rule, Excluded, Wrong}
use Rattle.toml_edit_slots.specs.declared.slots.Slot.{Slot}
use Rattle.toml_edit_tree.specs.View.{item_view}
use Rattle.toml_edit_tree.specs.declared.item.Item.{Item}

-- a slot of the code as the tree's
abbrev pub shown_slot : Slot Item → model.Slot Node
shown_slot s = record { key = s.key; item = item_view s.item }

abbrev pub saying : Said → said.Said
saying (Rule pattern name value) = said.sets (string_bytes pattern) (string_bytes name) (string_bytes value)
saying (Excluded pattern) = said.leaves_out (string_bytes pattern)
saying (Wrong at why) = said.is_wrong at why

abbrev pub sayings : Vec Said Global → List said.Said
sayings v = map saying v.items

-- these are put behind others
abbrev pub Adds : {A E : Type 0} → List said.Said → Vec Said Global → Vec Said Global → Result A E → Type 0
Adds more old new result = OnOk result (sayings new ≡ sayings old ++ more)
