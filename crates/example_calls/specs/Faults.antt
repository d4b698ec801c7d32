-- Why the text of a document is not edited.
use Rattle.std.specs.Prelude.{◌≡◌, true, ◌++◌, List, None, codes, is_some, option_and_then}
use Rattle.toml_edit.specs.Documents.{IsOwnedReading, IsRefusal}
use Rattle.toml_edit.specs.change.declared.fault.ChangeFault as changing
use Rattle.toml_edit.specs.change.declared.fault.ChangeFault.TheVariants as changings
use Rattle.toml_edit.specs.error.declared.toml_error.ParseFault as parsing
use Rattle.toml_edit.specs.error.declared.toml_error.ParseFault.TheVariants as parsings
use Rattle.toml_edit.specs.model.Excerpt.{excerpt}
use Rattle.toml_edit.specs.model.Lists.{slot_list}
use Rattle.toml_edit.specs.model.Slots.{Slot, lookup, lookup_key, without}
use Rattle.toml_edit.specs.model.Text.{Text, newline}
use Rattle.toml_edit.specs.model.Tree.{Node, Tree}
use Rattle.toml_edit.specs.tree.Containers.{table_in}
use Rattle.example_calls.specs.declared.fault.EditFault.{EditFault}
use Rattle.example_calls.specs.declared.fault.EditFault.TheVariants.{Toml, Memory, Missing, Present}
use Rattle.example_calls.specs.Paths.{value_below}

-- what is shown of it
abbrev pub fault_text : EditFault → Text
fault_text (Toml e) = excerpt e.input e.span e.message
fault_text Memory = codes "out of memory" ++ newline
fault_text Missing = codes "not found" ++ newline
fault_text Present = codes "already there" ++ newline

-- a fault of parsing, passed on
abbrev pub parsing_fault : parsing.ParseFault → EditFault
parsing_fault (parsings.Toml e) = Toml e
parsing_fault parsings.Memory = Memory

-- a fault of a change, passed on
abbrev pub changing_fault : changing.ChangeFault → EditFault
changing_fault changings.NoSuchPath = Missing
changing_fault changings.WrongKind = Missing
changing_fault changings.Memory = Memory

-- why no value under a key of a table is replaced: the text is refused; or its tree has no value
-- there
abbrev pub SetFails : Text → Text → Text → EditFault → Type 0
SetFails text name key (Toml report) = IsRefusal text report
SetFails text name key Memory = Unit {0}
SetFails text name key Missing =
    (t : Tree) × IsOwnedReading text t × (value_below name key (slot_list t.slots) ≡ None)
SetFails text name key Present = ⊥

-- why a slot that has a table is not removed and a key not added: there is no such table; or there
-- is, and the key is one of the others
abbrev pub SlotsStay : Text → Text → List (Slot Node) → EditFault → Type 0
SlotsStay name key es Memory = Unit {0}
SlotsStay name key es Missing = option_and_then table_in (lookup name es) ≡ None
SlotsStay name key es Present =
    (is_some (option_and_then table_in (lookup name es)) ≡ true)
    × (is_some (lookup_key key (without name es)) ≡ true)
SlotsStay name key es (Toml report) = ⊥

-- why no table is removed and no string added: the text is refused; or so it is with the slots of
-- its root
abbrev pub ExchangeFails : Text → Text → Text → EditFault → Type 0
ExchangeFails text name key (Toml report) = IsRefusal text report
ExchangeFails text name key Memory = Unit {0}
ExchangeFails text name key Missing =
    (t : Tree) × IsOwnedReading text t × SlotsStay name key (slot_list t.slots) Missing
ExchangeFails text name key Present =
    (t : Tree) × IsOwnedReading text t × SlotsStay name key (slot_list t.slots) Present

-- why no key of the root is removed: the text is refused; or there is no such key
abbrev pub RemovalFails : Text → Text → EditFault → Type 0
RemovalFails text name (Toml report) = IsRefusal text report
RemovalFails text name Memory = Unit {0}
RemovalFails text name Missing =
    (t : Tree) × IsOwnedReading text t × (lookup name (slot_list t.slots) ≡ None)
RemovalFails text name Present = ⊥
