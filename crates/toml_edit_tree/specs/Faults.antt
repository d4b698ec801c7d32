-- Why `index_or_insert` gives no item.
use Rattle.std.specs.Prelude.{codes}
use Rattle.toml_edit_model.specs.Text.{Text}
use Rattle.toml_edit_tree.specs.declared.index.IndexFault.{IndexFault}
use Rattle.toml_edit_tree.specs.declared.index.IndexFault.TheVariants.{WrongKind, Memory}

-- what is shown of it
abbrev pub fault_text : IndexFault → Text
fault_text WrongKind = codes "wrong kind of item"
fault_text Memory = codes "out of memory"
