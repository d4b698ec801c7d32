-- Why a change is refused.
use Rattle.std.specs.Prelude.{codes}
use Rattle.toml_edit_model.specs.Text.{Text}
use Rattle.toml_edit_paths.specs.declared.fault.ChangeFault.{ChangeFault}
use Rattle.toml_edit_paths.specs.declared.fault.ChangeFault.TheVariants.{NoSuchPath, WrongKind, Memory}

-- what is shown of it
abbrev pub fault_text : ChangeFault → Text
fault_text NoSuchPath = codes "no such path"
fault_text WrongKind = codes "wrong kind"
fault_text Memory = codes "out of memory"
