-- What is shown of the faults of a print.
use Rattle.std.specs.Prelude.{List, ℕ, codes}
use Rattle.toml_edit.specs.declared.document.print.PrintFault.{PrintFault}
use Rattle.toml_edit.specs.declared.document.print.PrintFault.TheVariants.{Memory, Device}

-- what is shown of a fault
abbrev pub fault_text : PrintFault → List ℕ
fault_text Memory = codes "out of memory"
fault_text Device = codes "write failed"
