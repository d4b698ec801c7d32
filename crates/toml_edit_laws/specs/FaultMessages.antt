-- The faults of a value have the messages of faults.
use Rattle.std.specs.Prelude.{ℕ, Contains}
use Rattle.std.specs.List.{AllByRecursion}
use Rattle.toml_edit_model.specs.Syntax.{Value}
use Rattle.toml_edit_model.specs.Faults.{value_faults}
use Rattle.toml_edit_model.specs.Messages.{fault_messages}

-- wherever the value is, inside however many brackets
abbrev pub FaultMessages : Type 0
FaultMessages =
    (v : Value) (start level : ℕ)
    → AllByRecursion (λ f. Contains fault_messages f.message) (value_faults v start level)
