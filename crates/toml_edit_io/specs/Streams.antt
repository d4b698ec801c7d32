-- What reading to the end and writing a whole text leave.
use Rattle.std.specs.Prelude.{◌≡◌, ℕ, ◌≤◌, Bool, true, List, length, take, codes, Option}
use Rattle.std.specs.Io.KnownBytes.{Appends}
use Rattle.toml_edit_io.specs.declared.streams.ReadFault.{ReadFault}
use Rattle.toml_edit_io.specs.declared.streams.ReadFault.TheVariants.{Memory, Broken}

-- known bytes grow by a beginning of bs
abbrev pub AppendsBeginning : Option (List ℕ) → Option (List ℕ) → List ℕ → Type 0
AppendsBeginning old new bs = (n : ℕ) × (n ≤ length bs) × Appends old new (take n bs)

-- whether the input has failed, before a read to the end and after it: the fault is the input's
-- own, or it has none
abbrev pub ReadFaultLeaves : Bool → Bool → ReadFault → Type 0
ReadFaultLeaves old new Memory = new ≡ old
ReadFaultLeaves old new Broken = new ≡ true

-- what is shown of a fault
abbrev pub fault_text : ReadFault → List ℕ
fault_text Memory = codes "out of memory"
fault_text Broken = codes "broken"
