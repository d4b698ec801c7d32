-- What reading a key's text, or a scalar, returns.
use Rattle.std.specs.Prelude.{◌≡◌, ℕ, ◌+◌, true, false, length, Some, Result, Ok, Err}
use Rattle.toml_edit_model.specs.Text.{Text}
use Rattle.toml_edit_model.specs.Scalars.{Scalar}
use Rattle.toml_edit_model.specs.Spelling.{is_in_range}
use Rattle.toml_edit_model.specs.Faults.{fault, range_message}
use Rattle.toml_edit_model.specs.Tree.{Node, span, unset, leaf}
use Rattle.toml_edit_error.specs.Report.{Report, fault_of}
use Rattle.toml_edit_error.specs.Fault.{IfToml}
use Rattle.toml_edit_error.specs.declared.toml_error.ParseFault.{ParseFault}
use Rattle.toml_edit_tree.specs.declared.value.Value as code
use Rattle.toml_edit_tree.specs.View.{value_view}

-- the name of a key that was read, as a value with this text; reading it fails only if memory runs
-- out
abbrev pub ReadsName : {A : Type 0} → (A → Text) → Text → Result A ParseFault → Type 0
ReadsName text k (Ok s) = text s ≡ k
ReadsName text k (Err e) = IfToml e (λ r. ⊥)

-- the scalar that begins at this byte is in range, and this is its item
abbrev pub IsScalarRead : ℕ → Scalar → Text → Node → Type 0
IsScalarRead start s spelling n =
    (n ≡ leaf s (Some (span start (start + length spelling))) unset)
    × (is_in_range s spelling ≡ true)

-- the report is of the text, and names the scalar as out of range
abbrev pub NamesScalar : Text → ℕ → Scalar → Text → Report → Type 0
NamesScalar t start s spelling r =
    (r.input ≡ t) × (is_in_range s spelling ≡ false)
    × (fault_of r ≡ fault (range_message s) start (length spelling))

-- the result of reading it as a value,
abbrev pub ReadsScalar : Text → ℕ → Scalar → Text → Result code.Value ParseFault → Type 0
ReadsScalar t start s spelling (Ok v) = IsScalarRead start s spelling (value_view v)
ReadsScalar t start s spelling (Err e) = IfToml e (NamesScalar t start s spelling)

-- and of putting it in a place, where this item is then
abbrev pub PutsScalar : {A : Type 0} → Text → ℕ → Scalar → Text → Node → Result A ParseFault
    → Type 0
PutsScalar t start s spelling n (Ok _) = IsScalarRead start s spelling n
PutsScalar t start s spelling n (Err e) = IfToml e (NamesScalar t start s spelling)
