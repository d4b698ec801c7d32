-- The form has what each reader asks for.
use Rattle.std.proofs.Common.{subst, sym}
use Rattle.toml_edit_text.specs.Form.{IsWhole}
use Rattle.toml_edit_text.specs.Leaked.{IsLeaked}
use Rattle.toml_edit_text.proofs.packed_text.PackedText.as_str.Goals as goal

pub part_of-requires : goal.part_of-requires
part_of-requires c = subst IsWhole c.in-Part.is c.self.invariant

pub read-requires : goal.read-requires
read-requires c = subst IsWhole c.in-Long.is c.self.invariant

pub read-requires-in-Kept : goal.read-requires-in-Kept
read-requires-in-Kept c =
    subst (IsLeaked c.in-Kept.text) (sym c.join.ensures) (subst IsWhole c.in-Kept.is c.self.invariant)
