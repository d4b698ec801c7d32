-- A string is a plain value.
use Rattle.std.proofs.Common.{◌∙◌, inl, refl}
use Rattle.example_proofs.proofs.parts.replace.Goals as goal

pub returns-clause-edits : goal.returns-clause-edits
returns-clause-edits c = rw (c.deref.ensures.value ∙ c.in_ok-keys.ensures) at
    (rw c.in_ok-string.ensures at (c.in_ok-replace_at.ensures.edits (rw c.in_ok-string.ensures (refl, inl (tt, tt)))))
