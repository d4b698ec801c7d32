-- The path has other keys than one.
use Rattle.std.proofs.Common.{◌∷◌, [], ap, arith, length}
use Rattle.std.proofs.lemmas.Grind.{common_steps}
use Rattle.toml_edit_edits.proofs.WordLaws.{no-key, no-name}
use Rattle.toml_edit_edits.proofs.read_edit.key_name.Goals as goal
use Rattle.toml_edit_edits.proofs.read_edit.key_name.Goals.{in_default-via-then-as_slice-lt1, in_default-via-else-as_slice-lt1+else-this-lt2}

pub returns-in-Ok-clause-spelled : goal.returns-in-Ok-clause-spelled
returns-in-Ok-clause-spelled c =
    let counted = ap length c.as_slice.ensures.value in
    no-name c.args.key.now c.in-Ok.keys.items c.in-Ok.ensures.only (λ one.
    elim c.in_default.branch [
      | in_default-via-then-as_slice-lt1 w ↦ absurd (grind (arith, common_steps))
      | in_default-via-else-as_slice-lt1+else-this-lt2 w ↦ absurd (grind (arith, common_steps))
    ])

pub returns-clause-stops : goal.returns-clause-stops
returns-clause-stops c = no-key c.args.key.now c.in-Err.fault c.in-Err.ensures.refused
