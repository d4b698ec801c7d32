-- The text is not empty, and not a path.
use Rattle.toml_edit_edits.proofs.WordLaws.{no-keys}
use Rattle.toml_edit_edits.proofs.read_edit.keys_of.Goals as goal

pub returns-in-Err-clause-stops : goal.returns-in-Err-clause-stops
returns-in-Err-clause-stops c =
    no-keys c.args.path.now c.is_empty.result c.is_empty.ensures c.if-is_empty.false c.in-Err.fault c.in-Err.ensures.refused
