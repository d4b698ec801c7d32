-- Memory ran out, or the words are mistaken.
use Rattle.std.proofs.Common.{refl}
use Rattle.toml_edit_files.proofs.ApartLaws.{other-fault}
use Rattle.toml_edit_files.proofs.script.no_edit.Goals as goal

pub returns-in-Memory : goal.returns-in-Memory
returns-in-Memory c = rw c.in-Memory.is refl

pub returns-in_default : goal.returns-in_default
returns-in_default c = other-fault _ _ c.args.fault c.in_default.not-Memory c.mistaken.ensures
