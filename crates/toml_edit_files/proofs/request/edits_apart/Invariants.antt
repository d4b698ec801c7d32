-- The words before the rest say the edits.
use Rattle.std.proofs.Common.{length, map}
use Rattle.toml_edit_files.specs.Edited.{version_by}
use Rattle.toml_edit_files.proofs.ApartLaws.{SaidBefore}
use Rattle.toml_edit_files.proofs.request.edits_apart.Given as goal

abbrev pub invariant-edits : goal.invariant-edits
invariant-edits l = SaidBefore (version_by l.reading) (map (λ w. w.now) l.words) (map (λ w. w.now) l.rest) l.edits.items

abbrev pub decreases-edits : goal.decreases-edits
decreases-edits l = length l.rest
