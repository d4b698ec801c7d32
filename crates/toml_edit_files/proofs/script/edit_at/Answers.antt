-- The words that the edit has are the first.
use Rattle.std.proofs.Common.{map, subst, take}
use Rattle.toml_edit_files.specs.Edited.{version_by}
use Rattle.toml_edit_model.specs.Version.{Version}
use Rattle.toml_edit_edits.specs.Said.{SaysEdit, StopsEdit}
use Rattle.toml_edit_files.specs.Lines.{is_memory}
use Rattle.toml_edit_files.specs.Stops.{reason_of}
use Rattle.toml_edit_files.proofs.ApartLaws.{begins-no}
use Rattle.toml_edit_files.proofs.OperandLaws.{split-at}
use Rattle.std.proofs.Common.{refl}
use Rattle.toml_edit_files.proofs.script.edit_at.Goals as goal

pub returns-in_ok-push-in-Ok-clause-adds : goal.returns-in_ok-push-in-Ok-clause-adds
returns-in_ok-push-in-Ok-clause-adds c =
    let words = map (λ w. w.now) c.args.words.now in let n = c.in-Ok.count in (
      take n words,
      c.in-Ok.edit,
      split-at (λ w. w.now) c.args.words.now n,
      subst (λ (v : Version). SaysEdit v (take n words) c.in-Ok.edit) c.options.ensures.version c.in-Ok.ensures.said,
      c.in_ok-push-in-Ok.ensures.items,
    )

pub returns-in-Err-clause-stops : goal.returns-in-Err-clause-stops
returns-in-Err-clause-stops c =
    let words = map (λ w. w.now) c.args.words.now in
    begins-no (version_by c.args.reading) words c.in-Err.fault (reason_of c.no_edit.result) (is_memory c.in-Err.fault) refl
    (subst (λ (v : Version). StopsEdit v words c.in-Err.fault) c.options.ensures.version c.in-Err.ensures.stops) c.no_edit.ensures
