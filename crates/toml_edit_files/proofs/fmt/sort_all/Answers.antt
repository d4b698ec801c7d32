-- One sort more is made, or passed over.
use Rattle.std.proofs.Common.{◌∙◌}
use Rattle.toml_edit.specs.DocumentView.{tree_owned}
use Rattle.toml_edit_files.specs.FormatFiles.{IsNotSorted, sorted_by}
use Rattle.toml_edit_files.specs.Stops.{reason_of}
use Rattle.toml_edit_files.proofs.FormatLaws.{sort_turn, sort_wrong}
use Rattle.toml_edit_files.proofs.StopLaws.{passed}
use Rattle.toml_edit_files.proofs.fmt.sort_all.Goals as goal

pub loop-at-preserved : goal.loop-at-preserved
loop-at-preserved c =
    let printed = c.in_ok-sort.ensures.printed in (
      sort_turn c.args.sorts.now c.loop-at.at c.index-sorts-at.result (tree_owned c.loop-at.document) (tree_owned c.sort.new.document) _
          c.loop-at-test.true c.index-sorts-at.is c.loop-at.invariant.0 c.in_ok-sort.ensures.sorted,
      (printed.0 ∙ c.loop-at.invariant.1.0, printed.1 ∙ c.loop-at.invariant.1.1),
    )

pub returns-in_err-sort-clause-stops : goal.returns-in_err-sort-clause-stops
returns-in_err-sort-clause-stops c =
    let es = c.args.sorts.now in let all = sorted_by es (tree_owned c.args.document.now) in
    passed c.from_residual.result c.in_err-sort.field-0.0 (λ s. IsNotSorted all (reason_of s)) c.from_residual.ensures.1
    (sort_wrong es c.loop-at.at c.index-sorts-at.result (tree_owned c.loop-at.document) all c.loop-at-test.true c.index-sorts-at.is
    c.loop-at.invariant.0 _ c.in_err-sort.ensures.stops)
