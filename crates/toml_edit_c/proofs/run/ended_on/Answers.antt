-- The command ends as the run of `tomled` does.
use Rattle.std.proofs.Common.{◌≡◌, ◌≤◌, Bor, arith, false, inr, map, string_bytes, subst, sym}
use Rattle.toml_edit_model.specs.Text.{Text}
use Rattle.toml_edit_command.specs.Words.{asked}
use Rattle.toml_edit_c.specs.Runs.{AreWords, Ends}
use Rattle.toml_edit_c.proofs.Ending.{ends-by}
use Rattle.toml_edit_c.proofs.run.ended_on.Goals as goal

pub returns : goal.returns
returns c =
    let ws = map string_bytes c.as_slice-words.result.now in let run = c.run-status in
    let low : c.run-status.result ≤ 2 = omega arith in let works : c.run-status.new.errors.failed ≡ false = cc in (
      low,
      (
        ws,
        subst (λ words. AreWords c.args.words.now (map string_bytes words)) (sym c.as_slice-words.ensures.value) c.in-Ok.ensures,
        subst (λ (i : Bor Text). Ends (asked ws) i.now run.result run.new.output.bytes.items run.new.errors.bytes.items) c.new-input.ensures.inner
            (ends-by (asked ws) c.new-input.result.inner.now run.result c.new-out.result.bytes.items run.new.output.bytes.items
            c.new-err.result.bytes.items run.new.errors.bytes.items run.new.output.failed run.new.errors.failed c.new-out.ensures.empty
            c.new-err.ensures.empty works low (λ is. run.ensures.failed.1 (inr is)) run.ensures.done
            (λ zero. let same = run.ensures.quiet zero in cc) run.ensures.refused run.ensures.mistaken run.ensures.said run.ensures.unwritten),
      ),
    )
