-- What was held is written whole, or up to a fault, or not at all after one.
use Rattle.std.proofs.Common.{refl, sym, ◌∙◌, append-nil}
use Rattle.toml_edit_io.proofs.SinkLaws.{writes_out, writes_never}
use Rattle.toml_edit_io.proofs.sinks.Written.write_held.Goals.{then-not-self, else-not-self}
use Rattle.toml_edit_io.proofs.sinks.Written.write_held.Goals as goal

pub returns-clause-wrote : goal.returns-clause-wrote
returns-clause-wrote g c =
    let contents = g.O.Output.contents in
    let failed = g.O.Output.has_failed in
    elim c.if-not-self.branch [
      | then-not-self w ↦
          let all = w.write_all.ensures in
          rw w.self-is (writes_out contents failed _ _ _ _ _ _ _ _ _ w.if-not-self.true w.is_err-self.ensures.value refl
          (w.as_bytes.ensures.value ∙ w.deref.ensures.0 ∙ sym (append-nil _)) c.clear.ensures all.text all.ok all.beginning all.err)
      | else-not-self w ↦ rw w.self-is (writes_never contents failed _ _ _ _ _ w.if-not-self.false)
    ]
