-- What was held is written, and then the text.
use Rattle.std.proofs.Common.{refl, sym, ap, ◌∙◌, ◌++◌}
use Rattle.toml_edit_io.proofs.SinkLaws.{writes_out, writes_both, if_err}
use Rattle.toml_edit_io.proofs.sinks.Written.put_without_room.Goals as goal

pub returns-then-not-self : goal.returns-then-not-self
returns-then-not-self g c =
    let contents = g.O.Output.contents in
    let failed = g.O.Output.has_failed in
    let none = c.write_held.ensures.empty in
    let stays = if_err _ _ (sym c.is_err.ensures.value ∙ c.if-is_err.true) c.try_push_str.ensures.err in
    let all = c.write_all.ensures in
    writes_both contents failed _ _ _ _ _ _ _ _ _ _ _ c.write_held.ensures.wrote
    (writes_out contents failed _ _ _ _ _ _ _ _ _ c.if-not-self.true c.is_err-self.ensures.value refl (c.as_bytes.ensures.value
    ∙ ap (λ l. l ++ c.args.text.now) (sym none)) (ap (λ s. s.bytes) stays ∙ none) all.text all.ok all.beginning all.err)
