-- All calls together wrote the text.
use Rattle.std.proofs.Common.{rules}
use Rattle.toml_edit_io.proofs.Puts.{put_whole}
use Rattle.toml_edit_io.proofs.SinkLaws.{shows_none, shows_both}
use Rattle.toml_edit_io.proofs.sinks.show.Goals as goal

pub returns-else-out : goal.returns-else-out
returns-else-out g c plain ok =
    let took = g.W.Write.write_str_gives in
    let all = put_whole _ (λ s. shows_none took s.failed s.f) (λ s t u a b p q. shows_both took _ _ _ _ _ _ a b p q) _ _ _
    c.put_into.ensures in
    let same = all.same_reference in
    let wrote = all.wrote c.if-out.false plain in
    search rules
