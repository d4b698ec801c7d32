-- All calls together made the text.
use Rattle.std.proofs.Common.{string_bytes, ◌++◌, ap, ◌∙◌}
use Rattle.toml_edit_io.proofs.Puts.{put_whole}
use Rattle.toml_edit_io.proofs.SinkLaws.{grows_none, grows_both}
use Rattle.toml_edit_io.proofs.sinks.print.Goals as goal

pub returns : goal.returns
returns g c =
    let all = put_whole _ (λ s. grows_none s.refused (string_bytes s.text)) (λ s t u a b p q. grows_both _ _ _ _ _ _ a b p q) _ _ _
    c.put_into.ensures in
    all.grew c.if-refused.false ∙ ap (λ l. l ++ g.T.Printed.text c.args.printed.now) c.new.ensures.bytes
