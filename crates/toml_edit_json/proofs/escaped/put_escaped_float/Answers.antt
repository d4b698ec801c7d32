-- All calls together put the text.
use Rattle.std.proofs.Common.{rules}
use Rattle.toml_edit_io.proofs.Puts.{put_whole}
use Rattle.toml_edit_json.proofs.Escaping.{escapes_both, escapes_none}
use Rattle.toml_edit_json.proofs.escaped.put_escaped_float.Goals as goal

pub returns : goal.returns
returns g c =
    let puts = g.S.Sink.puts in
    let all = put_whole _ (λ s. escapes_none puts s.out) (λ s t u a b p q. escapes_both puts _ _ _ a b p q) _ _ _ c.put_text.ensures in
    let same = all.same_reference in
    let wrote = all.wrote in
    search rules
