-- What is held in the end is put but for the newline.
use Rattle.std.proofs.Common.{◌++◌, ◌∙◌, ap, rules}
use Rattle.toml_edit_io.proofs.Puts.{put_two, put_whole}
use Rattle.toml_edit.proofs.HoldLaws.{held-cut, holds_none, holds_both}
use Rattle.toml_edit.proofs.tail.put_but_newline.Goals as goal

pub returns : goal.returns
returns g c d front count parts =
    let puts = g.S.Sink.puts in
    let all = put_whole _ (λ s. holds_none puts s.tail s.out) (λ s t u a b p q. holds_both puts _ _ _ _ _ _ a b p q) _ _ _
    c.put_into.ensures in
    let same = all.same_reference in
    let cut = held-cut d c.args.count (g.T.Printed.text c.args.printed.now) front all.released c.put_into.new.out.tail count parts all.tail
    all.whole in
    let whole = put_two _ _ _ _ _ front all.put c.put.ensures (ap (λ l. all.released ++ l) c.text_before.ensures ∙ cut) in
    search rules
