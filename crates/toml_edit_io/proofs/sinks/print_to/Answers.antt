-- All calls together, and what was held at the end, wrote the text or a beginning of it.
use Rattle.std.proofs.Common.{refl, rules}
use Rattle.toml_edit_io.proofs.Puts.{put_whole}
use Rattle.toml_edit_io.proofs.SinkLaws.{writes_none, writes_both, all_written}
use Rattle.toml_edit_io.proofs.sinks.print_to.Goals as goal

pub returns-then-out-clause-beginning : goal.returns-then-out-clause-beginning
returns-then-out-clause-beginning g c =
    let all = all_written g.O.Output.contents g.O.Output.has_failed _ _ _ _ _ _ _ _ _ _ c.new.ensures c.write_held.ensures.empty
    (put_whole _ (λ s. writes_none g.O.Output.contents g.O.Output.has_failed s.broken s.output s.held.bytes)
    (λ s t u a b p q. writes_both g.O.Output.contents g.O.Output.has_failed _ _ _ _ _ _ _ _ _ a b p q) _ _ _ c.put_into.ensures)
    c.write_held.ensures.wrote in
    let same = all.same_reference in
    let fact = all.beginning refl c.if-out.true in
    search rules

pub returns-then-out-clause-err : goal.returns-then-out-clause-err
returns-then-out-clause-err g c =
    let all = all_written g.O.Output.contents g.O.Output.has_failed _ _ _ _ _ _ _ _ _ _ c.new.ensures c.write_held.ensures.empty
    (put_whole _ (λ s. writes_none g.O.Output.contents g.O.Output.has_failed s.broken s.output s.held.bytes)
    (λ s t u a b p q. writes_both g.O.Output.contents g.O.Output.has_failed _ _ _ _ _ _ _ _ _ a b p q) _ _ _ c.put_into.ensures)
    c.write_held.ensures.wrote in
    let same = all.same_reference in
    let fact = all.fails refl c.if-out.true in
    search rules

pub returns-else-out-clause-text : goal.returns-else-out-clause-text
returns-else-out-clause-text g c =
    let all = all_written g.O.Output.contents g.O.Output.has_failed _ _ _ _ _ _ _ _ _ _ c.new.ensures c.write_held.ensures.empty
    (put_whole _ (λ s. writes_none g.O.Output.contents g.O.Output.has_failed s.broken s.output s.held.bytes)
    (λ s t u a b p q. writes_both g.O.Output.contents g.O.Output.has_failed _ _ _ _ _ _ _ _ _ a b p q) _ _ _ c.put_into.ensures)
    c.write_held.ensures.wrote in
    let same = all.same_reference in
    let fact = all.whole c.if-out.false in
    search rules

pub returns-else-out-clause-ok : goal.returns-else-out-clause-ok
returns-else-out-clause-ok g c =
    let all = all_written g.O.Output.contents g.O.Output.has_failed _ _ _ _ _ _ _ _ _ _ c.new.ensures c.write_held.ensures.empty
    (put_whole _ (λ s. writes_none g.O.Output.contents g.O.Output.has_failed s.broken s.output s.held.bytes)
    (λ s t u a b p q. writes_both g.O.Output.contents g.O.Output.has_failed _ _ _ _ _ _ _ _ _ a b p q) _ _ _ c.put_into.ensures)
    c.write_held.ensures.wrote in
    let same = all.same_reference in
    let fact = all.works c.if-out.false in
    search rules
