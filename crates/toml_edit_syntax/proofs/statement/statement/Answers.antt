-- A header or a key line is added, by the byte at the front.
use Rattle.std.proofs.Common.{◌≡◌, ◌≢◌, sym, ap, subst, arith}
use Rattle.std.proofs.lemmas.Grind.{common_steps}
use Rattle.toml_edit_laws.specs.reading.Runs.{first}
use Rattle.toml_edit_syntax.specs.Gives.{Leaves}
use Rattle.toml_edit_syntax.specs.EventReading.{preceded}
use Rattle.toml_edit_syntax.proofs.StatementTurns.{statement_header, statement_line}
use Rattle.toml_edit_syntax.proofs.statement.statement.Goals as goal

pub returns-then-first_byte-eq91-clause-adds : goal.returns-then-first_byte-eq91-clause-adds
returns-then-first_byte-eq91-clause-adds c =
    let here : first c.args.s.now ≡ 0x5B = grind (arith, common_steps) in
    subst (Leaves c.header.new.events.items c.header.result)
    (sym (ap (preceded c.args.events.now.items) (statement_header c.args.whole c.args.leading.now c.args.s.now c.requires here)))
    c.header.ensures.adds

pub returns-else-first_byte-eq91-clause-adds : goal.returns-else-first_byte-eq91-clause-adds
returns-else-first_byte-eq91-clause-adds c =
    let other : first c.args.s.now ≢ 0x5B = grind (arith, common_steps) in
    subst (Leaves c.key_line.new.events.items c.key_line.result)
    (sym (ap (preceded c.args.events.now.items) (statement_line c.args.whole c.args.leading.now c.args.s.now c.requires other)))
    c.key_line.ensures.adds
