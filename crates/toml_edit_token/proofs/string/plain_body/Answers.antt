-- A string without escapes is read as it stands.
use Rattle.std.proofs.Common.{◌≡◌, refl, [], drop, length, sym, ap, ◌∙◌, arith, append-nil}
use Rattle.std.proofs.lemmas.Grind.{common_steps}
use Rattle.std.proofs.lemmas.List.{drop_all}
use Rattle.toml_edit_laws.specs.reading.Runs.{first}
use Rattle.toml_edit_laws.specs.reading.Tokens.{whole}
use Rattle.toml_edit_token.proofs.BasicLoop.{prepend-nil, turn_ends}
use Rattle.toml_edit_token.proofs.string.plain_body.Goals as goal

pub returns-then-first_byte-eq34 : goal.returns-then-first_byte-eq34
returns-then-first_byte-eq34 c n h =
    let plain = c.split_run.result.0.now in
    let after = c.split_run.result.1.now in
    let quote : first after ≡ 34 = grind (arith, common_steps) in
    let one : length after ≡ 1 = grind (arith, common_steps) in
    let rest : drop 1 after ≡ [] = drop_all 1 after (omega (arith, one)) in
    let read = turn_ends n c.args.s.now [] c.args.s.now plain after (n, h, sym (prepend-nil _)) c.split_run.ensures.parts quote in
    sym (ap whole read ∙ rw (rest, append-nil plain) refl)
