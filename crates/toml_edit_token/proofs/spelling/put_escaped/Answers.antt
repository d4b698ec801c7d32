-- Each turn puts a run of plain bytes, and the byte behind it.
use Rattle.std.proofs.Common.{◌≡◌, ◌<◌, [], ◌++◌, length, refl, rules, arith}
use Rattle.std.proofs.lemmas.Grind.{common_steps}
use Rattle.toml_edit_model.specs.DefaultSpelling.{escaped_byte}
use Rattle.toml_edit_io.proofs.Puts.{put_none, put_two}
use Rattle.toml_edit_token.proofs.Escaping.{turn_stops, turn_ends, turn_goes, escaped_ascii}
use Rattle.toml_edit_token.proofs.spelling.put_escaped.Goals as goal

pub runs-init : goal.runs-init
runs-init g c = (search rules, [], put_none _ _ refl, refl)

pub returns-then-is_empty : goal.returns-then-is_empty
returns-then-is_empty g c =
    let (_, done, wrote, more) = c.runs.invariant in
    let none : length c.split_run.result.1.now ≡ 0 = grind (arith, common_steps) in
    put_two _ _ _ _ _ _ wrote c.put.ensures
    (turn_ends c.args.many_lines c.args.text.now done c.runs.rest.now c.split_run.result.0.now c.split_run.result.1.now more
    c.split_run.ensures.parts none)

pub put_escape-requires : goal.put_escape-requires
put_escape-requires g c =
    let some : 0 < length c.split_run.result.1.now = grind (arith, common_steps) in
    rw c.first_byte.ensures (turn_stops c.runs.rest.now c.split_run.result.0.now c.split_run.result.1.now c.split_run.ensures.parts some)

pub after_first-rest-requires-clause-ascii : goal.after_first-rest-requires-clause-ascii
after_first-rest-requires-clause-ascii g c =
    let some : 0 < length c.split_run.result.1.now = grind (arith, common_steps) in
    escaped_ascii _ (turn_stops c.runs.rest.now c.split_run.result.0.now c.split_run.result.1.now c.split_run.ensures.parts some)

pub runs-preserved : goal.runs-preserved
runs-preserved g c =
    let (_, done, wrote, more) = c.runs.invariant in
    let some : 0 < length c.split_run.result.1.now = grind (arith, common_steps) in
    let next = turn_goes c.args.many_lines c.args.text.now done c.runs.rest.now c.split_run.result.0.now c.split_run.result.1.now more
    c.split_run.ensures.parts some in (
      search rules,
      (done ++ c.split_run.result.0.now) ++ escaped_byte c.args.many_lines c.first_byte.result,
      put_two _ _ _ _ _ _ (put_two _ _ _ _ _ _ wrote c.put.ensures refl) c.put_escape.ensures refl,
      rw (c.first_byte.ensures, c.after_first-rest.ensures.rest) next,
    )
