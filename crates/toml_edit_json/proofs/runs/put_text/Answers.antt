-- Each turn puts a run of bytes that stay, and the byte behind it.
use Rattle.std.proofs.Common.{◌≡◌, ◌<◌, [], ◌++◌, length, refl, rules, arith}
use Rattle.std.proofs.lemmas.Grind.{common_steps}
use Rattle.toml_edit_json.specs.Texts as spec
use Rattle.toml_edit_io.proofs.Puts.{put_none, put_two}
use Rattle.toml_edit_json.proofs.Writing.{turn_stops, turn_ends, turn_goes, other_ascii}
use Rattle.toml_edit_json.proofs.runs.put_text.Goals as goal

pub runs-init : goal.runs-init
runs-init g c = (search rules, [], put_none _ _ refl, refl)

pub returns-then-is_empty : goal.returns-then-is_empty
returns-then-is_empty g c =
    let (_, done, wrote, more) = c.runs.invariant in
    let none : length c.split_run.result.1.now ≡ 0 = grind (arith, common_steps) in
    put_two _ _ _ _ _ _ wrote c.put.ensures
    (turn_ends c.args.form c.args.text.now done c.runs.rest.now c.split_run.result.0.now c.split_run.result.1.now more
    c.split_run.ensures.parts none)

pub put_byte-requires : goal.put_byte-requires
put_byte-requires g c =
    let some : 0 < length c.split_run.result.1.now = grind (arith, common_steps) in
    rw c.first_byte.ensures (turn_stops c.args.form c.runs.rest.now c.split_run.result.0.now c.split_run.result.1.now
    c.split_run.ensures.parts some)

pub after_first-rest-requires-clause-ascii : goal.after_first-rest-requires-clause-ascii
after_first-rest-requires-clause-ascii g c =
    let some : 0 < length c.split_run.result.1.now = grind (arith, common_steps) in
    other_ascii c.args.form _ (turn_stops c.args.form c.runs.rest.now c.split_run.result.0.now c.split_run.result.1.now
    c.split_run.ensures.parts some)

pub runs-preserved : goal.runs-preserved
runs-preserved g c =
    let (_, done, wrote, more) = c.runs.invariant in
    let some : 0 < length c.split_run.result.1.now = grind (arith, common_steps) in
    let next = turn_goes c.args.form c.args.text.now done c.runs.rest.now c.split_run.result.0.now c.split_run.result.1.now more
    c.split_run.ensures.parts some in (
      search rules,
      (done ++ c.split_run.result.0.now) ++ spec.written_byte c.args.form c.first_byte.result,
      put_two _ _ _ _ _ _ (put_two _ _ _ _ _ _ wrote c.put.ensures refl) c.put_byte.ensures refl,
      rw (c.first_byte.ensures, c.after_first-rest.ensures.rest) next,
    )
