-- One byte more is done.
use Rattle.std.proofs.Common.{◌+◌, ◌-◌, ◌<◌, arith, false, get_or, length}
use Rattle.toml_edit_settings.proofs.RowLaws.{any_there, put_below}
use Rattle.toml_edit_settings.proofs.pattern.put_any.Goals as goal

pub loop-at-preserved : goal.loop-at-preserved
loop-at-preserved c =
    let t = c.args.path.now in
    let row = c.loop-at.row in
    let i = c.loop-at.at - 1 in
    let below : c.loop-at.at - 1 < length c.args.path.now = omega arith in (
      omega arith,
      λ is_such rests.
          let known = c.loop-at.invariant.1 is_such rests in
          put_below c.loop-at.at i c.any_at.result (omega arith) (omega arith) known
          (any_there is_such t i below c.args.crosses (get_or row i false) (get_or row (i + 1) false) c.any_at.result (known.before i (omega arith)) (known.after (i + 1) (omega arith) (omega arith)) c.any_at.ensures),
    )
