-- One byte more is done.
use Rattle.std.proofs.Common.{◌≡◌, ◌+◌, ◌-◌, ◌<◌, ◌∙◌, ap, arith, drop, false, get_or, length}
use Rattle.std.proofs.lemmas.List.{length-set}
use Rattle.toml_edit_settings.proofs.RowLaws.{after_there, one_there, put_below}
use Rattle.toml_edit_settings.specs.Patterns.{after_character}
use Rattle.toml_edit_settings.proofs.pattern.put_one.Goals as goal

pub loop-at-preserved : goal.loop-at-preserved
loop-at-preserved c =
    let t = c.args.path.now in
    let row = c.loop-at.row in
    let i = c.loop-at.at - 1 in
    let below : c.loop-at.at - 1 < length c.args.path.now = omega arith in
    let next : c.loop-at.at ≡ c.loop-at.at - 1 + 1 = omega arith in (
      omega arith,
      λ is_such rests.
          let known = c.loop-at.invariant.1 is_such rests in
          let after-is = known.1 ∙ ap (λ n. is_such (after_character (drop n c.args.path.now))) next in (
            put_below c.loop-at.at i c.one_at.result next (omega (arith, length-set c.args.row.now (length c.args.path.now) false)) known.0 (one_there is_such t i below c.loop-at.after c.one_at.result after-is c.one_at.ensures),
            after_there is_such t i below (get_or row i false) c.loop-at.after c.after_at-after.result (known.0.before i (omega arith)) after-is c.after_at-after.ensures,
          ),
    )
