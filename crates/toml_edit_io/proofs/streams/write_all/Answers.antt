-- What one more write adds to the beginning.
use Rattle.std.proofs.Common.{◌∙◌}
use Rattle.toml_edit_io.proofs.Known.{more_Appends, more_within}
use Rattle.toml_edit_io.proofs.streams.write_all.Goals as goal

pub loop-at-preserved : goal.loop-at-preserved
loop-at-preserved g c =
    let before = c.loop-at.invariant in
    record {
      within = more_within c.loop-at.at c.in_ok-at.field-0 c.args.text.now before.within c.in_ok-at.ensures.bound;
      written = more_Appends _ _ _ c.loop-at.at c.in_ok-at.field-0 c.args.text.now before.written c.in_ok-at.ensures.bytes;
      fault = c.in_ok-at.ensures.ok ∙ before.fault;
    }
