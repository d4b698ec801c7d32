-- What was written is a beginning of the text, with no fault.
use Rattle.std.proofs.Common.{◌≡◌, ◌-◌, ◌≤◌, length, take}
use Rattle.std.specs.Io.KnownBytes.{Appends}
use Rattle.toml_edit_io.proofs.streams.write_all.Given as goal

abbrev pub invariant-loop-at : goal.invariant-loop-at
invariant-loop-at g l =
    record {
      within : l.at ≤ length l.text;
      written : Appends (g.O.Output.contents l.fn.output) (g.O.Output.contents l.output) (take l.at l.text);
      fault : g.O.Output.has_failed l.output ≡ g.O.Output.has_failed l.fn.output;
    }

abbrev pub decreases-loop-at : goal.decreases-loop-at
decreases-loop-at g l = length l.text - l.at
