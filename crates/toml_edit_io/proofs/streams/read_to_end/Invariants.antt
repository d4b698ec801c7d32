-- What was read was taken from the input, with no fault.
use Rattle.std.proofs.Common.{◌≡◌}
use Rattle.std.specs.Io.KnownBytes.{Consumes}
use Rattle.toml_edit_io.proofs.streams.read_to_end.Given as goal

abbrev pub invariant-loop : goal.invariant-loop
invariant-loop g l =
    record {
      taken : Consumes (g.I.Input.remaining l.fn.input) (g.I.Input.remaining l.input) l.bytes.items;
      fault : g.I.Input.has_failed l.input ≡ g.I.Input.has_failed l.fn.input;
    }
