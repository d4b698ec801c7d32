-- An interrupted read took nothing.
use Rattle.std.specs.Io.KnownBytes.{Keeps}
use Rattle.toml_edit_io.proofs.watch.read_once.Given as goal

abbrev pub invariant-loop : goal.invariant-loop
invariant-loop g l = Keeps (g.R.Read.remaining l.fn.reader) (g.R.Read.remaining l.reader)
