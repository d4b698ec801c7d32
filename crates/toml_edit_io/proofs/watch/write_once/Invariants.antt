-- An interrupted write wrote nothing.
use Rattle.std.specs.Io.KnownBytes.{Keeps}
use Rattle.toml_edit_io.proofs.watch.write_once.Given as goal

abbrev pub invariant-loop : goal.invariant-loop
invariant-loop g l = Keeps (g.W.Write.contents l.fn.writer) (g.W.Write.contents l.writer)
