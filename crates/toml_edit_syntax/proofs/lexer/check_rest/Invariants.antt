use Rattle.std.proofs.Common.{length}
use denote.Text.{Utf8}
use denote.Shadow.{shadow}
use Rattle.toml_edit_syntax.specs.Batches.{IsReached}
use Rattle.toml_edit_syntax.proofs.lexer.check_rest.Given as goal

abbrev pub invariant-batches : goal.invariant-batches
invariant-batches l = record {
  utf8 : shadow (Utf8 l.left);
  reached : IsReached l.source l.left;
}

abbrev pub decreases-batches : goal.decreases-batches
decreases-batches l = length l.left
