use Rattle.std.proofs.Common.{◌≡◌, length}
use denote.Text.{Utf8}
use denote.Shadow.{shadow}
use Rattle.toml_edit_model.specs.Syntax.{Document, IsCut}
use Rattle.toml_edit_syntax.specs.Batches.{IsReached}
use Rattle.toml_edit_fmt.proofs.WalkLaws.{Between}
use Rattle.toml_edit_fmt.proofs.statements.go_over.Given as goal

abbrev pub invariant-batches : goal.invariant-batches
invariant-batches g l =
    record {
      utf8 : shadow (Utf8 l.left);
      reached : IsReached l.text l.left;
      source : g.S.Statements.source l.to ≡ l.text;
      progress : (d : Document) → IsCut d l.text → Between g.S.Statements.takes d l.left l.initial.to l.to;
    }

abbrev pub decreases-batches : goal.decreases-batches
decreases-batches g l = length l.left
