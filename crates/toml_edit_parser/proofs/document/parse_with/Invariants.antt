use Rattle.std.proofs.Common.{◌≡◌, length}
use Rattle.toml_edit_model.specs.Syntax.{Document, IsCut}
use Rattle.toml_edit_model.specs.Text.{Text}
use Rattle.toml_edit_syntax.specs.Batches.{IsAfter}
use Rattle.toml_edit_syntax.specs.Grammar.{grammar}
use Rattle.toml_edit_syntax.specs.declared.lexer.BatchEnd.TheVariants.{WholeText}
use Rattle.toml_edit_parser.specs.ValueRead.{AreIn}
use Rattle.toml_edit_repr.specs.Modes.{mode_of}
use Rattle.toml_edit_parser.proofs.LoopLaws.{Progress, left_after}
use Rattle.toml_edit_parser.proofs.BatchLaws.{LastBatch}
use Rattle.toml_edit_parser.proofs.document.parse_with.Given as goal

-- The builder stands before the statements of the batch, whose events are held.
abbrev pub invariant-batches : goal.invariant-batches
invariant-batches l =
    record {
      spans : AreIn l.source l.events.items;
      after : (before : Text) × IsAfter l.source before l.batch.rest.now l.batch.end;
      progress : (d : Document) → IsCut d l.source → Progress (mode_of l.fn.mode) (grammar l.fn.version) l.source d l.batch.end
          l.batch.rest.now l.events.items l.building;
      last : (d : Document) → IsCut d l.source → l.batch.end ≡ WholeText → LastBatch l.source d l.events.items;
    }

abbrev pub decreases-batches : goal.decreases-batches
decreases-batches l = left_after l.batch.end l.batch.rest.now

-- It stands before those that are left of the batch.
abbrev pub invariant-statements : goal.invariant-statements
invariant-statements l =
    record {
      spans : AreIn l.source l.left;
      progress : (d : Document) → IsCut d l.source → Progress (mode_of l.fn.mode) (grammar l.fn.version) l.source d l.batch.end
          l.batch.rest.now l.left l.building;
    }

abbrev pub decreases-statements : goal.decreases-statements
decreases-statements l = length l.left
