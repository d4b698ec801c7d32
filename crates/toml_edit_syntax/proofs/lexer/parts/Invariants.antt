use Rattle.std.proofs.Common.{◌≡◌, ℕ, ◌<◌, ◌≤◌, ◌-◌, ◌++◌, List, length, map}
use denote.Text.{Utf8}
use denote.Shadow.{shadow}
use Rattle.toml_edit_model.specs.Text.{Text, joined}
use Rattle.toml_edit_model.specs.Trivia.{IsFinalTrivia}
use Rattle.toml_edit_model.specs.Syntax.{Statement, AreStatements, statement_text}
use Rattle.toml_edit_syntax.specs.EventReading.{preceded}
use Rattle.toml_edit_syntax.specs.StatementReading.{rest_read}
use Rattle.toml_edit_syntax.specs.Batches.{EndsWith}
use Rattle.toml_edit_syntax.proofs.SpanLaws.{AreSpans}
use Rattle.toml_edit_syntax.proofs.BatchLaws.{Gone}
use Rattle.toml_edit_syntax.proofs.lexer.parts.Given as goal

abbrev pub invariant-statements : goal.invariant-statements
invariant-statements l = record {
  utf8 : shadow (Utf8 l.rest);
  ends : EndsWith l.source l.rest;
  shorter : length l.rest ≤ length l.fn.s;
  less : 0 < length l.events.items → length l.rest < length l.fn.s;
  read : (n : ℕ) → length l.fn.s < n → (k : ℕ) × (length l.rest < k)
      × (preceded l.fn.events.items (rest_read n (length l.source) l.fn.s)
      ≡ preceded l.events.items (rest_read k (length l.source) l.rest));
  batch : (ss : List Statement) (final : Text) → AreStatements final ss → IsFinalTrivia final → l.fn.s ≡ joined (map statement_text ss)
      ++ final
      → Gone (length l.source) (length l.source - length l.fn.s) ss final l.events.items l.rest;
  spans : AreSpans l.source l.events.items;
}

abbrev pub decreases-statements : goal.decreases-statements
decreases-statements l = length l.rest
