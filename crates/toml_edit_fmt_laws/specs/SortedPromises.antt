-- What sorts by groups promise of a document, for all rules and all lists of tables.
use Rattle.std.specs.Prelude.{◌≡◌, ◌⊎◌, true, List, [], map, flat_map}
use Rattle.std.specs.List.{list_all, AllByRecursion}
use Rattle.std.specs.List.Sorted.{IsPermutation}
use Rattle.toml_edit_model.specs.Accepted.{is_accepted}
use Rattle.toml_edit_model.specs.Comments.{comments}
use Rattle.toml_edit_model.specs.Meaning.{SameFacts, meaning}
use Rattle.toml_edit_model.specs.Order.{IsInOrder}
use Rattle.toml_edit_model.specs.Syntax.{Statement, Document, IsDocument, newline_after}
use Rattle.toml_edit_model.specs.Text.{Text}
use Rattle.toml_edit_fmt_laws.specs.Rules.{Rules}
use Rattle.toml_edit_fmt_laws.specs.Formatted.{leading_of}
use Rattle.toml_edit_fmt_laws.specs.Aligned.{formatted}
use Rattle.toml_edit_fmt_laws.specs.Sorted.{Names, with_leading, with_newline, without_head, with_head, head_of, with_newlines, goes_first, is_key_line, sorted}

-- It is in the grammar, is accepted exactly where the document is, and means the same.
abbrev pub SortedStaysDocument : Type 0
SortedStaysDocument = (r : Rules) (tables : List Names) (d : Document) → IsDocument d → IsDocument (sorted r tables d)

abbrev pub SortedAcceptedAlike : Type 0
SortedAcceptedAlike = (r : Rules) (tables : List Names) (d : Document) → is_accepted (sorted r tables d) ≡ is_accepted d

abbrev pub SortedMeansTheSame : Type 0
SortedMeansTheSame = (r : Rules) (tables : List Names) (d : Document) → SameFacts (meaning (sorted r tables d)) (meaning d)

-- ---- what stays

-- A group before and after: its lines, the first without its head, are in order, ties as they were.
-- Then its head is before the first again, and newlines are in their places.
pub record IsSortOfGroup (old new : List Statement) : Type 0 where
  pub are_lines : list_all is_key_line old ≡ true
  pub lines : List Statement
  pub order : IsInOrder goes_first (without_head old) lines
  pub is : new ≡ with_newlines (map newline_after old) (with_head (head_of old) lines)

-- statements that stay, or a group
pub record Run : Type 0 where
  pub old : List Statement
  pub new : List Statement

abbrev pub IsRun : Run → Type 0
IsRun x = (x.new ≡ x.old) ⊎ IsSortOfGroup x.old x.new

-- The statements of the one list are those of the other, run by run.
pub record SortsRuns (old new : List Statement) : Type 0 where
  pub runs : List Run
  pub each : AllByRecursion IsRun runs
  pub before : flat_map (λ (x : Run). x.old) runs ≡ old
  pub after : flat_map (λ (x : Run). x.new) runs ≡ new

abbrev pub SortsByRuns : Type 0
SortsByRuns = (r : Rules) (tables : List Names) (d : Document) → SortsRuns d.statements (sorted r tables d).statements

-- the statement without what is before it, and without its newline
abbrev pub bare : Statement → Statement
bare s = with_leading [] (with_newline [] s)

-- So each statement is there once, with its comment and its value. Each newline is in its place, and
-- so are the byte order mark and the end.
pub record KeepsStatements (old new : Document) : Type 0 where
  pub statements : IsPermutation (map bare old.statements) (map bare new.statements)
  pub newlines : map newline_after new.statements ≡ map newline_after old.statements
  pub has_mark : new.has_mark ≡ old.has_mark
  pub final : new.final ≡ old.final

abbrev pub SortedKeepsStatements : Type 0
SortedKeepsStatements = (r : Rules) (tables : List Names) (d : Document) → KeepsStatements d (sorted r tables d)

-- the comments before statements
abbrev pub comments_above : Document → List Text
comments_above d = flat_map (λ s. comments (leading_of s)) d.statements

abbrev pub SortedKeepsComments : Type 0
SortedKeepsComments =
    (r : Rules) (tables : List Names) (d : Document) → IsDocument d
    → IsPermutation (comments_above d) (comments_above (sorted r tables d))

-- ---- again

-- Sorted again it stays, also where it is formatted first. So sorting and formatting twice is as once.
abbrev pub SortedAgain : Type 0
SortedAgain = (r : Rules) (tables : List Names) (d : Document) → IsDocument d → sorted r tables (sorted r tables d) ≡ sorted r tables d

abbrev pub FormattedStaysSorted : Type 0
FormattedStaysSorted =
    (r : Rules) (tables : List Names) (d : Document) → IsDocument d
    → sorted r tables (formatted r (sorted r tables d)) ≡ formatted r (sorted r tables d)

abbrev pub SortedFormattedAgain : Type 0
SortedFormattedAgain =
    (r : Rules) (tables : List Names) (d : Document) → IsDocument d
    → formatted r (sorted r tables (formatted r (sorted r tables d))) ≡ formatted r (sorted r tables d)
