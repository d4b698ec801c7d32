-- What parsing a text gives: the tree of its one cut, or why it is refused.
use Rattle.std.specs.Prelude.{◌≡◌, ◌⊎◌, Bool, Some}
use Rattle.toml_edit_model.specs.Mode.{Mode}
use Rattle.toml_edit_model.specs.Text.{Text}
use Rattle.toml_edit_model.specs.Version.{Version}
use Rattle.toml_edit_model.specs.Accepted.{AcceptedIn}
use Rattle.toml_edit_model.specs.Normal.{has_open_end}
use Rattle.toml_edit_model.specs.Syntax.{Document, IsCut}
use Rattle.toml_edit_model.specs.Tree.{Raw, Slots}
use Rattle.toml_edit_model.specs.TreeOf.{spanned_in, IsTreeOf}
use Rattle.toml_edit_laws.specs.Versions.{IsRefusedIn}
use Rattle.toml_edit_error.specs.Report.{Report, fault_of}
use Rattle.toml_edit_syntax.specs.declared.event.Span.{Span}
use Rattle.toml_edit_syntax.specs.declared.mistake.Mistake.{Mistake}
use Rattle.toml_edit_syntax.specs.Events.{IsSpanOf, OpensTooMany}
use Rattle.toml_edit_syntax.specs.Faults.{syntax_message}
use Rattle.toml_edit_parser.specs.Listed.{IsListedIn}
use Rattle.toml_edit_parser.specs.StatementRead.{tree_of}

-- the report says what is wrong with the syntax of the text, and marks a place in it
pub record MarksMistake (t : Text) (r : Report) : Type 0 where
  pub mistake : Mistake
  pub message : r.message ≡ syntax_message mistake
  pub span : Span
  pub marks : r.span ≡ Some (span.start, span.end)
  pub within : IsSpanOf t span

-- The report is of the text, with one of the messages that there are. Of a text of the grammar it
-- names a fault of the first faulty statement, which may be what the statement has that the version
-- hasn't. Of another it says what is wrong with its syntax, unless too many brackets are open
-- before that.
pub record IsRefusalIn (version : Version) (t : Text) (r : Report) : Type 0 where
  pub input : r.input ≡ t
  pub listed : IsListedIn version r
  pub names : (d : Document) → IsCut d t → IsRefusedIn version d (fault_of r)
  pub syntax : ((d : Document) → IsCut d t → ⊥) → MarksMistake t r ⊎ OpensTooMany t

-- The text has one cut, by which the version accepts it, and these slots and this trailing text are
-- the tree of it, read in this mode.
pub record IsParsedWith (mode : Mode) (version : Version) (t : Text) (slots : Slots)
    (trailing : Raw) (is_open : Bool) : Type 0 where
  pub document : Document
  pub accepted : AcceptedIn version t document
  pub only : (other : Document) → IsCut other t → other ≡ document
  pub tree : IsTreeOf (spanned_in mode) document (tree_of slots trailing)
  -- whether its last statement has no newline
  pub open_end : is_open ≡ has_open_end document.statements
