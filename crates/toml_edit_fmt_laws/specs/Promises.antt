-- What formatting promises of a document, for every setting and all spaces before comments.
use Rattle.std.specs.Prelude.{◌≡◌, ℕ, Bool, true, false, if◌then◌else◌, List, [], ◌∷◌, None}
use Rattle.toml_edit_model.specs.Accepted.{AcceptedAs, is_accepted}
use Rattle.toml_edit_model.specs.Comments.{comments}
use Rattle.toml_edit_model.specs.Meaning.{SameFacts, meaning}
use Rattle.toml_edit_model.specs.Mode.{Mode, plain}
use Rattle.toml_edit_model.specs.Normal.{normal_in}
use Rattle.toml_edit_model.specs.Paths.{Path}
use Rattle.toml_edit_model.specs.Settled.{is_settled_in}
use Rattle.toml_edit_model.specs.Syntax.{Statement, key_line, header, Document, IsCut, IsDocument, document_text}
use Rattle.toml_edit_model.specs.Text.{Text}
use Rattle.toml_edit_model.specs.Trivia.{IsWholeTrivia}
use Rattle.toml_edit_fmt_laws.specs.Rules.{Rules, as_it_is, as_they_are, arrays_stay}
use Rattle.toml_edit_fmt_laws.specs.Laying.{leading, header_leading, gap, before_comma}
use Rattle.toml_edit_fmt_laws.specs.Formatted.{laid_path, State, start, reached, stays, after, leading_of, laid_document}
use Rattle.toml_edit_fmt_laws.specs.Aligned.{formatted}
use Rattle.toml_edit_fmt_laws.specs.Remarks.{remarks}

-- ---- places

-- The text at a place is laid out by f: it is whole trivia as it was, has the same comments, and laid
-- out again it stays.
pub record IsLaidBy (f : Text → Text) (t : Text) : Type 0 where
  pub trivia : IsWholeTrivia (f t)
  pub same : comments (f t) ≡ comments t
  pub again : f (f t) ≡ f t

pub record Laid (r : Rules) (depth : ℕ) (t : Text) : Type 0 where
  pub line : (is_start : Bool) → IsLaidBy (leading r is_start depth) t
  pub header : (is_start : Bool) → IsLaidBy (header_leading r is_start depth) t
  pub between : (pad : ℕ) (is_start is_end : Bool) (last : ℕ) → IsLaidBy (gap r pad is_start is_end depth last) t
  pub comma : IsLaidBy (before_comma r depth) t

abbrev pub PlacesAreLaid : Type 0
PlacesAreLaid = (r : Rules) (depth : ℕ) (t : Text) → IsWholeTrivia t → Laid r depth t

-- ---- documents

-- It is in the grammar, and accepted exactly where the document is.
abbrev pub StaysDocument : Type 0
StaysDocument = (r : Rules) (pad : ℕ → Path → ℕ) (d : Document) → IsDocument d → IsDocument (laid_document r pad d)

abbrev pub AcceptedAlike : Type 0
AcceptedAlike = (r : Rules) (pad : ℕ → Path → ℕ) (d : Document) → is_accepted (laid_document r pad d) ≡ is_accepted d

-- It means the same.
abbrev pub MeansTheSame : Type 0
MeansTheSame = (r : Rules) (pad : ℕ → Path → ℕ) (d : Document) → meaning (laid_document r pad d) ≡ meaning d

-- The comments are the same texts in the same order, each with what it belongs to and on its side.
abbrev pub KeepsRemarks : Type 0
KeepsRemarks = (r : Rules) (pad : ℕ → Path → ℕ) (d : Document) → IsDocument d → remarks (laid_document r pad d) ≡ remarks d

-- Laid out twice it is as laid out once, with the spaces before comments of the second time.
abbrev pub LaidAgain : Type 0
LaidAgain =
    (r : Rules) (pad other : ℕ → Path → ℕ) (d : Document) → IsDocument d
    → laid_document r pad (laid_document r other d) ≡ laid_document r pad d

-- Formatted again it stays.
abbrev pub FormattedAgain : Type 0
FormattedAgain = (r : Rules) (d : Document) → IsDocument d → formatted r (formatted r d) ≡ formatted r d

-- no rule is on
pub record IsOff (r : Rules) : Type 0 where
  pub equals : r.equals ≡ false
  pub dots : r.dots ≡ false
  pub comments : r.comments ≡ as_they_are
  pub blank_lines : r.blank_lines ≡ None
  pub indentation : r.indentation ≡ as_it_is
  pub arrays : r.arrays ≡ arrays_stay
  pub inline_tables : r.inline_tables ≡ false
  pub keys : r.keys ≡ false

-- Then nothing changes.
abbrev pub OffChangesNothing : Type 0
OffChangesNothing = (r : Rules) → IsOff r → (pad : ℕ → Path → ℕ) (d : Document) → laid_document r pad d ≡ d

-- ---- settled documents

-- No newline is made with a CR that the mode does not show.
abbrev pub ShowsNewlines : Mode → Rules → Type 0
ShowsNewlines mode r = mode ≡ plain → r.returns ≡ false

-- a statement with its keys laid out
abbrev pub keys_laid : Rules → Statement → Statement
keys_laid r (key_line f v end) = key_line (record f { path = laid_path r f.path }) v end
keys_laid r (header h end) =
    header (record h {
      opening = if r.dots then [] else h.opening;
      path = laid_path r h.path;
      closing = if r.dots then [] else h.closing;
    }) end

-- Each statement that stays for a comment has its keys as if they were laid out.
abbrev pub KeysAreLaid : Rules → State → List Statement → Type 0
KeysAreLaid r st [] = Unit {0}
KeysAreLaid r st (s ∷ rest) =
    (stays (reached r st (leading_of s)) ≡ true → keys_laid r s ≡ s) × KeysAreLaid r (after r st s) rest

-- Then a settled document stays settled: else statements that stay would have other keys for a table
-- than those that do not.
abbrev pub StaysSettled : Type 0
StaysSettled =
    (mode : Mode) (r : Rules) → ShowsNewlines mode r
    → (pad : ℕ → Path → ℕ) (d : Document) → KeysAreLaid r start d.statements
    → is_settled_in mode d ≡ true → is_settled_in mode (laid_document r pad d) ≡ true

-- ---- texts

-- What is formatted of this accepted document: the text is accepted, means the same, and what is read
-- from it is formatted as the same text.
pub record IsFormattedText (r : Rules) (d e : Document) : Type 0 where
  pub accepted : AcceptedAs (document_text e) e
  pub means : SameFacts (meaning e) (meaning d)
  pub again : (other : Document) → IsCut other (document_text e)
      → document_text (formatted r other) ≡ document_text e

-- So it is of each accepted text.
abbrev pub FormattedTextAgain : Type 0
FormattedTextAgain = (r : Rules) (t : Text) (d : Document) → AcceptedAs t d → IsFormattedText r d (formatted r d)

-- The tree that is read from the formatted normal form of an accepted text prints just that text.
abbrev pub FormattedTreeAgain : Type 0
FormattedTreeAgain =
    (mode : Mode) (r : Rules) → ShowsNewlines mode r
    → (t : Text) (d : Document) → AcceptedAs t d → KeysAreLaid r start (normal_in mode d).statements
    → (other : Document) → IsCut other (document_text (formatted r (normal_in mode d)))
    → normal_in mode other ≡ formatted r (normal_in mode d)
