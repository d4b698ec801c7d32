-- Comments in one column: how many spaces are before each, and the formatted document with these.
use Rattle.std.specs.Prelude.{ℕ, zero, suc, Bool, true, false, ◌+◌, ◌-◌, ◌==◌, ◌&&◌, ◌||◌, max, if◌then◌else◌, List, [], ◌∷◌, ◌++◌, codes, length, filter}
use Rattle.std.specs.Prelude.{Option, Some, None, is_some}
use Rattle.toml_edit_model.specs.Comments.{first_comment}
use Rattle.toml_edit_model.specs.Paths.{Path, same_path, to_element}
use Rattle.toml_edit_model.specs.Syntax.{Value, scalar, array, inline_table, Elements, no_elements, element, Pairs}
use Rattle.toml_edit_model.specs.Syntax.{no_pairs, pair, Statement, key_line, header, Document, has_elements, has_pairs, path_text, comma_text, statement_text}
use Rattle.toml_edit_model.specs.Text.{Text, line_feed, one}
use Rattle.toml_edit_fmt_laws.specs.Rules.{Rules, Comments, as_they_are, apart, aligned, Arrays, arrays_stay, kept, collapsed}
use Rattle.toml_edit_fmt_laws.specs.Laying.{columns, last_line}
use Rattle.toml_edit_fmt_laws.specs.Formatted.{State, start, reached, stays, after, leading_of, laid_document}

-- ---- where the comments are

-- A comment on the line of a statement, where the path is empty, or of a member in it: the columns
-- before it, and the text since the one before it in the document.
pub record Mark : Type 0 where
  pub statement : ℕ
  pub path : Path
  pub columns : ℕ
  pub since : Text

-- a text, or the place of such a comment
pub data Piece : Type 0 where
  words : Text → Piece
  place : ℕ → Path → Piece

-- arrays do not stay as they are
abbrev pub lays_arrays : Arrays → Bool
lays_arrays arrays_stay = false
lays_arrays kept = true
lays_arrays collapsed = true

module _ (r : Rules) (n : ℕ) where
  -- what is between two things in brackets, of which the first is the member of this number, if any,
  -- where all between the brackets is laid out or stays
  abbrev pub gap_pieces : Bool → Path → ℕ → Text → List Piece
  gap_pieces is_laid p zero t = one (words t)
  gap_pieces is_laid p (suc i) t =
      if is_laid && is_some (first_comment t) then place n (to_element p i) ∷ words t ∷ []
      else one (words t)

  -- after the member of this number: up to the comma if one follows, else up to the bracket
  abbrev pub after_pieces : Bool → Path → ℕ → Bool → Bool → Text → List Piece
  after_pieces is_laid p i has_more comma t =
      if has_more || comma then one (words (t ++ comma_text has_more)) else gap_pieces is_laid p (suc i) t

  abbrev mutual
    pub value_pieces : Path → Value → List Piece
    value_pieces p (scalar s t) = one (words t)
    value_pieces p (array es comma t) = words (codes "[") ∷ elements_pieces p 0 comma t es
    value_pieces p (inline_table ps comma t) = words (codes "{") ∷ pairs_pieces p 0 comma t ps

    -- from the member of this number on; a comma is before all but the first
    pub elements_pieces : Path → ℕ → Bool → Text → Elements → List Piece
    elements_pieces p i comma t no_elements =
        words (comma_text comma) ∷ gap_pieces (lays_arrays r.arrays) p i t ++ one (words (codes "]"))
    elements_pieces p i comma t (element a v es) =
        gap_pieces (lays_arrays r.arrays) p i a.before
        ++ (value_pieces (to_element p i) v
        ++ (after_pieces (lays_arrays r.arrays) p i (has_elements es) comma a.after ++ elements_pieces p (suc i) comma t es))

    pub pairs_pieces : Path → ℕ → Bool → Text → Pairs → List Piece
    pairs_pieces p i comma t no_pairs =
        words (comma_text comma) ∷ gap_pieces r.inline_tables p i t ++ one (words (codes "}"))
    pairs_pieces p i comma t (pair f v ps) =
        gap_pieces r.inline_tables p i f.leading
        ++ (words (path_text f.path ++ (f.before_equals ++ (codes "=" ++ f.after_equals)))
        ∷ value_pieces (to_element p i) v
        ++ (after_pieces r.inline_tables p i (has_pairs ps) comma f.trailing ++ pairs_pieces p (suc i) comma t ps))

-- A statement that stays is one text.
module _ (r : Rules) where
  abbrev pub laid_pieces : ℕ → Statement → List Piece
  laid_pieces n (key_line f v end) =
      words (f.leading ++ (path_text f.path ++ (f.before_equals ++ (codes "=" ++ f.after_equals))))
      ∷ value_pieces r n [] v
      ++ (
      if is_some (first_comment f.trailing) then place n [] ∷ words (f.trailing ++ end) ∷ []
      else one (words (f.trailing ++ end))
      )
  laid_pieces n (header h end) = one (words (statement_text (header h end)))

  abbrev pub statement_pieces : ℕ → State → Statement → List Piece
  statement_pieces n st s =
      if stays (reached r st (leading_of s)) then one (words (statement_text s)) else laid_pieces n s

  abbrev pub statements_pieces : ℕ → State → List Statement → List Piece
  statements_pieces n st [] = []
  statements_pieces n st (s ∷ rest) =
      statement_pieces n st s ++ statements_pieces (suc n) (after r st s) rest

-- the marks, after a text on the line, and one since the last mark
abbrev pub marks : Text → Text → List Piece → List Mark
marks line since [] = []
marks line since (words t ∷ rest) = marks (last_line (line ++ t)) (since ++ t) rest
marks line since (place n p ∷ rest) =
    record { statement = n; path = p; columns = columns line; since = since } ∷ marks line [] rest

-- ---- runs

-- the members at the paths are of one list; all statements are
abbrev pub list_of : Path → Path
list_of [] = []
list_of (s ∷ []) = []
list_of (s ∷ t ∷ p) = s ∷ list_of (t ∷ p)

abbrev pub are_beside : Path → Path → Bool
are_beside [] [] = true
are_beside (s ∷ p) (t ∷ q) = same_path (list_of (s ∷ p)) (list_of (t ∷ q))
are_beside _ _ = false

-- on the line right below the mark before it, and in its list
abbrev pub newlines : Text → ℕ
newlines t = length (filter (λ c. c == line_feed) t)

abbrev pub goes_on : Mark → Mark → Bool
goes_on before m = (newlines m.since == 1) && are_beside before.path m.path

-- the greatest columns of the marks that go on from this one
abbrev pub widest : Mark → List Mark → ℕ
widest before [] = before.columns
widest before (m ∷ rest) =
    if goes_on before m then max before.columns (widest m rest) else before.columns

-- the spaces before a comment
pub record Pad : Type 0 where
  pub statement : ℕ
  pub path : Path
  pub spaces : ℕ

abbrev pub pad_to : ℕ → Mark → Pad
pad_to column m =
    record { statement = m.statement; path = m.path; spaces = column - m.columns }

-- of the marks, after one whose comment begins in this column
abbrev pub pads : ℕ → Option Mark → ℕ → List Mark → List Pad
pads n last column [] = []
pads n None column (m ∷ rest) =
    let here = widest m rest + n in
    pad_to here m ∷ pads n (Some m) here rest
pads n (Some before) column (m ∷ rest) =
    let here = if goes_on before m then column else widest m rest + n in
    pad_to here m ∷ pads n (Some m) here rest

-- ---- documents

-- what is before the comments of a laid out document
abbrev pub pads_of : Rules → ℕ → Document → List Pad
pads_of r n d = pads n None 0 (marks [] [] (statements_pieces r 0 start d.statements))

abbrev pub pad_in : List Pad → ℕ → Path → ℕ
pad_in [] n p = 0
pad_in (q ∷ qs) n p =
    if (q.statement == n) && same_path q.path p then q.spaces else pad_in qs n p

-- the spaces before each comment that is aligned; only what is before them on their lines counts
abbrev pub pads_as : Comments → Rules → Document → ℕ → Path → ℕ
pads_as as_they_are r d = λ _ _. 0
pads_as (apart n) r d = λ _ _. n
pads_as (aligned n) r d = pad_in (pads_of r n (laid_document r (λ _ _. 0) d))

-- the formatted document
abbrev pub formatted : Rules → Document → Document
formatted r d = laid_document r (pads_as r.comments r d) d
