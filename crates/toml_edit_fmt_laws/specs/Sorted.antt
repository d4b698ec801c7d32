-- The lines of tables in the order of their keys, group by group.
use Rattle.std.specs.Prelude.{zero, ℕ, Bool, true, false, not, ◌-◌, ◌&&◌, ◌||◌, if◌then◌else◌, List, [], ◌∷◌, ◌++◌, map, take, length, codes}
use Rattle.std.specs.Prelude.{Option, Some}
use Rattle.std.specs.Cmp.Lexicographic.{slice_cmp}
use Rattle.std.specs.List.{list_any}
use Rattle.std.specs.Ordering.{is_lt, nat_cmp}
use Rattle.toml_edit_model.specs.Comments.{comments}
use Rattle.toml_edit_model.specs.Order.{sorted_by}
use Rattle.toml_edit_model.specs.Syntax.{Segment, Statement, key_line, header, Document, newline_after}
use Rattle.toml_edit_model.specs.Text.{Text, same_text}
use Rattle.toml_edit_fmt_laws.specs.Rules.{Rules}
use Rattle.toml_edit_fmt_laws.specs.Laying.{has_empty_line, last_line}
use Rattle.toml_edit_fmt_laws.specs.Formatted.{State, start, reached, after, stays, leading_of, off_after, has_part}

abbrev pub Names : Type 0
Names = List Text

abbrev pub same_names : Names → Names → Bool
same_names [] [] = true
same_names (k ∷ ks) (l ∷ ls) = same_text k l && same_names ks ls
same_names _ _ = false

abbrev pub names : List Segment → Names
names p = map (λ s. s.key) p

abbrev pub path_of : Statement → List Segment
path_of (key_line f v end) = f.path
path_of (header h end) = h.path

-- segment by segment, in the order of their bytes
abbrev pub names_lt : Names → Names → Bool
names_lt ks ls = is_lt (slice_cmp (slice_cmp nat_cmp) ks ls)

-- ---- groups

-- A line with this before it is the first of a group: an empty line that stays is there, or a comment
-- that turns formatting on or off, or says that a tool has written the text.
abbrev pub allows_empty : Option ℕ → Bool
allows_empty (Some zero) = false
allows_empty _ = true

abbrev pub turns : List Text → Bool
turns bodies = off_after false bodies || not (off_after true bodies)

abbrev pub say_generated : List Text → Bool
say_generated bodies = list_any (has_part (codes "@generated")) bodies

abbrev pub begins_group : Rules → Text → Bool
begins_group r t =
    (allows_empty r.blank_lines && has_empty_line t)
    || (r.left_alone && (turns (comments t) || say_generated (comments t)))

-- the lines before a statement, but for the indentation of its own
abbrev pub lines_before : Text → Text
lines_before t = take (length t - length (last_line t)) t

abbrev pub with_leading : Text → Statement → Statement
with_leading t (key_line f v end) = key_line (record f { leading = t }) v end
with_leading t (header h end) = header (record h { leading = t }) end

abbrev pub with_newline : Text → Statement → Statement
with_newline t (key_line f v end) = key_line f v t
with_newline t (header h end) = header h t

-- The lines before the first of a group stay at its head, and newlines stay in their places.
abbrev pub without_head : List Statement → List Statement
without_head [] = []
without_head (s ∷ rest) = with_leading (last_line (leading_of s)) s ∷ rest

abbrev pub with_head : Text → List Statement → List Statement
with_head t [] = []
with_head t (s ∷ rest) = with_leading (t ++ leading_of s) s ∷ rest

abbrev pub head_of : List Statement → Text
head_of [] = []
head_of (s ∷ rest) = lines_before (leading_of s)

abbrev pub with_newlines : List Text → List Statement → List Statement
with_newlines (t ∷ ts) (s ∷ ss) = with_newline t s ∷ with_newlines ts ss
with_newlines _ ss = ss

-- the one may be before the other
abbrev pub goes_first : Statement → Statement → Bool
goes_first s u = not (names_lt (names (path_of u)) (names (path_of s)))

abbrev pub in_order : List Statement → List Statement
in_order ss = sorted_by goes_first ss

abbrev pub sorted_group : List Statement → List Statement
sorted_group ss =
    with_newlines (map newline_after ss) (with_head (head_of ss) (in_order (without_head ss)))

-- ---- documents

abbrev pub is_asked : List Names → Bool → Statement → Bool
is_asked tables now (key_line f v end) = now
is_asked tables now (header h end) = list_any (same_names (names h.path)) tables

abbrev pub is_key_line : Statement → Bool
is_key_line (key_line f v end) = true
is_key_line (header h end) = false

-- the statements after those of a group, in the lines of a table that is to be sorted or not
module _ (r : Rules) (tables : List Names) where
  abbrev pub sorted_statements : List Statement → Bool → State → List Statement → List Statement
  sorted_statements group now st [] = sorted_group group
  sorted_statements group now st (s ∷ rest) =
      let here = reached r st (leading_of s) in
      let next = after r st s in
      if now && (is_key_line s && not (stays here)) then (
      if begins_group r (leading_of s)
      then sorted_group group ++ sorted_statements (s ∷ []) now next rest
      else sorted_statements (group ++ (s ∷ [])) now next rest
      )
      else sorted_group group ++ (s ∷ sorted_statements [] (is_asked tables now s) next rest)

  -- the empty path is for the lines before the first header
  abbrev pub sorted : Document → Document
  sorted d =
      record d {
        statements = sorted_statements [] (list_any (same_names []) tables) start d.statements;
      }
