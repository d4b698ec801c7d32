-- The comments of a document in the order of the text, each with what it belongs to, and on which
-- side of it.
use Rattle.std.specs.Prelude.{ℕ, suc, Bool, ◌||◌, if◌then◌else◌, List, [], ◌∷◌, ◌++◌, drop, length, map, take}
use Rattle.std.specs.List.{filter_map}
use Rattle.toml_edit_model.specs.Comments.{comments, first_comment, lines}
use Rattle.toml_edit_model.specs.Paths.{Path, to_element}
use Rattle.toml_edit_model.specs.Syntax.{Value, scalar, array, inline_table, Elements, no_elements, element, Pairs, no_pairs, pair}
use Rattle.toml_edit_model.specs.Syntax.{Statement, key_line, header, Document, has_elements, has_pairs}
use Rattle.toml_edit_model.specs.Text.{Text}

-- before what it belongs to, or after it; or inside, after the opening bracket or before the closing one
pub data Side : Type 0 where
  ahead : Side
  behind : Side
  opening : Side
  closing : Side

-- of an element or a pair by its number in what holds it, or of the statement itself
pub record Spot : Type 0 where
  pub path : Path
  pub side : Side

-- A comment, the number of its statement, and its place there. The end of the text has the number
-- after the last.
pub record Remark : Type 0 where
  pub statement : ℕ
  pub spot : Spot
  pub body : Text

abbrev pub spot : Side → Path → Spot
spot s p = record { path = p; side = s }

abbrev pub bodies_in : List Text → List Text
bodies_in ls = filter_map first_comment ls

module _ (n : ℕ) where
  abbrev pub remarks_at : Spot → List Text → List Remark
  remarks_at p bodies = map (λ b. record { statement = n; spot = p; body = b }) bodies

  -- Between brackets: on the first line that of what is before, on others those of what is after.
  abbrev pub gap_remarks : Spot → Spot → Text → List Remark
  gap_remarks before after t =
      remarks_at before (bodies_in (take 1 (lines t)))
      ++ remarks_at after (bodies_in (drop 1 (lines t)))

  -- of a value at a place; between brackets, after what is at this spot
  abbrev mutual
    pub value_remarks : Value → Path → List Remark
    value_remarks (scalar s t) p = []
    value_remarks (array es comma t) p = element_remarks p (spot opening p) 0 comma t es
    value_remarks (inline_table ps comma t) p = pair_remarks p (spot opening p) 0 comma t ps

    pub element_remarks : Path → Spot → ℕ → Bool → Text → Elements → List Remark
    element_remarks p before i comma t no_elements = gap_remarks before (spot closing p) t
    element_remarks p before i comma t (element a v es) =
        let here = to_element p i in
        gap_remarks before (spot ahead here) a.before
        ++ (value_remarks v here
        ++ (
        if comma || has_elements es
        then remarks_at (spot behind here) (comments a.after)
        ++ element_remarks p (spot behind here) (suc i) comma t es
        else gap_remarks (spot behind here) (spot closing p) (a.after ++ t)
        ))

    pub pair_remarks : Path → Spot → ℕ → Bool → Text → Pairs → List Remark
    pair_remarks p before i comma t no_pairs = gap_remarks before (spot closing p) t
    pair_remarks p before i comma t (pair f v ps) =
        let here = to_element p i in
        gap_remarks before (spot ahead here) f.leading
        ++ (value_remarks v here
        ++ (
        if comma || has_pairs ps
        then remarks_at (spot behind here) (comments f.trailing)
        ++ pair_remarks p (spot behind here) (suc i) comma t ps
        else gap_remarks (spot behind here) (spot closing p) (f.trailing ++ t)
        ))

  abbrev pub statement_remarks : Statement → List Remark
  statement_remarks (key_line f v end) =
      remarks_at (spot ahead []) (comments f.leading)
      ++ (value_remarks v [] ++ remarks_at (spot behind []) (comments f.trailing))
  statement_remarks (header h end) =
      remarks_at (spot ahead []) (comments h.leading) ++ remarks_at (spot behind []) (comments h.trailing)

-- of the statements from this number on
abbrev pub remarks_from : ℕ → List Statement → List Remark
remarks_from n [] = []
remarks_from n (s ∷ rest) = statement_remarks n s ++ remarks_from (suc n) rest

abbrev pub remarks : Document → List Remark
remarks d = remarks_from 0 d.statements ++ remarks_at (length d.statements) (spot ahead []) (comments d.final)
