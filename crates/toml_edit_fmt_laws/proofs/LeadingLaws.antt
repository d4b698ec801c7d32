-- What is laid out before a statement, by the rows of its text: the comments stay, it is whole trivia, and laid out again it stays.
use Rattle.std.proofs.Common.{◌≡◌, refl, sym, ap, subst, ◌∙◌, ℕ, Bool, false, List, ◌++◌, Option, Some, None}
use Rattle.std.specs.List.{AllByRecursion}
use Rattle.toml_edit_model.specs.Comments.{comments}
use Rattle.toml_edit_model.specs.Text.{Text}
use Rattle.toml_edit_model.specs.Trivia.{IsWhiteSpace, IsWholeTrivia}
use Rattle.toml_edit_fmt_laws.specs.Rules.{Indentation, as_it_is, flush, by_depth, Rules, units}
use Rattle.toml_edit_fmt_laws.specs.Laying.{leading_as, leading}
use Rattle.toml_edit_fmt_laws.proofs.Rows.{Row, IsRow, rows_text, view, rows-whole, comments-rows}
use Rattle.toml_edit_fmt_laws.proofs.SpacedRows.{white-units, laid_rows, all-laid, bodies-laid, laid-again, moved-form, kept-form}

-- how far in lines are laid out
abbrev pub lead_depth : Indentation → ℕ → Option ℕ
lead_depth as_it_is depth = None
lead_depth flush depth = Some depth
lead_depth by_depth depth = Some depth

module _ (r : Rules) where
  -- after the last newline
  abbrev pub lead_last : Indentation → ℕ → Text → Text
  lead_last as_it_is depth l = l
  lead_last flush depth l = units r depth
  lead_last by_depth depth l = units r depth

  abbrev pub lead_rows : Indentation → Bool → ℕ → List Row → List Row
  lead_rows k s depth rs = laid_rows r s false (lead_depth k depth) rs

  pub lead-form : (k : Indentation) (s : Bool) (depth : ℕ) (rs : List Row) (l : Text) → AllByRecursion IsRow rs → IsWhiteSpace l
      → leading_as k r s depth (rows_text rs l) ≡ rows_text (lead_rows k s depth rs) (lead_last k depth l)
  lead-form as_it_is s depth rs l h g = kept-form r s rs l h g
  lead-form flush s depth rs l h g = ap (λ u. u ++ units r depth) (moved-form r s false depth rs l h g)
  lead-form by_depth s depth rs l h g = ap (λ u. u ++ units r depth) (moved-form r s false depth rs l h g)

  pub white-lead : (k : Indentation) (depth : ℕ) (l : Text) → IsWhiteSpace l → IsWhiteSpace (lead_last k depth l)
  white-lead as_it_is depth l h = h
  white-lead flush depth l h = white-units r depth
  white-lead by_depth depth l h = white-units r depth

  pub lead-last-again : (k : Indentation) (depth : ℕ) (l : Text) → lead_last k depth (lead_last k depth l) ≡ lead_last k depth l
  lead-last-again as_it_is depth l = refl
  lead-last-again flush depth l = refl
  lead-last-again by_depth depth l = refl

  pub leading-whole : (s : Bool) (depth : ℕ) (t : Text) → IsWholeTrivia t → IsWholeTrivia (leading r s depth t)
  leading-whole s depth t h =
      let rows = view t h in
      let k = r.indentation in
      subst IsWholeTrivia (sym (ap (leading r s depth) rows.is ∙ lead-form k s depth rows.rows rows.last rows.all rows.white))
      (rows-whole (lead_rows k s depth rows.rows) (lead_last k depth rows.last) (all-laid r s false (lead_depth k depth) rows.rows rows.all)
      (white-lead k depth rows.last rows.white))

  pub leading-again : (s : Bool) (depth : ℕ) (t : Text) → IsWholeTrivia t → leading r s depth (leading r s depth t) ≡ leading r s depth t
  leading-again s depth t h =
      let rows = view t h in
      let k = r.indentation in
      let once = ap (leading r s depth) rows.is ∙ lead-form k s depth rows.rows rows.last rows.all rows.white in
      ap (leading r s depth) once
      ∙ lead-form k s depth (lead_rows k s depth rows.rows) (lead_last k depth rows.last)
      (all-laid r s false (lead_depth k depth) rows.rows rows.all) (white-lead k depth rows.last rows.white)
      ∙ ap (λ rs. rows_text rs (lead_last k depth (lead_last k depth rows.last))) (laid-again r s false (lead_depth k depth) rows.rows rows.all)
      ∙ ap (rows_text (lead_rows k s depth rows.rows)) (lead-last-again k depth rows.last)
      ∙ sym once

  pub leading-comments : (s : Bool) (depth : ℕ) (t : Text) → IsWholeTrivia t → comments (leading r s depth t) ≡ comments t
  leading-comments s depth t h =
      let rows = view t h in
      let k = r.indentation in
      ap comments (ap (leading r s depth) rows.is ∙ lead-form k s depth rows.rows rows.last rows.all rows.white)
      ∙ comments-rows (lead_rows k s depth rows.rows) (lead_last k depth rows.last)
      (all-laid r s false (lead_depth k depth) rows.rows rows.all) (white-lead k depth rows.last rows.white)
      ∙ bodies-laid r s false (lead_depth k depth) rows.rows
      ∙ sym (ap comments rows.is ∙ comments-rows rows.rows rows.last rows.all rows.white)
