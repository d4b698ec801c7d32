-- The line has an edit, or none.
use Rattle.std.proofs.Common.{◌≡◌, ◌∙◌, List, false, map, subst, sym}
use Rattle.toml_edit_files.specs.Edited.{version_by}
use Rattle.toml_edit_files.specs.Lines.{AddsEdit, AddsLine, BeginsNoEdit, is_passed}
use Rattle.toml_edit_files.specs.Stops.{IsMistaken, reason_of}
use Rattle.toml_edit_edits.specs.declared.edit.Edit.{Edit}
use Rattle.toml_edit_files.proofs.ApartLaws.{line-none}
use Rattle.toml_edit_files.proofs.LineLaws.{line-adds}
use Rattle.toml_edit_files.proofs.SplitLaws.{mistaken-for}
use Rattle.toml_edit_files.proofs.StopLaws.{passed}
use Rattle.toml_edit_files.proofs.script.add_line.Goals as goal

pub returns-clause-adds : goal.returns-clause-adds
returns-clause-adds c =
    let v = version_by c.args.reading in let old = c.args.edits.now.items in let new = c.edit_at.new.edits.items in
    let words = map (λ w. w.now) c.in_ok-words.words.items in let rest = map (λ w. w.now) c.in_ok-edit_at.field-0.now in
    line-adds v c.args.line.now old new c.is_passed.result c.is_passed.ensures c.if-is_passed.false words rest c.in_ok-words.ensures
    (subst (λ ws. AddsEdit v (map (λ w. w.now) ws) rest old new) c.as_slice.ensures.value c.in_ok-edit_at.ensures.adds)

pub returns-in_err-edit_at-clause-stops : goal.returns-in_err-edit_at-clause-stops
returns-in_err-edit_at-clause-stops c =
    let v = version_by c.args.reading in let words = map (λ w. w.now) c.in_ok-words.words.items in let stop = c.in_err-edit_at.field-0.0 in
    let other : is_passed c.args.line.now ≡ false = sym c.is_passed.ensures ∙ c.if-is_passed.false in
    passed c.from_residual-in_err-edit_at.result stop
    (λ s. IsMistaken ((old new : List Edit) → AddsLine v c.args.line.now old new → ⊥) (reason_of s)) c.from_residual-in_err-edit_at.ensures.1
    (mistaken-for (BeginsNoEdit v (map (λ w. w.now) c.as_slice.result.now)) ((old new : List Edit) → AddsLine v c.args.line.now old new → ⊥)
    (reason_of stop)
    (λ none. line-none v c.args.line.now words other c.in_ok-words.ensures
    (subst (λ ws. BeginsNoEdit v (map (λ w. w.now) ws)) c.as_slice.ensures.value none))
    c.in_err-edit_at.ensures.stops)
