-- This line is the next one.
use Rattle.std.proofs.Common.{List, ◌≡◌, ◌+◌, ◌∷◌, ◌++◌, ◌∙◌, [], arith, length, subst, suc, sym, take}
use Rattle.std.proofs.lemmas.Iterator.Splits.{YieldsList-from_lines}
use Rattle.std.proofs.lemmas.Iterator.Consumers.{YieldsList-turn, YieldsList-end}
use Rattle.std.proofs.lemmas.List.{length_push}
use Rattle.std.specs.Str.Lines.{lines}
use Rattle.toml_edit_files.specs.Lines.{AddsLine, SaysLines, SaysScript}
use Rattle.toml_edit_files.specs.Stops.{IsMistaken, reason_of}
use Rattle.toml_edit_edits.specs.declared.edit.Edit.{Edit}
use Rattle.toml_edit_files.proofs.ApartLaws.{no-line}
use Rattle.toml_edit_files.proofs.SplitLaws.{mistaken-for}
use Rattle.toml_edit_files.proofs.StopLaws.{passed}
use Rattle.toml_edit_model.specs.Text.{Text}
use Rattle.toml_edit_files.specs.Edited.{version_by}
use Rattle.toml_edit_files.proofs.LineLaws.{all-taken, next-line}
use Rattle.toml_edit_files.proofs.script.edits_of_script.Goals as goal

pub loop-line-preserved : goal.loop-line-preserved
loop-line-preserved c =
    let l = c.loop-line in let v = version_by c.args.reading in let ls = lines c.args.text.now in let n = length l.yielded in
    let new = c.add_line.new.edits.items in
    let t = YieldsList-turn (YieldsList-from_lines c.args.text.now cc) l.yielded _ l.yielded_by _ _ c.in-Some.line c.in-Some.is c.next.ensures.steps in
    let counted : length (l.yielded ++ (c.in-Some.line ∷ [])) ≡ suc n = let push = length_push l.yielded c.in-Some.line in omega (arith, push) in
    subst (λ m. SaysLines v (take m ls) [] new) (sym counted)
    (next-line v ls n c.in-Some.line.now [] l.edits.items new t.0 t.1 l.invariant
    (subst (λ (x : Text). AddsLine v x l.edits.items new) c.trim_start.ensures.trim c.in_ok-add_line.ensures.adds))

pub returns-clause-said : goal.returns-clause-said
returns-clause-said c =
    let l = c.loop-line in let v = version_by c.args.reading in let ls = lines c.args.text.now in
    let t = YieldsList-end (YieldsList-from_lines c.args.text.now cc) l.yielded _ l.yielded_by _ _ c.in-None.is c.next.ensures.steps in
    subst (λ (xs : List Text). SaysLines v xs [] l.edits.items) (all-taken ls (length l.yielded) (omega (arith, t.1))) l.invariant

pub returns-in_err-add_line-clause-stops : goal.returns-in_err-add_line-clause-stops
returns-in_err-add_line-clause-stops c =
    let l = c.loop-line in let v = version_by c.args.reading in let ls = lines c.args.text.now in let n = length l.yielded in
    let stop = c.in_err-add_line.field-0.0 in
    let t = YieldsList-turn (YieldsList-from_lines c.args.text.now cc) l.yielded _ l.yielded_by _ _ c.in-Some.line c.in-Some.is c.next.ensures.steps in
    passed c.from_residual.result stop (λ s. IsMistaken ((edits : List Edit) → SaysScript v c.args.text.now edits → ⊥) (reason_of s))
    c.from_residual.ensures.1
    (mistaken-for ((old new : List Edit) → AddsLine v c.trim_start.result.now old new → ⊥)
    ((edits : List Edit) → SaysScript v c.args.text.now edits → ⊥) (reason_of stop)
    (λ none edits said. no-line v ls n c.in-Some.line.now t.0 t.1
    (λ old new adds. none old new (subst (λ (x : Text). AddsLine v x old new) (sym c.trim_start.ensures.trim) adds)) [] edits said)
    c.in_err-add_line.ensures.stops)
