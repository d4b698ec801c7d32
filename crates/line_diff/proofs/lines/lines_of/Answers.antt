use Rattle.std.proofs.Common.{◌≡◌, ◌∙◌, ap, sym, subst, arith}
use Rattle.std.specs.Prelude.{Err, IfOk, Ok, Result}
use Rattle.std.specs.Str.Iter.{split_inclusive_text}
use Rattle.line_diff.specs.Diff.{AreLines}
use Rattle.line_diff.specs.Steps.{texts}
use Rattle.line_diff.proofs.LineLaws.{are-lines}
use Rattle.line_diff.proofs.lines.lines_of.Goals as goal

on-ok : {T E : Type 0} (r : Result T E) (P Q : T → Type 0) → ((v : T) → P v → Q v) → IfOk r P → IfOk r Q
on-ok (Ok v) P Q f h = f v h
on-ok (Err e) P Q f h = h

pub returns : goal.returns
returns c =
    on-ok c.collect.result _ (λ lines. AreLines c.args.text.now (texts lines.items))
    (λ v run.
    let whole = run tt in
    let p = whole.0 in
    let text = c.args.text.now in
    let from = ap split_inclusive_text whole.1 ∙ c.split_inclusive.ensures.text in
    let pieces = c.split_inclusive.ensures.runs p p.seen in
    let cuts = c.split_inclusive.ensures.cuts p p.seen whole.1 in
    subst (λ items. AreLines text (texts items)) (sym whole.3.0) (are-lines p text (sym from ∙ pieces.1 whole.2) (cuts (omega arith) ((λ q e. e), (λ w o h. h)))))
    c.collect.ensures.runs
