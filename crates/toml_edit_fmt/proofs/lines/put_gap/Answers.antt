-- The three parts of a gap, one after the other.
use Rattle.std.proofs.Common.{◌≡◌, ap, arith, suc, ◌+◌, sym, subst, ◌∙◌}
use Rattle.std.specs.Prelude.{if◌then◌else◌}
use Rattle.std.proofs.lemmas.Result.{on_ok_weaker}
use Rattle.toml_edit_fmt.specs.LinesView.{below_text, beside_bits, is_at_end}
use Rattle.toml_edit_fmt.specs.PageView.{Gains, Grows}
use Rattle.toml_edit_fmt.specs.RulesView.{comments_of, rules_of}
use Rattle.toml_edit_fmt.proofs.GapLaws.{gap-grows}
use Rattle.toml_edit_fmt.proofs.lines.put_gap.Goals as goal
use Rattle.toml_edit_fmt.proofs.lines.put_gap.Goals.{then-is_end, else-is_end}

pub returns : goal.returns
returns c =
    let depth = c.args.depth in
    let a = c.args.page.now in
    let b = c.put_beside.new.page in
    let e = c.put_below.new.page in
    let more : depth + 1 ≡ suc depth = omega arith in
    let last : c.if-is_end.put_indent ≡ (if is_at_end c.args.gap then depth else suc depth) =
    elim c.if-is_end.branch [
      | then-is_end w ↦ w.put_indent-is ∙ sym (ap (λ b. if b then depth else suc depth) (sym c.is_at_end-is_end.ensures ∙ w.if-is_end.true))
      | else-is_end w ↦ w.put_indent-is ∙ more ∙ sym (ap (λ b. if b then depth else suc depth) (sym c.is_at_end-is_end.ensures ∙ w.if-is_end.false))
    ] in
    let beside = subst (λ l. Grows (beside_bits (comments_of a.rules.comments) l c.args.text.now) a b) c.list_before.ensures c.in_ok-put_beside.ensures in
    let below =
    subst (λ x. Gains (below_text (rules_of b.rules) x (is_at_end c.args.gap) (depth + 1) c.args.text.now) b e) c.is_at_start.ensures
    (subst (λ x. Gains (below_text (rules_of b.rules) c.is_at_start.result x (depth + 1) c.args.text.now) b e) c.is_at_end-is_end.ensures c.in_ok-put_below.ensures) in
    on_ok_weaker c.put_indent.result (gap-grows a b e c.put_indent.new.self depth (depth + 1) c.if-is_end.put_indent c.args.gap c.args.text.now more last beside below) c.put_indent.ensures
