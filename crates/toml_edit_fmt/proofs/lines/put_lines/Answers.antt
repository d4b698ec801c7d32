-- Each line is laid out, or held if it is empty.
use Rattle.std.proofs.Common.{rules, ◌≡◌, ap, sym, ◌∙◌, ◌-◌, arith, unwrap_or}
use Rattle.std.specs.Prelude.{if◌then◌else◌}
use Rattle.toml_edit_fmt.proofs.LineLaws.{end-boundary, end-cut, start-laid, step-held, step-out, step-over, step-written}
use Rattle.toml_edit_fmt.proofs.lines.put_lines.Goals as goal
use Rattle.toml_edit_fmt.proofs.lines.put_lines.Goals.{then-is_start, else-is_start}

pub lines-init : goal.lines-init
lines-init c =
    let most = unwrap_or c.args.page.now.rules.blank_lines 0 in
    let left : c.if-is_start.left ≡ (if c.args.is_start then 0 else most) =
    elim c.if-is_start.branch [
      | then-is_start w ↦ w.left-is ∙ sym (ap (λ b. if b then 0 else most) w.if-is_start.true)
      | else-is_start w ↦ w.left-is ∙ c.unwrap_or-most.ensures ∙ sym (ap (λ b. if b then 0 else most) w.if-is_start.false)
    ] in
    record {
      rest_text = search rules;
      is = start-laid c.args.page.now c.args.indent c.args.is_end c.args.text.now c.args.is_start c.if-is_start.left c.len-end.result left c.len-end.ensures;
    }

pub lines-preserved-then-not-is_kept : goal.lines-preserved-then-not-is_kept
lines-preserved-then-not-is_kept c =
    record {
      rest_text = search rules;
      is = step-out c.args.page.now c.args.indent c.args.is_end _ c.lines.rest.now c.lines.page c.lines.left c.lines.end c.lines.invariant.is c.in-Some.after.now c.in-Some.line.now c.in-Some.ensures.parts
          (sym c.is_kept.ensures ∙ c.if-not-is_kept.true);
    }

pub lines-preserved-then-not-is_spaced : goal.lines-preserved-then-not-is_spaced
lines-preserved-then-not-is_spaced c =
    record {
      rest_text = search rules;
      is = step-written c.args.page.now c.args.indent c.args.is_end _ c.lines.rest.now c.lines.page c.lines.left c.lines.end c.lines.invariant.is c.in-Some.after.now c.in-Some.line.now c.in-Some.ensures.parts
          (sym c.is_kept.ensures ∙ c.if-not-is_kept.false) c.put_line.new.page c.in_ok-put_line.ensures
          (sym c.is_spaced.ensures ∙ c.if-not-is_spaced.true)
          c.unwrap_or-most.result c.len-end-then-not-is_spaced.result c.unwrap_or-most.ensures c.len-end-then-not-is_spaced.ensures;
    }

pub lines-preserved-then-left-gt0 : goal.lines-preserved-then-left-gt0
lines-preserved-then-left-gt0 c =
    record {
      rest_text = search rules;
      is = step-held c.args.page.now c.args.indent c.args.is_end _ c.lines.rest.now c.lines.page c.lines.left c.lines.end c.lines.invariant.is c.in-Some.after.now c.in-Some.line.now c.in-Some.ensures.parts
          (sym c.is_kept.ensures ∙ c.if-not-is_kept.false) c.put_line-then-left-gt0.new.page c.in_ok-put_line-2.ensures
          (sym c.is_spaced.ensures ∙ c.if-not-is_spaced.false) (c.lines.left - 1) (omega arith);
    }

pub lines-preserved : goal.lines-preserved
lines-preserved c =
    record {
      rest_text = search rules;
      is = step-over c.args.page.now c.args.indent c.args.is_end _ c.lines.rest.now c.lines.page c.lines.left c.lines.end c.lines.invariant.is c.in-Some.after.now c.in-Some.line.now c.in-Some.ensures.parts
          (sym c.is_kept.ensures ∙ c.if-not-is_kept.false) (sym c.is_spaced.ensures ∙ c.if-not-is_spaced.false) (omega arith);
    }

pub take_back-requires : goal.take_back-requires
take_back-requires c =
    end-boundary c.args.page.now c.args.indent c.args.is_end _ c.lines.rest.now c.lines.page c.lines.left c.lines.end c.lines.invariant.is c.in_default.ensures.parts

pub returns-then-is_end : goal.returns-then-is_end
returns-then-is_end c =
    let t = c.take_back.ensures in
    end-cut c.args.page.now c.args.indent c.args.is_end _ c.lines.rest.now c.lines.page c.lines.left c.lines.end c.lines.invariant.is c.in_default.ensures.parts
    c.if-is_end.true c.take_back.new.self t.source t.rules t.text t.run
