-- A statement stays, or is laid out.
use Rattle.std.proofs.Common.{ap, subst, sym, ◌≡◌, ◌++◌, ◌∙◌}
use Rattle.std.proofs.lemmas.Result.{IfOk-weaker}
use Rattle.toml_edit_model.specs.Syntax.{newline_after}
use Rattle.toml_edit_model.specs.Text.{Text}
use Rattle.toml_edit_fmt_laws.specs.Formatted.{reached}
use Rattle.toml_edit_fmt.specs.PageView.{Gains}
use Rattle.toml_edit_fmt.specs.RulesView.{rules_of}
use Rattle.toml_edit_fmt.specs.StateView.{state_of}
use Rattle.toml_edit_fmt.proofs.LayoutLaws.{puts-laid, stays-laid}
use Rattle.toml_edit_fmt.proofs.TakeLaws.{body-text, first-text, in-order, last-end}
use Rattle.toml_edit_fmt.proofs.text.LayoutStatements.take.Goals as goal
use Rattle.toml_edit_fmt.proofs.text.LayoutStatements.take.Goals.{then-stays+in_ok-put, else-stays+in_ok-put_statement}

pub returns-clause-takes : goal.returns-clause-takes
returns-clause-takes c =
    IfOk-weaker c.put-2.result _ _
    (λ _ g s start is there same ended.
    let old = c.args.self.now in
    let t = old.page.source.now in
    let es = c.args.statement.now in
    let st = state_of c.reach.new.self in
    let reach = c.reach.ensures ∙ ap (λ (x : Text). reached (rules_of old.page.rules) (state_of old.state) x) (c.text_of.ensures
    ∙ first-text s t start es there same _) in
    let newline = c.newline_after.ensures s start there ended (last-end s t start es there same _) in
    let pass = c.pass.ensures.state s start same in
    elim c.if-stays.branch [
      | then-stays+in_ok-put w ↦
          stays-laid s old _ st reach pass w.text_between.result.now (newline_after s) w.put.new.self (sym c.stays.ensures ∙ w.if-stays.true)
          (body-text s t start es there same _ _
          ∙ ap (λ (x : Text). x ++ newline_after s) (sym (w.text_between.ensures (in-order s t start es there same _ _)))) w.in_ok-put.ensures
          (subst (λ (x : Text). Gains x w.put.new.self c.put-2.new.self) newline
          (subst (λ x. Gains c.newline_after.result.now x.1.0 c.put-2.new.self) w.self-is g))
      | else-stays+in_ok-put_statement w ↦
          puts-laid s old _ st reach pass w.put_statement.new.page
          (sym c.stays.ensures ∙ w.if-stays.false) (w.in_ok-put_statement.ensures.laid s start is there same)
          (subst (λ (x : Text). Gains x w.put_statement.new.page c.put-2.new.self) newline
          (subst (λ x. Gains c.newline_after.result.now x.1.0 c.put-2.new.self) w.self-is g))
    ]) c.put-2.ensures

pub returns-clause-source : goal.returns-clause-source
returns-clause-source c =
    IfOk-weaker c.put-2.result _ _
    (λ _ g. ap (λ x. x.now) g.source
    ∙ elim c.if-stays.branch [
      | then-stays+in_ok-put w ↦ ap (λ x. x.1.0.source.now) w.self-is ∙ ap (λ x. x.now) w.in_ok-put.ensures.source
      | else-stays+in_ok-put_statement w ↦ ap (λ x. x.1.0.source.now) w.self-is ∙ ap (λ x. x.now) w.in_ok-put_statement.ensures.source
    ]) c.put-2.ensures
