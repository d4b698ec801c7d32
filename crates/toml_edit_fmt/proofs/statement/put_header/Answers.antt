-- The parts of a header, one after another.
use Rattle.std.proofs.Common.{ap, arith, length, ◌∙◌}
use Rattle.std.proofs.lemmas.Result.{IfOk-weaker}
use Rattle.toml_edit_fmt_laws.specs.Rules.{line_depth}
use Rattle.toml_edit_fmt.specs.RulesView.{rules_of}
use Rattle.toml_edit_fmt.specs.StateView.{state_of}
use Rattle.toml_edit_fmt.proofs.PutLaws.{header-put, path-put}
use Rattle.toml_edit_fmt.proofs.statement.put_header.Goals as goal

pub returns-in_default-2-clause-laid : goal.returns-in_default-2-clause-laid
returns-in_default-2-clause-laid c h end start is there same =
    let put = path-put h end start (state_of c.args.state) c.depth_below-depth.result c.key_count.result c.args.statement.now c.in_ok-put_path.field-0.now
    c.args.page.now c.put_header_leading.new.page c.put_event.new.self c.put_inside.new.page c.put_path.new.page c.put_path.new.page
    c.put_path.new.page c.put_path.new.page is there same (c.key_count.ensures.keys h start same)
    (c.depth_below-depth.ensures ∙ ap (λ n. line_depth (rules_of c.args.page.now.rules) n) c.saturating_sub.ensures)
    (c.in_ok-put_inside.ensures.source ∙ c.in_ok-put_event.ensures.source ∙ c.in_ok-put_header_leading.ensures.source)
    c.in_ok-put_path.ensures.path in
    let few = c.in_default-2.len_below in
    absurd (omega (arith, ap (λ x. length x) put.0))

pub returns-clause-laid : goal.returns-clause-laid
returns-clause-laid c h end start is there same =
    IfOk-weaker c.put_rest.result _ _
    (λ _ g. header-put h end start (state_of c.args.state) c.depth_below-depth.result c.key_count.result c.args.statement.now c.in_ok-put_path.field-0.now
    c.args.page.now c.put_header_leading.new.page c.put_event.new.self c.put_inside.new.page c.put_path.new.page c.put_inside-2.new.page
    c.put_event-2.new.self c.put_rest.new.page is there same (c.key_count.ensures.keys h start same)
    (c.depth_below-depth.ensures ∙ ap (λ n. line_depth (rules_of c.args.page.now.rules) n) c.saturating_sub.ensures) c.text_of-lines.result.now
    c.text_of-rest.result.now _ _ _ _ _ _ c.text_of-lines.ensures c.in_ok-put_header_leading.ensures c.in_ok-put_event.ensures
    c.in_ok-put_inside.ensures c.in_ok-put_path.ensures.path c.in_ok-put_inside-2.ensures c.in_ok-put_event-2.ensures c.text_of-rest.ensures g)
    c.put_rest.ensures
