-- The parts of a line, one after another.
use Rattle.std.proofs.Common.{ap, arith, length, refl, rules, true, Some, ◌∙◌}
use Rattle.std.proofs.lemmas.Result.{IfOk-weaker}
use Rattle.toml_edit_fmt.specs.StateView.{state_of}
use Rattle.toml_edit_fmt.proofs.PutLaws.{line-put, value-put}
use Rattle.toml_edit_fmt.proofs.statement.put_key_line.Goals as goal

pub returns-in_default-2-clause-laid : goal.returns-in_default-2-clause-laid
returns-in_default-2-clause-laid c f v end start is there same =
    let put = value-put f v end start (state_of c.args.state) c.depth_below-depth.result c.len-start.result c.columns_since.result (record { depth = c.depth_below-depth.result; may_break = true; used = Some c.columns_since.result })
    c.args.statement.now c.in_ok-value.value.now c.in_ok-put_value.field-0.now c.args.page.now c.put_leading.new.page c.put_pair_head.new.page c.put_value.new.page
    c.put_value.new.page is there same c.depth_below-depth.ensures c.len-start.ensures refl (search rules) c.text_of-before.result.now _
    c.text_of-before.ensures c.in_ok-put_leading.ensures c.in_ok-value.ensures.head c.columns_since.ensures c.in_ok-put_value.ensures.value in
    let few = c.in_default-2.len_below in
    absurd (omega (arith, ap (λ x. length x) put.0))

pub returns-clause-laid : goal.returns-clause-laid
returns-clause-laid c f v end start is there same =
    IfOk-weaker c.put_rest.result _ _
    (λ _ g. line-put f v end start (state_of c.args.state) c.depth_below-depth.result c.len-start.result c.columns_since.result (record { depth = c.depth_below-depth.result; may_break = true; used = Some c.columns_since.result })
    c.args.statement.now c.in_ok-value.value.now c.in_ok-put_value.field-0.now c.args.page.now c.put_leading.new.page c.put_pair_head.new.page c.put_value.new.page
    c.put_rest.new.page is there same c.depth_below-depth.ensures c.len-start.ensures refl (search rules) c.text_of-before.result.now _
    c.text_of-before.ensures c.in_ok-put_leading.ensures c.in_ok-value.ensures.head c.columns_since.ensures c.in_ok-put_value.ensures.value
    c.text_of-after.result.now _ c.text_of-after.ensures g)
    c.put_rest.ensures
