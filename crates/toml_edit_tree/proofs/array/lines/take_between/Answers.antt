-- The gap is put where the value was.
use Rattle.std.proofs.Common.{◌∙◌}
use Rattle.toml_edit_tree.specs.ArrayLines.{fields_with_gap, with_gap}
use Rattle.toml_edit_tree.proofs.array.lines.take_between.Goals as goal

pub returns-clause-items : goal.returns-clause-items
returns-clause-items c =
    c.put_gap.ensures.items ∙ (λ i. with_gap c.args.at c.args.left (c.remove-value.ensures.fields i) (c.remove-value.ensures.items i))

pub returns-clause-fields : goal.returns-clause-fields
returns-clause-fields c =
    c.put_gap.ensures.fields ∙ (λ i. fields_with_gap c.args.at c.args.left (c.remove-value.ensures.fields i)
    (c.remove-value.ensures.items i))
