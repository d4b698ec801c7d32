-- The first item that is equal once it is made a value.
use Rattle.std.proofs.Common.{◌∙◌, arith, sym}
use Rattle.toml_edit_tree.specs.View.{value_view}
use Rattle.toml_edit_edits.proofs.ElementLaws.{differs-made, first-made, none-made}
use Rattle.toml_edit_edits.proofs.elements.first_same.Goals as goal

pub returns-then-branch-clause-place : goal.returns-then-branch-clause-place
returns-then-branch-clause-place c =
    first-made (value_view c.args.value.now) c.args.items.now.items c.loop-at.at c.index.result.now
    (omega (arith, c.loop-at-test.true, c.len-at-end.ensures)) c.index.ensures (sym c.in_ok-is_same.ensures ∙ c.if-branch.true) c.loop-at.invariant

pub loop-at-preserved : goal.loop-at-preserved
loop-at-preserved c =
    differs-made (value_view c.args.value.now) c.args.items.now.items c.loop-at.at c.index.result.now
    (omega (arith, c.loop-at-test.true, c.len-at-end.ensures)) c.index.ensures (sym c.in_ok-is_same.ensures ∙ c.if-branch.false) c.loop-at.invariant

pub returns-clause-place : goal.returns-clause-place
returns-clause-place c =
    none-made (value_view c.args.value.now) c.args.items.now.items c.loop-at.at
    (omega (arith, c.loop-at-test.false, c.len-at-end.ensures)) c.loop-at.invariant
