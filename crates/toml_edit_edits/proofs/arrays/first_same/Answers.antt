-- The first value that is the same.
use Rattle.std.proofs.Common.{◌∙◌, arith, sym}
use Rattle.toml_edit_tree.specs.Elements.{items_of}
use Rattle.toml_edit_tree.specs.View.{value_view}
use Rattle.toml_edit_edits.proofs.SameLaws.{differs-on, first-at, none-on, none-same}
use Rattle.toml_edit_edits.proofs.arrays.first_same.Goals as goal
use Rattle.toml_edit_edits.proofs.arrays.first_same.Goals.{in-Some+else-same_value, in_default}

pub returns-then-same_value-clause-place : goal.returns-then-same_value-clause-place
returns-then-same_value-clause-place c =
    first-at (value_view c.args.value.now) (items_of c.args.array.now) c.loop-at.at (value_view c.in-Some.other.now) c.in-Some.ensures
    (sym c.same_value.ensures ∙ c.if-same_value.true) c.loop-at.invariant

pub loop-at-preserved : goal.loop-at-preserved
loop-at-preserved c =
    let v = value_view c.args.value.now in
    let xs = items_of c.args.array.now in
    elim c.match-get.branch [
      | in-Some+else-same_value w ↦
          differs-on v xs c.loop-at.at (value_view w.in-Some.other.now) w.in-Some.ensures (sym w.same_value.ensures ∙ w.if-same_value.false)
          c.loop-at.invariant
      | in_default w ↦
          none-on v xs c.loop-at.at (omega (arith, c.loop-at-test.true, c.len-at-end.ensures)) w.in_default.ensures c.loop-at.invariant
    ]

pub returns-clause-place : goal.returns-clause-place
returns-clause-place c =
    none-same (value_view c.args.value.now) (items_of c.args.array.now) c.loop-at.at
    (omega (arith, c.loop-at-test.false, c.len-at-end.ensures)) c.loop-at.invariant
