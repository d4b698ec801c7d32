-- Both slots have a value, or one, or none.
use Rattle.std.proofs.Common.{[], ◌∷◌, refl}
use Rattle.toml_edit_tree.specs.View.{item_view, value_view}
use Rattle.toml_edit_tree.proofs.InlineSortLaws.{both-first}
use Rattle.toml_edit_tree.proofs.RetainLaws.{no_value, value-shown}
use Rattle.toml_edit_tree.proofs.inline_table.sort.compare_values.Goals as goal

pub returns-in-Some-Some : goal.returns-in-Some-Some
returns-in-Some-Some g c lt by =
    let one = value-shown (item_view c.args.item.now) (value_view c.in-Some-Some.value.now) c.in-Some-Some.ensures in
    let other = value-shown (item_view c.args.other.now) (value_view c.in-Some-Some.other_value.now) c.in-Some-Some.ensures' in
    let called = (g.met.F.FnMut.1.post_iff _ _ _).0 c.compare.ensures in
    let answers = (by.at (_ ∷ []) _ called.0 called.1).0 in
    both-first lt c.args.key.now c.args.other_key.now _ _ _ _ _ one.0 one.1 other.0 other.1 answers

pub returns-in-Some-None : goal.returns-in-Some-None
returns-in-Some-None g c lt by =
    let one = value-shown (item_view c.args.item.now) _ c.in-Some-None.ensures in
    let other = no_value (item_view c.args.other.now) c.in-Some-None.ensures' in
    rw (one.0, other) refl

pub returns-in-None-Some : goal.returns-in-None-Some
returns-in-None-Some g c lt by =
    let one = no_value (item_view c.args.item.now) c.in-None-Some.ensures in
    let other = value-shown (item_view c.args.other.now) _ c.in-None-Some.ensures' in
    rw (one, other.0) refl

pub returns-in-None-None : goal.returns-in-None-None
returns-in-None-None g c lt by =
    let one = no_value (item_view c.args.item.now) c.in-None-None.ensures in
    let other = no_value (item_view c.args.other.now) c.in-None-None.ensures' in
    rw (one, other) refl
