-- The value is inserted between its gaps.
use Rattle.std.proofs.Common.{◌≡◌, ◌+◌, ◌-◌, ◌<◌, [], ap, suc, subst, sym, ◌∙◌, arith, length, if◌then◌else◌}
use Rattle.std.proofs.lemmas.List.Edits.{length-insert}
use Rattle.std.specs.Prelude.{not, ◌||◌}
use Rattle.toml_edit_model.specs.ArrayCalls.{inserted_at}
use Rattle.toml_edit_model.specs.Slots.{changed_at}
use Rattle.toml_edit_model.specs.Tree.{owned}
use Rattle.toml_edit_tree.specs.Elements.{array_fields, items_of}
use Rattle.toml_edit_tree.specs.View.{value_view}
use Rattle.toml_edit_tree.specs.ArrayLines.{fields_with_gap, followed, is_last, placed, with_gap, with_suffix}
use Rattle.toml_edit_tree.proofs.ArrayLineLaws.{inserted-between, placed-within}
use Rattle.toml_edit_tree.proofs.array.lines.insert_between.Goals as goal

pub follow-requires : goal.follow-requires
follow-requires c =
    let xs = items_of c.args.array.now in
    let more : length (items_of c.insert.new.self) ≡ length xs + 1 =
    ap length c.in_ok-insert.ensures.items ∙ length-insert xs c.args.at (value_view c.args.value) c.requires in
    omega (arith, more, c.requires)

pub put_gap_after-requires : goal.put_gap_after-requires
put_gap_after-requires c =
    let f = array_fields c.args.array.now in
    let xs = items_of c.args.array.now in
    let at = c.args.at in
    let v = value_view c.args.value in
    let items : items_of c.insert.new.self ≡ inserted_at at v xs = c.in_ok-insert.ensures.items in
    let fields : array_fields c.insert.new.self ≡ f = c.insert.ensures.fields in
    let mid : items_of c.set_prefix_only.new.array ≡ inserted_at at (placed c.args.before v) (followed at f xs) =
    c.set_prefix_only.ensures.items
    ∙ ap (changed_at at (placed c.args.before)) (c.follow.ensures.items
    ∙ (λ i. if (fields i).comma || not (is_last at (items i)) then items i else changed_at (at - 1) (with_suffix (owned [])) (items i)))
    ∙ inserted-between f.comma c.args.before v xs at c.requires in
    subst (λ n. at < n) (sym (ap length mid)) (placed-within c.args.before v f xs at c.requires)

pub returns-clause-items : goal.returns-clause-items
returns-clause-items c =
    let f = array_fields c.args.array.now in
    let xs = items_of c.args.array.now in
    let at = c.args.at in
    let v = value_view c.args.value in
    let items : items_of c.insert.new.self ≡ inserted_at at v xs = c.in_ok-insert.ensures.items in
    let fields : array_fields c.insert.new.self ≡ f = c.insert.ensures.fields in
    let mid : items_of c.set_prefix_only.new.array ≡ inserted_at at (placed c.args.before v) (followed at f xs) =
    c.set_prefix_only.ensures.items
    ∙ ap (changed_at at (placed c.args.before)) (c.follow.ensures.items
    ∙ (λ i. if (fields i).comma || not (is_last at (items i)) then items i else changed_at (at - 1) (with_suffix (owned [])) (items i)))
    ∙ inserted-between f.comma c.args.before v xs at c.requires in
    let rest : array_fields c.set_prefix_only.new.array ≡ f = c.set_prefix_only.ensures.fields ∙ c.follow.ensures.fields ∙ fields in
    c.put_gap_after.ensures.items ∙ (λ i. with_gap (suc at) c.args.after (rest i) (mid i))

pub returns-clause-fields : goal.returns-clause-fields
returns-clause-fields c =
    let f = array_fields c.args.array.now in
    let xs = items_of c.args.array.now in
    let at = c.args.at in
    let v = value_view c.args.value in
    let items : items_of c.insert.new.self ≡ inserted_at at v xs = c.in_ok-insert.ensures.items in
    let fields : array_fields c.insert.new.self ≡ f = c.insert.ensures.fields in
    let mid : items_of c.set_prefix_only.new.array ≡ inserted_at at (placed c.args.before v) (followed at f xs) =
    c.set_prefix_only.ensures.items
    ∙ ap (changed_at at (placed c.args.before)) (c.follow.ensures.items
    ∙ (λ i. if (fields i).comma || not (is_last at (items i)) then items i else changed_at (at - 1) (with_suffix (owned [])) (items i)))
    ∙ inserted-between f.comma c.args.before v xs at c.requires in
    let rest : array_fields c.set_prefix_only.new.array ≡ f = c.set_prefix_only.ensures.fields ∙ c.follow.ensures.fields ∙ fields in
    c.put_gap_after.ensures.fields ∙ (λ i. fields_with_gap (suc at) c.args.after (rest i) (mid i))
