-- What is inserted is a new inline table of the version and of the array that the loop has filled.
use Rattle.std.proofs.Common.{◌≡◌, ◌≤◌, [], Bor, List, ap, codes, length, map, ◌∙◌, rules, arith}
use Rattle.std.proofs.lemmas.List.{take_all}
use Rattle.toml_edit.specs.model.Conversions.{new_inline}
use Rattle.toml_edit.specs.model.Lists.{item_list, slot_list}
use Rattle.toml_edit.specs.model.Slots.{inserted}
use Rattle.toml_edit.specs.model.Text.{Text}
use Rattle.toml_edit.specs.tree.InlineSlots.{inline_fields}
use Rattle.toml_edit.specs.tree.SlotsOf.{inline_slots_of, slots_of}
use Rattle.toml_edit.specs.tree.View.{array_view, inline_view, item_view, value_view}
use Rattle.toml_edit.specs.tree.declared.item.Item.TheVariants as items
use Rattle.example_calls.specs.Adds.{array_of, string_value}
use Rattle.example_calls.proofs.AddLaws.{array-all, two-slots, view-Value}
use Rattle.example_calls.proofs.adding.add_dependency.Goals as goal

pub returns-clause-ok : goal.returns-clause-ok
returns-clause-ok c =
    let version = c.args.version.now in
    let features : List Text = map (λ (t : Bor Text). t.now) c.args.features.now in
    let a = c.loop-feature.names in
    let end : length c.args.features.now ≤ c.loop-feature.feature-index = omega arith in
    let strings : item_list (array_view a).items ≡ map string_value features =
    c.loop-feature.invariant.0 ∙ ap (λ (ts : List (Bor Text)). map string_value (map (λ (t : Bor Text). t.now) ts))
    (take_all c.loop-feature.feature-index c.args.features.now end) in
    let array : value_view c.from-features.result ≡ array_of features = c.from-features.ensures
    ∙ array-all features (array_view a) c.loop-feature.invariant.1 strings in
    let t = c.insert-2.new.self in
    let first : inline_slots_of c.insert.new.self ≡ inserted (codes "version") (value_view c.in_ok-version.version)
    (inline_slots_of c.new-dependency.result) = search rules in
    let second : inline_slots_of t ≡ inserted (codes "features") (value_view c.from-features.result) (inline_slots_of c.insert.new.self) =
    search rules in
    let put : slots_of c.insert-3.new.self ≡ inserted c.args.name.now (item_view (items.Value c.from.result))
    (slots_of c.args.dependencies.now) = search rules in
    let text : value_view c.in_ok-version.version ≡ string_value version = search rules in
    let slots : inline_slots_of t ≡ inserted (codes "features") (array_of features) (inserted (codes "version") (string_value version) []) =
    second ∙ (λ i. inserted (codes "features") (array i) (first i))
    ∙ (λ i. inserted (codes "features") (array_of features)
    (inserted (codes "version") (text i) (slot_list (c.new-dependency.ensures i).slots))) in
    let fields : inline_fields t ≡ new_inline = c.insert-2.ensures.fields ∙ c.insert.ensures.fields
    ∙ ap (λ v. v.fields) c.new-dependency.ensures in
    put ∙ ap (λ n. inserted c.args.name.now n (slots_of c.args.dependencies.now)) (view-Value c.from.result ∙ c.from.ensures
    ∙ two-slots version features (inline_view t) fields slots)
