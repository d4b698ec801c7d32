-- The entry of a key.
use Rattle.std.proofs.Common.{◌≡◌, [], ◌∷◌, ◌++◌, Some, None, rules, refl, sym, ap, ◌∙◌}
use Rattle.toml_edit_model.specs.Conversions.{made_value_or, new_inline}
use Rattle.toml_edit_model.specs.Keys.{new_key}
use Rattle.toml_edit_model.specs.Slots as model
use Rattle.toml_edit_model.specs.Tree.{inline, no_slots}
use Rattle.toml_edit_slots.specs.Slots.{place}
use Rattle.toml_edit_tree.specs.Containers.{inline_node}
use Rattle.toml_edit_tree.specs.SlotsOf.{inline_slots_of}
use Rattle.toml_edit_tree.specs.View.{value_view}
use Rattle.toml_edit_tree.specs.declared.inline_table.InlineTable.{out-InlineTable}
use Rattle.toml_edit_tree.specs.declared.item.Item.TheVariants as items
use Rattle.toml_edit_tree.specs.declared.value.Value.TheVariants as values
use Rattle.toml_edit_tree.proofs.InlineLaws.{made_inline_fields}
use Rattle.toml_edit_tree.proofs.InlinePlaceLaws.{has-made, key-made, key-new, leaves-made, leaves-new, slots-made, slots-new, value-made}
use Rattle.toml_edit_tree.proofs.InlinePlaceLaws.{value-new}
use Rattle.toml_edit_tree.proofs.ViewLaws.{view-InlineTable}
use Rattle.toml_edit_tree.proofs.inline_table.InlineTable.entry.Goals as goal

pub invariant_of-result : goal.invariant_of-result
invariant_of-result c =
    let k = new_key c.args.key.now in
    let at : place k.name (out-InlineTable c.args.self.now).items ≡ Some c.in-Some.at = sym c.in-Some.ensures.place in
    record {
      held = has-made k c.args.self.now c.make_value_at.new.self c.in-Some.at (value_view (values.InlineTable c.new.result)) at
          c.in-Some.ensures.within c.place_of.ensures.apart c.make_value_at.ensures.items;
    }

pub returns-in-Some : goal.returns-in-Some
returns-in-Some c =
    let k = new_key c.args.key.now in
    let t = c.args.self.now in
    let u = c.make_value_at.new.self in
    let i = c.in-Some.at in
    let d = value_view (values.InlineTable c.new.result) in
    let at : place k.name (out-InlineTable t).items ≡ Some i = sym c.in-Some.ensures.place in
    let inside = c.in-Some.ensures.within in
    let apart = c.place_of.ensures.apart in
    let made = c.make_value_at.ensures.items in
    let empty : d ≡ inline new_inline no_slots = view-InlineTable c.new.result ∙ ap inline_node c.new.ensures in (
      (refl, λ w. refl, tt),
      (
        refl,
        record {
          slots = slots-made k t u i d at inside apart made ∙ ap (λ n. model.changed k.name (model.on_item (made_value_or n))
              (inline_slots_of t)) empty;
          fields = c.make_value_at.ensures.fields;
          value = value-made k t u i d at inside apart made;
          key = key-made k t u i d at inside apart made;
          leaves = leaves-made k t u i d at inside apart made;
          keeps = λ x. made_inline_fields u _ ∙ c.make_value_at.ensures.fields;
        },
      ),
    )

pub returns-in-Ok : goal.returns-in-Ok
returns-in-Ok c =
    let k = new_key c.args.key.now in
    let t = c.args.self.now in
    let es = (out-InlineTable t).items in
    let is : c.in-Ok.key ≡ k = c.in-Ok.ensures in
    let none : place k.name es ≡ None = search rules in (
      (refl, λ w. refl, tt),
      (
        refl,
        record {
          slots = slots-new k t none _;
          fields = refl;
          value = value-new k t none;
          key = ap Some is ∙ key-new k t none;
          leaves = λ x. ap (λ y. inline_slots_of (record t { items = es ++ record { key = y; item = items.Value x } ∷ [] })) is
              ∙ leaves-new k t none x;
          keeps = λ x. made_inline_fields t _;
        },
      ),
    )
