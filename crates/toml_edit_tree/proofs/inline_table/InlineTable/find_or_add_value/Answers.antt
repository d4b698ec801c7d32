-- The place of a key's slot, which holds a value now.
use Rattle.std.proofs.Common.{◌≡◌, Some, is_some, option_map, sym, ap, ◌∙◌}
use Rattle.toml_edit_model.specs.Keys.{new_key}
use Rattle.toml_edit_model.specs.Slots.{lookup}
use Rattle.toml_edit_slots.specs.Slots.{place}
use Rattle.toml_edit_tree.specs.InlineLending.{with_value_at}
use Rattle.toml_edit_tree.specs.View.{value_view}
use Rattle.toml_edit_tree.specs.declared.inline_table.InlineTable.{out-InlineTable}
use Rattle.toml_edit_tree.specs.declared.item.Item.TheVariants as items
use Rattle.toml_edit_tree.proofs.InlineFillLaws.{has-none, lookup-put, or_inserted-here, put-again, put-last, put-leaves, put-there}
use Rattle.toml_edit_tree.proofs.InlinePlaceLaws.{has-made, slots-made, value-made, with-made}
use Rattle.toml_edit_tree.proofs.inline_table.InlineTable.find_or_add_value.Goals as goal

pub returns-in-Some-clause-held : goal.returns-in-Some-clause-held
returns-in-Some-clause-held c =
    has-made (new_key c.args.key.now) c.args.self.now c.make_value_at.new.self c.in-Some.at (value_view c.args.value)
    (sym c.in-Some.ensures.place)
    c.in-Some.ensures.within c.place_of.ensures.apart c.make_value_at.ensures.items

pub returns-in-Some-clause-value : goal.returns-in-Some-clause-value
returns-in-Some-clause-value c =
    let k = c.args.key.now in
    let t = c.args.self.now in
    let u = c.make_value_at.new.self in
    let i = c.in-Some.at in
    let d = value_view c.args.value in
    let at : place k (out-InlineTable t).items ≡ Some i = sym c.in-Some.ensures.place in
    value-made (new_key k) t u i d at c.in-Some.ensures.within c.place_of.ensures.apart c.make_value_at.ensures.items
    ∙ ap (lookup k) (slots-made (new_key k) t u i d at c.in-Some.ensures.within c.place_of.ensures.apart c.make_value_at.ensures.items
    ∙ or_inserted-here k t i at d)

pub returns-in-Some-clause-rest : goal.returns-in-Some-clause-rest
returns-in-Some-clause-rest c w =
    let k = c.args.key.now in
    let t = c.args.self.now in
    let u = c.make_value_at.new.self in
    let i = c.in-Some.at in
    let at : place k (out-InlineTable t).items ≡ Some i = sym c.in-Some.ensures.place in
    ap (with_value_at i w) c.make_value_at.ensures.table
    ∙ ap (λ l. record t { items = l }) (with-made (new_key k) t u i (value_view c.args.value) at c.in-Some.ensures.within
    c.place_of.ensures.apart c.make_value_at.ensures.items (items.Value w))
    ∙ put-there k t i at w

pub returns-in-Some-clause-leaves : goal.returns-in-Some-clause-leaves
returns-in-Some-clause-leaves c = put-leaves c.args.key.now c.args.self.now c.place_of.ensures.apart

pub returns-in-Ok-clause-held : goal.returns-in-Ok-clause-held
returns-in-Ok-clause-held c =
    let none = sym c.in-None.ensures.place in
    rw (c.in-Ok.ensures.place, c.in-Ok.ensures.table) (ap is_some (put-last c.args.key.now c.args.self.now none c.args.value))

pub returns-in-Ok-clause-value : goal.returns-in-Ok-clause-value
returns-in-Ok-clause-value c =
    let k = c.args.key.now in
    let t = c.args.self.now in
    let none = sym c.in-None.ensures.place in
    rw (c.in-Ok.ensures.place, c.in-Ok.ensures.table) (ap (option_map value_view) (put-last k t none c.args.value)
    ∙ sym (lookup-put k (value_view c.args.value) t none))

pub returns-in-Ok-clause-rest : goal.returns-in-Ok-clause-rest
returns-in-Ok-clause-rest c w =
    let none = sym c.in-None.ensures.place in
    rw (c.in-Ok.ensures.place, c.in-Ok.ensures.table) (put-again c.args.key.now c.args.self.now none c.args.value w)

pub returns-in-Ok-clause-leaves : goal.returns-in-Ok-clause-leaves
returns-in-Ok-clause-leaves c = put-leaves c.args.key.now c.args.self.now c.place_of.ensures.apart

pub returns-in-Err-clause-leaves : goal.returns-in-Err-clause-leaves
returns-in-Err-clause-leaves c = put-leaves c.args.key.now c.args.self.now c.place_of.ensures.apart

pub returns-in-Err-clause-present : goal.returns-in-Err-clause-present
returns-in-Err-clause-present c h =
    absurd (let none = has-none c.args.key.now c.args.self.now (sym c.in-None.ensures.place) in let is = h in cc)
