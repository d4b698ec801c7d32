-- The item, put in and made a value.
use Rattle.std.proofs.Common.{option_and_then, option_map, sym, ap, ◌∙◌}
use Rattle.toml_edit_model.specs.Conversions.{into_value, made_value}
use Rattle.toml_edit_model.specs.InlineCalls.{old_value}
use Rattle.toml_edit_model.specs.Slots.{changed, has_slot, inserted, on_item}
use Rattle.toml_edit_table_like.specs.Kinds.{inline_shows}
use Rattle.toml_edit_table_like.specs.Shown.{shown}
use Rattle.toml_edit_table_like.proofs.MadeLaws.{inserted-shown, made-inserted}
use Rattle.toml_edit_table_like.proofs.ShownLaws.{has_slot-shown, lookup-shown}
use Rattle.toml_edit_tree.specs.View.{item_view}
use Rattle.toml_edit_tree.specs.declared.inline_table.InlineTable.{out-InlineTable}
use Rattle.toml_edit_table_like.proofs.inline.insert_item.Goals as goal

pub returns-in-Ok-clause-old : goal.returns-in-Ok-clause-old
returns-in-Ok-clause-old c =
    let t = c.args.table.now in
    c.old_value_item.ensures ∙ ap (λ o. option_and_then into_value (option_map item_view o)) c.in-Ok.ensures.old
    ∙ sym (ap (old_value c.args.key.now) (inline_shows t)
    ∙ ap (option_and_then into_value) (lookup-shown c.args.key.now (out-InlineTable t).items))

pub returns-in-Ok-clause-slots : goal.returns-in-Ok-clause-slots
returns-in-Ok-clause-slots c =
    let t = c.args.table.now in
    let k = c.args.key.now in
    let es = (out-InlineTable t).items in
    let n = item_view c.args.item in
    inline_shows _ ∙ c.make_value_under.ensures
    ∙ ap (changed k (on_item made_value)) (inserted-shown k c.args.item es c.insert.new.self c.in-Ok.ensures.seen)
    ∙ made-inserted k n (shown es) ∙ ap (inserted k (made_value n)) (sym (inline_shows t))

pub returns-in-Err-clause-present : goal.returns-in-Err-clause-present
returns-in-Err-clause-present c h =
    let t = c.args.table.now in
    c.in-Err.ensures.present (sym (ap (has_slot c.args.key.now) (inline_shows t) ∙ has_slot-shown c.args.key.now (out-InlineTable t).items)
    ∙ h)
