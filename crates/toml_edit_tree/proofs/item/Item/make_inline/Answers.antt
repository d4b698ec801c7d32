-- A placeholder that becomes an inline table.
use Rattle.std.proofs.Common.{Some, option_and_then, sym, ap, ◌∙◌}
use Rattle.toml_edit_model.specs.Lists.{slots_in}
use Rattle.toml_edit_model.specs.Slots.{place}
use Rattle.toml_edit_tree.specs.View.{item_view}
use Rattle.toml_edit_tree.proofs.IndexedLaws.{made-inline, placed-inline}
use Rattle.toml_edit_tree.proofs.item.Item.make_inline.Goals as goal

pub returns-in-Ok-clause-made : goal.returns-in-Ok-clause-made
returns-in-Ok-clause-made c =
    made-inline c.args.key.now c.new-table.result c.find_or_add_slot.new.slots c.new-table.ensures c.in-Ok.ensures.made
    ∙ ap (λ x. Some (item_view x)) (sym c.replace.ensures.after)

pub returns-in-Ok-clause-place : goal.returns-in-Ok-clause-place
returns-in-Ok-clause-place c =
    ap (λ x. option_and_then (place c.args.key.now) (slots_in (item_view x))) c.replace.ensures.after
    ∙ placed-inline c.args.key.now c.new-table.result c.find_or_add_slot.new.slots ∙ c.in-Ok.ensures.place
