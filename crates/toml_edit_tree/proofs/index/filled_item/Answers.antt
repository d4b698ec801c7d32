-- The item of a key, unless it is a placeholder.
use Rattle.std.proofs.Common.{not, Some, None, cond, option_map, sym, ap, ◌∙◌}
use Rattle.toml_edit_tree.specs.View.{item_view}
use Rattle.toml_edit_tree.proofs.IndexedLaws.{get-read, held_read}
use Rattle.toml_edit_tree.proofs.index.filled_item.Goals as goal
use Rattle.toml_edit_laws.proofs.slots.Those.{is_item-not}

pub returns-in_err-item : goal.returns-in_err-item
returns-in_err-item c =
    ap (option_map (λ x. item_view x.now)) c.from_residual.ensures
    ∙ sym (get-read c.args.key.now c.args.slots.now c.get_key_value.result c.get_key_value.ensures.apart c.get_key_value.ensures.slot
    ∙ ap held_read c.in_err-item.was)

pub returns-then-is_none : goal.returns-then-is_none
returns-then-is_none c =
    sym (get-read c.args.key.now c.args.slots.now c.get_key_value.result c.get_key_value.ensures.apart c.get_key_value.ensures.slot
    ∙ ap held_read c.in_ok-item.was
    ∙ ap (λ b. cond b (Some (item_view c.in_ok-item.item.now)) None) (sym (is_item-not _ _ c.is_none.ensures) ∙ ap not c.if-is_none.true))

pub returns-else-is_none : goal.returns-else-is_none
returns-else-is_none c =
    sym (get-read c.args.key.now c.args.slots.now c.get_key_value.result c.get_key_value.ensures.apart c.get_key_value.ensures.slot
    ∙ ap held_read c.in_ok-item.was
    ∙ ap (λ b. cond b (Some (item_view c.in_ok-item.item.now)) None) (sym (is_item-not _ _ c.is_none.ensures) ∙ ap not c.if-is_none.false))
