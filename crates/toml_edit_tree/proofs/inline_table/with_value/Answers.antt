-- The key with what its item is made.
use Rattle.std.proofs.Common.{option_map, sym, ap, ◌∙◌}
use Rattle.toml_edit_model.specs.Slots.{with_item}
use Rattle.toml_edit_tree.specs.InlineSlots.{value_taken}
use Rattle.toml_edit_tree.specs.SlotsOf.{slot_taken}
use Rattle.toml_edit_tree.specs.View.{value_view}
use Rattle.toml_edit_tree.proofs.inline_table.with_value.Goals as goal

pub returns-in_err-value : goal.returns-in_err-value
returns-in_err-value c =
    ap (option_map value_taken) c.from_residual.ensures
    ∙ ap (option_map (λ v. with_item v (slot_taken c.args.slot))) (sym (ap (option_map value_view) c.in_err-value.was) ∙ c.value_of.ensures)

pub returns : goal.returns
returns c = ap (option_map (λ v. with_item v (slot_taken c.args.slot))) (sym (ap (option_map value_view) c.in_ok-value.was)
    ∙ c.value_of.ensures)
