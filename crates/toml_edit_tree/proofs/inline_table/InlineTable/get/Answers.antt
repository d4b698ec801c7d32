-- The value under a key.
use Rattle.std.proofs.Common.{option_map, sym, ap, ◌∙◌}
use Rattle.toml_edit_tree.specs.View.{value_view}
use Rattle.toml_edit_tree.proofs.InlineEntryLaws.{value-read, value_behind}
use Rattle.toml_edit_tree.proofs.inline_table.InlineTable.get.Goals as goal

pub returns-in_err-item : goal.returns-in_err-item
returns-in_err-item c =
    ap (option_map (λ v. value_view v.now)) c.from_residual.ensures
    ∙ sym (value-read c.args.key.now c.args.self.now c.get_key_value.result c.get_key_value.ensures.apart c.get_key_value.ensures.slot
    ∙ ap value_behind c.in_err-item.was)

pub returns : goal.returns
returns c =
    c.as_value.ensures
    ∙ sym (value-read c.args.key.now c.args.self.now c.get_key_value.result c.get_key_value.ensures.apart c.get_key_value.ensures.slot
    ∙ ap value_behind c.in_ok-item.was)
