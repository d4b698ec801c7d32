-- The slot at a place, as the inline table shows it.
use Rattle.std.proofs.Common.{◌≡◌, Option, None, Some, option_map, slice_get, refl, sym, ap, ◌∙◌}
use Rattle.std.proofs.lemmas.Option.{slice_get-map}
use Rattle.std.specs.Borrow.{Bor}
use Rattle.toml_edit_model.specs.Slots.{on_item}
use Rattle.toml_edit_model.specs.Tree.{Key}
use Rattle.toml_edit_slots.specs.Seen.{pair_read, seen}
use Rattle.toml_edit_tree.specs.SlotsOf.{slot_read}
use Rattle.toml_edit_tree.specs.View.{item_view}
use Rattle.toml_edit_tree.specs.declared.inline_table.InlineTable.{out-InlineTable}
use Rattle.toml_edit_tree.specs.declared.item.Item.{Item}
use Rattle.toml_edit_tree.proofs.SlotsLaws.{inline-shown, shown-seen}
use Rattle.toml_edit_tree.proofs.inline_table.InlineTable.key_value_at.Goals as goal

read : (o : Option (Bor Key × Bor Item)) → option_map slot_read o ≡ option_map (on_item item_view) (option_map pair_read o)
read None = refl
read (Some p) = refl

pub returns : goal.returns
returns c =
    let es = (out-InlineTable c.args.self.now).items in
    read c.key_value_at.result ∙ ap (option_map (on_item item_view)) c.key_value_at.ensures
    ∙ sym (ap (λ l. slice_get l c.args.at) (inline-shown c.args.self.now ∙ shown-seen es)
    ∙ slice_get-map (on_item item_view) (seen es) c.args.at)
