-- The slot at a place, as the table shows it.
use Rattle.std.proofs.Common.{◌≡◌, Option, None, Some, option_map, slice_get, refl, sym, ap, ◌∙◌}
use Rattle.std.proofs.lemmas.Option.{slice_get-map}
use Rattle.std.specs.Borrow.{Bor}
use Rattle.toml_edit_model.specs.Slots.{on_item}
use Rattle.toml_edit_model.specs.Tree.{Key}
use Rattle.toml_edit_slots.specs.Seen.{pair_read, seen}
use Rattle.toml_edit_tree.specs.SlotsOf.{slot_read}
use Rattle.toml_edit_tree.specs.View.{item_view}
use Rattle.toml_edit_tree.specs.declared.item.Item.{Item}
use Rattle.toml_edit_tree.specs.declared.table.Table.{out-Table}
use Rattle.toml_edit_tree.proofs.SlotsLaws.{shown-seen, table-shown}
use Rattle.toml_edit_tree.proofs.table.Table.key_value_at.Goals as goal

read : (o : Option (Bor Key × Bor Item)) → option_map slot_read o ≡ option_map (on_item item_view) (option_map pair_read o)
read None = refl
read (Some p) = refl

pub returns : goal.returns
returns c =
    let es = (out-Table c.args.self.now).slots in
    read c.key_value_at.result ∙ ap (option_map (on_item item_view)) c.key_value_at.ensures
    ∙ sym (ap (λ l. slice_get l c.args.at) (table-shown c.args.self.now ∙ shown-seen es)
    ∙ slice_get-map (on_item item_view) (seen es) c.args.at)
