-- An item with fewer slots.
use Rattle.std.proofs.Common.{List, ap, subst, sym}
use Rattle.std.specs.Prelude.{Ok}
use Rattle.toml_edit_model.specs.Slots.{Slot}
use Rattle.toml_edit_model.specs.Tree.{Node}
use Rattle.toml_edit_tree.specs.Indexed.{shown_slots}
use Rattle.toml_edit_tree.specs.View.{item_view}
use Rattle.toml_edit_edits.specs.Effects.{on_table}
use Rattle.toml_edit_edits.specs.Outcomes.{Makes}
use Rattle.toml_edit_edits.specs.Removes.{slots_without, texts}
use Rattle.toml_edit_edits.proofs.OutcomeLaws.{table-made}
use Rattle.toml_edit_edits.proofs.removes.drop_in_item.Goals as goal

pub returns-in-Some : goal.returns-in-Some
returns-in-Some c =
    let n = item_view c.args.item.now in
    let go = slots_without (texts c.args.names.now) in
    subst (λ m. Makes (on_table go n) n m (Ok tt)) (sym (c.in-Some.ensures.others c.drop_slots.new.slots))
    (table-made go n (shown_slots c.in-Some.slots.now) (shown_slots c.drop_slots.new.slots) (Ok tt) (sym c.in-Some.ensures.slots)
    (ap (λ es. Ok es) (sym c.drop_slots.ensures)))
