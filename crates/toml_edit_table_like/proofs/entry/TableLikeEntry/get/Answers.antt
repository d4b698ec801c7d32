-- The item of an entry.
use Rattle.std.proofs.Common.{◌≡◌, Option, Some, None, option_map, refl, sym, ap, ◌∙◌}
use Rattle.std.specs.Borrow.{Bor}
use Rattle.std.specs.Option.{option_copied}
use Rattle.toml_edit_model.specs.Slots as model
use Rattle.toml_edit_slots.specs.Slots.{lookup}
use Rattle.toml_edit_tree.specs.View.{item_view}
use Rattle.toml_edit_tree.specs.declared.item.Item.{Item}
use Rattle.toml_edit_table_like.proofs.ShownLaws.{lookup-shown}
use Rattle.toml_edit_table_like.proofs.entry.TableLikeEntry.get.Goals as goal

read : (o : Option (Bor Item)) → option_map (λ x. item_view x.now) o ≡ option_map item_view (option_copied o)
read None = refl
read (Some x) = refl

pub returns : goal.returns
returns g c =
    let t = c.args.self.now.table.now in
    let k = c.key.result.now in
    read c.get.result ∙ ap (option_map item_view) (c.get.ensures ∙ ap (lookup k) c.as_slots.ensures)
    ∙ sym (ap (model.lookup k) (g.T.HasSlots.shows t) ∙ lookup-shown k (g.T.HasSlots.entries t))
    ∙ ap (λ u. model.lookup u (g.T.HasSlots.slots_of t)) c.key.ensures
