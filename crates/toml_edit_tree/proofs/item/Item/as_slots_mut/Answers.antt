-- The slots of a table or an inline table.
use Rattle.std.proofs.Common.{◌≡◌, List, Option, None, Some, option_map, refl, sym, ap, ◌∙◌}
use Rattle.std.specs.Borrow.{MutBor}
use Rattle.std.specs.Prelude.{IfSome}
use Rattle.toml_edit_slots.specs.declared.slots.Slot.{Slot}
use Rattle.toml_edit_tree.specs.Indexed.{slots_held, with_slots, shown_slots}
use Rattle.toml_edit_tree.specs.declared.item.Item.{Item}
use Rattle.toml_edit_tree.proofs.SlotsInLaws.{held-seen, item-holds, own-item}
use Rattle.toml_edit_tree.proofs.item.Item.as_slots_mut.Goals as goal

seen : (o : Option (MutBor (List (Slot Item)))) → option_map (λ es. shown_slots es.now) o
    ≡ option_map shown_slots (option_map (λ es. es.now) o)
seen None = refl
seen (Some es) = refl

own : (x : Item) (o : Option (MutBor (List (Slot Item)))) → option_map (λ es. es.now) o ≡ slots_held x
    → IfSome o (λ es. with_slots es.now x ≡ x)
own x None is = tt
own x (Some es) is = own-item es.now x (sym is)

pub returns : goal.returns
returns c =
    let x = c.args.self.now in
    let r = c.own_slots_mut.result in (
      refl,
      record {
        writes_back = tt;
        slots = seen r ∙ ap (option_map shown_slots) c.own_slots_mut.ensures.slots ∙ held-seen x;
        others = λ es. item-holds es x;
        own = own x r c.own_slots_mut.ensures.slots;
      },
    )
