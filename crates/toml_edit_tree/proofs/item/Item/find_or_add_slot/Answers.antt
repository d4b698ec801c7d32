-- The place of a key among the slots of an item, which may be new.
use Rattle.std.proofs.Common.{option_and_then, ap, subst, sym, ◌∙◌}
use Rattle.std.specs.Option.{IsSome}
use Rattle.toml_edit_model.specs.Lists.{slots_in}
use Rattle.toml_edit_model.specs.Slots.{lookup, place}
use Rattle.toml_edit_tree.specs.Indexed.{with_slots, shown_slots}
use Rattle.toml_edit_tree.specs.View.{item_view}
use Rattle.toml_edit_tree.proofs.IndexedLaws.{has-found, slots-on}
use Rattle.toml_edit_tree.proofs.item.Item.find_or_add_slot.Goals as goal

pub returns-in-Ok-find_or_add_slot-clause-place : goal.returns-in-Ok-find_or_add_slot-clause-place
returns-in-Ok-find_or_add_slot-clause-place c =
    let k = c.args.key.now in
    let fs = c.find_or_add_slot.new.slots in
    ap (λ n. option_and_then (place k) (slots_in n)) (c.in-Some.ensures.others fs)
    ∙ ap (option_and_then (place k))
    (slots-on k (shown_slots c.in-Some.slots.now) (shown_slots fs) (item_view c.args.self.now) c.in-Some.ensures.slots)
    ∙ c.in-Ok-find_or_add_slot.ensures.place

pub returns-in-Err-find_or_add_slot-clause-present : goal.returns-in-Err-find_or_add_slot-clause-present
returns-in-Err-find_or_add_slot-clause-present c h =
    let k = c.args.key.now in
    c.in-Err-find_or_add_slot.ensures.present (has-found k (shown_slots c.in-Some.slots.now)
    (subst (λ o. IsSome (option_and_then (lookup k) o)) (sym c.in-Some.ensures.slots) h))

pub returns-in-Err-find_or_add_slot-clause-err : goal.returns-in-Err-find_or_add_slot-clause-err
returns-in-Err-find_or_add_slot-clause-err c =
    ap (λ es. with_slots es c.args.self.now) c.in-Err-find_or_add_slot.ensures.err ∙ c.in-Some.ensures.own
