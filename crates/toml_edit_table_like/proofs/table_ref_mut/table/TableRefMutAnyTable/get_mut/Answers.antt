-- The item of a key, to be changed, and what it leaves.
use Rattle.std.proofs.Common.{◌≡◌, Some, option_map, slice_get, refl, sym, ap, subst, ◌∙◌}
use Rattle.std.specs.Option.{option_map_or}
use Rattle.toml_edit_model.specs.Slots.{AreApart, changed, with_item}
use Rattle.toml_edit_model.specs.TableCalls.{get}
use Rattle.toml_edit_slots.specs.Slots.{items_of, place, with_item as with_item_at}
use Rattle.toml_edit_tree.specs.View.{item_view}
use Rattle.toml_edit_table_like.specs.InItems.{with_entries_in}
use Rattle.toml_edit_table_like.specs.MutRefs.{mut_entries, mut_keeps, mut_shows, mut_takes, mut_with}
use Rattle.toml_edit_table_like.specs.Shown.{shown}
use Rattle.toml_edit_table_like.proofs.FoundLaws.{item-written}
use Rattle.toml_edit_table_like.proofs.MutLaws.{lent-same, own-entries}
use Rattle.toml_edit_table_like.proofs.table_ref_mut.table.TableRefMutAnyTable.get_mut.Goals as goal

pub returns-in-Some : goal.returns-in-Some
returns-in-Some c =
    let r = c.args.self.now in
    let k = c.args.key.now in
    let es = mut_entries r in
    let apart : AreApart (shown es) = subst (λ l. AreApart (shown l)) c.as_slots.ensures c.filled_place.ensures.apart in
    let here : Some c.in-Some.at ≡ place k es = sym (ap (place k) (sym c.as_slots.ensures) ∙ c.in-Some.ensures.place) in
    let is = own-entries r.item.now c.own_slots_mut-slots.result.now c.own_slots_mut-slots.ensures.slots in (
      lent-same _ _ _ (λ w. ap (λ l. record r.item { now = with_entries_in l r.item.now })
          (ap (with_item_at c.in-Some.at w) is ∙ ap (λ o. option_map_or (λ i. with_item_at i w es) o es) here)),
      (
        ap (option_map item_view) (c.item_mut.ensures.item ∙ ap (λ l. slice_get (items_of l) c.in-Some.at) (is ∙ sym c.as_slots.ensures))
            ∙ c.in-Some.ensures.held
            ∙ ap (get k) (ap shown c.as_slots.ensures ∙ sym (mut_shows r)),
        (
          λ w. mut_shows (mut_with (option_map_or (λ i. with_item_at i w es) (place k es) es) r) ∙ ap shown (mut_takes _ r)
              ∙ item-written k w es apart ∙ ap (changed k (with_item (item_view w))) (sym (mut_shows r)),
          λ w. mut_keeps _ r,
        ),
      ),
    )

pub returns-in-None : goal.returns-in-None
returns-in-None c =
    let r = c.args.self.now in
    let k = c.args.key.now in
    let es = mut_entries r in
    let apart : AreApart (shown es) = subst (λ l. AreApart (shown l)) c.as_slots.ensures c.filled_place.ensures.apart in (
      refl,
      (
        c.in-None.ensures.held ∙ ap (get k) (ap shown c.as_slots.ensures ∙ sym (mut_shows r)),
        (
          λ w. mut_shows (mut_with (option_map_or (λ i. with_item_at i w es) (place k es) es) r) ∙ ap shown (mut_takes _ r)
              ∙ item-written k w es apart ∙ ap (changed k (with_item (item_view w))) (sym (mut_shows r)),
          λ w. mut_keeps _ r,
        ),
      ),
    )
