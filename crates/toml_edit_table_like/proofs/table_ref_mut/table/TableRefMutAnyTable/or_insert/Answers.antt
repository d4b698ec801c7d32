-- The item of a key, which may be new.
use Rattle.std.proofs.Common.{Some, option_map, refl, sym, ap, ◌∙◌}
use Rattle.std.proofs.lemmas.Option.{same_Some}
use Rattle.std.specs.Option.{unwrap_or}
use Rattle.toml_edit_model.specs.Keys.{new_key}
use Rattle.toml_edit_model.specs.Slots.{has_slot, lookup, put, with_item as with_item_seen}
use Rattle.toml_edit_tree.specs.View.{item_view}
use Rattle.toml_edit_table_like.specs.InItems.{stays-in, with_entries_in}
use Rattle.toml_edit_table_like.specs.MutRefs.{mut_entries, mut_keeps, mut_shows, mut_takes, mut_with}
use Rattle.toml_edit_table_like.specs.Putting.{item_put}
use Rattle.toml_edit_table_like.specs.Shown.{shown}
use Rattle.toml_edit_table_like.proofs.MutLaws.{left-same, lent-same, own-entries}
use Rattle.toml_edit_table_like.proofs.table_ref_mut.table.TableRefMutAnyTable.or_insert.Goals as goal

pub returns-in-Ok : goal.returns-in-Ok
returns-in-Ok c =
    let r = c.args.self.now in
    let k = new_key c.args.key.now in
    let is = own-entries r.item.now c.own_slots_mut-slots.result.now c.own_slots_mut-slots.ensures.slots in
    let seen = ap shown is ∙ sym (mut_shows r) in (
      lent-same _ _ _ (λ w. ap (λ l. record r.item { now = with_entries_in l r.item.now }) (c.in-Ok.ensures.rest w ∙ ap (item_put k w) is)),
      (
        same_Some _ _ (ap (option_map item_view) c.item_mut.ensures.item ∙ c.in-Ok.ensures.item
            ∙ ap (λ l. Some (unwrap_or (lookup c.args.key.now l) (item_view c.args.item))) seen),
        (
          λ w. mut_shows (mut_with (item_put k w (mut_entries r)) r) ∙ ap shown (mut_takes _ r) ∙ ap (λ l. shown (item_put k w l)) (sym is)
              ∙ c.find_or_add.ensures.leaves w
              ∙ ap (put (with_item_seen (item_view w)) (record { key = k; item = item_view w })) seen,
          (λ w. mut_keeps _ r, (λ _. refl, tt)),
        ),
      ),
    )

pub returns-in-Err : goal.returns-in-Err
returns-in-Err c =
    let r = c.args.self.now in
    let k = new_key c.args.key.now in
    let is = own-entries r.item.now c.own_slots_mut-slots.result.now c.own_slots_mut-slots.ensures.slots in
    let seen = ap shown is ∙ sym (mut_shows r) in (
      left-same _ _ (ap (λ l. record r.item { now = with_entries_in l r.item.now }) (c.in-Err.ensures.err ∙ is)
          ∙ ap (λ x. record r.item { now = x }) (stays-in r.item.now)),
      (
        tt,
        (
          λ w. mut_shows (mut_with (item_put k w (mut_entries r)) r) ∙ ap shown (mut_takes _ r) ∙ ap (λ l. shown (item_put k w l)) (sym is)
              ∙ c.find_or_add.ensures.leaves w
              ∙ ap (put (with_item_seen (item_view w)) (record { key = k; item = item_view w })) seen,
          (λ w. mut_keeps _ r, (λ h. c.in-Err.ensures.present (ap (has_slot c.args.key.now) seen ∙ h), c.in-Err.ensures.back)),
        ),
      ),
    )
