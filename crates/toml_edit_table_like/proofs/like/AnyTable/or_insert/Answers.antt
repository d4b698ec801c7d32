-- The item of a key, which may be new.
use mathlib.Core.Logic.{inl, inr}
use Rattle.std.proofs.Common.{Some, option_map, slice_get, refl, sym, ap, ◌∙◌}
use Rattle.std.proofs.lemmas.Option.{same_Some}
use Rattle.std.specs.Option.{unwrap_or}
use Rattle.toml_edit_model.specs.Keys.{new_key}
use Rattle.toml_edit_model.specs.Slots.{has_slot, lookup, put, with_item as with_item_seen}
use Rattle.toml_edit_slots.specs.Slots.{items_of, with_item}
use Rattle.toml_edit_table_like.specs.Putting.{item_put}
use Rattle.toml_edit_table_like.specs.Shown.{shown}
use Rattle.toml_edit_tree.specs.View.{item_view}
use Rattle.toml_edit_table_like.proofs.like.AnyTable.or_insert.Goals as goal

pub returns-in-Ok : goal.returns-in-Ok
returns-in-Ok g c =
    let t = c.args.self.now in
    let k = new_key c.args.key.now in
    let fs = c.find_or_add.new.slots in
    let at = c.in-Ok.at in
    let seen = ap shown c.as_slots_mut.ensures.slots ∙ sym (g.Self.HasSlots.shows t) in (
      λ j. inl (
        c.item_at_mut.result.ghost_name,
        λ w. (g.Self.HasSlots.again _ fs t
            ∙ ap (λ l. g.Self.HasSlots.with_entries l t) (ap (with_item at w) (g.Self.HasSlots.takes fs t) ∙ c.in-Ok.ensures.rest w
            ∙ ap (item_put k w) c.as_slots_mut.ensures.slots)) j,
      ),
      (
        same_Some _ _ (ap (option_map item_view) (c.item_at_mut.ensures.item
            ∙ ap (λ l. slice_get (items_of l) at) (g.Self.HasSlots.takes fs t)) ∙ c.in-Ok.ensures.item
            ∙ ap (λ l. Some (unwrap_or (lookup c.args.key.now l) (item_view c.args.item))) seen),
        (
          λ w. g.Self.HasSlots.shows _ ∙ ap shown (g.Self.HasSlots.takes _ t)
              ∙ ap (λ l. shown (item_put k w l)) (sym c.as_slots_mut.ensures.slots) ∙ c.find_or_add.ensures.leaves w
              ∙ ap (put (with_item_seen (item_view w)) (record { key = k; item = item_view w })) seen,
          (λ w. g.Self.HasSlots.keeps _ t, (λ _. refl, tt)),
        ),
      ),
    )

pub returns-in-Err : goal.returns-in-Err
returns-in-Err g c =
    let t = c.args.self.now in
    let k = new_key c.args.key.now in
    let seen = ap shown c.as_slots_mut.ensures.slots ∙ sym (g.Self.HasSlots.shows t) in (
      λ j. inr ((ap (λ l. g.Self.HasSlots.with_entries l t) (c.in-Err.ensures.err ∙ c.as_slots_mut.ensures.slots)
          ∙ g.Self.HasSlots.stays t) j),
      (
        tt,
        (
          λ w. g.Self.HasSlots.shows _ ∙ ap shown (g.Self.HasSlots.takes _ t)
              ∙ ap (λ l. shown (item_put k w l)) (sym c.as_slots_mut.ensures.slots) ∙ c.find_or_add.ensures.leaves w
              ∙ ap (put (with_item_seen (item_view w)) (record { key = k; item = item_view w })) seen,
          (λ w. g.Self.HasSlots.keeps _ t, (λ h. c.in-Err.ensures.present (ap (has_slot c.args.key.now) seen ∙ h), c.in-Err.ensures.back)),
        ),
      ),
    )
