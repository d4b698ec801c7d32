-- The item of a key, to be changed, and what it leaves.
use Rattle.std.proofs.Common.{◌≡◌, Some, option_map, slice_get, refl, sym, ap, subst, ◌∙◌}
use mathlib.Core.Logic.{inl}
use Rattle.std.specs.Option.{option_map_or}
use Rattle.toml_edit_model.specs.Slots.{AreApart, changed, with_item}
use Rattle.toml_edit_model.specs.TableCalls.{get}
use Rattle.toml_edit_slots.specs.Slots.{items_of, place, with_item as with_item_at}
use Rattle.toml_edit_table_like.specs.Shown.{shown}
use Rattle.toml_edit_tree.specs.View.{item_view}
use Rattle.toml_edit_table_like.proofs.FoundLaws.{item-written}
use Rattle.toml_edit_table_like.proofs.like.AnyTable.get_mut.Goals as goal

pub returns-in-Some : goal.returns-in-Some
returns-in-Some g c =
    let t = c.args.self.now in
    let k = c.args.key.now in
    let es = g.Self.HasSlots.entries t in
    let apart : AreApart (shown es) = subst (λ l. AreApart (shown l)) c.as_slots.ensures c.filled_place.ensures.apart in
    let here : Some c.in-Some.at ≡ place k es = sym (ap (place k) (sym c.as_slots.ensures) ∙ c.in-Some.ensures.place) in (
      λ j. inl (
        c.item_at_mut.result.ghost_name,
        λ w. g.Self.HasSlots.with_entries (option_map_or (λ i. with_item_at i w es) (here j) es)
            t,
      ),
      (
        ap (option_map item_view) (c.item_at_mut.ensures.item ∙ ap (λ l. slice_get (items_of l) c.in-Some.at) (sym c.as_slots.ensures))
            ∙ c.in-Some.ensures.held
            ∙ ap (get k) (ap shown c.as_slots.ensures ∙ sym (g.Self.HasSlots.shows t)),
        (
          λ w. g.Self.HasSlots.shows _ ∙ ap shown (g.Self.HasSlots.takes _ t) ∙ item-written k w es apart
              ∙ ap (changed k (with_item (item_view w))) (sym (g.Self.HasSlots.shows t)),
          λ w. g.Self.HasSlots.keeps _ t,
        ),
      ),
    )

pub returns-in-None : goal.returns-in-None
returns-in-None g c =
    let t = c.args.self.now in
    let k = c.args.key.now in
    let es = g.Self.HasSlots.entries t in
    let apart : AreApart (shown es) = subst (λ l. AreApart (shown l)) c.as_slots.ensures c.filled_place.ensures.apart in (
      refl,
      (
        c.in-None.ensures.held ∙ ap (get k) (ap shown c.as_slots.ensures ∙ sym (g.Self.HasSlots.shows t)),
        (
          λ w. g.Self.HasSlots.shows _ ∙ ap shown (g.Self.HasSlots.takes _ t) ∙ item-written k w es apart
              ∙ ap (changed k (with_item (item_view w))) (sym (g.Self.HasSlots.shows t)),
          λ w. g.Self.HasSlots.keeps _ t,
        ),
      ),
    )
