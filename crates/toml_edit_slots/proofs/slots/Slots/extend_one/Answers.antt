-- An item under a key.
use Rattle.std.proofs.Common.{◌≡◌, Some, None, sym, ap, subst, ◌∙◌, refl, get_or}
use Rattle.toml_edit_model.specs.Slots.{with_item as with_item_seen}
use Rattle.toml_edit_slots.specs.declared.slots.Slot.{Slot}
use Rattle.toml_edit_slots.specs.Seen.{seen}
use Rattle.toml_edit_slots.specs.Slots.{AreApart, place}
use Rattle.toml_edit_slots.proofs.SeenLaws.{put-new-seen, put-seen}
use Rattle.toml_edit_slots.proofs.SlotLaws.{with_item-set}
use Rattle.toml_edit_slots.proofs.slots.Slots.extend_one.Goals as goal

pub returns-in-Some-clause-slots : goal.returns-in-Some-clause-slots
returns-in-Some-clause-slots g c =
    let es = c.args.self.now in
    let x = c.args.item in
    let at = c.in-Some.at in
    let new : Slot g.row.T.Denot = record { key = c.args.key; item = x } in
    let here : place c.args.key.name es ≡ Some at = ap (λ u. place u es) (sym c.get.ensures.name) ∙ sym c.in-Some.ensures.place in
    ap seen (c.replace_item.ensures.slots ∙ with_item-set es at new x)
    ∙ put-seen c.args.key.name (with_item_seen x) (record { key = c.args.key; item = x }) es at new (record {
      key =
          (get_or es at new).key;
      item = x;
    }) refl
    (subst AreApart c.self.view_is c.self.invariant.0) here refl

pub returns-in_ok-push-in-None-clause-slots : goal.returns-in_ok-push-in-None-clause-slots
returns-in_ok-push-in-None-clause-slots g c =
    let es = c.args.self.now in
    let none : place c.args.key.name es ≡ None = ap (λ u. place u es) (sym c.get.ensures.name) ∙ sym c.in-None.ensures.place in
    ap seen c.in_ok-push-in-None.ensures.slots
    ∙ put-new-seen c.args.key.name (with_item_seen c.args.item) (record { key = c.args.key; item = c.args.item }) es refl none
