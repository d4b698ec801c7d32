-- A slot at the end, if its name is new.
use Rattle.std.proofs.Common.{◌≡◌, None, [], ◌∷◌, ◌++◌, rules, sym, ap, subst, ◌∙◌}
use Rattle.toml_edit_slots.specs.Slots.{AreApart, names, place}
use Rattle.toml_edit_slots.specs.SlotIndex.{IsIndexed, with_text}
use Rattle.toml_edit_slots.proofs.SlotLaws.{apart-push}
use Rattle.toml_edit_slots.proofs.IndexLaws.{names-push}
use Rattle.toml_edit_slots.proofs.NewLaws.{with_text-new}
use Rattle.toml_edit_slots.proofs.slots.Slots.try_push.Goals as goal

pub invariant_of-self-in-Ok-None : goal.invariant_of-self-in-Ok-None
invariant_of-self-in-Ok-None g c =
    let es = c.self.inside.entries.items in
    let slot = c.args.slot in
    let absent : place slot.key.name es ≡ None = rw c.self.view_is (search rules) in
    let all : c.push_reserved.new.self.items ≡ es ++ slot ∷ [] = c.push_reserved.ensures.items
    ∙ ap (λ l. l ++ slot ∷ []) c.make_room.ensures.items in
    let named : with_text c.get.result.now (names c.deref.result.now) ≡ with_text slot.key.name (names es) =
    λ i. with_text (c.get.ensures.name i) (names ((c.deref.ensures.value ∙ c.make_room.ensures.items) i)) in (
      subst AreApart (sym all) (apart-push es slot absent c.self.invariant.0),
      subst (IsIndexed c.add_new_place.new.index) (named ∙ with_text-new slot.key.name (names es) absent ∙ sym (names-push es slot)
          ∙ sym (ap names all)) c.in-Ok-None.ensures.ok,
    )
