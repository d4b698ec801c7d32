-- The slots of an entry, once its item has a place.
use Rattle.std.proofs.Common.{◌≡◌, ℕ, ◌<◌, List, Result, Ok, Err, IfOk, OnErr, IsOk, IsTrue, Option, Some, None, length, option_map}
use Rattle.std.proofs.Common.{slice_get, refl, sym, ap, subst, ◌∙◌}
use Rattle.std.proofs.lemmas.Option.{same_Some}
use Rattle.std.specs.Option.{unwrap_or, UnwrapsOrElse}
use Rattle.std.specs.Prelude.{⊤, IfSome}
use Rattle.toml_edit_model.specs.Slots as model
use Rattle.toml_edit_model.specs.Tree.{Key, Node}
use Rattle.toml_edit_slots.specs.Slots.{items_of, place, with_item}
use Rattle.toml_edit_slots.specs.declared.slots.Slot.{Slot}
use Rattle.toml_edit_table_like.proofs.PutLaws.{item-or-else, put-leaves}
use Rattle.toml_edit_table_like.specs.Lending.{with_item_at}
use Rattle.toml_edit_table_like.specs.Putting.{item_put, with_item_put}
use Rattle.toml_edit_table_like.specs.Shown.{shown}
use Rattle.toml_edit_table_like.specs.declared.has_slots.HasSlots.{Ghosts}
use Rattle.toml_edit_tree.specs.View.{item_view}
use Rattle.toml_edit_tree.specs.declared.item.Item.{Item}

on-ok : {A E : Type 0} {P Q : A → Type 0} (r : Result A E) → ((a : A) → P a → Q a) → IfOk r P → IfOk r Q
on-ok (Ok a) f p = f a p
on-ok (Err e) f p = tt

on-err : {A E : Type 0} {P Q : Type 0} (r : Result A E) → (P → Q) → OnErr r P → OnErr r Q
on-err (Ok a) f p = tt
on-err (Err e) f p = f p

-- a fact on the item that is there holds for the one that is lent
pub lent-item : (o : Option Item) (x : Item) (Q : Item → Type 0) → Some x ≡ o → IfSome o Q → Q x
lent-item None x Q e q = absurd cc
lent-item (Some y) x Q e q = subst Q (sym (same_Some x y e)) q

module _ {X E : Type 0} (g : Ghosts X) (t : X) (k : Key) (es fs : List (Slot Item)) (is : es ≡ g.entries t) (r : Result ℕ E) where
  seen : shown es ≡ g.slots_of t
  seen = ap shown is ∙ sym (g.shows t)

  pub placed-within : IfOk r (λ at. at < length fs) → IfOk r (λ at. at < length (g.entries (g.with_entries fs t)))
  placed-within h = subst (λ l. IfOk r (λ at. at < length l)) (sym (g.takes fs t)) h

  pub placed-item : (n : Node) → IfOk r (λ at. option_map item_view (slice_get (items_of fs) at)
      ≡ Some (unwrap_or (model.lookup k.name (shown es)) n))
      → IfOk r (λ at. option_map item_view (slice_get (items_of (g.entries (g.with_entries fs t))) at)
      ≡ Some (unwrap_or (model.lookup k.name (g.slots_of t)) n))
  placed-item n h =
      on-ok r (λ at e. ap (λ l. option_map item_view (slice_get (items_of l) at)) (g.takes fs t) ∙ e
      ∙ ap (λ l. Some (unwrap_or (model.lookup k.name l) n)) seen) h

  pub placed-rest : IfOk r (λ at. (w : Item) → with_item at w fs ≡ item_put k w es)
      → IfOk r (λ at. (w : Item) → with_item_at g.entries g.with_entries at w (g.with_entries fs t)
      ≡ with_item_put g.entries g.with_entries k w t)
  placed-rest h =
      on-ok r (λ at e w. g.again _ fs t ∙ ap (λ l. g.with_entries l t) (ap (with_item at w) (g.takes fs t) ∙ e w ∙ ap (item_put k w) is)) h

  pub placed-leaves : ((w : Item) → shown (item_put k w es)
      ≡ model.put (model.with_item (item_view w)) (record { key = k; item = item_view w }) (shown es))
      → (w : Item) → g.slots_of (with_item_put g.entries g.with_entries k w t)
      ≡ model.put (model.with_item (item_view w)) (record { key = k; item = item_view w }) (g.slots_of t)
  placed-leaves h w =
      g.shows _ ∙ ap shown (g.takes _ t) ∙ ap (λ l. shown (item_put k w l)) (sym is) ∙ h w
      ∙ ap (model.put (model.with_item (item_view w)) (record { key = k; item = item_view w })) seen

  pub placed-present : (IsTrue (model.has_slot k.name (shown es)) → IsOk r) → IsTrue (model.has_slot k.name (g.slots_of t)) → IsOk r
  placed-present h is_there = h (ap (model.has_slot k.name) seen ∙ is_there)

  pub placed-err : OnErr r (fs ≡ es) → OnErr r (g.with_entries fs t ≡ t)
  placed-err h = on-err r (λ e. ap (λ l. g.with_entries l t) (e ∙ is) ∙ g.stays t) h

-- of a key that has a slot, where nothing is put
module _ {X : Type 0} (g : Ghosts X) (t : X) (k : Key) where
  pub found-or-else : (i : ℕ) → place k.name (g.entries t) ≡ Some i → i < length (g.entries t) → (P : Node → Type 0)
      → IfSome (slice_get (items_of (g.entries t)) i) (λ x. UnwrapsOrElse (model.lookup k.name (g.slots_of t)) P (item_view x))
  found-or-else i at low P =
      subst (λ l. IfSome (slice_get (items_of (g.entries t)) i) (λ x. UnwrapsOrElse (model.lookup k.name l) P (item_view x)))
      (sym (g.shows t))
      (item-or-else k (g.entries t) i at low P)

  pub found-leaves : model.AreApart (g.slots_of t)
      → (w : Item) → g.slots_of (with_item_put g.entries g.with_entries k w t)
      ≡ model.put (model.with_item (item_view w)) (record { key = k; item = item_view w }) (g.slots_of t)
  found-leaves apart =
      placed-leaves {E = ⊤} g t k (g.entries t) (g.entries t) refl (Err tt)
      (put-leaves k (g.entries t) (subst model.AreApart (g.shows t) apart))
