-- What is opened is well made: at the end of a loop, all slots and items.
use Rattle.std.proofs.Common.{◌≤◌, ◌≡◌, ◌∙◌, ap, rules, true, w64, to_z, of_z, ℕ, List, length, take, sym, subst, arith}
use Rattle.std.proofs.lemmas.List.{take_all}
use Rattle.std.specs.List.{AllByRecursion}
use Rattle.std.specs.Option.{ForSome}
use Rattle.std.specs.Prelude.{slice_get, None}
use Rattle.toml_edit_model.specs.Scalars.{fits_integer}
use Rattle.toml_edit_model.specs.Spelling.{IsFloat, SpellsKey}
use Rattle.toml_edit_model.specs.Tree.{HasTrueSpelling, IsWellMade, ItemsAreWellMade, SlotsAreWellMade}
use Rattle.toml_edit_slots.specs.declared.slots.Slot.{Slot}
use Rattle.toml_edit_slots.specs.Slots.{place}
use Rattle.toml_edit_tree.specs.declared.item.Item.{Item}
use Rattle.toml_edit_tree.specs.View.{item_view, items_view, slots_view, value_view}
use Rattle.toml_edit_tree.proofs.ViewLaws.{view-Boolean, view-Datetime, view-Float, view-Integer, view-String}
use Rattle.toml_edit_fits.proofs.MadeLaws.{items-made, leaf-made, slots-made}
use Rattle.toml_edit_fits.proofs.fits.+open.Goals as goal

pub open_items-returns : goal.open_items-returns
open_items-returns t c =
    let xs = c.deref-item-items.result.now in
    let past : length xs ≤ c.items.item-index = omega arith in
    subst (λ (ys : List Item). ∥ ItemsAreWellMade (items_view ys) ∥₁) c.deref-item-items.ensures.value
    (items-made xs (subst (λ (ys : List Item). AllByRecursion (λ x. ∥ IsWellMade (item_view x) ∥₁) ys) (take_all c.items.item-index xs past)
    c.items.invariant))

pub open_slots-returns : goal.open_slots-returns
open_slots-returns t c =
    let es = c.as_slice-entries.result.now in
    let past : length es ≤ c.slots.slot-index = omega arith in
    let here = c.as_slice-entries.ensures.slots in
    let all = take_all c.slots.slot-index es past in
    subst (λ (ys : List (Slot Item)). ∥ SlotsAreWellMade (slots_view ys) ∥₁) here
    (slots-made es (subst (λ (ys : List (Slot Item)). (at : ℕ)
    → ForSome (slice_get ys at) (λ (s : Slot Item). place s.key.name (take at ys) ≡ None)) (sym here) c.as_slice-entries.ensures.apart)
    (subst (λ (ys : List (Slot Item)). AllByRecursion (λ (s : Slot Item). ∥ HasTrueSpelling (SpellsKey s.key.name) s.key.spelling ∥₁) ys)
    all c.slots.invariant.keys)
    (subst (λ (ys : List (Slot Item)). AllByRecursion (λ (s : Slot Item). ∥ IsWellMade (item_view s.item) ∥₁) ys) all
    c.slots.invariant.items))

pub open_value-returns-in-String : goal.open_value-returns-in-String
open_value-returns-in-String t c =
    leaf-made _ _ _ _ (ap value_view c.in-String.is ∙ view-String c.in-String.scalar) c.value.ensures.spelled tt

pub open_value-returns-in-Integer : goal.open_value-returns-in-Integer
open_value-returns-in-Integer t c =
    let same : to_z w64 (of_z w64 c.value-in-Integer.result.now) ≡ c.value-in-Integer.result.now = search rules in
    leaf-made _ _ _ _ (ap value_view c.in-Integer.is ∙ view-Integer c.in-Integer.scalar) c.value-in-Integer.ensures.spelled
    (subst (λ z. fits_integer z ≡ true) (same ∙ c.value-in-Integer.ensures.value) c.open_number.ensures)

pub open_value-returns-in-Float : goal.open_value-returns-in-Float
open_value-returns-in-Float t c =
    leaf-made _ _ _ _ (ap value_view c.in-Float.is ∙ view-Float c.in-Float.scalar) c.value-in-Float.ensures.spelled
    (subst IsFloat c.value-in-Float.ensures.value c.as_str.ensures.float)

pub open_value-returns-in-Boolean : goal.open_value-returns-in-Boolean
open_value-returns-in-Boolean t c =
    leaf-made _ _ _ _ (ap value_view c.in-Boolean.is ∙ view-Boolean c.in-Boolean.scalar) c.value-in-Boolean.ensures.spelled tt

pub open_value-returns-in-Datetime : goal.open_value-returns-in-Datetime
open_value-returns-in-Datetime t c =
    leaf-made _ _ _ _ (ap value_view c.in-Datetime.is ∙ view-Datetime c.in-Datetime.scalar) c.value-in-Datetime.ensures.spelled
    c.in-Datetime.scalar.value.real
