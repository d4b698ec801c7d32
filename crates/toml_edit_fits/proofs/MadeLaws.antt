-- Slots and items of which each is well made.
use mathlib.Core.Logic.{∥∥₁_elim, ∥∥₁_map}
use Rattle.std.proofs.Common.{◌≡◌, refl, sym, subst, ◌∙◌, ◌-◌, ◌^◌, ◌<◌, arith, FitsSigned, w64, ℕ, zero, suc, Bool, true, false, List, []}
use Rattle.std.proofs.Common.{◌∷◌, Option, Some, None}
use Rattle.std.specs.Prelude.{ℤ, pos, negsuc, slice_get, take, if◌then◌else◌, option_map}
use Rattle.std.specs.Option.{ForSome}
use Rattle.std.specs.List.{AllByRecursion}
use Rattle.std.proofs.lemmas.Bool.{le-leb, or_from}
use Rattle.toml_edit_model.specs.Scalars.{Scalar, fits_integer}
use Rattle.toml_edit_model.specs.Text.{Text, same_text}
use Rattle.toml_edit_model.specs.Spelling.{SpellsInRange, SpellsKey}
use Rattle.toml_edit_model.specs.Tree.{Raw, Decor, Node, leaf, has_key, HasTrueSpelling, IsRealScalar, IsWellMade, ItemsAreWellMade}
use Rattle.toml_edit_model.specs.Tree.{SlotsAreWellMade}
use Rattle.toml_edit_laws.proofs.common.Tests.{same_text-swap}
use Rattle.toml_edit_slots.specs.Slots.{names, place, place_in}
use Rattle.toml_edit_slots.specs.declared.slots.Slot.{Slot}
use Rattle.toml_edit_tree.specs.declared.item.Item.{Item}
use Rattle.toml_edit_tree.specs.View.{item_view, items_view, slots_view}

-- an integer of 64 bits is in range
pub integer-fits : (z : ℤ) → FitsSigned w64 z → fits_integer z ≡ true
integer-fits (pos n) fits = let below : n < 2 ^ 63 = fits.sfits in le-leb n (2 ^ 63 - 1) (omega arith)
integer-fits (negsuc n) fits = let below : n < 2 ^ 63 = fits.sfits in rw (le-leb n (2 ^ 63 - 1) (omega arith)) refl

-- two facts that are there, at once
pub both : {A B C : Type 0} → ∥ A ∥₁ → ∥ B ∥₁ → (A → B → C) → ∥ C ∥₁
both a b f = ∥∥₁_elim a squash₁ (λ x. ∥∥₁_map b (λ y. f x y))

-- a scalar is well made by its spelling and its range
pub leaf-made : (n : Node) (s : Scalar) (spelling : Option Raw) (d : Decor) → n ≡ leaf s spelling d
    → ∥ HasTrueSpelling (SpellsInRange s) spelling ∥₁ → IsRealScalar s → ∥ IsWellMade n ∥₁
leaf-made n s spelling d e spelled real = subst (λ (m : Node). ∥ IsWellMade m ∥₁) (sym e) (∥∥₁_map spelled (λ h. (h, real)))

pub items-made : (xs : List Item) → AllByRecursion (λ x. ∥ IsWellMade (item_view x) ∥₁) xs → ∥ ItemsAreWellMade (items_view xs) ∥₁
items-made [] h = ∣ tt ∣₁
items-made (x ∷ xs) h = both h.0 (items-made xs h.1) (λ a b. (a, b))

-- no slot has the name of one before it
abbrev AreApartInOrder : List (Slot Item) → Type 0
AreApartInOrder es = (at : ℕ) → ForSome (slice_get es at) (λ (s : Slot Item). place s.key.name (take at es) ≡ None)

-- a text that isn't found is not the first, and not found after it
not-first : (t u : Text) (us : List Text) → place_in t (u ∷ us) ≡ None → (same_text t u ≡ false) × (place_in t us ≡ None)
not-first t u us h = by_test (same_text t u) (place_in t us) h
  where
    by_test : (b : Bool) (o : Option ℕ) → (if b then Some 0 else option_map suc o) ≡ None → (b ≡ false) × (o ≡ None)
    by_test true o h = absurd cc
    by_test false None h = (refl, refl)
    by_test false (Some n) h = absurd cc

not-among : (t : Text) (es : List (Slot Item)) → ((at : ℕ) → ForSome (slice_get es at) (λ (s : Slot Item). same_text s.key.name t ≡ false))
    → has_key t (slots_view es) ≡ false
not-among t [] h = refl
not-among t (e ∷ es) h =
    or_from (same_text t e.key.name) (has_key t (slots_view es)) (same_text-swap t e.key.name
    ∙ h zero e refl) (not-among t es (λ at. h (suc at)))

pub slots-made : (es : List (Slot Item)) → AreApartInOrder es
    → AllByRecursion (λ (s : Slot Item). ∥ HasTrueSpelling (SpellsKey s.key.name) s.key.spelling ∥₁) es
    → AllByRecursion (λ (s : Slot Item). ∥ IsWellMade (item_view s.item) ∥₁) es → ∥ SlotsAreWellMade (slots_view es) ∥₁
slots-made [] h k g = ∣ tt ∣₁
slots-made (e ∷ es) h k g =
    let apart = not-among e.key.name es (λ at s is. (not-first s.key.name e.key.name (names (take at es)) (h (suc at) s is)).0) in
    let rest = slots-made es (λ at s is. (not-first s.key.name e.key.name (names (take at es)) (h (suc at) s is)).1) k.1 g.1 in
    both {B = IsWellMade (item_view e.item) × SlotsAreWellMade (slots_view es)} k.0 (both g.0 rest (λ a b. (a, b))) (λ a b. (
      apart,
      a,
      b.0,
      b.1,
    ))
