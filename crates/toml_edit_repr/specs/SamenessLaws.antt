-- Equal texts and decors are one, equality is an equivalence, and what is equal is hashed alike.
use Rattle.std.specs.Prelude.{◌≡◌, Bool, true, ℕ, IsTrue, List, Option, Some, None}
use Rattle.std.specs.Bool.{Decides}
use Rattle.std.specs.Cmp.{IsEquivalence, IsPartialEquivalence, partial_equiv_from_equiv, on_equiv, on_per, and_equiv, and_per}
use Rattle.std.specs.Hash.{Alike, same_Alike, on_Alike, and-Alike}
use Rattle.std.proofs.Common.{refl, ap, ◌∙◌}
use Rattle.std.proofs.lemmas.Bool.{and_parts}
use Rattle.toml_edit_model.specs.Tree.{Raw, Decor}
pub use Rattle.toml_edit_text.specs.RawTextLaws.{same_raw_equiv, same_raw_partial_equiv, raw_hash_respects}
use Rattle.toml_edit_text.specs.RawTextLaws.{decides, equivalence, same_raw_exact, same_raw_itself}
use Rattle.toml_edit_repr.specs.Views.{FormattedView}
use Rattle.toml_edit_repr.specs.Sameness.{same_side, same_decor, same_formatted, side_hash_input, decor_hash_input, formatted_hash_input}

-- ---- sides

same_side_exact : (a b : Option Raw) → same_side a b ≡ true → a ≡ b
same_side_exact None None e = refl
same_side_exact (Some a) (Some b) e = ap Some (same_raw_exact a b e)
same_side_exact None (Some b) e = absurd cc
same_side_exact (Some a) None e = absurd cc

same_side_itself : (a : Option Raw) → same_side a a ≡ true
same_side_itself None = refl
same_side_itself (Some a) = same_raw_itself a

same_side_equiv : IsEquivalence same_side
same_side_equiv = equivalence same_side same_side_exact same_side_itself

side_alike : Alike same_side side_hash_input
side_alike = same_Alike side_hash_input (decides same_side same_side_exact same_side_itself)

-- ---- decors

same_decor_exact : (a b : Decor) → same_decor a b ≡ true → a ≡ b
same_decor_exact a b e =
    let (first, second) = and_parts _ _ e in
    let prefix = same_side_exact a.prefix b.prefix first in
    let suffix = same_side_exact a.suffix b.suffix second in
    λ i. record { prefix = prefix i; suffix = suffix i }

same_decor_itself : (a : Decor) → same_decor a a ≡ true
same_decor_itself a = rw (same_side_itself a.prefix) (same_side_itself a.suffix)

pub same_decor_decides : (a b : Decor) → Decides (same_decor a b) (a ≡ b)
same_decor_decides = decides same_decor same_decor_exact same_decor_itself

pub same_decor_equiv : IsEquivalence same_decor
same_decor_equiv = equivalence same_decor same_decor_exact same_decor_itself

pub same_decor_partial_equiv : IsPartialEquivalence same_decor
same_decor_partial_equiv = partial_equiv_from_equiv same_decor_equiv

decor_alike : Alike same_decor decor_hash_input
decor_alike = same_Alike decor_hash_input same_decor_decides

pub decor_hash_respects : (a b : Decor) → IsTrue (same_decor a b)
    → decor_hash_input a ≡ decor_hash_input b
decor_hash_respects = decor_alike.fed

-- ---- scalars

pub same_formatted_equiv : {X : Type 0} {same : X → X → Bool} → IsEquivalence same
    → IsEquivalence (same_formatted same)
same_formatted_equiv values =
    and_equiv (on_equiv (λ v. v.value) values)
    (and_equiv (on_equiv (λ v. v.repr) same_side_equiv) (on_equiv (λ v. v.decor) same_decor_equiv))

pub same_formatted_partial_equiv : {X : Type 0} {same : X → X → Bool} → IsPartialEquivalence same
    → IsPartialEquivalence (same_formatted same)
same_formatted_partial_equiv values =
    and_per (on_per (λ v. v.value) values)
    (and_per (on_per (λ v. v.repr) (partial_equiv_from_equiv same_side_equiv))
    (on_per (λ v. v.decor) same_decor_partial_equiv))

-- one with an equal value, and the same spelling and decor, is equal
pub same_formatted-copied : {X : Type 0} (same : X → X → Bool) (a b : FormattedView X)
    → IsTrue (same a.value b.value) → a.repr ≡ b.repr → a.decor ≡ b.decor
    → IsTrue (same_formatted same a b)
same_formatted-copied same a b values spellings decors =
    rw (
      values,
      ap (λ r. same_side r b.repr) spellings
          ∙ same_side_itself b.repr,
      ap (λ d. same_decor d b.decor) decors
          ∙ same_decor_itself b.decor,
    ) refl

pub formatted_hash_respects : {X : Type 0} {same : X → X → Bool} {input : X → List (List ℕ)}
    → ((x y : X) → IsTrue (same x y) → input x ≡ input y)
    → (a b : FormattedView X) → IsTrue (same_formatted same a b)
    → formatted_hash_input input a ≡ formatted_hash_input input b
formatted_hash_respects values =
    (and-Alike (on_Alike (λ v. v.value) (record { fed = values }))
    (and-Alike (on_Alike (λ v. v.repr) side_alike) (on_Alike (λ v. v.decor) decor_alike))).fed
