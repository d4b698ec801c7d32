-- Equal raw texts are one, equality is an equivalence, and what is equal is hashed alike.
use Rattle.std.specs.Prelude.{◌≡◌, Bool, true, IsTrue}
use Rattle.std.specs.Bool.{Decides}
use Rattle.std.specs.Cmp.{IsEquivalence, IsPartialEquivalence, partial_equiv_from_equiv}
use Rattle.std.proofs.Common.{refl, ap, sym}
use Rattle.std.proofs.lemmas.Bool.{eqb-true, eq-eqb, and_parts}
use Rattle.std.proofs.lemmas.Bool.Decides.{same_from_decides}
use Rattle.std.proofs.lemmas.Slice.Eq.{bytes_eq-Decides}
use Rattle.toml_edit_model.specs.Tree.{Raw, owned, span}
use Rattle.toml_edit_text.specs.RawText.{same_raw, raw_hash_input}

-- ---- tests that find equal what is one

-- a test that passes one with itself, and only that
module _ {X : Type 0} (same : X → X → Bool) (exact : (a b : X) → same a b ≡ true → a ≡ b)
    (itself : (a : X) → same a a ≡ true) where
  pub decides : (a b : X) → Decides (same a b) (a ≡ b)
  decides a b = (exact a b, λ e. rw e (itself b))

  pub backwards : (a b : X) → Decides (same b a) (a ≡ b)
  backwards a b = (λ e. sym (exact b a e), λ e. rw e (itself b))

  pub equivalence : IsEquivalence same
  equivalence =
      record {
        refl = itself;
        symm = λ a b. same_from_decides _ _ (decides a b) (backwards a b);
        congr = λ a b c e. ap (λ x. same x c) (exact a b e);
      }

-- ---- texts

pub same_raw_exact : (a b : Raw) → same_raw a b ≡ true → a ≡ b
same_raw_exact (owned s) (owned t) e = ap owned ((bytes_eq-Decides s t).0 e)
same_raw_exact (span i j) (span k l) e =
    let (first, second) = and_parts _ _ e in
    let i-k : i ≡ k = eqb-true i k first in
    let j-l : j ≡ l = eqb-true j l second in
    cc
same_raw_exact (owned s) (span k l) e = absurd cc
same_raw_exact (span i j) (owned t) e = absurd cc

pub same_raw_itself : (a : Raw) → same_raw a a ≡ true
same_raw_itself (owned s) = (bytes_eq-Decides s s).1 refl
same_raw_itself (span i j) = rw (eq-eqb i i refl) (eq-eqb j j refl)

pub same_raw_equiv : IsEquivalence same_raw
same_raw_equiv = equivalence same_raw same_raw_exact same_raw_itself

pub same_raw_partial_equiv : IsPartialEquivalence same_raw
same_raw_partial_equiv = partial_equiv_from_equiv same_raw_equiv

pub raw_hash_respects : (a b : Raw) → IsTrue (same_raw a b) → raw_hash_input a ≡ raw_hash_input b
raw_hash_respects a b e = ap raw_hash_input (same_raw_exact a b e)
