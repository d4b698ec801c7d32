-- Mentions whose paths end in the keys of their segments.
use Rattle.toml_edit_model.specs.Text.{Text, one, same_text}
use Rattle.toml_edit_model.specs.Paths.{Path, to_key, Mention, at_element, at_key, Step, same_step, line_mentions, next_start, elements_at}
use Rattle.toml_edit_model.specs.Paths.{header_mentions, in_last, same_path}
use Rattle.std.proofs.Common.{◌≡◌, List, refl, true, ◌∷◌, inl, inr, false, subst, ◌∙◌, ◌++◌, ℕ, ap, sym, []}
use Rattle.std.specs.Prelude.{◌⊎◌}
use Rattle.std.specs.List.{AllByRecursion}
use Rattle.std.proofs.lemmas.Bool.{cases_Bool}
use Rattle.toml_edit_model.specs.Syntax.{Segment}
use Rattle.toml_edit_laws.proofs.common.Tests.{same_text-swap, and-true}
use Rattle.toml_edit_model.specs.Roles.{Role}
use Rattle.toml_edit_model.specs.TableMentions.{is_single, under, inside}

-- the path is the table's own, or ends in this key
abbrev pub EndsIn : Text → Path → Type 0
EndsIn k p = (p ≡ []) ⊎ ((q : Path) × (p ≡ to_key q k))

abbrev pub IsNamed : {S : Type 0} → Mention S → Type 0
IsNamed m = EndsIn m.segment.key m.path

abbrev pub AreNamed : {S : Type 0} → List (Mention S) → Type 0
AreNamed ms = AllByRecursion IsNamed ms

pub single-to : (q : Path) (k : Text) → is_single (to_key q k) ≡ true → to_key q k ≡ one (at_key k)
single-to [] k h = refl
single-to (at_key j ∷ []) k h = absurd cc
single-to (at_key j ∷ t ∷ q) k h = absurd cc
single-to (at_element n ∷ q) k h = absurd cc

pub single-named : (p : Path) (k : Text) → EndsIn k p → is_single p ≡ true → p ≡ one (at_key k)
single-named p k (inl e) h = (let clash : false ≡ true = subst (λ q. is_single q ≡ true) e h in absurd cc)
single-named p k (inr e) h = e.1 ∙ single-to e.0 k (subst (λ q. is_single q ≡ true) e.1 h)

pub rest-named : (s : Step) (p : Path) (k : Text) → EndsIn k (s ∷ p) → EndsIn k p
rest-named s p k (inl e) = absurd cc
rest-named s p k (inr e) = by_path e.0 e.1
  where
    by_path : (q : Path) → s ∷ p ≡ to_key q k → EndsIn k p
    by_path [] g = inl cc
    by_path (t ∷ q) g = inr (q, cc)

pub under-named : {S : Type 0} (s : Step) (ms : List (Mention S)) → AreNamed ms → AreNamed (under s ms)
under-named s [] h = tt
under-named {S = S} s (m ∷ ms) h = by_path m.path h.0 (under-named s ms h.1)
  where
    by_path : (p : Path) → EndsIn m.segment.key p → AreNamed (under s ms) → AreNamed (inside s m p ++ under s ms)
    by_path [] g ih = ih
    by_path (t ∷ p) g ih =
        elim (cases_Bool (same_step t s)) [
          | inl e ↦ rw e (rest-named t p m.segment.key g, ih)
          | inr e ↦ rw e ih
        ]

pub line-named : {S : Type 0} (source : S) (start : ℕ) (p : Path) (ss : List Segment) → AreNamed (line_mentions source start p ss)
line-named source start p [] = tt
line-named source start p (s ∷ []) = (inr (p, refl), tt)
line-named source start p (s ∷ r ∷ rest) = (inr (p, refl), line-named source (next_start start s) (to_key p s.key) (r ∷ rest))

pub header-named : {S : Type 0} (source : S) (arrays : List Path) (role : Role) (start : ℕ) (p : Path) (ss : List Segment)
    → AreNamed (header_mentions source arrays role start p ss)
header-named source arrays role start p [] = tt
header-named source arrays role start p (s ∷ []) = (inr (p, refl), tt)
header-named source arrays role start p (s ∷ r ∷ rest) =
    let here : Path = to_key p s.key in
    (inr (p, refl), header-named source arrays role (next_start start s) (in_last (elements_at arrays here) here) (r ∷ rest))

pub other-key : (p : Path) (l k : Text) → EndsIn l p → is_single p ≡ true → same_path p (at_key k ∷ []) ≡ false → same_text k l ≡ false
other-key p l k n h e = same_text-swap k l ∙ sym (and-true (same_text l k))
    ∙ ap (λ r. same_path r (at_key k ∷ [])) (sym (single-named p l n h)) ∙ e

pub key-at : (q : Path) (l k : Text) → to_key q l ≡ at_key k ∷ [] → k ≡ l
key-at [] l k e = cc
key-at (s ∷ []) l k e = absurd cc
key-at (s ∷ t ∷ q) l k e = absurd cc

-- a mention at a key has it
pub named-at : (p : Path) (l k : Text) → EndsIn l p → p ≡ at_key k ∷ [] → k ≡ l
named-at p l k (inl e) h = (let clash : [] ≡ at_key k ∷ [] = sym e ∙ h in absurd cc)
named-at p l k (inr e) h = key-at e.0 l k (sym e.1 ∙ h)
