-- Slots whose items pass a test: what is found among them. And which items are no placeholders.
use Rattle.std.proofs.Common.{◌≡◌, Bool, true, false, not, List, [], ◌∷◌, Option, Some, None, cond, is_some, option_and_then, refl, sym, ap}
use Rattle.std.proofs.Common.{◌∙◌, ◌↔◌, inl, inr}
use Rattle.std.proofs.lemmas.Bool.{cases_Bool, false≢true}
use Rattle.std.proofs.lemmas.Cmp.{nat_list_eq_equiv}
use Rattle.std.specs.List.{AllByRecursion, IsDistinct}
use Rattle.std.specs.Prelude.{IsTrue}
use Rattle.toml_edit_model.specs.Lists.{is_item}
use Rattle.toml_edit_model.specs.Slots.{Slot, AreApart, has_slot, is_at, lookup_slot, names, those}
use Rattle.toml_edit_model.specs.Text.{Text, same_text}
use Rattle.toml_edit_model.specs.Tree.{Node, nothing, leaf, list, inline, table, tables}

full : (n : Node) → (n ≡ nothing → false ≡ true) → true ≡ is_item n
full nothing e = absurd (false≢true (e refl))
full (leaf s spelling d) e = refl
full (list f xs) e = refl
full (inline f ss) e = refl
full (table f ss) e = refl
full (tables e xs) h = refl

pub is_item-not : (b : Bool) (n : Node) → IsTrue b ↔ (n ≡ nothing) → not b ≡ is_item n
is_item-not true n h = sym (ap is_item (h.0 refl))
is_item-not false n h = full n h.1

-- a slot has the name where one is found
pub has_slot-found : (t : Text) (es : List (Slot Node)) → has_slot t es ≡ is_some (lookup_slot t es)
has_slot-found t [] = refl
has_slot-found t (s ∷ es) =
    elim (cases_Bool (is_at t s)) [
      | inl same ↦ rw same refl
      | inr other ↦ rw other (has_slot-found t es)
    ]

module _ (test : Node → Bool) (t : Text) where
  abbrev NoneAt : List (Slot Node) → Type 0
  NoneAt es = AllByRecursion (λ u. same_text t u ≡ false) (names es)

  moved : (u : Text) (es : List (Slot Node)) → same_text t u ≡ true → AllByRecursion (λ v. same_text u v ≡ false) (names es) → NoneAt es
  moved u [] e all = tt
  moved u (s ∷ es) e all = (nat_list_eq_equiv.congr t u s.key.name e ∙ all.0, moved u es e all.1)

  none-those : (es : List (Slot Node)) → NoneAt es → lookup_slot t (those test es) ≡ None
  none-those [] n = refl
  none-those (s ∷ es) n =
      elim (cases_Bool (test s.item)) [
        | inl passes ↦ rw (passes, n.0) (none-those es n.1)
        | inr fails ↦ rw fails (none-those es n.1)
      ]

  -- the slot, where its item passes
  abbrev pub passing : Slot Node → Option (Slot Node)
  passing s = cond (test s.item) (Some s) None

  -- what is found among them is what stands under the name, if it passes
  pub found-those : (es : List (Slot Node)) → AreApart es → lookup_slot t (those test es) ≡ option_and_then passing (lookup_slot t es)
  unfolding IsDistinct
  found-those [] a = refl
  found-those (s ∷ es) a =
      elim (cases_Bool (test s.item)) [
        | inl passes ↦ elim (cases_Bool (is_at t s)) [
          | inl same ↦ rw (passes, same, passes) refl
          | inr other ↦ rw (passes, other) (found-those es a.1)
        ]
        | inr fails ↦ elim (cases_Bool (is_at t s)) [
          | inl same ↦ rw (fails, same, fails) (none-those es (moved s.key.name es same a.0))
          | inr other ↦ rw (fails, other) (found-those es a.1)
        ]
      ]
