-- Wrong calls, which the definitions refuse.
use Rattle.std.proofs.Common.{◌≡◌, ℕ, suc, Bool, false, List, [], ◌∷◌, length, map, codes, IsPermutation, sym, ap, ◌∙◌}
use Rattle.std.proofs.lemmas.Bool.{false≢true}
use Rattle.std.proofs.lemmas.List.Sorted.{length_permutation}
use Rattle.toml_edit_model.specs.Text.{Text, one}
use Rattle.toml_edit_model.specs.Tree.{Node}
use Rattle.toml_edit_model.specs.Slots.{Slot, has_slot, without}
use Rattle.toml_edit_model.specs.Lists.{slots_from}
use Rattle.toml_edit_model.specs.Sorting.{ReordersItems, IsDeepReorder}
use Rattle.toml_edit_model.specs.examples.Parts.{plain_key}

-- the lists in the two are as long
reorders_length : (enters : Node → Bool) (R : List (Slot Node) → List (Slot Node) → Type 0) (mid after : List (Slot Node))
    → ReordersItems enters R mid (slots_from after) → length mid ≡ length after
reorders_length enters R mid [] r = ap length r
reorders_length enters R mid (s ∷ after) r = ap length r.2 ∙ ap suc (reorders_length enters R r.1 after r.5)

-- a sort that was refused has lost no slots
pub keeps_length : (enters : Node → Bool) (before after : List (Slot Node)) → IsDeepReorder enters before after → length after
    ≡ length before
keeps_length enters before after r = sym (reorders_length enters IsPermutation r.0 after r.2) ∙ length_permutation before r.0 r.1

-- a removal that moves the last slot into the gap
abbrev letters : Text → List (Slot ℕ)
letters t = map (λ c. record { key = plain_key (one c); item = 0 }) t

pub swaps_nothing_in : without (codes "a") (letters (codes "abc")) ≡ letters (codes "cb") → ⊥
swaps_nothing_in e = false≢true (sym (ap (λ l. is_first l) e))
  where
    is_first : List (Slot ℕ) → Bool
    is_first [] = false
    is_first (s ∷ es) = has_slot (codes "b") (one s)
