-- The index of a table's slots.
use Rattle.std.specs.Prelude.{◌≡◌, ℕ, ◌<◌, ◌≤◌, ◌⊎◌, Bool, true, false, List, [], ◌∷◌, ◌++◌, Option, None, Some, is_some, length, nat_eq}
use Rattle.std.specs.Prelude.{slice_get, slice_set, if◌then◌else◌}
use Rattle.std.specs.Global.{Box}
use Rattle.std.specs.BTreeMap.{get, get_by_text}
use Rattle.std.specs.Hash.DefaultHasher.{initial, write, finish}
use Rattle.std.specs.Option.{option_map_or, option_or}
use Rattle.std.specs.Ordering.{nat_cmp}
use Rattle.toml_edit_model.specs.Text.{Text, same_text}
use Rattle.toml_edit_slots.specs.Hashed.{HasNames, IsHashed}
use Rattle.toml_edit_slots.specs.Slots.{place_in}
use Rattle.toml_edit_slots.specs.declared.index.Index.{Index}
use Rattle.toml_edit_slots.specs.declared.index.Index.TheVariants.{Hashed, Sorted}
use Rattle.toml_edit_slots.specs.declared.places.Places.{Places}

-- the second hash of the text; nothing is proved of it but that equal texts have one
unfoldable pub second_hash : Text → ℕ
second_hash t = finish (write initial t)

-- the text is at the place
abbrev pub stands_at : List Text → ℕ → Text → Bool
stands_at us k t = option_map_or (λ u. same_text u t) (slice_get us k) false

-- a text with the second hash is at the place
abbrev pub hash_stands_at : List Text → ℕ → ℕ → Bool
hash_stands_at us k h = option_map_or (λ u. nat_eq (second_hash u) h) (slice_get us k) false

-- these texts, with one more after them if it is none of them
abbrev pub with_text : Text → List Text → List Text
with_text t us = if is_some (place_in t us) then us else us ++ t ∷ []

-- a place is noted under the text itself
abbrev pub is_own : Places → Text → Bool
is_own m t = is_some (get_by_text m.names t)

-- the place that is noted of the text: under itself, or else under its hash
abbrev pub noted_place : Places → Text → Option ℕ
noted_place m t = option_or (get_by_text m.names t) (get nat_cmp m.hashes (second_hash t))

-- the texts before the place are noted with their places
abbrev pub IsRightBefore : ℕ → Places → List Text → Type 0
IsRightBefore n m us = (k : ℕ) (t : Text) → k < n → slice_get us k ≡ Some t → noted_place m t ≡ Some k

-- each of these texts is noted with its place; of others anything may be noted
abbrev pub IsIndexOf : Places → List Text → Type 0
IsIndexOf m us = (k : ℕ) (t : Text) → slice_get us k ≡ Some t → noted_place m t ≡ Some k

-- the text is noted with the place, and what was noted of others stays
abbrev pub IsNotedAt : ℕ → Text → Places → Places → Type 0
IsNotedAt n u old new =
    (noted_place new u ≡ Some n)
    × ((k : ℕ) (t : Text) → same_text u t ≡ false → noted_place old t ≡ Some k
    → noted_place new t ≡ Some k)

-- the two texts do not share a hash under which both are noted
abbrev pub AreNotedApart : Places → Text → Text → Type 0
AreNotedApart m t u = second_hash t ≡ second_hash u → (is_own m t ≡ true) ⊎ (is_own m u ≡ true)

-- the text is noted with the place where it was noted before, and nothing changes for those noted
-- apart from it
pub record IsSetTo (n : ℕ) (u : Text) (old new : Places) : Type 0 where
  pub place : noted_place new u ≡ Some n
  pub own : (t : Text) → is_own new t ≡ is_own old t
  pub others : (t : Text) → same_text u t ≡ false → AreNotedApart old t u
      → noted_place new t ≡ noted_place old t

-- a place is noted of each of the texts, whatever it is, and no two share it
pub record HasTexts (m : Places) (us : List Text) : Type 0 where
  pub noted : (k : ℕ) (t : Text) → slice_get us k ≡ Some t → is_some (noted_place m t) ≡ true
  pub apart : (j k : ℕ) (t u : Text) → slice_get us j ≡ Some t → slice_get us k ≡ Some u
      → same_text u t ≡ false → AreNotedApart m t u

-- the index is that of these texts: in a map or in trees
abbrev pub IsIndex : Index → List Text → Type 0
IsIndex (Hashed m) us = IsHashed m us
IsIndex (Sorted m) us = IsIndexOf m us

-- the index of these texts, or none where they are at most eight
abbrev pub IsIndexed : Option (Box Index) → List Text → Type 0
IsIndexed None us = length us ≤ 8
IsIndexed (Some m) us = IsIndex m.value us

-- the index can be made that of these texts in place
abbrev pub HasRoom : Index → List Text → Type 0
HasRoom (Hashed m) us = HasNames m us
HasRoom (Sorted m) us = HasTexts m us

-- such an index, or none
abbrev pub MayIndex : Option (Box Index) → List Text → Type 0
MayIndex None us = length us ≤ 8
MayIndex (Some m) us = HasRoom m.value us

-- the same, once the text is in the place of any of these
abbrev pub MayIndexRenamed : Option (Box Index) → Text → List Text → Type 0
MayIndexRenamed o t us = (k : ℕ) → MayIndex o (slice_set us k t)
