-- Slots in order of their keys: the same slots, as well made.
use Rattle.std.proofs.Common.{◌≡◌, refl, ◌∙◌, ap, subst, Bool, true, false, List, [], ◌∷◌, ◌++◌, length, Some}
use Rattle.std.specs.Prelude.{not, if◌then◌else◌}
use Rattle.toml_edit_model.specs.Lists.{slots_from}
use Rattle.toml_edit_model.specs.Order.{insert_by}
use Rattle.toml_edit_model.specs.Rearranging.{inserted_slot, moved_slot}
use Rattle.toml_edit_model.specs.Slots.{Slot, changed, keyed, lookup_slot}
use Rattle.toml_edit_model.specs.Sorting.{name_lt, sorted_item, sorted_slots}
use Rattle.toml_edit_model.specs.Spelling.{SpellsKey}
use Rattle.toml_edit_model.specs.Text.{Text, same_text}
use Rattle.toml_edit_model.specs.Tree.{HasTrueSpelling, IsWellMade, Node, Slots, SlotsAreWellMade, has_key, inline, leaf, list, no_slots, nothing, slot, table, tables}
use Rattle.toml_edit_laws.proofs.common.Each.{all-front}
use Rattle.toml_edit_laws.proofs.common.Tests.{if-false, if-true, or-both, or-left, or-right, same_text-refl, same_text-swap}
use Rattle.toml_edit_laws.proofs.locality.Slots.{HaveOtherKeys, other-keys, slot_list-from}
use Rattle.toml_edit_edit_laws.proofs.placing.Lists.{lookup-there, moved-is, without-one}

abbrev pub before : Slot Node → Slot Node → Bool
before s r = not (name_lt r s)

-- ---- well made

has-inserted : (q : Text) (s : Slot Node) (ys : List (Slot Node)) → same_text q s.key.name ≡ false → has_key q (slots_from ys) ≡ false
    → has_key q (slots_from (insert_by before s ys)) ≡ false
has-inserted q s [] d h = or-both (same_text q s.key.name) false d refl
has-inserted q s (y ∷ ys) d h =
    by_test (before s y) (has-inserted q s ys d (or-right (same_text q y.key.name) (has_key q (slots_from ys)) h))
  where
    by_test : (b : Bool) → has_key q (slots_from (insert_by before s ys)) ≡ false
        → has_key q (slots_from (if b then s ∷ y ∷ ys else y ∷ insert_by before s ys)) ≡ false
    by_test true ih = or-both (same_text q s.key.name) (has_key q (slots_from (y ∷ ys))) d h
    by_test false ih =
        or-both (same_text q y.key.name) (has_key q (slots_from (insert_by before s ys)))
        (or-left (same_text q y.key.name) (has_key q (slots_from ys)) h) ih

made-inserted : (s : Slot Node) (ys : List (Slot Node)) → has_key s.key.name (slots_from ys) ≡ false
    → HasTrueSpelling (SpellsKey s.key.name) s.key.spelling → IsWellMade s.item → SlotsAreWellMade (slots_from ys)
    → SlotsAreWellMade (slots_from (insert_by before s ys))
made-inserted s [] h spelled w made = (refl, spelled, w, tt)
made-inserted s (y ∷ ys) h spelled w made =
    by_test (before s y)
    (made-inserted s ys (or-right (same_text s.key.name y.key.name) (has_key s.key.name (slots_from ys)) h) spelled w made.3)
  where
    by_test : (b : Bool) → SlotsAreWellMade (slots_from (insert_by before s ys))
        → SlotsAreWellMade (slots_from (if b then s ∷ y ∷ ys else y ∷ insert_by before s ys))
    by_test true ih = (h, spelled, w, made)
    by_test false ih = (
      has-inserted y.key.name s ys
          (same_text-swap y.key.name s.key.name ∙ or-left (same_text s.key.name y.key.name) (has_key s.key.name (slots_from ys)) h) made.0,
      made.1,
      made.2,
      ih,
    )

module _ (enters : Node → Bool) where
  has-sorted : (q : Text) (ss : Slots) → has_key q ss ≡ false → has_key q (slots_from (sorted_slots enters ss)) ≡ false
  has-sorted q no_slots h = refl
  has-sorted q (slot k n ss) h =
      has-inserted q (keyed k (sorted_item enters n)) (sorted_slots enters ss) (or-left (same_text q k.name) (has_key q ss) h)
      (has-sorted q ss (or-right (same_text q k.name) (has_key q ss) h))

  either-made : (b : Bool) (n m : Node) → IsWellMade n → IsWellMade m → IsWellMade (if b then n else m)
  either-made true n m w x = w
  either-made false n m w x = x

  mutual
    made-item : (n : Node) → IsWellMade n → IsWellMade (sorted_item enters n)
    made-item (table f ss) w =
        either-made (enters (table f ss)) (table f (slots_from (sorted_slots enters ss))) (table f ss) (made-sorted ss w) w
    made-item (inline f ss) w =
        either-made (enters (inline f ss)) (inline f (slots_from (sorted_slots enters ss))) (inline f ss) (made-sorted ss w) w
    made-item (leaf s r d) w = w
    made-item (list f xs) w = w
    made-item (tables e xs) w = w
    made-item nothing w = tt

    pub made-sorted : (ss : Slots) → SlotsAreWellMade ss → SlotsAreWellMade (slots_from (sorted_slots enters ss))
    made-sorted no_slots w = tt
    made-sorted (slot k n ss) w =
        made-inserted (keyed k (sorted_item enters n)) (sorted_slots enters ss) (has-sorted k.name ss w.0) w.1 (made-item n w.2) (made-sorted ss w.3)

  -- the slots with the items that the sort leaves, in their order
  abbrev pub deep : Slots → List (Slot Node)
  deep no_slots = []
  deep (slot k n ss) = keyed k (sorted_item enters n) ∷ deep ss

-- ---- the same slots

-- the second list is the first, one element after another
abbrev pub Picks : List (Slot Node) → List (Slot Node) → Type 0
Picks es [] = es ≡ []
Picks es (y ∷ ys) = (a : List (Slot Node)) × (b : List (Slot Node)) × (es ≡ a ++ (y ∷ b)) × Picks (a ++ b) ys

picks-inserted : (s : Slot Node) (es ys : List (Slot Node)) → Picks es ys → Picks (s ∷ es) (insert_by before s ys)
picks-inserted s es [] h = ([], es, refl, h)
picks-inserted s es (y ∷ ys) (a, b, is, rest) = by_test (before s y) (picks-inserted s (a ++ b) ys rest)
  where
    by_test : (c : Bool) → Picks (s ∷ (a ++ b)) (insert_by before s ys) → Picks (s ∷ es) (if c then s ∷ y ∷ ys else y ∷ insert_by before s ys)
    by_test true ih = ([], es, refl, (a, b, is, rest))
    by_test false ih = (s ∷ a, b, ap (λ z. s ∷ z) is, ih)

pub picks-sorted : (enters : Node → Bool) (ss : Slots) → Picks (deep enters ss) (sorted_slots enters ss)
picks-sorted enters no_slots = refl
picks-sorted enters (slot k n ss) =
    picks-inserted (keyed k (sorted_item enters n)) (deep enters ss) (sorted_slots enters ss) (picks-sorted enters ss)

-- ---- names that are apart

key-apart : (q : Text) (a : List (Slot Node)) (y : Slot Node) (b : List (Slot Node)) → has_key q (slots_from (a ++ (y ∷ b))) ≡ false
    → same_text q y.key.name ≡ false
key-apart q [] y b h = or-left (same_text q y.key.name) (has_key q (slots_from b)) h
key-apart q (x ∷ a) y b h =
    key-apart q a y b (or-right (same_text q x.key.name) (has_key q (slots_from (a ++ (y ∷ b)))) h)

pub others-apart : (a : List (Slot Node)) (y : Slot Node) (b : List (Slot Node)) → SlotsAreWellMade (slots_from (a ++ (y ∷ b)))
    → HaveOtherKeys y.key.name (a ++ b)
others-apart [] y b w = subst (HaveOtherKeys y.key.name) (slot_list-from b) (other-keys y.key.name (slots_from b) w.0)
others-apart (x ∷ a) y b w =
    (same_text-swap y.key.name x.key.name ∙ key-apart x.key.name a y b w.0, others-apart a y b w.3)

abbrev OtherKey : Text → Slot Node → Type 0
OtherKey k s = same_text k s.key.name ≡ false

-- a slot is found among others
pub there-apart : (a : List (Slot Node)) (y : Slot Node) (b : List (Slot Node)) → HaveOtherKeys y.key.name (a ++ b)
    → lookup_slot y.key.name (a ++ (y ∷ b)) ≡ Some y
there-apart a y b others =
    lookup-there y.key.name a y b (all-front (OtherKey y.key.name) a b others) (same_text-refl y.key.name)

unchanged : (k : Text) (F : Slot Node → Slot Node) (xs : List (Slot Node)) → HaveOtherKeys k xs → changed k F xs ≡ xs
unchanged k F [] h = refl
unchanged k F (x ∷ xs) h = ap (λ y. y ∷ changed k F xs) (if-false (same_text k x.key.name) (F x) x h.0) ∙ ap (λ ys. x ∷ ys) (unchanged k F xs h.1)

pub changed-there : (F : Slot Node → Slot Node) (a : List (Slot Node)) (y : Slot Node) (b : List (Slot Node)) → HaveOtherKeys y.key.name (a ++ b)
    → changed y.key.name F (a ++ (y ∷ b)) ≡ a ++ (F y ∷ b)
changed-there F [] y b h =
    ap (λ z. z ∷ changed y.key.name F b) (if-true (same_text y.key.name y.key.name) (F y) y (same_text-refl y.key.name))
    ∙ ap (λ ys. F y ∷ ys) (unchanged y.key.name F b h)
changed-there F (x ∷ a) y b h =
    ap (λ z. z ∷ changed y.key.name F (a ++ (y ∷ b))) (if-false (same_text y.key.name x.key.name) (F x) x h.0)
    ∙ ap (λ ys. x ∷ ys) (changed-there F a y b h.1)

-- a slot moves to the end
inserted-last : (xs : List (Slot Node)) (y : Slot Node) → inserted_slot (length xs) y xs ≡ xs ++ (y ∷ [])
inserted-last [] y = refl
inserted-last (x ∷ xs) y = ap (λ ys. x ∷ ys) (inserted-last xs y)

pub moved-last : (a : List (Slot Node)) (y : Slot Node) (b : List (Slot Node)) → HaveOtherKeys y.key.name (a ++ b)
    → moved_slot y.key.name (length (a ++ b)) (a ++ (y ∷ b)) ≡ (a ++ b) ++ (y ∷ [])
moved-last a y b others =
    let n = length (a ++ b) in
    moved-is y.key.name n (a ++ (y ∷ b)) y (there-apart a y b others)
    ∙ ap (λ zs. inserted_slot n y zs) (without-one y.key.name a y b others (same_text-refl y.key.name))
    ∙ inserted-last (a ++ b) y
