-- What sorts leave: the elements that there were, and by a lawful order in this order, ties as they
-- were.
use Rattle.std.specs.Prelude.{◌≡◌, Bool, not, ◌&&◌, if◌then◌else◌, List, [], ◌∷◌, IsPermutation, IsSortedBy, MatchBool}
use Rattle.std.specs.List.Sorted.{IsStableBy}
use Rattle.std.specs.Cmp.{IsStrictWeakOrder}
use Rattle.std.specs.Cmp.Lexicographic.{slice_cmp}
use Rattle.std.specs.Ordering.{is_lt, nat_cmp}
use Rattle.toml_edit_model.specs.Order.{insert_by}
use Rattle.toml_edit_model.specs.Tree.{Node, nothing, leaf, list, inline, table, tables, Slots, no_slots, slot, is_value_node}
use Rattle.toml_edit_model.specs.Slots.{Slot}
use Rattle.toml_edit_model.specs.Lists.{slot_list, slots_from, is_dotted_table, is_dotted_inline}

-- ---- one list

-- the list after a stable sort by the test lt
pub record IsSortOf {X : Type 0} (lt : X → X → Bool) (before after : List X) : Type 0 where
  pub permutation : IsPermutation before after
  pub stable : IsStrictWeakOrder lt → IsStableBy lt before after
  pub sorted : IsStrictWeakOrder lt → IsSortedBy lt after

-- what fails the test comes first, and the others by lt
abbrev pub others_first : {X : Type 0} → (X → Bool) → (X → X → Bool) → X → X → Bool
others_first test lt x y = if test x then test y && lt x y else test y

-- `sort_by` of an array by the test lt of values: what holds none comes first
abbrev pub IsArraySort : (Node → Node → Bool) → List Node → List Node → Type 0
IsArraySort lt = IsSortOf (others_first is_value_node lt)

-- the order of the bytes of keys
abbrev pub name_lt : {T : Type 0} → Slot T → Slot T → Bool
name_lt s r = is_lt (slice_cmp nat_cmp s.key.name r.key.name)

-- ---- tables, with those inside that a sort enters

module _ (enters : Node → Bool) (R : List (Slot Node) → List (Slot Node) → Type 0) where
  -- the item after: as before, or R took its slots to others, and so on inside these
  abbrev mutual
    pub ReordersItem : Node → Node → Type 0
    ReordersItem before (table f ss) =
        MatchBool (enters before)
        ((old : Slots) × (mid : List (Slot Node)) × (before ≡ table f old) × R (slot_list old) mid
        × ReordersItems mid ss)
        (before ≡ table f ss)
    ReordersItem before (inline f ss) =
        MatchBool (enters before)
        ((old : Slots) × (mid : List (Slot Node)) × (before ≡ inline f old) × R (slot_list old) mid
        × ReordersItems mid ss)
        (before ≡ inline f ss)
    ReordersItem before (leaf s spelling d) = before ≡ leaf s spelling d
    ReordersItem before (list f xs) = before ≡ list f xs
    ReordersItem before (tables e xs) = before ≡ tables e xs
    ReordersItem before nothing = before ≡ nothing

    pub ReordersItems : List (Slot Node) → Slots → Type 0
    ReordersItems mid no_slots = mid ≡ []
    ReordersItems mid (slot k n ss) =
        (s : Slot Node) × (rest : List (Slot Node)) × (mid ≡ s ∷ rest) × (s.key ≡ k)
        × ReordersItem s.item n × ReordersItems rest ss

  abbrev pub Reorders : List (Slot Node) → List (Slot Node) → Type 0
  Reorders before after =
      (mid : List (Slot Node)) × R before mid × ReordersItems mid (slots_from after)

-- a sort by the test lt, with what it enters; and what even a refused one leaves: at every level,
-- the slots that there were
abbrev pub IsDeepSort : (Node → Bool) → (Slot Node → Slot Node → Bool) → List (Slot Node)
    → List (Slot Node) → Type 0
IsDeepSort enters lt = Reorders enters (IsSortOf lt)

abbrev pub IsDeepReorder : (Node → Bool) → List (Slot Node) → List (Slot Node) → Type 0
IsDeepReorder enters = Reorders enters IsPermutation

-- `sort_values_by` of a table and of an inline table, where what holds no value comes first
abbrev pub IsSortOfTable : (Slot Node → Slot Node → Bool) → List (Slot Node) → List (Slot Node)
    → Type 0
IsSortOfTable lt = IsDeepSort is_dotted_table lt

abbrev pub IsSortOfInline : (Slot Node → Slot Node → Bool) → List (Slot Node) → List (Slot Node)
    → Type 0
IsSortOfInline lt = IsDeepSort is_dotted_inline (others_first (λ s. is_value_node s.item) lt)

-- ---- the order by key text, as a function

module _ (enters : Node → Bool) where
  abbrev mutual
    pub sorted_item : Node → Node
    sorted_item (table f ss) =
        if enters (table f ss) then table f (slots_from (sorted_slots ss)) else table f ss
    sorted_item (inline f ss) =
        if enters (inline f ss) then inline f (slots_from (sorted_slots ss)) else inline f ss
    sorted_item (leaf s spelling d) = leaf s spelling d
    sorted_item (list f xs) = list f xs
    sorted_item (tables e xs) = tables e xs
    sorted_item nothing = nothing

    pub sorted_slots : Slots → List (Slot Node)
    sorted_slots no_slots = []
    sorted_slots (slot k n ss) =
        insert_by (λ s r. not (name_lt r s)) (record { key = k; item = sorted_item n })
        (sorted_slots ss)
