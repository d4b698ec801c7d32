-- Worked sorts.
use Rattle.std.specs.Prelude.{◌≡◌, refl, ℕ, true, not, ◌==◌, nat_lt, List, [], ◌∷◌, codes, IsPermutation}
use Rattle.std.proofs.Common.{lit<}
use Rattle.toml_edit_model.specs.Text.{one}
use Rattle.toml_edit_model.specs.Tree.{Node, nothing, inline, table, Slots, no_slots, slot}
use Rattle.toml_edit_model.specs.Order.{sorted_by}
use Rattle.toml_edit_model.specs.Slots.{names}
use Rattle.toml_edit_model.specs.Lists.{is_dotted_table, is_dotted_inline, slot_list}
use Rattle.toml_edit_model.specs.Conversions.{new_inline, new_table}
use Rattle.toml_edit_model.specs.Sorting.{others_first, sorted_slots, IsDeepReorder}
use Rattle.toml_edit_model.specs.examples.Parts.{plain_key, plain_int}

-- by a test that always returns true, which is no order: still a permutation
by_no_order : IsPermutation {X = ℕ} (1 ∷ 2 ∷ 3 ∷ []) (3 ∷ 1 ∷ 2 ∷ [])
by_no_order =
    record {
      moves = (0, 1) ∷ (1, 2) ∷ [];
      below = (lit< tt, lit< tt, (lit< tt, lit< tt, tt));
      is = refl;
    }

-- what fails the test comes first, and ties stay
evens_first : sorted_by (λ m n. not (others_first (λ k. not (k == 2)) nat_lt n m))
    (3 ∷ 2 ∷ 1 ∷ 2 ∷ []) ≡ 2 ∷ 2 ∷ 1 ∷ 3 ∷ []
evens_first = refl

-- bytes decide, a beginning comes before what goes on
texts_in_order : names (sorted_slots is_dotted_table
    (slot (plain_key (codes "b")) (plain_int 1)
    (slot (plain_key (codes "ab")) nothing
    (slot (plain_key (codes "B")) (plain_int 2)
    (slot (plain_key (codes "a")) (plain_int 3) no_slots)))))
    ≡ codes "B" ∷ codes "a" ∷ codes "ab" ∷ codes "b" ∷ []
texts_in_order = refl

-- two slots out of order
abbrev swapped : Slots
swapped =
    slot (plain_key (codes "b")) (plain_int 1) (slot (plain_key (codes "a")) (plain_int 2) no_slots)

abbrev ordered : Slots
ordered =
    slot (plain_key (codes "a")) (plain_int 2) (slot (plain_key (codes "b")) (plain_int 1) no_slots)

abbrev dotted_table : Slots → Node
dotted_table ss = table (record new_table { is_dotted = true }) ss

abbrev dotted_inline : Slots → Node
dotted_inline ss = inline (record new_inline { is_dotted = true }) ss

abbrev around : Node → Slots
around n = slot (plain_key (codes "x")) n no_slots

-- a table's sort enters dotted tables, an inline table's dotted inline tables, and neither anything
-- else
table_enters : sorted_slots is_dotted_table (around (dotted_table (around (dotted_table swapped))))
    ≡ slot_list (around (dotted_table (around (dotted_table ordered))))
table_enters = refl

table_passes_by : sorted_slots is_dotted_table (around (dotted_inline swapped))
    ≡ slot_list (around (dotted_inline swapped))
table_passes_by = refl

headed_stays : sorted_slots is_dotted_table (around (table new_table swapped))
    ≡ slot_list (around (table new_table swapped))
headed_stays = refl

inline_enters : sorted_slots is_dotted_inline (around (dotted_inline swapped))
    ≡ slot_list (around (dotted_inline ordered))
inline_enters = refl

inline_passes_by : sorted_slots is_dotted_inline (around (inline new_inline swapped))
    ≡ slot_list (around (inline new_inline swapped))
inline_passes_by = refl

-- a reorder of a dotted table inside
stays : {X : Type 0} (xs : List X) → IsPermutation xs xs
stays xs = record { moves = []; below = tt; is = refl }

reordered_inside : IsDeepReorder is_dotted_table (slot_list (around (dotted_table swapped)))
    (slot_list (around (dotted_table ordered)))
reordered_inside = (
  slot_list (around (dotted_table swapped)),
  stays _,
  (
    record { key = plain_key (codes "x"); item = dotted_table swapped },
    [],
    refl,
    refl,
    (
      swapped,
      slot_list ordered,
      refl,
      record { moves = one (0, 1); below = (lit< tt, lit< tt, tt); is = refl },
      (
        record { key = plain_key (codes "a"); item = plain_int 2 },
        _,
        refl,
        refl,
        refl,
        (record { key = plain_key (codes "b"); item = plain_int 1 }, [], refl, refl, refl, refl),
      ),
    ),
    refl,
  ),
)
