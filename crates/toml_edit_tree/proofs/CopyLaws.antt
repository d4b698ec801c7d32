-- Copies that hold nothing yet, and lists of copies.
use Rattle.std.proofs.Common.{◌≡◌, ℕ, zero, suc, ◌+◌, ◌<◌, List, [], ◌∷◌, ◌++◌, length, map, get_or, set, take, refl, sym, ap, subst, ◌∙◌, arith}
use Rattle.toml_edit_model.specs.Scalars.{Scalar}
use Rattle.toml_edit_model.specs.Tree.{leaf, no_items, no_slots}
use Rattle.toml_edit_repr.specs.Views.{FormattedView}
use Rattle.toml_edit_slots.specs.declared.slots.Slot.{Slot}
use Rattle.toml_edit_tree.specs.Containers.{array_node, inline_node, table_node, tables_node}
use Rattle.toml_edit_tree.specs.Emptied.{emptied}
use Rattle.toml_edit_tree.specs.View.{array_view, inline_view, items_view, slots_view, table_view, tables_view, value_view}
use Rattle.toml_edit_tree.specs.declared.array.Array.{Array, out-Array}
use Rattle.toml_edit_tree.specs.declared.array_of_tables.ArrayOfTables.{ArrayOfTables, out-ArrayOfTables}
use Rattle.toml_edit_tree.specs.declared.inline_table.InlineTable.{InlineTable, out-InlineTable}
use Rattle.toml_edit_tree.specs.declared.item.Item.{Item}
use Rattle.toml_edit_tree.specs.declared.table.Table.{Table, out-Table}
use Rattle.toml_edit_tree.specs.declared.value.Value.{Value}
use Rattle.toml_edit_tree.proofs.ViewLaws.{array_items, inline_slots, table_slots, tables_items}

-- ---- copies that hold nothing

pub no-items : (xs : List Item) → items_view xs ≡ no_items → xs ≡ []
no-items [] e = refl
no-items (x ∷ xs) e = absurd cc

pub no-slots : (es : List (Slot Item)) → slots_view es ≡ no_slots → es ≡ []
no-slots [] e = refl
no-slots (s ∷ es) e = absurd cc

-- a scalar is copied whole
pub alone-leaf : {A : Type 0} (make : FormattedView A → Value) (s : A → Scalar)
    → ((f : FormattedView A) → value_view (make f) ≡ leaf (s f.value) f.repr f.decor)
    → (old new : FormattedView A) → s new.value ≡ s old.value → new.repr ≡ old.repr → new.decor ≡ old.decor
    → value_view (make new) ≡ emptied (value_view (make old))
alone-leaf make s view old new value repr decor =
    let same : leaf (s new.value) new.repr new.decor ≡ leaf (s old.value) old.repr old.decor = cc in
    view new ∙ same ∙ sym (ap emptied (view old))

-- ---- containers that hold nothing

pub array-empty : (a copy : Array) → array_node (array_view copy) ≡ emptied (array_node (array_view a)) → (out-Array copy).values.items ≡ []
array-empty a copy e =
    let none : (array_view copy).items ≡ no_items = cc in no-items _ (sym (array_items copy) ∙ none)

pub inline-empty : (t copy : InlineTable) → inline_node (inline_view copy) ≡ emptied (inline_node (inline_view t))
    → (out-InlineTable copy).items ≡ []
inline-empty t copy e =
    let none : (inline_view copy).slots ≡ no_slots = cc in no-slots _ (sym (inline_slots copy) ∙ none)

pub table-empty : (t copy : Table) → table_node (table_view copy) ≡ emptied (table_node (table_view t)) → (out-Table copy).slots ≡ []
table-empty t copy e =
    let none : (table_view copy).slots ≡ no_slots = cc in no-slots _ (sym (table_slots copy) ∙ none)

pub tables-empty : (a copy : ArrayOfTables) → tables_node (tables_view copy) ≡ emptied (tables_node (tables_view a))
    → (out-ArrayOfTables copy).values.items ≡ []
tables-empty a copy e =
    let none : (tables_view copy).items ≡ no_items = cc in no-items _ (sym (tables_items copy) ∙ none)

-- ---- lists of copies

module _ {X Y : Type 0} (f : X → Y) where
  -- as many as were copied
  pub copied-count : (copies xs : List X) (at : ℕ) → map f copies ≡ map f (take at xs) → at < length xs → length copies ≡ at
  copied-count [] xs zero h l = refl
  copied-count [] (x ∷ xs) (suc at) h l = absurd cc
  copied-count (c ∷ copies) xs zero h l = absurd cc
  copied-count copies [] at h l = absurd (omega (arith, l))
  copied-count (c ∷ copies) (x ∷ xs) (suc at) h l =
      let rest : map f copies ≡ map f (take at xs) = cc in ap suc (copied-count copies xs at rest (omega (arith, l)))

  filled-suc : (copies xs : List X) (at : ℕ) (new y d : X) → map f copies ≡ map f (take at xs) → at < length xs
      → f y ≡ f (get_or xs at d) → map f (set (copies ++ new ∷ []) at y) ≡ map f (take (suc at) xs)
  filled-suc copies [] at new y d h l e = absurd (omega (arith, l))
  filled-suc [] (x ∷ xs) zero new y d h l e = ap (λ z. z ∷ []) e
  filled-suc [] (x ∷ xs) (suc at) new y d h l e = absurd cc
  filled-suc (c ∷ copies) (x ∷ xs) zero new y d h l e = absurd cc
  filled-suc (c ∷ copies) (x ∷ xs) (suc at) new y d h l e =
      let first : f c ≡ f x = cc in
      let rest : map f copies ≡ map f (take at xs) = cc in
      let more : map f (set (copies ++ new ∷ []) at y) ≡ map f (take (suc at) xs) = filled-suc copies xs at new y d rest (omega (arith, l)) e in
      cc

  -- one more is added and filled
  pub filled : (copies xs : List X) (at : ℕ) (new y d : X) → map f copies ≡ map f (take at xs) → at < length xs
      → f y ≡ f (get_or xs at d) → map f (set (copies ++ new ∷ []) at y) ≡ map f (take (at + 1) xs)
  filled copies xs at new y d h l e =
      let next : suc at ≡ at + 1 = omega arith in
      subst (λ n. map f (set (copies ++ new ∷ []) at y) ≡ map f (take n xs)) next (filled-suc copies xs at new y d h l e)

-- the one that was added
pub added-there : {X : Type 0} (copies : List X) (new d : X) (at : ℕ) → length copies ≡ at → get_or (copies ++ new ∷ []) at d ≡ new
added-there [] new d zero e = refl
added-there [] new d (suc at) e = absurd cc
added-there (c ∷ copies) new d zero e = absurd cc
added-there (c ∷ copies) new d (suc at) e = added-there copies new d at (omega (arith, e))
