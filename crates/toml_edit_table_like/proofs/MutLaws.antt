-- A table that an item lends: its slots are those of the item.
use mathlib.Core.Logic.{◌⊎◌, inl, inr}
use Rattle.std.proofs.Common.{◌≡◌, List, [], Some, sym, ap}
use Rattle.std.specs.Borrow.{GName}
use Rattle.std.specs.Option.{unwrap_or}
use Rattle.toml_edit_slots.specs.declared.slots.Slot.{Slot}
use Rattle.toml_edit_tree.specs.declared.item.Item.{Item}
use Rattle.toml_edit_table_like.specs.InItems.{entries_in}
use Rattle.toml_edit_table_like.specs.MutRefs.{same-ref}
use Rattle.toml_edit_table_like.specs.declared.table_ref_mut.TableRefMut.{TableRefMut}

pub own-entries : (x : Item) (es : List (Slot Item)) → entries_in x ≡ Some es → es ≡ unwrap_or (entries_in x) []
own-entries x es e = ap (λ o. unwrap_or o []) (sym e)

-- what a loan leaves, whatever shows that it is a table
abbrev Left : Type 0
Left = (GName × (Item → TableRefMut)) ⊎ TableRefMut

pub lent-same : (name : GName) (f g : Item → TableRefMut) → ((w : Item) → (f w).item ≡ (g w).item)
    → ◌≡◌ {A = Left} (inl (name, f)) (inl (name, g))
lent-same name f g h = λ j. inl (name, λ w. same-ref (f w) (g w) (h w) j)

pub left-same : (r q : TableRefMut) → r.item ≡ q.item → ◌≡◌ {A = Left} (inr r) (inr q)
left-same r q h = λ j. inr (same-ref r q h j)
