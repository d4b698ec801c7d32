-- Worked places for values, paths of edits, and edits that are sorts, or harmless, or not.
use Rattle.std.specs.Prelude.{◌≡◌, refl, true, false, [], ◌∷◌, codes, Some, Vec}
use Rattle.std.proofs.Common.{inl, subst, sym}
use Rattle.std.specs.declared.alloc.Global.{Global}
use Rattle.toml_edit_model.specs.Conversions.{new_table}
use Rattle.toml_edit_model.specs.HeaderOrder.{Visit, visit_of}
use Rattle.toml_edit_model.specs.Keys.{names, new_key}
use Rattle.toml_edit_model.specs.Mode.{plain}
use Rattle.toml_edit_model.specs.Paths.{at_key, same_path}
use Rattle.toml_edit_model.specs.Text.{Text}
use Rattle.toml_edit_model.specs.Tree.{Key, Node, Slots, Tree, is_value_node, no_items, no_slots, owned, slot, table}
use Rattle.toml_edit_model.specs.examples.Parts.{plain_int, plain_list}
use Rattle.toml_edit_laws.specs.Locality as locality
use Rattle.toml_edit_laws.specs.Locality.{is_plain_value, root_visit}
use Rattle.toml_edit_tree.specs.declared.value.Value.{Value}
use Rattle.toml_edit_edit_laws.specs.Commands.{item_at}
use Rattle.toml_edit_edit_laws.specs.CommandLaws.{NamesTable}
use Rattle.toml_edit_edits.specs.OthersStay.{HasPlace, IsHarmless, IsHarmlessAt, IsLocal, IsNewBelow, IsSort, MayMove, at_new_key, beside, in_value, into_table, paths_of, places_of}
use Rattle.toml_edit_edit_laws.specs.Places.{place_of}
use Rattle.toml_edit_edits.specs.declared.edit.Edit.TheVariants as edits

abbrev a : Text
a = codes "a"

abbrev b : Text
b = codes "b"

abbrev x : Text
x = codes "x"

-- `a = 1`, and below the header `[x]` the line `b = 2`
abbrev in_x : Slots
in_x = slot (new_key b) (plain_int 2) no_slots

abbrev small : Tree
small = record {
  root = new_table;
  slots = slot (new_key a) (plain_int 1) (slot (new_key x) (table new_table in_x) no_slots);
  trailing = owned [];
}

-- ---- places

abbrev over_a : HasPlace plain small (new_key a ∷ []) []
over_a = in_value (new_key a ∷ []) [] (plain_int 1) refl tt refl refl

-- also something inside the value, which it doesn't have yet
abbrev inside_a : HasPlace plain small (new_key a ∷ new_key b ∷ []) []
inside_a = in_value (new_key a ∷ []) (new_key b ∷ []) (plain_int 1) refl (tt, tt) refl refl

abbrev visit_x : Visit
visit_x = visit_of (at_key x ∷ []) (new_key x ∷ []) false new_table in_x

x_is_named : NamesTable small (x ∷ []) visit_x
x_is_named = record {
  way = locality.into_table x ∷ [];
  goes = (refl, tt);
  leads = (new_key x, new_table, in_x, refl, refl);
}

under_x : HasPlace plain small (new_key x ∷ new_key a ∷ []) []
under_x =
    at_new_key (new_key x ∷ []) (new_key a) visit_x refl (tt, tt) x_is_named refl (inl refl)

moves_a_under_x : MayMove plain small (a ∷ []) (x ∷ a ∷ [])
moves_a_under_x =
    into_table (plain_int 1) visit_x (x ∷ []) a refl refl refl x_is_named (inl refl)

-- a table moves below its own table alone
x_stays : (n : Node) → item_at (x ∷ []) small ≡ Some n → is_plain_value n ≡ true → ⊥
x_stays n there flat =
    absurd (let same : n ≡ table new_table in_x = cc in
    let c : is_plain_value (table new_table in_x) ≡ true = subst (λ m. is_plain_value m ≡ true) same flat in cc)

x_gets_a_name : MayMove plain small (x ∷ []) (b ∷ [])
x_gets_a_name = beside [] x b refl refl refl

-- an empty table may be under a new key, or below one
new_under_x : IsNewBelow small (new_key x ∷ new_key a ∷ new_key b ∷ [])
new_under_x =
    record {
      above = new_key x ∷ [];
      key = new_key a;
      below = new_key b ∷ [];
      visit = visit_x;
      is = refl;
      spelled = (tt, (tt, tt));
      named = x_is_named;
      none = refl;
      room = refl;
    }

-- the root is no place
root_is_no_place : HasPlace plain small [] [] → ⊥
root_is_no_place (in_value [] inner old same spelled there value) =
    absurd (let c : is_value_node (table new_table small.slots) ≡ true = subst (λ n. is_value_node n ≡ true) (let e : old ≡ table new_table small.slots = cc in e) value in cc)
root_is_no_place (in_value (k ∷ front) inner old same spelled there value) = absurd cc
root_is_no_place (at_new_key [] k w same spelled named is_new takes) = absurd cc
root_is_no_place (at_new_key (j ∷ front) k w same spelled named is_new takes) = absurd cc

-- ---- paths

renamed_keys : (path to : Vec Key Global) → paths_of (edits.Move path to) ≡ names path.items ∷ names to.items ∷ []
renamed_keys path to = refl

no_edits : places_of [] small ≡ []
no_edits = refl

place_in_x : place_of small (x ∷ b ∷ []) ≡ at_key x ∷ at_key b ∷ []
place_in_x = refl

-- a key that is not there has a place of its own
new_place_in_x : place_of small (x ∷ a ∷ []) ≡ at_key x ∷ at_key a ∷ []
new_place_in_x = refl

-- what is inside a value has the value's place, and what is in a table has not the table's
place_in_a : place_of small (a ∷ b ∷ []) ≡ at_key a ∷ []
place_in_a = refl

place_of_x_alone : same_path (place_of small (x ∷ b ∷ [])) (at_key x ∷ []) ≡ false
place_of_x_alone = refl

-- ---- harmless edits

scalar_over_a : IsHarmlessAt plain small (new_key a ∷ []) [] (plain_int 4) over_a
scalar_over_a = (refl, refl, refl)

array_over_a : IsHarmlessAt plain small (new_key a ∷ []) [] (plain_list no_items) over_a → ⊥
array_over_a h = absurd (let c : false ≡ true = h.0 in cc)

scalar_inside_a : IsHarmlessAt plain small (new_key a ∷ new_key b ∷ []) [] (plain_int 4) inside_a → ⊥
scalar_inside_a h = absurd (let c : new_key b ∷ [] ≡ [] = h.1 in cc)

-- a removal is local wherever it is, and an order is harmless nowhere
removal_is_local : (path : Vec Key Global) → IsLocal plain (edits.Remove path) small
removal_is_local path = tt

order_may_harm : (path : Vec Key Global) → IsHarmless plain (edits.Sort path) small tt → ⊥
order_may_harm path h = h

-- ---- sorts

x_is_sorted : (path : Vec Key Global) → names path.items ≡ x ∷ [] → IsSort (edits.Sort path) small
x_is_sorted path is = (visit_x, subst (λ p. NamesTable small p visit_x) (sym is) x_is_named)

removal_is_no_sort : (path : Vec Key Global) → IsSort (edits.Remove path) small → ⊥
removal_is_no_sort path h = h

root_is_sorted : (path : Vec Key Global) → names path.items ≡ [] → IsSort (edits.Sort path) small
root_is_sorted path is = (root_visit small, subst (λ p. NamesTable small p (root_visit small)) (sym is) (record { way = []; goes = tt; leads = refl }))

-- a table more is not local, as it has no position
table_is_not_local : (path : Vec Key Global) (v : Value) → IsLocal plain (edits.Table path v) small → ⊥
table_is_not_local path v h = h
