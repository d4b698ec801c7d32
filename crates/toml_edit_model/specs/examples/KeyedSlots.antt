-- Worked calls on lists of keyed slots: of any item, of a table, of an inline table, through
-- `TableLike`.
use Rattle.std.specs.Prelude.{◌≡◌, refl, ℕ, ◌==◌, true, false, List, [], ◌∷◌, ◌++◌, length, map, slice_get, codes, Some, None}
use Rattle.toml_edit_model.specs.Text.{Text, one}
use Rattle.toml_edit_model.specs.Tree.{owned, Key, Node, nothing, inline, table, tables, no_items, no_slots, slot}
use Rattle.toml_edit_model.specs.Keys.{new_key, reset_key, cleared_key}
use Rattle.toml_edit_model.specs.Slots.{Slot, on_key, with_item, changed_at, names, place, lookup, lookup_key, pairs, changed, inserted}
use Rattle.toml_edit_model.specs.Slots.{inserted_formatted, or_inserted, extended, without, retained}
use Rattle.toml_edit_model.specs.Rearranging.{renamed_key, is_free, renamed_slot, inserted_slot, moved_slot}
use Rattle.toml_edit_model.specs.Lists.{is_item}
use Rattle.toml_edit_model.specs.Iterating.{filled, filled_pairs, value_pairs}
use Rattle.toml_edit_model.specs.Conversions.{new_inline, formatted}
use Rattle.toml_edit_model.specs.TableCalls.{get, get_slot, contains_key, contains_value, contains_table, contains_tables, with_place}
use Rattle.toml_edit_model.specs.InlineCalls.{get_value, old_value, old_slot, or_inserted_value, entered}
use Rattle.toml_edit_model.specs.InlineCalls.{retained_values}
use Rattle.toml_edit_model.specs.TableLike.{of_table, of_inline_table, like_inserted, like_old, like_contains_key, like_get_values}
use Rattle.toml_edit_model.specs.examples.Parts.{plain_int, owned_decor, table_at}

-- ---- slots of any item

-- a key with a spelling and a decor, and one as calls make it
abbrev kept : Text → Key
kept t = record (new_key t) {
  spelling = Some (owned (codes "'" ++ t ++ codes "'"));
  leaf = owned_decor (codes "# x\n") [];
}

abbrev at : {T : Type 0} → Key → T → Slot T
at k x = record { key = k; item = x }

abbrev a : Text
a = codes "a"

abbrev b : Text
b = codes "b"

abbrev c : Text
c = codes "c"

abbrev two : List (Slot ℕ)
two = at (kept a) 1 ∷ at (kept b) 2 ∷ []

looked_up : lookup b two ≡ Some 2
looked_up = refl

not_there : lookup c two ≡ None
not_there = refl

place_of_key : place b two ≡ Some 1
place_of_key = refl

no_place : place c two ≡ None
no_place = refl

key_of_slot : lookup_key a two ≡ Some (kept a)
key_of_slot = refl

-- a present key is reset and stays in its place, a new one goes last
insert_present : inserted a 3 two ≡ at (new_key a) 3 ∷ at (kept b) 2 ∷ []
insert_present = refl

insert_new : inserted c 3 two ≡ two ++ one (at (new_key c) 3)
insert_new = refl

insert_formatted_present : inserted_formatted (cleared_key (kept b)) 3 two
    ≡ at (kept a) 1 ∷ at (cleared_key (kept b)) 3 ∷ []
insert_formatted_present = refl

insert_formatted_new : inserted_formatted (kept c) 3 two ≡ two ++ one (at (kept c) 3)
insert_formatted_new = refl

-- an entry that is there stays as it is
or_insert_present : or_inserted (new_key a) 3 two ≡ two
or_insert_present = refl

or_insert_new : or_inserted (kept c) 3 two ≡ two ++ one (at (kept c) 3)
or_insert_new = refl

-- a write keeps the key, and a write to a key keeps the item
written : changed b (with_item 7) two ≡ at (kept a) 1 ∷ at (kept b) 7 ∷ []
written = refl

key_reset : changed b (on_key reset_key) two ≡ at (kept a) 1 ∷ at (new_key b) 2 ∷ []
key_reset = refl

written_at_place : changed_at 0 (with_item 7) two ≡ at (kept a) 7 ∷ at (kept b) 2 ∷ []
written_at_place = refl

-- present keys stay, with the last item given; new ones go last
extend_both : extended (at (new_key b) 5 ∷ at (new_key c) 6 ∷ at (new_key b) 7 ∷ []) two
    ≡ at (kept a) 1 ∷ at (kept b) 7 ∷ at (new_key c) 6 ∷ []
extend_both = refl

removed : without a two ≡ one (at (kept b) 2)
removed = refl

nothing_removed : without c two ≡ two
nothing_removed = refl

retained_one : retained (λ t n. n == 2) two ≡ one (at (kept b) 2)
retained_one = refl

-- ---- other names and other places

-- the decors stay, and the spelling doesn't
key_renamed : renamed_key c (kept a) ≡ record (new_key c) { leaf = owned_decor (codes "# x\n") [] }
key_renamed = refl

-- a new name is free, and so is the slot's own one; that of another slot isn't
free_names : is_free a c two ∷ is_free a a two ∷ is_free a b two ∷ []
    ≡ true ∷ true ∷ false ∷ []
free_names = refl

-- the slot keeps its place and its item
renamed_first : renamed_slot a c two ≡ at (renamed_key c (kept a)) 1 ∷ at (kept b) 2 ∷ []
renamed_first = refl

renamed_to_itself : renamed_slot b b two ≡ at (kept a) 1 ∷ at (renamed_key b (kept b)) 2 ∷ []
renamed_to_itself = refl

renamed_to_another : renamed_slot a b two ≡ two
renamed_to_another = refl

nothing_renamed : renamed_slot c (codes "d") two ≡ two
nothing_renamed = refl

-- at the first place, at one inside, after the others
inserted_first : inserted_slot 0 (at (kept c) 3) two ≡ at (kept c) 3 ∷ two
inserted_first = refl

inserted_between : inserted_slot 1 (at (kept c) 3) two
    ≡ at (kept a) 1 ∷ at (kept c) 3 ∷ at (kept b) 2 ∷ []
inserted_between = refl

inserted_last : inserted_slot 2 (at (kept c) 3) two ≡ two ++ one (at (kept c) 3)
inserted_last = refl

-- up, down, to its own place; a slot that isn't there moves nothing
abbrev three : List (Slot ℕ)
three = two ++ one (at (kept c) 3)

moved_up : moved_slot a 2 three ≡ at (kept b) 2 ∷ at (kept c) 3 ∷ at (kept a) 1 ∷ []
moved_up = refl

moved_down : moved_slot c 0 three ≡ at (kept c) 3 ∷ two
moved_down = refl

moved_inside : moved_slot a 1 three ≡ at (kept b) 2 ∷ at (kept a) 1 ∷ at (kept c) 3 ∷ []
moved_inside = refl

not_moved : moved_slot b 1 three ≡ three
not_moved = refl

nothing_moved : moved_slot (codes "d") 0 three ≡ three
nothing_moved = refl

-- ---- slots of a table

-- a value, a placeholder, a table, an array of tables
abbrev some_table : Node
some_table = table_at None (slot (new_key a) (plain_int 1) no_slots)

abbrev of_each : List (Slot Node)
of_each =
    at (kept a) (plain_int 1) ∷ at (kept b) nothing ∷ at (new_key c) some_table
    ∷ at (new_key (codes "d")) (tables None no_items) ∷ []

get_item : get a of_each ≡ Some (plain_int 1)
get_item = refl

get_placeholder : get b of_each ≡ None
get_placeholder = refl

get_slot_placeholder : get_slot b of_each ≡ None
get_slot_placeholder = refl

-- its key can still be read, and its place
key_of_placeholder : lookup_key b of_each ≡ Some (kept b)
key_of_placeholder = refl

slot_of_placeholder : slice_get of_each 1 ≡ Some (at (kept b) nothing)
slot_of_placeholder = refl

past_the_end : slice_get of_each 4 ≡ None
past_the_end = refl

contained : contains_key a of_each ∷ contains_key b of_each ∷ contains_value a of_each
    ∷ contains_value c of_each ∷ contains_table c of_each
    ∷ contains_table (codes "d") of_each ∷ contains_tables (codes "d") of_each
    ∷ contains_tables c of_each ∷ []
    ≡ true ∷ false ∷ true ∷ false ∷ true ∷ false ∷ true ∷ false ∷ []
contained = refl

-- `iter` and `len` skip it, `into_iter` doesn't
iterated : names (filled of_each) ≡ a ∷ c ∷ codes "d" ∷ []
iterated = refl

counted : length (filled_pairs of_each) ≡ 3
counted = refl

all_iterated : map (λ p. p.0) (pairs of_each) ≡ a ∷ b ∷ c ∷ codes "d" ∷ []
all_iterated = refl

-- removals return a placeholder as it is, and `retain` is shown it
placeholder_removed : lookup b of_each ≡ Some nothing
placeholder_removed = refl

items_retained : names (retained (λ t n. is_item n) of_each) ≡ a ∷ c ∷ codes "d" ∷ []
items_retained = refl

-- `index_or_insert`: a placeholder for a new key, and nothing where there is a slot
place_made : with_place (codes "e") of_each ≡ of_each ++ one (at (new_key (codes "e")) nothing)
place_made = refl

place_there : with_place b of_each ≡ of_each
place_there = refl

-- `fmt`: spellings stay, and so does what holds no value
formatted_values : formatted of_each
    ≡ at (cleared_key (kept a)) (plain_int 1) ∷ at (kept b) nothing ∷ at (new_key c) some_table
    ∷ at (new_key (codes "d")) (tables None no_items) ∷ []
formatted_values = refl

-- ---- slots of an inline table

abbrev made_inline : Node
made_inline = inline new_inline (slot (new_key a) (plain_int 1) no_slots)

get_no_value : get_value c of_each ≡ None
get_no_value = refl

no_value_contained : contains_value c of_each ≡ false
no_value_contained = refl

values_iterated : map (λ p. p.0) (value_pairs of_each) ≡ one a
values_iterated = refl

-- what `insert` and `remove` return: a table made a value, and nothing for a placeholder
old_table : old_value c of_each ≡ Some made_inline
old_table = refl

old_placeholder : old_value b of_each ≡ None
old_placeholder = refl

old_table_with_key : old_slot c of_each ≡ Some (at (new_key c) made_inline)
old_table_with_key = refl

old_placeholder_with_key : old_slot b of_each ≡ None
old_placeholder_with_key = refl

-- `get_or_insert` leaves a value, fills a placeholder, makes a table a value, puts a new value last
value_stays : or_inserted_value a (plain_int 9) of_each ≡ of_each
value_stays = refl

placeholder_filled : get_value b (or_inserted_value b (plain_int 9) of_each) ≡ Some (plain_int 9)
placeholder_filled = refl

table_converted : get_value c (or_inserted_value c (plain_int 9) of_each) ≡ Some made_inline
table_converted = refl

value_added : or_inserted_value (codes "e") (plain_int 9) of_each
    ≡ of_each ++ one (at (new_key (codes "e")) (plain_int 9))
value_added = refl

-- an entry makes its slot a value, and a placeholder an empty inline table
entered_table : get_value c (entered c of_each) ≡ Some made_inline
entered_table = refl

entered_placeholder : entered b of_each
    ≡ at (kept a) (plain_int 1) ∷ at (kept b) (inline new_inline no_slots)
    ∷ at (new_key c) some_table ∷ at (new_key (codes "d")) (tables None no_items) ∷ []
entered_placeholder = refl

-- an occupied entry's `or_insert` leaves that, its `insert` writes, its `remove` closes up
entered_or_insert : get_value b (or_inserted (new_key b) (plain_int 9) (entered b of_each))
    ≡ Some (inline new_inline no_slots)
entered_or_insert = refl

entered_insert : get_value c (changed c (with_item (plain_int 9)) (entered c of_each))
    ≡ Some (plain_int 9)
entered_insert = refl

entered_remove : names (without c (entered c of_each)) ≡ a ∷ b ∷ codes "d" ∷ []
entered_remove = refl

-- `retain` drops what holds no value
values_retained : names (retained_values (λ t n. true) of_each) ≡ one a
values_retained = refl

-- ---- the four differences

-- insertion
like_table_stores : like_inserted of_table b some_table (one (at (kept b) nothing))
    ≡ one (at (new_key b) some_table)
like_table_stores = refl

like_inline_stores : like_inserted of_inline_table b some_table (one (at (kept b) nothing))
    ≡ one (at (new_key b) made_inline)
like_inline_stores = refl

like_table_answers : like_old of_table b of_each ≡ Some nothing
like_table_answers = refl

like_inline_answers : like_old of_inline_table b of_each ≡ None
like_inline_answers = refl

takes_placeholder : of_table.insertion.takes nothing ≡ true
takes_placeholder = refl

takes_no_placeholder : of_inline_table.insertion.takes nothing ≡ false
takes_no_placeholder = refl

-- `contains_key`
like_contains : like_contains_key of_table c of_each ≡ true
like_contains = refl

like_contains_value : like_contains_key of_inline_table c of_each ≡ false
like_contains_value = refl

-- `get_values`: a table that isn't dotted has lines inside an inline table alone
like_table_lines : map (λ v. map (λ k. k.name) v.0) (like_get_values of_table of_each) ≡ one (one a)
like_table_lines = refl

like_inline_lines : map (λ v. map (λ k. k.name) v.0) (like_get_values of_inline_table of_each)
    ≡ one a ∷ (c ∷ a ∷ []) ∷ []
like_inline_lines = refl

-- `sort_values` enters dotted tables, or dotted inline tables
abbrev dotted_table : Node
dotted_table =
    table (record {
      decor = owned_decor [] [];
      is_implicit = true;
      is_dotted = true;
      position = None;
      extent = None;
    }) no_slots

abbrev dotted_inline : Node
dotted_inline = inline (record new_inline { is_dotted = true }) no_slots

like_entered : of_table.enters dotted_table ∷ of_table.enters dotted_inline
    ∷ of_inline_table.enters dotted_table ∷ of_inline_table.enters dotted_inline ∷ []
    ≡ true ∷ false ∷ false ∷ true ∷ []
like_entered = refl
