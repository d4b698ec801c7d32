-- Worked calls on the trees of texts, and what these then print.
use Rattle.std.specs.Prelude.{◌≡◌, refl, pos, true, false, List, [], ◌∷◌, codes, map, unwrap_or, Option, Some, None, option_map}
use Rattle.std.specs.Prelude.{option_and_then}
use Rattle.std.specs.Fmt.{digits}
use Rattle.toml_edit_model.specs.Text.{Text, newline, one}
use Rattle.toml_edit_model.specs.Scalars.{string, boolean, integer}
use Rattle.toml_edit_model.specs.Syntax.{Value, scalar, array, inline_table, no_elements, element, no_pairs, key_line, Document}
use Rattle.toml_edit_model.specs.Tree.{owned, unset, Node, nothing, leaf, list, inline, table, tables, no_items, no_slots, Tree, node_decor}
use Rattle.toml_edit_model.specs.Accepted.{is_accepted}
use Rattle.toml_edit_model.specs.Meaning.{meaning}
use Rattle.toml_edit_model.specs.Shown.{shown_meaning}
use Rattle.toml_edit_model.specs.Print.{print}
use Rattle.toml_edit_model.specs.Fits.{is_undotted}
use Rattle.toml_edit_model.specs.TreeOf.{owned_form, spanned_form}
use Rattle.toml_edit_model.specs.examples.ComputedTree.{tree_of}
use Rattle.toml_edit_model.specs.Keys.{new_key}
use Rattle.toml_edit_model.specs.Slots.{Slot, on_item, names, lookup, changed, inserted, or_inserted, extended, without}
use Rattle.toml_edit_model.specs.Lists.{slot_list, slots_from, items_from, on_slots, on_items, is_dotted_table}
use Rattle.toml_edit_model.specs.Conversions.{new_table, with_decor, formatted, formatted_items, formatted_array, made_value, into_tables}
use Rattle.toml_edit_model.specs.Conversions.{value_display, table_display}
use Rattle.toml_edit_model.specs.Iterating.{table_values}
use Rattle.toml_edit_model.specs.ArrayCalls.{pushed, replaced_at, removed_at}
use Rattle.toml_edit_model.specs.Positions.{slots_without_positions}
use Rattle.toml_edit_model.specs.Sorting.{sorted_slots}
use Rattle.toml_edit_model.specs.Indexing.{Index, number, text, indexed, with_indexed, index_or_inserted, item_under}
use Rattle.toml_edit_model.specs.examples.Parts.{line, head, document, a, b, c, x, pair_of, one_value, two_value, three_value, plain_int}
use Rattle.toml_edit_model.specs.examples.Parts.{owned_decor, plain_list}
use Rattle.toml_edit_model.specs.examples.Texts.{readme, t_key}
use Rattle.toml_edit_model.specs.examples.Trees.{shows_as, all_four}

-- ---- builders

abbrev pub read : Document → Tree
read = tree_of owned_form

-- the tree with another list of slots in its root, or with another item under one key
abbrev pub in_root : (List (Slot Node) → List (Slot Node)) → Tree → Tree
in_root f t = record t { slots = slots_from (f (slot_list t.slots)) }

abbrev pub at_item : Text → (Node → Node) → Tree → Tree
at_item k f t = in_root (changed k (on_item f)) t

-- an array `[ .. ]` with white space before each element and after it
abbrev spaced : Text → Text → Value → Value
spaced before after v =
    array (element (record { before = before; after = after }) v no_elements) false []

abbrev pub plain_text : Text → Node
plain_text t = leaf (string t) None unset

-- ---- sorts

-- `x.b = 1`, `x.a = 2`, `c = 3`: the dotted table is sorted too
sorted_with_dotted : print
    (let t = read (document (line (x ∷ b ∷ []) one_value ∷ line (x ∷ a ∷ []) two_value
    ∷ line (c ∷ []) three_value ∷ [])) in
    record t { slots = slots_from (sorted_slots is_dotted_table t.slots) })
    ≡ codes "c = 3\nx.a = 2\nx.b = 1\n"
unfolding print
sorted_with_dotted = refl

-- `b = 1 # one`, `a = 2`: comments go with their lines
sorted_with_comment : print (let t = read (document (
    key_line (record {
      leading = [];
      path = b ∷ [];
      before_equals = codes " ";
      after_equals = codes " ";
      trailing = codes " # one";
    }) one_value newline
    ∷ line (a ∷ []) two_value ∷ [])) in
    record t { slots = slots_from (sorted_slots is_dotted_table t.slots) })
    ≡ codes "a = 2\nb = 1 # one\n"
unfolding print
sorted_with_comment = refl

-- ---- arrays

-- `a = [ 1 , 2 ]`, `replace(0, 3)`
abbrev two_spaced : Document
two_spaced = document (line (a ∷ []) (array
    (element (record { before = codes " "; after = codes " " }) one_value
    (element (record { before = codes " "; after = codes " " }) two_value no_elements)) false [])
    ∷ [])

replaced_first : print
    (at_item (codes "a") (on_items (replaced_at 0 (plain_int 3))) (read two_spaced))
    ≡ codes "a = [ 3 , 2 ]\n"
unfolding print digits
replaced_first = refl

-- `a = [1, 2,]`, `push(3)`
abbrev with_comma : Document
with_comma = document (line (a ∷ []) (array
    (element (record { before = []; after = [] }) one_value
    (element (record { before = codes " "; after = [] }) two_value no_elements)) true []) ∷ [])

pushed_last : print (at_item (codes "a") (on_items (pushed (plain_int 3))) (read with_comma))
    ≡ codes "a = [1, 2, 3,]\n"
unfolding print digits
pushed_last = refl

-- `a = [ 1,`, ` 2,`, `]`, `fmt`
abbrev over_lines : Document
over_lines = document (line (a ∷ []) (array
    (element (record { before = codes " "; after = [] }) one_value
    (element (record { before = codes "\n "; after = [] }) two_value no_elements)) true newline)
    ∷ [])

abbrev formatted_list : Node → Node
formatted_list (list f xs) = on_items formatted_items (list (formatted_array f) xs)
formatted_list n = n

on_one_line : print (at_item (codes "a") formatted_list (read over_lines)) ≡ codes "a = [1, 2]\n"
unfolding print
on_one_line = refl

-- ---- inline tables

-- `t = { a = 1 }`, `entry_format` of the key read from `'b'`, `or_insert` of 2
abbrev one_pair : Document
one_pair =
    document (line (t_key ∷ [])
    (inline_table (pair_of (codes " ") (a ∷ []) one_value (codes " ") no_pairs) false []) ∷ [])

entered_key : print
    (at_item (codes "t")
    (on_slots (or_inserted (record (new_key (codes "b")) { spelling = Some (owned (codes "'b'")) })
    (plain_int 2))) (read one_pair))
    ≡ codes "t = { a = 1 , 'b' = 2 }\n"
unfolding print digits
entered_key = refl

-- ---- tables

-- `a.b = 1`, `c = 2`, `get_values`
two_paths : map (λ v. map (λ k. k.name) v.0)
    (table_values (slot_list
    (read (document (line (a ∷ b ∷ []) one_value ∷ line (c ∷ []) two_value ∷ []))).slots))
    ≡ (codes "a" ∷ codes "b" ∷ []) ∷ one (codes "c") ∷ []
two_paths = refl

-- `a = 1`, `b = 2`, `c = 3`
abbrev pub three_lines : Document
three_lines =
    document (line (a ∷ []) one_value ∷ line (b ∷ []) two_value ∷ line (c ∷ []) three_value ∷ [])

removed_first : names (without (codes "a") (slot_list (read three_lines).slots))
    ≡ codes "b" ∷ codes "c" ∷ []
removed_first = refl

-- `# c`, `a = 1 # d`, `insert("a", value(2))`: the key is reset, so its comment goes
abbrev commented_line : Document
commented_line =
    document (key_line (record {
      leading = codes "# c\n";
      path = a ∷ [];
      before_equals = codes " ";
      after_equals = codes " ";
      trailing = codes " # d";
    }) one_value newline ∷ [])

inserted_anew : print (in_root (inserted (codes "a") (plain_int 2)) (read commented_line))
    ≡ codes "a = 2\n"
unfolding print digits
inserted_anew = refl

-- ---- indexing

-- the item with the one at an index changed, where there is one
abbrev pub through : Index → (Node → Node) → Node → Node
through i f n = unwrap_or (option_map (λ m. with_indexed i (f m) n) (indexed i n)) n

-- an item goes below a key, which `index_or_insert` makes where it isn't there
abbrev pub under : Text → (Node → Node) → Node → Node
under t f n =
    unwrap_or (option_and_then
    (λ m. option_map (λ k. with_indexed (text t) (f k) m) (item_under t m))
    (index_or_inserted t n)) n

-- the root as an item
abbrev pub as_root : (Node → Node) → Tree → Tree
as_root f t = record t { slots = slots_from (unwrap_or (slots_in (f (table t.root t.slots))) []) }
  where
    slots_in : Node → Option (List (Slot Node))
    slots_in (table g ss) = Some (slot_list ss)
    slots_in n = None

-- the first document of the README: `index_or_insert` of `a`, `b`, `c`, `d`, a write of `hello`,
-- `fmt` on `c`
readme_edited : print
    (as_root (under (codes "a")
    (under (codes "b") (λ n. under (codes "c") (on_slots formatted)
    (under (codes "c") (under (codes "d") (λ _. plain_text (codes "hello"))) n)))) (read readme))
    ≡ codes "\n\"hello\" = 'toml!' # comment\n['a'.b]\nc = { d = \"hello\" }\n    "
unfolding print
readme_edited = refl

-- `a = [1,]`, slot 0 set to a placeholder
abbrev one_comma : Document
one_comma =
    document (line (a ∷ []) (array
    (element (record { before = []; after = [] }) one_value no_elements) true []) ∷ [])

slot_emptied : print (at_item (codes "a") (with_indexed (number 0) nothing) (read one_comma))
    ≡ codes "a = []\n"
unfolding print
slot_emptied = refl

-- `a = 1`, `index_or_insert("b")` on the item `a`: the wrong kind
wrong_kind : option_map (index_or_inserted (codes "b"))
    (lookup (codes "a") (slot_list (read (document (line (a ∷ []) one_value ∷ []))).slots))
    ≡ Some None
wrong_kind = refl

-- `a = 1`, `get_mut("zz")` on the root as an item: nothing there, and nothing changes
nothing_found : indexed (text (codes "zz"))
    (table new_table (read (document (line (a ∷ []) one_value ∷ []))).slots) ≡ None
nothing_found = refl

-- ---- conversions

-- the item of `[]`, `into_array_of_tables`: the item comes back
empty_array_stays : into_tables (plain_list no_items) ≡ None
empty_array_stays = refl

-- `[t]`, `a = 1`, `make_value` on `t`
table_made_value : print
    (at_item (codes "t") made_value
    (read (document (head false (t_key ∷ []) ∷ line (a ∷ []) one_value ∷ []))))
    ≡ codes "t= { a = 1 }\n"
unfolding print
table_made_value = refl

-- ---- Display

-- a table of three keys
three_keys : table_display (slots_from (extended (
    record { key = new_key (codes "key1"); item = plain_text (codes "value1") }
    ∷ record { key = new_key (codes "key2"); item = plain_int 42 }
    ∷ record {
      key = new_key (codes "key3");
      item = plain_list (items_from
          (pushed (plain_text (codes "\\, world")) (pushed (plain_text (codes "hello")) [])));
    }
    ∷ []) []))
    ≡ codes "key1 = \"value1\"\nkey2 = 42\nkey3 = [\"hello\", '\\, world']\n"
unfolding digits
three_keys = refl

two_nodes : value_display
    (plain_list (items_from (plain_text (codes "node") ∷ plain_text (codes "mouth") ∷ [])))
    ≡ codes "[\"node\", \"mouth\"]"
two_nodes = refl

forty_two : value_display (plain_int 42) ≡ codes "42"
unfolding digits
forty_two = refl

forty_two_decorated : value_display
    (with_decor (owned_decor (codes " ") (codes " ")) (plain_int 42)) ≡ codes " 42 "
unfolding digits
forty_two_decorated = refl

no_suffix : (node_decor (leaf (boolean true) None unset)).suffix ≡ None
no_suffix = refl

-- ---- trees that no text has

abbrev marked_dotted : Node → Node
marked_dotted (table f ss) = table (record f { is_dotted = true }) ss
marked_dotted n = n

abbrev with_comma_set : Node → Node
with_comma_set (inline f ss) = inline (record f { comma = true }) ss
with_comma_set n = n

-- `a = [1]`, slot 0 set to an empty table
abbrev one_element : Document
one_element =
    document (line (a ∷ []) (array
    (element (record { before = []; after = [] }) one_value no_elements) false []) ∷ [])

table_in_array : shows_as
    (at_item (codes "a") (with_indexed (number 0) (table new_table no_slots)) (read one_element))
    (codes "a = []\n") true ≡ all_four
unfolding print meaning shown_meaning is_accepted
table_in_array = refl

-- `t = {}`, an array of one table put in it through `TableLike::entry`, trailing comma set
tables_in_inline : shows_as
    (at_item (codes "t")
    (λ n. with_comma_set
    (on_slots (or_inserted (new_key (codes "q"))
    (tables None (items_from (one (table new_table no_slots))))) n))
    (read (document (line (t_key ∷ []) (inline_table no_pairs false []) ∷ []))))
    (codes "t = {}\n") true ≡ all_four
unfolding print meaning shown_meaning is_accepted
tables_in_inline = refl

-- `[[a]]`, slot 0 of `a` set to a value
value_in_tables : shows_as
    (at_item (codes "a") (with_indexed (number 0) (plain_int 1))
    (read (document (one (head true (a ∷ [])))))) [] true ≡ all_four
unfolding print meaning shown_meaning is_accepted
value_in_tables = refl

-- `[[a]]`, `x = 1`, element 0 marked dotted
dotted_element : shows_as
    (at_item (codes "a") (through (number 0) marked_dotted)
    (read (document (head true (a ∷ []) ∷ line (x ∷ []) one_value ∷ [])))) [] false ≡ all_four
unfolding print meaning shown_meaning is_accepted
dotted_element = refl

-- the root marked dotted
dotted_root : is_undotted
    (let t = read three_lines in record t { root = record t.root { is_dotted = true } }) ≡ false
dotted_root = refl

-- the item `a` of the document of `a = 0x10 # c`, whose texts are spans, inserted in a new one as
-- `b`
abbrev spanned_item : Option Node
spanned_item =
    lookup (codes "a") (slot_list
    (tree_of spanned_form
    (document (one (key_line
    (record {
      leading = [];
      path = a ∷ [];
      before_equals = codes " ";
      after_equals = codes " ";
      trailing = codes " # c";
    })
    (scalar (integer (pos 16)) (codes "0x10")) newline)))).slots)

item_of_spans : option_map
    (λ n. print (in_root (inserted (codes "b") n) (read (document [])))) spanned_item
    ≡ Some (codes "b = 16\n")
unfolding print digits
item_of_spans = refl

-- ---- elements

-- `[[a]]`, `[a.b]`, `[[a]]`, `remove(0)` on `a`
first_removed : shows_as
    (at_item (codes "a") (on_items (removed_at 0))
    (read (document (head true (a ∷ []) ∷ head false (a ∷ b ∷ []) ∷ head true (a ∷ []) ∷ []))))
    (codes "[[a]]\n") true ≡ all_four
unfolding print meaning shown_meaning is_accepted
first_removed = refl

-- `[[a]]`, `x = 1`, `[[a]]`, `x = 2`, slot 0 of `a` set to a placeholder
first_emptied : shows_as (at_item (codes "a") (with_indexed (number 0) nothing)
    (read (document (head true (a ∷ []) ∷ line (x ∷ []) one_value ∷ head true (a ∷ [])
    ∷ line (x ∷ []) two_value ∷ []))))
    (codes "[[a]]\nx = 2\n") true ≡ all_four
unfolding print meaning shown_meaning is_accepted
first_emptied = refl

-- ---- positions

-- `[a.b.c]`, `[a.x]`, `[a.b]`: without their positions the headers print in the order of the tree
forgotten_positions : print
    (let t = read (document (head false (a ∷ b ∷ c ∷ []) ∷ head false (a ∷ x ∷ [])
    ∷ head false (a ∷ b ∷ []) ∷ [])) in
    record t { slots = slots_without_positions t.slots })
    ≡ codes "[a.x]\n[a.b]\n[a.b.c]\n"
unfolding print
forgotten_positions = refl
