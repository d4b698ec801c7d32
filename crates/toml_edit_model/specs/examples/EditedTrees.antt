-- More worked trees as edits leave them: that they fit, with their prints; and what is shown where
-- a part isn't printed.
use Rattle.std.specs.Prelude.{◌≡◌, refl, ◌++◌, pos, negsuc, Bool, true, false, List, [], ◌∷◌, codes, Some, None}
use Rattle.std.specs.Fmt.{digits}
use Rattle.toml_edit_model.specs.Text.{same_text}
use Rattle.toml_edit_model.specs.Scalars.{integer, string}
use Rattle.toml_edit_model.specs.Paths.{at_key, at_element}
use Rattle.toml_edit_model.specs.Meaning.{fact, a_table, an_array, a_scalar}
use Rattle.toml_edit_model.specs.Tree.{owned, span, unset, Node, nothing, leaf, list, inline, table, tables, no_items, item, Slots}
use Rattle.toml_edit_model.specs.Tree.{no_slots, slot, Tree}
use Rattle.toml_edit_model.specs.Shown.{shown_meaning}
use Rattle.toml_edit_model.specs.Print.{print}
use Rattle.toml_edit_model.specs.Slots.{Slot, keyed, inserted}
use Rattle.toml_edit_model.specs.Lists.{slots_from, items_from}
use Rattle.toml_edit_model.specs.Conversions.{formatted_items, formatted, made_value, item_display}
use Rattle.toml_edit_model.specs.examples.Parts.{plain_key, plain_int, owned_decor, plain_list, table_at, table_placed, root_of, all_true}
use Rattle.toml_edit_model.specs.examples.Cuts.{empty_trivia, empty_end}
use Rattle.toml_edit_model.specs.examples.Misfits.{dotted_root}
use Rattle.toml_edit_model.specs.examples.Fits.{FitsAs, fits, plain_line}

-- ---- items that their place can't print

-- `a = [1]`, slot 0 made an empty table
abbrev pub table_in_array : Slots
table_in_array =
    slot (plain_key (codes "a")) (plain_list (item (table_at None no_slots) no_items)) no_slots

pub fits_table_in_array : FitsAs (root_of table_in_array) (codes "a = []\n")
unfolding print
fits_table_in_array = (
  fits table_in_array
      ((tt, ((plain_line empty_end, (empty_trivia, (tt, tt))), tt)), tt) refl refl refl,
  refl,
)

-- `t = {}`, an array of one table put into it, and a trailing comma
abbrev pub tables_in_inline : Slots
tables_in_inline =
    slot (plain_key (codes "t"))
    (inline (record {
      decor = unset;
      is_dotted = false;
      comma = true;
      trailing = owned [];
      extent = None;
    })
    (slot (plain_key (codes "q"))
    (tables None (item (table_at None no_slots) no_items)) no_slots)) no_slots

pub fits_tables_in_inline : FitsAs (root_of tables_in_inline) (codes "t = {}\n")
unfolding print
fits_tables_in_inline = (
  fits tables_in_inline
      ((tt, ((plain_line empty_end, (empty_trivia, (tt, tt))), tt)), tt) refl refl refl,
  refl,
)

-- an array of tables that holds a value alone, and one that holds a value before a table
abbrev pub value_in_tables : Slots
value_in_tables = slot (plain_key (codes "a")) (tables None (item (plain_int 1) no_items)) no_slots

pub fits_value_in_tables : FitsAs (root_of value_in_tables) []
unfolding print
fits_value_in_tables = (fits value_in_tables ((tt, tt), tt) refl refl refl, refl)

abbrev pub value_before_table : Slots
value_before_table =
    slot (plain_key (codes "a"))
    (tables None (item (plain_int 1)
    (item (table_placed 1 (slot (plain_key (codes "x"))
    (plain_int 2) no_slots)) no_items))) no_slots

pub fits_value_before_table : FitsAs (root_of value_before_table) (codes "[[a]]\nx = 2\n")
unfolding digits print
fits_value_before_table = (
  fits value_before_table (
    (tt, tt),
    (
      (
        record {
          inner = (refl, refl);
          segments = ((refl, refl), tt);
          leading = empty_trivia;
          trailing = empty_end;
        },
        ((plain_line empty_end, tt), tt),
      ),
      tt,
    ),
  )
      refl refl refl,
  refl,
)

-- its only table is element 0
means_value_before_table : shown_meaning (root_of value_before_table)
    ≡ fact [] a_table ∷ fact (at_key (codes "a") ∷ []) an_array
    ∷ fact (at_key (codes "a") ∷ at_element 0 ∷ []) a_table
    ∷ fact (at_key (codes "a") ∷ at_element 0 ∷ at_key (codes "x") ∷ [])
    (a_scalar (integer (pos 2))) ∷ []
unfolding shown_meaning
means_value_before_table = refl

-- `[[a]]`, `[a.b]`, `[[a]]`, element 0 removed: no `b` is left
removed_element : shown_meaning
    (root_of (slot (plain_key (codes "a"))
    (tables None (item (table_placed 3 no_slots) no_items)) no_slots))
    ≡ fact [] a_table ∷ fact (at_key (codes "a") ∷ []) an_array
    ∷ fact (at_key (codes "a") ∷ at_element 0 ∷ []) a_table ∷ []
unfolding shown_meaning
removed_element = refl

-- ---- spans in an owned tree

-- the item of `a = 0x10 # c` with its spans, under another key: all that was a span prints by
-- default
abbrev pub copied_spans : Slots
copied_spans =
    slot (plain_key (codes "b"))
    (leaf (integer (pos 16)) (Some (span 4 8))
    (record { prefix = Some (span 3 4); suffix = Some (span 8 12) })) no_slots

pub fits_copied_spans : FitsAs (root_of copied_spans) (codes "b = 16\n")
unfolding digits print
fits_copied_spans =
    (fits copied_spans ((tt, ((plain_line empty_end, tt), tt)), tt) refl refl refl, refl)

-- ---- what is not printed

-- the root marked dotted: no lines
prints_dotted_root : print dotted_root ≡ []
unfolding print
prints_dotted_root = refl

-- placeholders, in a table, an inline table (whose last shown value has a space after it) and an
-- array
placeholders : print (root_of (slot (plain_key (codes "a")) nothing (slot (plain_key (codes "t"))
    (inline (record {
      decor = unset;
      is_dotted = false;
      comma = true;
      trailing = owned [];
      extent = None;
    }) (slot (plain_key (codes "b")) nothing
    (slot (plain_key (codes "c")) (plain_int 1) no_slots)))
    (slot (plain_key (codes "d"))
    (plain_list (item nothing (item (plain_int 2) no_items))) no_slots))))
    ≡ codes "t = { c = 1 ,}\nd = [2]\n"
unfolding digits print
placeholders = refl

-- `d = [1, 2]`, and a placeholder between the two: it is not printed, and it is not shown, nor
-- numbered
abbrev placeholder_between : Tree
placeholder_between =
    root_of (slot (plain_key (codes "d"))
    (plain_list (item (plain_int 1) (item nothing (item (plain_int 2) no_items)))) no_slots)

prints_no_placeholder : print placeholder_between ≡ codes "d = [1, 2]\n"
unfolding digits print
prints_no_placeholder = refl

shows_no_placeholder : shown_meaning placeholder_between
    ≡ fact [] a_table ∷ fact (at_key (codes "d") ∷ []) an_array
    ∷ fact (at_key (codes "d") ∷ at_element 0 ∷ []) (a_scalar (integer (pos 1)))
    ∷ fact (at_key (codes "d") ∷ at_element 1 ∷ []) (a_scalar (integer (pos 2))) ∷ []
unfolding shown_meaning
shows_no_placeholder = refl

-- an implicit table with no lines, an explicit one, and an element that is implicit and has no
-- lines
without_lines : print
    (root_of (slot (plain_key (codes "a"))
    (table (record {
      decor = unset;
      is_implicit = true;
      is_dotted = false;
      position = None;
      extent = None;
    }) no_slots)
    (slot (plain_key (codes "b")) (table_placed 1 no_slots)
    (slot (plain_key (codes "c"))
    (tables None (item (table
    (record {
      decor = owned_decor [] [];
      is_implicit = true;
      is_dotted = false;
      position = None;
      extent = None;
    }) no_slots) no_items)) no_slots))))
    ≡ codes "[b]\n[[c]]\n"
unfolding print
without_lines = refl

-- nor are such tables shown: an implicit one and a dotted one with no lines, and a dotted inline
-- table
abbrev made : Bool → Bool → Slots → Node
made is_implicit is_dotted ss =
    table (record {
      decor = unset;
      is_implicit = is_implicit;
      is_dotted = is_dotted;
      position = None;
      extent = None;
    }) ss

abbrev dotted_inline : Slots → Node
dotted_inline ss =
    inline (record {
      decor = unset;
      is_dotted = true;
      comma = false;
      trailing = owned [];
      extent = None;
    }) ss

nothing_shown : shown_meaning
    (root_of (slot (plain_key (codes "a")) (made true false no_slots)
    (slot (plain_key (codes "b")) (made false true no_slots)
    (slot (plain_key (codes "c"))
    (made true false (slot (plain_key (codes "d"))
    (dotted_inline no_slots) no_slots)) no_slots))))
    ≡ fact [] a_table ∷ []
unfolding shown_meaning
nothing_shown = refl

-- but they are for what they hold
shown_below : shown_meaning
    (root_of (slot (plain_key (codes "a"))
    (made true false (slot (plain_key (codes "x")) (table_at None no_slots) no_slots))
    (slot (plain_key (codes "b"))
    (dotted_inline (slot (plain_key (codes "y")) (plain_int 1) no_slots)) no_slots)))
    ≡ fact [] a_table ∷ fact (at_key (codes "a") ∷ []) a_table
    ∷ fact (at_key (codes "a") ∷ at_key (codes "x") ∷ []) a_table
    ∷ fact (at_key (codes "b") ∷ []) a_table
    ∷ fact (at_key (codes "b") ∷ at_key (codes "y") ∷ []) (a_scalar (integer (pos 1))) ∷ []
unfolding shown_meaning
shown_below = refl

-- ---- decors and defaults

-- a decor on every part of a header and a line: each is printed in its place
abbrev decorated : Tree
decorated =
    record {
      root = record {
        decor = owned_decor (codes "# p\n") (codes "# q\n");
        is_implicit = false;
        is_dotted = false;
        position = None;
        extent = None;
      };
      slots =
          slot (record {
            name = codes "a";
            spelling = Some (owned (codes "'a'"));
            leaf = unset;
            dotted = owned_decor (codes "1") (codes "\t");
          })
          (table (record {
            decor = unset;
            is_implicit = true;
            is_dotted = false;
            position = None;
            extent = None;
          })
          (slot (record {
            name = codes "b";
            spelling = None;
            leaf = owned_decor (codes " ") (codes "  ");
            dotted = owned_decor (codes " ") (codes "2");
          })
          (table (record {
            decor = owned_decor (codes "# h\n") (codes " # t");
            is_implicit = false;
            is_dotted = false;
            position = Some (pos 1);
            extent = None;
          })
          (slot (record (plain_key (codes "x")) { leaf = owned_decor (codes "# k\n") [] })
          (leaf (integer (pos 1)) (Some (owned (codes "+1")))
          (owned_decor (codes "\t") (codes " # v"))) no_slots)) no_slots)) no_slots;
      trailing = owned (codes "# e");
    }

prints_decorated : print decorated ≡ codes "# p\n# h\n[ 'a'\t. b  ] # t\n# k\nx=\t+1 # v\n# q\n# e"
unfolding print
prints_decorated = refl

-- the keys' prefix with a newline goes before the table's, and their suffix is dropped
lifted_prefix : print
    (root_of (slot (record (plain_key (codes "a")) {
      leaf = owned_decor (codes "# k\n")
          (codes " ");
    })
    (table (record {
      decor = owned_decor (codes "# t\n") [];
      is_implicit = false;
      is_dotted = false;
      position = Some (pos 1);
      extent = None;
    }) no_slots) no_slots))
    ≡ codes "# k\n# t\n[a]\n"
unfolding print
lifted_prefix = refl

-- ---- the order of headers

-- a table without a position has that seen last in the walk, of a dotted table none; at one
-- position the order of the walk stays
abbrev orders : List Bool
orders =
    same_text (print (root_of
    (slot (plain_key (codes "a"))
    (table_placed 2 (slot (plain_key (codes "x")) (table_at None no_slots) no_slots))
    (slot (plain_key (codes "b")) (table_placed 1 no_slots)
    (slot (plain_key (codes "c")) (table_placed 2 no_slots) no_slots)))))
    (codes "[b]\n[a]\n\n[a.x]\n[c]\n")
    ∷ same_text (print (root_of
    (slot (plain_key (codes "a"))
    (table (record {
      decor = unset;
      is_implicit = false;
      is_dotted = true;
      position = Some (pos 9);
      extent = None;
    })
    (slot (plain_key (codes "x")) (table_at None no_slots) no_slots))
    (slot (plain_key (codes "b")) (table_placed 1 no_slots) no_slots))))
    (codes "[a.x]\n[b]\n")
    ∷ same_text (print (root_of
    (slot (plain_key (codes "a")) (table_placed 9223372036854775807 no_slots)
    (slot (plain_key (codes "b"))
    (table (record {
      decor = owned_decor [] [];
      is_implicit = false;
      is_dotted = false;
      position = Some (negsuc 9223372036854775807);
      extent = None;
    }) no_slots) no_slots))))
    (codes "[b]\n[a]\n")
    ∷ []

orders_hold : all_true orders ≡ true
unfolding print
orders_hold = refl

-- ---- calls of containers

-- `a = [ 1,`, LF, ` 2,`, LF, `]`, and `fmt` of the array
formatted_array : item_display
    (plain_list (items_from (formatted_items
    (leaf (integer (pos 1)) (Some (owned (codes "1"))) (owned_decor (codes " ") [])
    ∷ leaf (integer (pos 2)) (Some (owned (codes "2"))) (owned_decor (codes "\n ") []) ∷ []))))
    ≡ codes "[1, 2]"
formatted_array = refl

-- `fmt` of a table: the decors of keys and values go, spellings stay, and a table's key keeps its
-- decor
formatted_table : print (root_of (slots_from (formatted (
    record {
      key = record (plain_key (codes "a")) {
        spelling = Some (owned (codes "'a'"));
        leaf = owned_decor (codes "# c\n") [];
      };
      item = leaf (integer (pos 16)) (Some (owned (codes "0x10"))) (owned_decor [] (codes " # d"));
    }
    ∷ record {
      key = record (plain_key (codes "b")) { leaf = owned_decor (codes " ") (codes " ") };
      item = table_placed 1 no_slots;
    } ∷ []))))
    ≡ codes "'a' = 0x10\n[ b ]\n"
unfolding print
formatted_table = refl

-- tables in tables, and arrays of tables, made values
made_values_below : item_display
    (made_value (table_at None
    (slot (plain_key (codes "a"))
    (table_at None (slot (plain_key (codes "x")) (plain_int 1) no_slots))
    (slot (plain_key (codes "b"))
    (tables None (item (table_at None no_slots)
    (item (table_at None no_slots) no_items))) no_slots))))
    ≡ codes "{ a = { x = 1 }, b = [{}, {}] }"
unfolding digits
made_values_below = refl

-- `a = [ 1 , 2 ]`, where 3 takes the place and the decor of 1; `a = [1, 2,]`, and 3 after them
replaced_element : print
    (root_of (slot (plain_key (codes "a"))
    (plain_list (item (leaf (integer (pos 3)) None (owned_decor (codes " ") (codes " ")))
    (item (leaf (integer (pos 2)) (Some (owned (codes "2")))
    (owned_decor (codes " ") (codes " "))) no_items))) no_slots))
    ≡ codes "a = [ 3 , 2 ]\n"
unfolding digits print
replaced_element = refl

pushed_element : print
    (root_of (slot (plain_key (codes "a"))
    (list (record {
      decor = owned_decor (codes " ") [];
      comma = true;
      trailing = owned [];
      extent = None;
    })
    (item (leaf (integer (pos 1)) None (owned_decor [] []))
    (item (leaf (integer (pos 2)) None (owned_decor (codes " ") []))
    (item (plain_int 3) no_items)))) no_slots))
    ≡ codes "a = [1, 2, 3,]\n"
unfolding digits print
pushed_element = refl

-- `t = { a = 1 }`, and a pair with the key `'b'`
added_pair : print (root_of
    (slot (plain_key (codes "t"))
    (inline (record {
      decor = owned_decor (codes " ") [];
      is_dotted = false;
      comma = false;
      trailing = owned [];
      extent = None;
    })
    (slot (record (plain_key (codes "a")) { leaf = owned_decor (codes " ") (codes " ") })
    (leaf (integer (pos 1)) (Some (owned (codes "1"))) (owned_decor (codes " ") (codes " ")))
    (slot (record (plain_key (codes "b")) { spelling = Some (owned (codes "'b'")) })
    (plain_int 2) no_slots))) no_slots))
    ≡ codes "t = { a = 1 , 'b' = 2 }\n"
unfolding digits print
added_pair = refl

-- the first document of Texts, and an inline table in its table `b`
readme_with_value : print
    (record (root_of (slot (record {
      name = codes "hello";
      spelling = Some (owned (codes "\"hello\""));
      leaf = owned_decor (codes "\n") (codes " ");
      dotted = owned_decor [] [];
    })
    (leaf (string (codes "toml!")) (Some (owned (codes "'toml!'")))
    (owned_decor (codes " ") (codes " # comment")))
    (slot (record {
      name = codes "a";
      spelling = Some (owned (codes "'a'"));
      leaf = unset;
      dotted = owned_decor [] [];
    })
    (table (record {
      decor = unset;
      is_implicit = true;
      is_dotted = false;
      position = None;
      extent = None;
    })
    (slot (record {
      name = codes "b";
      spelling = Some (owned (codes "b"));
      leaf = owned_decor [] [];
      dotted = owned_decor [] [];
    })
    (table_placed 1 (slot (plain_key (codes "c"))
    (inline (record {
      decor = unset;
      is_dotted = false;
      comma = false;
      trailing = owned [];
      extent = None;
    })
    (slot (plain_key (codes "d"))
    (leaf
    (string
    (codes "hello")) None unset) no_slots)) no_slots)) no_slots)) no_slots))) {
      trailing = owned
          (codes "    ");
    })
    ≡ codes "\n\"hello\" = 'toml!' # comment\n['a'.b]\nc = { d = \"hello\" }\n    "
unfolding print
readme_with_value = refl

-- an insert at a present key keeps its place and resets the key; a new key goes last
abbrev two_slots : List (Slot Node)
two_slots =
    keyed (record {
      name = codes "a";
      spelling = Some (owned (codes "'a'"));
      leaf = owned_decor (codes "# c\n") (codes " ");
      dotted = owned_decor [] [];
    }) (plain_int 1)
    ∷ keyed (plain_key (codes "b")) (plain_int 2) ∷ []

inserted_present : inserted (codes "a") (plain_int 3) two_slots
    ≡ keyed (plain_key (codes "a")) (plain_int 3) ∷ keyed (plain_key (codes "b")) (plain_int 2) ∷ []
inserted_present = refl

inserted_absent : inserted (codes "c") (plain_int 3) two_slots
    ≡ two_slots ++ (keyed (plain_key (codes "c")) (plain_int 3) ∷ [])
inserted_absent = refl
