-- Worked texts that are accepted and not settled, one for each reason, with their normal texts; and
-- trees that are not steady.
use Rattle.std.specs.Prelude.{◌≡◌, refl, Bool, true, false, not, ◌&&◌, List, [], ◌∷◌, ◌++◌, codes, pos, Some, None}
use Rattle.toml_edit_model.specs.Text.{Text, newline, same_text, byte_order_mark}
use Rattle.toml_edit_model.specs.Scalars.{string}
use Rattle.toml_edit_model.specs.Syntax.{Segment, Value, scalar, array, inline_table, no_elements, element, no_pairs, Statement, key_line}
use Rattle.toml_edit_model.specs.Syntax.{header, Document, document_text}
use Rattle.toml_edit_model.specs.Accepted.{is_accepted}
use Rattle.toml_edit_model.specs.Normal.{normal, normal_text}
use Rattle.toml_edit_model.specs.Tree.{Raw, owned, span, Decor, unset, inline, table, tables, no_items, item, Slots, no_slots, slot}
use Rattle.toml_edit_model.specs.Fits.{is_steady}
use Rattle.toml_edit_model.specs.examples.Parts.{spelled_as, line, head, document, a, b, c, d, x, y, pair_of, one_value, two_value}
use Rattle.toml_edit_model.specs.examples.Parts.{three_value, all_true, plain_key, plain_int, owned_decor, table_placed, root_of}
use Rattle.toml_edit_model.specs.Settled.{is_settled}

-- ---- texts

-- the cut of an accepted text that isn't settled, with its normal text, which is
abbrev unsettled : Document → Text → Text → Bool
unsettled doc text settled =
    ((same_text (document_text doc) text && is_accepted doc) && not (is_settled doc))
    && (same_text (normal_text doc) settled && is_settled (normal doc))

abbrev settled : Document → Text → Bool
settled doc text = (same_text (document_text doc) text && is_accepted doc) && is_settled doc

-- `path = value` with these texts before the path, after the value and at the end
abbrev line_with : Text → List Segment → Value → Text → Text → Statement
line_with leading p v trailing end =
    key_line (record {
      leading = leading;
      path = p;
      before_equals = codes " ";
      after_equals = codes " ";
      trailing = trailing;
    }) v end

abbrev with_final : Text → Document → Document
with_final t doc = record doc { final = t }

abbrev marks_and_newlines : List Bool
marks_and_newlines =
    unsettled (record (document (line (a ∷ []) one_value ∷ [])) { has_mark = true })
    (byte_order_mark ++ codes "a = 1\n") (codes "a = 1\n")
    ∷ unsettled (record (document
    (line_with [] (a ∷ []) one_value [] (codes "\r\n") ∷ [])) { has_mark = true })
    (byte_order_mark ++ codes "a = 1\r\n") (codes "a = 1\n")
    ∷ unsettled (document (line_with [] (a ∷ []) one_value [] [] ∷ [])) (codes "a = 1")
    (codes "a = 1\n")
    ∷ unsettled (document (line_with [] (a ∷ []) one_value [] (codes "\r\n") ∷ []))
    (codes "a = 1\r\n") (codes "a = 1\n")
    ∷ unsettled (document (header
    (record {
      leading = [];
      is_array = false;
      opening = [];
      path = a ∷ [];
      closing = [];
      trailing = [];
    }) (codes "\r\n") ∷ [])) (codes "[a]\r\n") (codes "[a]\n")
    ∷ unsettled (document (line_with (codes "\r\n") (a ∷ []) one_value [] newline ∷ []))
    (codes "\r\na = 1\n") (codes "\na = 1\n")
    ∷ unsettled (document (header
    (record {
      leading = codes "# c\r\n";
      is_array = false;
      opening = [];
      path = a ∷ [];
      closing = [];
      trailing = [];
    }) newline ∷ [])) (codes "# c\r\n[a]\n") (codes "# c\n[a]\n")
    ∷ unsettled (with_final (codes "\r\n") (document (line (a ∷ []) one_value ∷ [])))
    (codes "a = 1\n\r\n") (codes "a = 1\n\n")
    ∷ settled (document (line (a ∷ [])
    (scalar (string (codes "x\r\ny")) (codes "\"\"\"x\r\ny\"\"\"")) ∷ []))
    (codes "a = \"\"\"x\r\ny\"\"\"\n")
    ∷ []

marks_and_newlines_hold : all_true marks_and_newlines ≡ true
unfolding is_accepted normal normal_text is_settled
marks_and_newlines_hold = refl

-- an array or an inline table with these texts round its one element, after the comma and before
-- the bracket
abbrev in_array : Text → Text → Bool → Text → Document
in_array before after comma t =
    document (line (a ∷ []) (array
    (element (record { before = before; after = after }) one_value no_elements) comma t) ∷ [])

abbrev in_table : Text → Text → Bool → Text → Document
in_table before after comma t =
    document (line (a ∷ []) (inline_table
    (pair_of before (b ∷ []) one_value after no_pairs) comma t) ∷ [])

abbrev returns_in_values : List Bool
returns_in_values =
    unsettled (in_array (codes "\r\n") [] false []) (codes "a = [\r\n1]\n") (codes "a = [\n1]\n")
    ∷ unsettled (in_array [] (codes "\r\n") false []) (codes "a = [1\r\n]\n") (codes "a = [1\n]\n")
    ∷ unsettled (in_array [] [] true (codes "\r\n")) (codes "a = [1,\r\n]\n") (codes "a = [1,\n]\n")
    ∷ unsettled (in_table (codes "\r\n") [] false []) (codes "a = {\r\nb = 1}\n")
    (codes "a = {\nb = 1}\n")
    ∷ unsettled (in_table [] (codes "\r\n") false []) (codes "a = {b = 1\r\n}\n")
    (codes "a = {b = 1\n}\n")
    ∷ unsettled (in_table [] [] true (codes "\r\n")) (codes "a = {b = 1,\r\n}\n")
    (codes "a = {b = 1,\n}\n")
    ∷ unsettled (document (line (a ∷ [])
    (array (element (record { before = []; after = [] })
    (array no_elements false (codes "\r\n")) no_elements) false []) ∷ [])) (codes "a = [[\r\n]]\n")
    (codes "a = [[\n]]\n")
    ∷ []

returns_in_values_hold : all_true returns_in_values ≡ true
unfolding is_accepted normal normal_text is_settled
returns_in_values_hold = refl

abbrev quoted_a : Segment
quoted_a = spelled_as (codes "a") (codes "\"a\"")

-- lines, of the root and of a header, and pairs out of order
abbrev order : List Bool
order =
    unsettled (document (line (a ∷ b ∷ []) one_value ∷ line (c ∷ []) two_value
    ∷ line (a ∷ d ∷ []) three_value ∷ [])) (codes "a.b = 1\nc = 2\na.d = 3\n")
    (codes "a.b = 1\na.d = 3\nc = 2\n")
    ∷ unsettled (document (head false (x ∷ []) ∷ line (a ∷ b ∷ []) one_value
    ∷ line (c ∷ []) two_value ∷ line (a ∷ d ∷ []) three_value ∷ []))
    (codes "[x]\na.b = 1\nc = 2\na.d = 3\n") (codes "[x]\na.b = 1\na.d = 3\nc = 2\n")
    ∷ unsettled (document (line (a ∷ x ∷ b ∷ []) one_value ∷ line (a ∷ c ∷ []) two_value
    ∷ line (a ∷ x ∷ d ∷ []) three_value ∷ line (y ∷ []) one_value ∷ []))
    (codes "a.x.b = 1\na.c = 2\na.x.d = 3\ny = 1\n")
    (codes "a.x.b = 1\na.x.d = 3\na.c = 2\ny = 1\n")
    ∷ unsettled (document (line (x ∷ [])
    (inline_table (pair_of [] (a ∷ b
    ∷ []) one_value [] (pair_of (codes " ")
    (c ∷ []) two_value [] (pair_of (codes " ") (a ∷ d ∷ []) three_value [] no_pairs))) false [])
    ∷ []))
    (codes "x = {a.b = 1, c = 2, a.d = 3}\n") (codes "x = {a.b = 1, a.d = 3, c = 2}\n")
    ∷ settled (document (line (a ∷ b ∷ []) one_value ∷ line (a ∷ d ∷ []) three_value
    ∷ line (c ∷ []) two_value ∷ [])) (codes "a.b = 1\na.d = 3\nc = 2\n")
    ∷ []

order_holds : all_true order ≡ true
unfolding is_accepted normal normal_text is_settled
order_holds = refl

-- keys spelled or spaced as the kept one isn't, in lines, headers and pairs
abbrev keys : List Bool
keys =
    unsettled (document (line (quoted_a ∷ b ∷ []) one_value ∷ line (a ∷ c ∷ []) two_value ∷ []))
    (codes "\"a\".b = 1\na.c = 2\n") (codes "\"a\".b = 1\n\"a\".c = 2\n")
    ∷ unsettled (document (line (a ∷ b ∷ []) one_value ∷ line (quoted_a ∷ c ∷ []) two_value ∷ []))
    (codes "a.b = 1\n\"a\".c = 2\n") (codes "a.b = 1\na.c = 2\n")
    ∷ unsettled (document (line (record a { after = codes " " } ∷ b ∷ []) one_value
    ∷ line (a ∷ c ∷ []) two_value ∷ [])) (codes "a .b = 1\na.c = 2\n")
    (codes "a .b = 1\na .c = 2\n")
    ∷ unsettled (document (head false (x ∷ record a { before = codes " " } ∷ b ∷ [])
    ∷ head false (x ∷ a ∷ c ∷ []) ∷ [])) (codes "[x. a.b]\n[x.a.c]\n")
    (codes "[x. a.b]\n[x. a.c]\n")
    ∷ unsettled (document (head false (a ∷ b ∷ []) ∷ head false (quoted_a ∷ []) ∷ []))
    (codes "[a.b]\n[\"a\"]\n") (codes "[\"a\".b]\n[\"a\"]\n")
    ∷ unsettled (document (line (x ∷ [])
    (inline_table (pair_of [] (a ∷ b
    ∷ []) one_value [] (pair_of (codes " ") (quoted_a ∷ c ∷ []) two_value [] no_pairs)) false [])
    ∷ []))
    (codes "x = {a.b = 1, \"a\".c = 2}\n") (codes "x = {a.b = 1, a.c = 2}\n")
    ∷ []

keys_hold : all_true keys ≡ true
unfolding is_accepted normal normal_text is_settled
keys_hold = refl

-- the white space inside the brackets of an array's later headers: that of its first
abbrev element_head : Text → Text → Statement
element_head opening closing =
    header (record {
      leading = [];
      is_array = true;
      opening = opening;
      path = a ∷ [];
      closing = closing;
      trailing = [];
    }) newline

abbrev inner_spaces : List Bool
inner_spaces =
    unsettled (document (element_head (codes " ") (codes "\t") ∷ element_head [] [] ∷ []))
    (codes "[[ a\t]]\n[[a]]\n") (codes "[[ a\t]]\n[[ a\t]]\n")
    ∷ unsettled (document (element_head [] [] ∷ element_head (codes " ") [] ∷ []))
    (codes "[[a]]\n[[ a]]\n") (codes "[[a]]\n[[a]]\n")
    ∷ unsettled (document (element_head [] [] ∷ element_head [] (codes " ") ∷ []))
    (codes "[[a]]\n[[a ]]\n") (codes "[[a]]\n[[a]]\n")
    ∷ settled (document (element_head (codes " ") [] ∷ element_head (codes " ") [] ∷ []))
    (codes "[[ a]]\n[[ a]]\n")
    ∷ []

inner_spaces_hold : all_true inner_spaces ≡ true
unfolding is_accepted normal normal_text is_settled
inner_spaces_hold = refl

-- ---- trees

-- `[a]`, `x = 1`, where `a` has such a decor, flag and position
abbrev one_table : Decor → Bool → Bool → Slots
one_table decor is_implicit is_placed =
    slot (plain_key (codes "a"))
    (table (record {
      decor = decor;
      is_implicit = is_implicit;
      is_dotted = false;
      position = elim is_placed [ true ↦ Some (pos 1) | false ↦ None ];
      extent = None;
    })
    (slot (plain_key (codes "x")) (plain_int 1) no_slots)) no_slots

-- `a.x = 1` in an inline table that is dotted
abbrev dotted_inline : Slots
dotted_inline =
    slot (plain_key (codes "a"))
    (inline (record {
      decor = unset;
      is_dotted = true;
      comma = false;
      trailing = owned [];
      extent = None;
    })
    (slot (plain_key (codes "x")) (plain_int 1) no_slots)) no_slots

-- `[[a]]`, whose element has such flags
abbrev one_of_array : Bool → Bool → Slots
one_of_array is_implicit is_dotted =
    slot (plain_key (codes "a"))
    (tables None (item (table
    (record {
      decor = owned_decor [] [];
      is_implicit = is_implicit;
      is_dotted = is_dotted;
      position = Some (pos 1);
      extent = None;
    }) no_slots) no_items)) no_slots

abbrev side : Raw → Decor
side r = record { prefix = Some r; suffix = None }

-- steady, and not: a header with no position, with no prefix or a span; one of an implicit table; a
-- dotted inline table in the root and in a table; an element or the root marked dotted
abbrev steady : List Bool
steady =
    is_steady (root_of (one_table (side (owned [])) false true))
    ∷ not (is_steady (root_of (one_table (side (owned [])) false false)))
    ∷ not (is_steady (root_of (one_table unset false true)))
    ∷ not (is_steady (root_of (one_table (side (span 0 1)) false true)))
    ∷ not (is_steady (root_of (one_table (side (owned [])) true true)))
    ∷ not (is_steady (root_of dotted_inline))
    ∷ not (is_steady (root_of
    (slot (plain_key (codes "b")) (table_placed 1 dotted_inline) no_slots)))
    ∷ is_steady (root_of (one_of_array true false)) ∷ is_steady (root_of (one_of_array false false))
    ∷ not (is_steady (root_of (one_of_array false true)))
    ∷ not (is_steady (record
    (root_of no_slots) {
      root = record {
        decor = unset;
        is_implicit = false;
        is_dotted = true;
        position = None;
        extent = None;
      };
    }))
    ∷ []

steady_holds : all_true steady ≡ true
steady_holds = refl
