-- Values that are set with headers: what is written, or the refusal, by computation.
use Rattle.std.specs.Prelude.{◌≡◌, refl, Bool, true, false, ◌&&◌, List, [], ◌∷◌, ◌++◌, codes, map, Some}
use Rattle.std.specs.Fmt.{digits}
use Rattle.toml_edit_model.specs.Text.{Text, newline, same_text}
use Rattle.toml_edit_model.specs.Syntax.{Segment, array, inline_table, no_elements, element, no_pairs, Statement, header, Document}
use Rattle.toml_edit_model.specs.Tree.{owned, Key, Node, nothing, no_slots, slot, Tree}
use Rattle.toml_edit_model.specs.Keys.{new_key}
use Rattle.toml_edit_model.specs.Mode.{plain}
use Rattle.toml_edit_model.specs.Print.{print, printed_table}
use Rattle.toml_edit_laws.specs.Locality.{texts}
use Rattle.toml_edit_model.specs.TreeOf.{owned_form}
use Rattle.toml_edit_model.specs.examples.ComputedTree.{tree_of}
use Rattle.toml_edit_model.specs.examples.Parts.{line, head, document, pair_of, a, b, x, one_value, plain_key, plain_int, root_of, all_true}
use Rattle.toml_edit_edit_laws.specs.Commands.{Refusal, no_such_path, wrong_kind, Answer, done, refused, remove_at}
use Rattle.toml_edit_edit_laws.specs.Headed.{set_at_with_headers}
use Rattle.toml_edit_edit_laws.specs.HeaderAdds.{last_table}

-- ---- answers

abbrev same_refusal : Refusal → Refusal → Bool
same_refusal no_such_path no_such_path = true
same_refusal wrong_kind wrong_kind = true
same_refusal _ _ = false

abbrev refuses : Refusal → Answer Tree → Bool
refuses r (done u) = false
refuses r (refused s) = same_refusal r s

abbrev writes : Text → Answer Tree → Bool
writes text (done u) = same_text (print u) text
writes text (refused r) = false

abbrev tree : Document → Tree
tree d = tree_of owned_form d

-- with keys in their default spelling
abbrev set_headed : List Text → Node → Tree → Answer Tree
set_headed path v t = set_at_with_headers (map new_key path) v t

-- the document's print, and what is written after
abbrev sets : Document → Text → List Text → Text → Bool
sets d before path after =
    same_text (print (tree d)) before
    && writes after (set_headed path (plain_int 2) (tree d))

abbrev ka : Text
ka = codes "a"

abbrev kb : Text
kb = codes "b"

abbrev kc : Text
kc = codes "c"

abbrev kx : Text
kx = codes "x"

-- `[k]` after an empty line
abbrev next_head : List Segment → Statement
next_head p =
    header (record {
      leading = newline;
      is_array = false;
      opening = [];
      path = p;
      closing = [];
      trailing = [];
    }) newline

abbrev one_line : Document
one_line = document (line (a ∷ []) one_value ∷ [])

-- ---- headers

-- one header is written, and none for the tables above it
last_table_alone : all_true (
    sets (document []) [] (ka ∷ kb ∷ kc ∷ []) (codes "[a.b]\nc = 2\n")
    ∷ sets (document []) [] (ka ∷ kb ∷ []) (codes "[a]\nb = 2\n")
    ∷ sets one_line (codes "a = 1\n") (kb ∷ kc ∷ []) (codes "a = 1\n\n[b]\nc = 2\n")
    ∷ []
    ) ≡ true
unfolding digits print
last_table_alone = refl

-- a header and a key are spelled as the path spells them
abbrev quoted : Text → Key
quoted k = record (new_key k) { spelling = Some (owned (codes "'" ++ (k ++ codes "'"))) }

spelled_as_the_path : writes (codes "['a'.b]\n'c' = 2\n")
    (set_at_with_headers (quoted ka ∷ new_key kb ∷ quoted kc ∷ []) (plain_int 2) (tree (document [])))
    ≡ true
unfolding digits print
spelled_as_the_path = refl

abbrev removes_after : List Text → Answer Tree → Answer Tree
removes_after path (done u) = remove_at path u
removes_after path (refused r) = refused r

-- the header stays where its line is removed
header_stays : writes (codes "[a.b]\n")
    (removes_after (ka ∷ kb ∷ kc ∷ [])
    (set_headed (ka ∷ kb ∷ kc ∷ []) (plain_int 2) (tree (document [])))) ≡ true
unfolding digits print
header_stays = refl

-- the root has no header: a line is added, or its value replaced
lines_of_the_root : all_true (
    sets one_line (codes "a = 1\n") (kb ∷ []) (codes "a = 1\nb = 2\n")
    ∷ sets one_line (codes "a = 1\n") (ka ∷ []) (codes "a = 2\n")
    ∷ []
    ) ≡ true
unfolding digits print
lines_of_the_root = refl

abbrev two_tables : Document
two_tables =
    document (head false (a ∷ []) ∷ line (x ∷ []) one_value ∷ next_head (b ∷ []) ∷ [])

-- a line in a table that is there, and a table in it, whose header comes before the next
in_a_table : all_true (
    sets two_tables (codes "[a]\nx = 1\n\n[b]\n") (ka ∷ kc ∷ [])
    (codes "[a]\nx = 1\nc = 2\n\n[b]\n")
    ∷ sets two_tables (codes "[a]\nx = 1\n\n[b]\n") (ka ∷ kc ∷ kx ∷ [])
    (codes "[a]\nx = 1\n\n[a.c]\nx = 2\n\n[b]\n")
    ∷ []
    ) ≡ true
unfolding digits print
in_a_table = refl

abbrev implied_table : Document
implied_table = document (head false (a ∷ b ∷ []) ∷ line (x ∷ []) one_value ∷ [])

-- a table that a header implied gets one where it gets a line, and none for a table in it
in_an_implied_table : all_true (
    sets implied_table (codes "[a.b]\nx = 1\n") (ka ∷ kc ∷ []) (codes "[a]\nc = 2\n[a.b]\nx = 1\n")
    ∷ sets implied_table (codes "[a.b]\nx = 1\n") (ka ∷ kc ∷ kx ∷ [])
    (codes "[a.b]\nx = 1\n\n[a.c]\nx = 2\n")
    ∷ []
    ) ≡ true
unfolding digits print
in_an_implied_table = refl

abbrev dotted_line : Document
dotted_line = document (line (a ∷ b ∷ []) one_value ∷ [])

-- likewise in a table that dotted keys make
in_a_dotted_table : all_true (
    sets dotted_line (codes "a.b = 1\n") (ka ∷ kc ∷ []) (codes "a.b = 1\na.c = 2\n")
    ∷ sets dotted_line (codes "a.b = 1\n") (ka ∷ kc ∷ kx ∷ []) (codes "a.b = 1\n\n[a.c]\nx = 2\n")
    ∷ []
    ) ≡ true
unfolding digits print
in_a_dotted_table = refl

abbrev one_in_array : Document
one_in_array = document (head true (a ∷ []) ∷ line (x ∷ []) one_value ∷ [])

in_an_element : sets one_in_array (codes "[[a]]\nx = 1\n") (ka ∷ codes "0" ∷ kb ∷ kc ∷ [])
    (codes "[[a]]\nx = 1\n\n[a.b]\nc = 2\n") ≡ true
unfolding digits print
in_an_element = refl

-- ---- values

abbrev inline_one : Document
inline_one =
    document (line (a ∷ [])
    (inline_table (pair_of (codes " ") (b ∷ []) one_value (codes " ") no_pairs) false []) ∷ [])

abbrev tables_in_array : Document
tables_in_array =
    document (line (a ∷ []) (array (element (record { before = []; after = [] })
    (inline_table no_pairs false []) no_elements) false []) ∷ [])

-- inside a value there are inline tables
inside_values : all_true (
    sets inline_one (codes "a = { b = 1 }\n") (ka ∷ kc ∷ kx ∷ [])
    (codes "a = { b = 1 , c = { x = 2 } }\n")
    ∷ sets tables_in_array (codes "a = [{}]\n") (ka ∷ codes "0" ∷ kb ∷ kc ∷ [])
    (codes "a = [{ b = { c = 2 } }]\n")
    ∷ []
    ) ≡ true
unfolding digits print
inside_values = refl

-- ---- placeholders

abbrev placeholder : Tree
placeholder = root_of (slot (plain_key ka) nothing no_slots)

-- one is filled with tables, or with the value
filled : all_true (
    writes (codes "[a.b]\nc = 2\n")
    (set_headed (ka ∷ kb ∷ kc ∷ []) (plain_int 2) placeholder)
    ∷ writes (codes "a = 2\n") (set_headed (ka ∷ []) (plain_int 2) placeholder)
    ∷ []
    ) ≡ true
unfolding digits print
filled = refl

-- ---- refusals

-- below a scalar, at a table or an array of tables, and what names no element
refusals : all_true (
    refuses wrong_kind (set_headed (ka ∷ kb ∷ []) (plain_int 1) (tree one_line))
    ∷ refuses wrong_kind (set_headed (ka ∷ []) (plain_int 1) (tree two_tables))
    ∷ refuses wrong_kind (set_headed (ka ∷ []) (plain_int 1) (tree one_in_array))
    ∷ refuses wrong_kind
    (set_headed (ka ∷ codes "0" ∷ []) (plain_int 1) (tree one_in_array))
    ∷ refuses wrong_kind (set_headed [] (plain_int 1) (tree one_line))
    ∷ refuses no_such_path
    (set_headed (ka ∷ codes "1" ∷ kb ∷ kc ∷ []) (plain_int 1) (tree one_in_array))
    ∷ refuses no_such_path
    (set_headed (ka ∷ kb ∷ kc ∷ []) (plain_int 1) (tree one_in_array))
    ∷ []
    ) ≡ true
unfolding digits print
refusals = refl

-- ---- the table more

-- its header and its line, after an empty line unless it is first
one_table : all_true (
    same_text (texts (printed_table plain false (last_table [] [] (new_key ka) (new_key kx) [] (plain_int 2))))
    (codes "\n[a]\nx = 2\n")
    ∷ same_text (texts (printed_table plain true (last_table [] [] (new_key ka) (new_key kb) (new_key kx ∷ []) (plain_int 2))))
    (codes "[a.b]\nx = 2\n")
    ∷ []
    ) ≡ true
unfolding digits print
one_table = refl
