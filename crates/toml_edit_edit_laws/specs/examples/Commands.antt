-- Worked commands on trees of texts: what is written, or the refusal, by computation.
use Rattle.std.specs.Prelude.{◌≡◌, refl, ℕ, zero, suc, Bool, true, false, not, ◌&&◌, List, [], ◌∷◌, ◌++◌, codes, map, Some}
use Rattle.std.specs.List.{list_all}
use Rattle.std.specs.Fmt.{digits}
use Rattle.toml_edit_model.specs.Mode.{plain}
use Rattle.toml_edit_model.specs.Text.{Text, newline, same_text}
use Rattle.toml_edit_model.specs.Scalars.{string}
use Rattle.toml_edit_model.specs.Syntax.{Segment, scalar, array, inline_table, no_elements, element, no_pairs, Statement, header, Document}
use Rattle.toml_edit_model.specs.Syntax.{keeps_limits}
use Rattle.toml_edit_model.specs.Tree.{owned, Key, Node, no_items, item, Tree}
use Rattle.toml_edit_model.specs.Keys.{new_key}
use Rattle.toml_edit_model.specs.Print.{print, statements_of}
use Rattle.toml_edit_model.specs.TreeOf.{owned_form}
use Rattle.toml_edit_model.specs.examples.ComputedTree.{tree_of}
use Rattle.toml_edit_model.specs.examples.Parts.{line, head, document, pair_of, a, b, c, x, one_value, two_value, plain_int, plain_list}
use Rattle.toml_edit_model.specs.examples.Parts.{all_true}
use Rattle.toml_edit_edit_laws.specs.Commands.{Refusal, no_such_path, wrong_kind, taken, Answer, done, refused, get_text, set_at, remove_at}
use Rattle.toml_edit_laws.specs.examples.Edits.{commented, three_lines}

-- ---- answers

abbrev pub same_refusal : Refusal → Refusal → Bool
same_refusal no_such_path no_such_path = true
same_refusal wrong_kind wrong_kind = true
same_refusal taken taken = true
same_refusal _ _ = false

abbrev pub refuses : {A : Type 0} → Refusal → Answer A → Bool
refuses r (done a) = false
refuses r (refused s) = same_refusal r s

abbrev pub writes : Text → Answer Tree → Bool
writes text (done u) = same_text (print u) text
writes text (refused r) = false

abbrev shows : Text → Answer Text → Bool
shows text (done t) = same_text t text
shows text (refused r) = false

abbrev pub tree : Document → Tree
tree d = tree_of owned_form d

-- `set` at a path of keys in their default spelling
abbrev set_names : List Text → Node → Tree → Answer Tree
set_names path v t = set_at (map new_key path) v t

-- the document's print, and what `set` and `remove` of it write, or `get` of it
abbrev sets : Document → Text → List Text → Node → Text → Bool
sets d before path v after =
    same_text (print (tree d)) before && writes after (set_names path v (tree d))

abbrev removes : Document → Text → List Text → Text → Bool
removes d before path after =
    same_text (print (tree d)) before && writes after (remove_at path (tree d))

abbrev gets : Document → Text → List Text → Text → Bool
gets d before path text = same_text (print (tree d)) before && shows text (get_text path (tree d))

-- `[k]` with trivia before it
abbrev head_after : Text → List Segment → Statement
head_after before p =
    header (record {
      leading = before;
      is_array = false;
      opening = [];
      path = p;
      closing = [];
      trailing = [];
    }) newline

abbrev empty : Document
empty = document []

abbrev pub ka : Text
ka = codes "a"

abbrev pub kb : Text
kb = codes "b"

abbrev pub kc : Text
kc = codes "c"

abbrev pub kt : Text
kt = codes "t"

abbrev pub kx : Text
kx = codes "x"

abbrev pub ky : Text
ky = codes "y"

-- ---- values, and a new path

abbrev pub inline_one : Document
inline_one =
    document (commented [] a
    (inline_table (pair_of (codes " ") (b ∷ []) one_value (codes " ") no_pairs) false [])
    (codes " # c") ∷ [])

set_inside_value : sets inline_one (codes "a = { b = 1 } # c\n") (ka ∷ kb ∷ []) (plain_int 2)
    (codes "a = { b = 2 } # c\n") ≡ true
unfolding digits print
set_inside_value = refl

set_new_path : sets empty [] (ka ∷ kb ∷ kc ∷ []) (plain_int 1) (codes "a = { b = { c = 1 } }\n")
    ≡ true
unfolding digits print
set_new_path = refl

-- a missing key is spelled as the path spells it
abbrev quoted : Text → Key
quoted k = record (new_key k) { spelling = Some (owned (codes "'" ++ (k ++ codes "'"))) }

set_as_spelled : writes (codes "'a' = { b = { 'c' = 1 } }\n")
    (set_at (quoted ka ∷ new_key kb ∷ quoted kc ∷ []) (plain_int 1) (tree empty)) ≡ true
unfolding digits print
set_as_spelled = refl

-- a key that is there keeps its spelling
set_at_other_spelling : writes (codes "a = { b = 2 } # c\n")
    (set_at (quoted ka ∷ quoted kb ∷ []) (plain_int 2) (tree inline_one)) ≡ true
unfolding digits print
set_at_other_spelling = refl

-- ---- lines, and elements

remove_commented_line : removes three_lines (codes "# one\na = 1\n\n# two\nb = 2 # x\nc = 3\n")
    (kb ∷ []) (codes "# one\na = 1\nc = 3\n") ≡ true
unfolding digits print
remove_commented_line = refl

abbrev two_elements : Document
two_elements =
    document (line (a ∷ []) (array (element (record { before = []; after = [] }) one_value
    (element (record { before = codes " "; after = codes " " })
    (scalar (string (codes "x")) (codes "'x'")) no_elements)) false []) ∷ [])

get_element : gets two_elements (codes "a = [1, 'x' ]\n") (ka ∷ codes "1" ∷ []) (codes "'x'\n")
    ≡ true
unfolding digits print
get_element = refl

-- ---- tables

abbrev two_tables : Document
two_tables =
    document (head false (a ∷ []) ∷ line (x ∷ []) one_value ∷ head_after (codes "\n") (b ∷ []) ∷ [])

set_in_table : sets two_tables (codes "[a]\nx = 1\n\n[b]\n") (ka ∷ ky ∷ []) (plain_int 2)
    (codes "[a]\nx = 1\ny = 2\n\n[b]\n") ≡ true
unfolding digits print
set_in_table = refl

remove_in_table : removes two_tables (codes "[a]\nx = 1\n\n[b]\n") (ka ∷ kx ∷ [])
    (codes "[a]\n\n[b]\n") ≡ true
unfolding digits print
remove_in_table = refl

abbrev split_table : Document
split_table =
    document (head false (a ∷ []) ∷ line (x ∷ []) one_value ∷ head_after (codes "# c\n") (b ∷ [])
    ∷ head false (a ∷ c ∷ []) ∷ [])

remove_table : removes split_table (codes "[a]\nx = 1\n# c\n[b]\n[a.c]\n") (ka ∷ [])
    (codes "# c\n[b]\n") ≡ true
unfolding digits print
remove_table = refl

abbrev two_in_array : Document
two_in_array =
    document (head true (a ∷ []) ∷ line (x ∷ []) one_value ∷ head true (a ∷ [])
    ∷ line (x ∷ []) two_value ∷ [])

remove_element : removes two_in_array (codes "[[a]]\nx = 1\n[[a]]\nx = 2\n") (ka ∷ codes "0" ∷ [])
    (codes "[[a]]\nx = 2\n") ≡ true
unfolding digits print
remove_element = refl

abbrev pub one_in_array : Document
one_in_array = document (head true (a ∷ []) ∷ line (x ∷ []) one_value ∷ [])

get_array : gets one_in_array (codes "[[a]]\nx = 1\n") (ka ∷ []) (codes "[{ x = 1 }]\n") ≡ true
unfolding digits print
get_array = refl

abbrev one_table : Document
one_table =
    document (head false (record { before = []; key = kt; spelled = kt; after = [] } ∷ [])
    ∷ commented [] x one_value (codes " # c") ∷ [])

get_table : gets one_table (codes "[t]\nx = 1 # c\n") (kt ∷ []) (codes "x = 1 # c\n") ≡ true
unfolding digits print
get_table = refl

abbrev one_line : Document
one_line = document (line (a ∷ []) one_value ∷ [])

-- below a scalar, and no such key
refusals : all_true (
    refuses wrong_kind (set_names (ka ∷ kb ∷ []) (plain_int 1) (tree one_line))
    ∷ refuses no_such_path (get_text (ka ∷ kb ∷ []) (tree one_line))
    ∷ refuses no_such_path (remove_at (ka ∷ kb ∷ []) (tree one_line))
    ∷ refuses no_such_path (get_text (kb ∷ []) (tree one_line))
    ∷ refuses no_such_path (remove_at (kb ∷ []) (tree one_line))
    ∷ refuses no_such_path (remove_at (kb ∷ kc ∷ []) (tree one_line))
    ∷ refuses wrong_kind (set_names (ka ∷ []) (plain_int 1) (tree two_tables))
    ∷ refuses wrong_kind (set_names (ka ∷ []) (plain_int 1) (tree two_in_array))
    ∷ refuses wrong_kind (set_names (ka ∷ codes "0" ∷ []) (plain_int 1) (tree two_in_array))
    ∷ []
    ) ≡ true
unfolding digits print
refusals = refl

-- what names no element
no_elements_there : all_true (
    refuses no_such_path (get_text (ka ∷ codes "2" ∷ []) (tree two_elements))
    ∷ refuses no_such_path (get_text (ka ∷ codes "01" ∷ []) (tree two_elements))
    ∷ refuses no_such_path (get_text (ka ∷ codes "+1" ∷ []) (tree two_elements))
    ∷ refuses no_such_path (get_text (ka ∷ [] ∷ []) (tree two_elements))
    ∷ refuses no_such_path (set_names (ka ∷ codes "2" ∷ []) (plain_int 1) (tree two_elements))
    ∷ refuses no_such_path (set_names (ka ∷ kx ∷ kx ∷ []) (plain_int 1) (tree two_in_array))
    ∷ refuses no_such_path (remove_at (ka ∷ codes "00" ∷ []) (tree two_in_array))
    ∷ refuses no_such_path (remove_at (ka ∷ codes "x" ∷ kx ∷ []) (tree two_in_array))
    ∷ []
    ) ≡ true
unfolding digits print
no_elements_there = refl

-- so many arrays, one in the other
abbrev nested : ℕ → Node
nested zero = plain_list no_items
nested (suc n) = plain_list (item (nested n) no_items)

abbrev keeps : Answer Tree → Bool
keeps (done u) = list_all keeps_limits (statements_of plain u)
keeps (refused r) = false

-- 80 brackets of a value, and an inline table around them, are too many; by themselves they aren't
limits : all_true (not (keeps (set_names (ka ∷ kb ∷ []) (nested 79) (tree empty)))
    ∷ keeps (set_names (ka ∷ []) (nested 79) (tree empty)) ∷ []) ≡ true
unfolding digits print
limits = refl
