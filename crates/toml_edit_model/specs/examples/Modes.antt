-- Worked documents in exact mode: what returns, and prints after edits.
use Rattle.std.specs.Prelude.{◌≡◌, refl, Bool, true, false, List, [], ◌∷◌, ◌++◌, codes}
use Rattle.std.specs.Fmt.{digits}
use Rattle.toml_edit_model.specs.Text.{Text, same_text, byte_order_mark}
use Rattle.toml_edit_model.specs.Mode.{plain, exact, line_end, line_newline, with_return}
use Rattle.toml_edit_model.specs.Syntax.{Segment, Value, array, no_elements, element, Statement, key_line, header, Document, document_text}
use Rattle.toml_edit_model.specs.Accepted.{is_accepted}
use Rattle.toml_edit_model.specs.Meaning.{meaning}
use Rattle.toml_edit_model.specs.Normal.{has_open_end, normal_in, normal_text_in}
use Rattle.toml_edit_model.specs.Tree.{Node, Tree}
use Rattle.toml_edit_model.specs.Shown.{shown_meaning}
use Rattle.toml_edit_model.specs.Print.{print_in, document_in}
use Rattle.toml_edit_model.specs.Slots.{Slot, inserted, without}
use Rattle.toml_edit_model.specs.Lists.{slot_list, slots_from}
use Rattle.toml_edit_model.specs.TreeOf.{owned_in}
use Rattle.toml_edit_model.specs.examples.ComputedTree.{tree_of}
use Rattle.toml_edit_model.specs.examples.Parts.{same_facts, document, a, b, c, d, plain_int, one_value, two_value, three_value}
use Rattle.toml_edit_model.specs.examples.Texts.{marked_returns}
use Rattle.toml_edit_model.specs.Settled.{is_settled_in}

-- a line with another newline after it, and one with a comment before it
abbrev pub line_to : Text → List Segment → Value → Text → Statement
line_to leading p v end =
    key_line (record {
      leading = leading;
      path = p;
      before_equals = codes " ";
      after_equals = codes " ";
      trailing = [];
    }) v end

abbrev pub returned : Text
returned = codes "\r\n"

abbrev pub read_exactly : Document → Tree
read_exactly doc = tree_of (owned_in exact) doc

-- In exact mode the document joins to the text and is accepted; its normal text and the print of
-- its tree are the expected text; the tree means the same; the normal form means the same, is
-- settled and its own normal form; the print is accepted and means the same.
abbrev reads_exactly : Document → Text → Text → List Bool
reads_exactly doc text print_text =
    let t = read_exactly doc in
    let n = normal_in exact doc in
    let p = document_in exact (has_open_end doc.statements) t in
    same_text (document_text doc) text
    ∷ is_accepted doc
    ∷ same_text (normal_text_in exact doc) print_text
    ∷ same_text (print_in exact (has_open_end doc.statements) t) print_text
    ∷ same_facts (meaning doc) (shown_meaning t)
    ∷ same_facts (meaning doc) (meaning n)
    ∷ is_settled_in exact n
    ∷ same_text (normal_text_in exact n) print_text
    ∷ same_text (document_text p) print_text
    ∷ is_accepted p
    ∷ same_facts (meaning doc) (meaning p)
    ∷ []

abbrev all_hold : List Bool
all_hold = true ∷ true ∷ true ∷ true ∷ true ∷ true ∷ true ∷ true ∷ true ∷ true ∷ true ∷ []

-- ---- texts that return

abbrev pub no_newline : Document
no_newline = document (line_to [] (a ∷ []) one_value [] ∷ [])

no_newline_returns : reads_exactly no_newline (codes "a = 1") (codes "a = 1") ≡ all_hold
unfolding meaning shown_meaning is_accepted
no_newline_returns = refl

abbrev pub comment_before : Document
comment_before = document (line_to (codes "# c\r\n") (a ∷ []) one_value [] ∷ [])

comment_before_returns : reads_exactly comment_before (codes "# c\r\na = 1") (codes "# c\r\na = 1")
    ≡ all_hold
unfolding meaning shown_meaning is_accepted
comment_before_returns = refl

abbrev pub returns_and_end : Document
returns_and_end =
    record {
      has_mark = false;
      statements =
          line_to [] (a ∷ []) one_value returned
          ∷ header (record {
            leading = [];
            is_array = false;
            opening = [];
            path = b ∷ [];
            closing = [];
            trailing = [];
          }) returned
          ∷ [];
      final = codes "\r\n# end";
    }

returns_and_end_returns : reads_exactly returns_and_end (codes "a = 1\r\n[b]\r\n\r\n# end")
    (codes "a = 1\r\n[b]\r\n\r\n# end") ≡ all_hold
unfolding meaning shown_meaning is_accepted
returns_and_end_returns = refl

-- comments before a CR LF, of a line and of a header, and a CR LF inside an array
abbrev pub commented_returns : Document
commented_returns =
    document (key_line (record {
      leading = [];
      path = a ∷ [];
      before_equals = codes " ";
      after_equals = codes " ";
      trailing = codes " # c";
    })
    (array (element (record { before = []; after = [] }) one_value
    (element (record {
      before = returned;
      after = [];
    }) two_value no_elements)) false []) returned
    ∷ header (record {
      leading = [];
      is_array = false;
      opening = [];
      path = b ∷ [];
      closing = [];
      trailing = codes " # d";
    }) returned
    ∷ [])

commented_returns_return : reads_exactly commented_returns
    (codes "a = [1,\r\n2] # c\r\n[b] # d\r\n") (codes "a = [1,\r\n2] # c\r\n[b] # d\r\n") ≡ all_hold
unfolding meaning shown_meaning is_accepted
commented_returns_return = refl

-- in the plain mode that text loses its CRs, and is not settled
commented_returns_plain : normal_text_in plain commented_returns
    ≡ codes "a = [1,\n2] # c\n[b] # d\n"
commented_returns_plain = refl

commented_returns_unsettled : is_settled_in plain commented_returns
    ∷ is_settled_in exact commented_returns ∷ [] ≡ false ∷ true ∷ []
commented_returns_unsettled = refl

-- ---- where a line ends

-- in exact mode the CR at the end of a suffix is the newline's, in the plain mode none is left
ends_exactly : line_end exact (codes " # c\r") ∷ line_newline exact (codes " # c\r") ∷ []
    ≡ codes " # c" ∷ codes "\r\n" ∷ []
ends_exactly = refl

read_exactly_to : with_return exact (codes " # c") (codes "\r\n")
    ∷ with_return exact (codes " # c") (codes "\n")
    ∷ with_return plain (codes " # c") (codes "\r\n") ∷ []
    ≡ codes " # c\r" ∷ codes " # c" ∷ codes " # c" ∷ []
read_exactly_to = refl

-- ---- other texts

marked_returns_keeps : reads_exactly marked_returns
    (byte_order_mark ++ codes "a = 1\r\ny = \"\"\"x\r\ny\"\"\"\r\n")
    (codes "a = 1\r\ny = \"\"\"x\r\ny\"\"\"\r\n") ≡ all_hold
unfolding meaning shown_meaning is_accepted
marked_returns_keeps = refl

abbrev pub split_returns : Document
split_returns =
    document (line_to [] (a ∷ b ∷ []) one_value returned ∷ line_to [] (c ∷ []) two_value returned
    ∷ line_to [] (a ∷ d ∷ []) three_value [] ∷ [])

split_returns_gathers : reads_exactly split_returns (codes "a.b = 1\r\nc = 2\r\na.d = 3")
    (codes "a.b = 1\r\na.d = 3\nc = 2") ≡ all_hold
unfolding meaning shown_meaning is_accepted
split_returns_gathers = refl

-- ---- edits

abbrev pub two_lines : Document
two_lines =
    document (line_to [] (a ∷ []) one_value returned ∷ line_to [] (b ∷ []) two_value [] ∷ [])

-- its tree with other slots of the root
abbrev edited : (List (Slot Node) → List (Slot Node)) → Tree
edited change = record
    (read_exactly two_lines) {
      slots = slots_from
          (change (slot_list (read_exactly two_lines).slots));
    }

c_inserted : print_in exact true (edited (inserted (codes "c") (plain_int 3)))
    ≡ codes "a = 1\r\nb = 2\nc = 3"
unfolding digits
c_inserted = refl

b_removed : print_in exact true (edited (without (codes "b"))) ≡ codes "a = 1"
b_removed = refl

-- `open_end` stays, and says nothing in the plain mode
b_removed_plain : print_in plain true (edited (without (codes "b"))) ≡ codes "a = 1\n"
b_removed_plain = refl
