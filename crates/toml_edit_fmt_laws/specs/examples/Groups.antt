-- Worked documents with the lines of their tables in order, group by group.
use Rattle.std.specs.Prelude.{◌≡◌, refl, false, pos, List, [], ◌∷◌, codes, Some}
use Rattle.toml_edit_model.specs.Scalars.{integer}
use Rattle.toml_edit_model.specs.Syntax.{Segment, scalar, Statement, key_line, header, document_text}
use Rattle.toml_edit_model.specs.Text.{Text, newline}
use Rattle.toml_edit_fmt_laws.specs.Rules.{Rules, default_rules}
use Rattle.toml_edit_fmt_laws.specs.Sorted.{Names, sorted}

-- ---- parts

abbrev named : Text → Segment
named k = record { before = []; key = k; spelled = k; after = [] }

-- `k=1` with this before it and that newline after it
abbrev dotted : Text → List Segment → Text → Statement
dotted leading path end =
    key_line (record {
      leading = leading;
      path = path;
      before_equals = [];
      after_equals = [];
      trailing = [];
    }) (scalar (integer (pos 1)) (codes "1")) end

abbrev line : Text → Text → Statement
line leading k = dotted leading (named k ∷ []) newline

abbrev table : Text → Text → Statement
table leading k =
    header (record {
      leading = leading;
      is_array = false;
      opening = [];
      path = named k ∷ [];
      closing = [];
      trailing = [];
    }) newline

abbrev text_by : Rules → List Names → List Statement → Text
text_by r tables ss = document_text (sorted r tables (record { has_mark = false; statements = ss; final = [] }))

abbrev root : Names
root = []

-- ---- tables

abbrev two_tables : List Statement
two_tables = line [] (codes "b") ∷ line [] (codes "a") ∷ table newline (codes "t") ∷ line [] (codes "d") ∷ line [] (codes "c") ∷ []

none : text_by default_rules [] two_tables ≡ codes "b=1\na=1\n\n[t]\nd=1\nc=1\n"
none = refl

above_headers : text_by default_rules (root ∷ []) two_tables ≡ codes "a=1\nb=1\n\n[t]\nd=1\nc=1\n"
above_headers = refl

below_one : text_by default_rules ((codes "t" ∷ []) ∷ []) two_tables ≡ codes "b=1\na=1\n\n[t]\nc=1\nd=1\n"
below_one = refl

both : text_by default_rules ((codes "t" ∷ []) ∷ root ∷ []) two_tables ≡ codes "a=1\nb=1\n\n[t]\nc=1\nd=1\n"
both = refl

-- ---- keys

-- segment by segment: `a.c` is before `a-b`, though `-` is before `.`
by_segments : text_by default_rules (root ∷ [])
    (dotted [] (named (codes "a-b") ∷ []) newline ∷ dotted [] (named (codes "a") ∷ named (codes "c") ∷ []) newline
    ∷ line [] (codes "B") ∷ line [] (codes "a") ∷ [])
    ≡ codes "B=1\na=1\na.c=1\na-b=1\n"
by_segments = refl

-- the one line without a newline changes place, and the newlines do not
last_newline : text_by default_rules (root ∷ []) (line [] (codes "b") ∷ dotted [] (named (codes "a") ∷ []) [] ∷ [])
    ≡ codes "a=1\nb=1"
last_newline = refl

-- ---- what begins a group

abbrev spaced : List Statement
spaced = line [] (codes "c") ∷ line (codes "# of b\n  ") (codes "b") ∷ line newline (codes "a") ∷ []

empty_line : text_by default_rules (root ∷ []) spaced ≡ codes "# of b\n  b=1\nc=1\n\na=1\n"
empty_line = refl

-- where empty lines go, they are no end of a group
no_empty_lines : text_by (record default_rules { blank_lines = Some 0 }) (root ∷ []) spaced ≡ codes "\na=1\n# of b\n  b=1\nc=1\n"
no_empty_lines = refl

-- lines that are left alone stay, and so does the comment that says so
partly : text_by default_rules (root ∷ [])
    (line [] (codes "b") ∷ line [] (codes "a") ∷ line (codes "# fmt: off\n") (codes "d") ∷ line [] (codes "c")
    ∷ line (codes "# fmt: on\n") (codes "f") ∷ line [] (codes "e") ∷ [])
    ≡ codes "a=1\nb=1\n# fmt: off\nd=1\nc=1\n# fmt: on\ne=1\nf=1\n"
partly = refl

generated : text_by default_rules (root ∷ []) (line (codes "# @generated\n") (codes "b") ∷ line [] (codes "a") ∷ [])
    ≡ codes "# @generated\nb=1\na=1\n"
generated = refl

-- A comment that would say so at the start of the text does not come there.
not_generated : text_by default_rules (root ∷ []) (line [] (codes "b") ∷ line (codes "# @generated\n") (codes "a") ∷ [])
    ≡ codes "b=1\n# @generated\na=1\n"
not_generated = refl
