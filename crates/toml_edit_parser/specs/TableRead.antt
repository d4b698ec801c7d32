-- What a statement adds at the end of its path, and what adding it does to the tables of a document
-- (TOML 1.1.0, "Keys", "Table" and "Array of Tables").
use Rattle.std.specs.Prelude.{◌≡◌, ◌&&◌, not, Bool, true, false, ℕ, List, Option, Some, None, option_map, if◌then◌else◌, Result, Ok, Err}
use Rattle.toml_edit_model.specs.Mode.{Mode}
use Rattle.toml_edit_model.specs.Roles.{extends}
use Rattle.toml_edit_model.specs.Text.{Text}
use Rattle.toml_edit_model.specs.Syntax.{Segment, path_text}
use Rattle.toml_edit_model.specs.Paths.{Mention, Source}
use Rattle.toml_edit_model.specs.Tree.{Key, TableFields, Node, item, no_items, table, tables, Slots, no_slots}
use Rattle.toml_edit_model.specs.TreeOf.{made_by_path, spanned_form, spanned_in, header_fields, statement_leaf, key_at, brackets_from}
use Rattle.toml_edit_model.specs.TreeOf.{brackets_to}
use Rattle.toml_edit_laws.specs.Standing.{Stands}
use Rattle.toml_edit_laws.specs.InlineTree.{node_at}
use Rattle.toml_edit_laws.specs.FlatTree.{with_slot}
use Rattle.toml_edit_laws.specs.TableTree.{change_table, reaching, with_item}
use Rattle.toml_edit_laws.specs.TableClash.{clash_in_last, table_way_fault}
use Rattle.toml_edit_laws.specs.AddPath.{Addition, a_value, a_table, an_element, makes_dotted, path_clash, inside, clash_inside}
use Rattle.toml_edit_laws.specs.AddPath.{last_key_clash, AreMentionsOf}
use Rattle.toml_edit_laws.specs.InPlace.{add_in_place, put_in_place}
use Rattle.toml_edit_error.specs.Report.{fault_of}
use Rattle.toml_edit_error.specs.Fault.{IfToml}
use Rattle.toml_edit_error.specs.declared.toml_error.ParseFault.{ParseFault}
use Rattle.toml_edit_syntax.specs.declared.event.Span.{Span}
use Rattle.toml_edit_parser.specs.declared.key.KeyPath.{KeyPath}
use Rattle.toml_edit_parser.specs.PairRead.{IsEndOfPath}
use Rattle.toml_edit_parser.specs.PathRead.{IsPathFrom}
use Rattle.toml_edit_parser.specs.ValueRead.{span_at}
use Rattle.toml_edit_tree.specs.Containers.{TableView, table_node}
use Rattle.toml_edit_parser.specs.declared.document.path.Adding.{Adding}
use Rattle.toml_edit_parser.specs.declared.document.path.Kind.{Kind}
use Rattle.toml_edit_parser.specs.declared.document.path.Kind.TheVariants as kinds

-- ---- what is added

-- what a statement of this kind adds, if this is its item
abbrev pub addition_for : Kind → Node → Addition
addition_for kinds.Line n = a_value n
addition_for kinds.Table n = a_table
addition_for (kinds.Element brackets) n = an_element

abbrev pub is_line : Kind → Bool
is_line kinds.Line = true
is_line _ = false

-- the table of a header, as yet without slots
abbrev pub IsHeaded : Mode → Source → Node → Type 0
IsHeaded mode s n = n ≡ table (header_fields (spanned_in mode) s s.statement) no_slots

-- The item is that of the statement, if this is a header: its table, where an element has the place
-- of the header's brackets.
abbrev pub IsItemFor : Mode → Kind → Source → Node → Type 0
IsItemFor mode kinds.Line s n = Unit {0}
IsItemFor mode kinds.Table s n = IsHeaded mode s n
IsItemFor mode (kinds.Element brackets) s n =
    IsHeaded mode s n × (brackets
    ≡ record {
      start = brackets_from (spanned_in mode) s s.statement;
      end = brackets_to (spanned_in mode) s s.statement;
    })

-- ---- a path

-- The path is the end of that of a statement of the text, from one of its keys on, and these are
-- its mentions.
pub record IsPathOf (mode : Mode) (t : Text) (s : Source) (ms : List (Mention Source))
    (path : KeyPath) : Type 0 where
  pub start : ℕ
  pub segments : List Segment
  pub ends : IsEndOfPath segments
  pub stands : Stands t start (path_text segments)
  pub mentions : AreMentionsOf s start segments ms
  pub read : IsPathFrom (statement_leaf (spanned_in mode) s s.statement) start segments path

-- the key of a mention, and where it is spelled; its path goes on after it, or ends there
pub record IsKeyOf (mode : Mode) (s : Source) (passes : Bool) (m : Mention Source) (k : Key)
    (at : Span) : Type 0 where
  pub key : k ≡ key_at (spanned_in mode) m
  pub source : m.source ≡ s
  pub role : extends m.role ≡ passes
  pub spelled : at ≡ span_at m.start m.segment.spelled

-- A fact for where this item is what a statement adds at the end of this path,
abbrev pub IfAdded : Mode → Adding → Source → List (Mention Source) → Node → KeyPath → Type 0
    → Type 0
IfAdded mode a s ms n path P =
    IsItemFor mode a.kind s n → IsPathOf mode a.reader.now.source.now s ms path → P

-- which goes on after this key.
abbrev pub IfAddedAfter : Mode → Adding → Source → Mention Source → Key → Span
    → List (Mention Source) → Node → KeyPath → Type 0 → Type 0
IfAddedAfter mode a s m k at ms n path P =
    IsItemFor mode a.kind s n → IsKeyOf mode s true m k at
    → IsPathOf mode a.reader.now.source.now s ms path → P

-- ---- what is done

-- What was to be done is done, or the report is of the text and names what is in the way; memory
-- may run out at any time.
abbrev pub Goes : {A X : Type 0} → Text → Option X → Option (Mention Source × Node) → X
    → Result A ParseFault → Type 0
Goes t want way new (Ok x) = want ≡ Some new
Goes t want way new (Err e) =
    IfToml e (λ r. (r.input ≡ t) × (option_map table_way_fault way ≡ Some (fault_of r)))

-- adding something at the end of a path below these slots
abbrev pub AddsPath : (mode : Mode) {A : Type 0} → Text → Addition → List (Mention Source) → Slots
    → Slots → Result A ParseFault → Type 0
AddsPath mode t a ms old new result =
    Goes t (add_in_place mode a ms old) (path_clash a ms old) new result

-- adding it below a key with this item, where these mentions are the path after the key
abbrev pub AddsInside : (mode : Mode) {A : Type 0} → Text → Addition → Mention Source
    → List (Mention Source) → Node → Node → Result A ParseFault → Type 0
AddsInside mode t a m ms old new result =
    Goes t (inside a (add_in_place mode a ms) old)
    (clash_inside a m (path_clash a ms) old) new result

-- adding what a statement adds below this key, whichever statement and mode it is
abbrev pub AddsPathInside : {A : Type 0} → Adding → Span → KeyPath → Node → Node → Node
    → Result A ParseFault → Type 0
AddsPathInside a at path n old new result =
    (mode : Mode) (s : Source) (m : Mention Source) (ms : List (Mention Source)) (k : Key)
    → IfAddedAfter mode a s m k at ms n path
    (AddsInside mode a.reader.now.source.now (addition_for a.kind n) m ms old new result)

-- adding it below a new key, which is spelled at this span
abbrev pub AddsBelow : (mode : Mode) {A : Type 0} → Text → Addition → Key → Span
    → List (Mention Source) → Slots → Slots → Result A ParseFault → Type 0
AddsBelow mode t a k at ms old new result =
    Goes t
    (option_map (λ inner. with_slot old k
    (table (made_by_path spanned_form (makes_dotted a) (Some (at.start, at.end))) inner))
    (add_in_place mode a ms no_slots))
    None new result

-- adding it below the table of a new key, which has these fields and as yet no slots
abbrev pub AddsInPassed : (mode : Mode) {A : Type 0} → Text → Addition → List (Mention Source)
    → TableFields → Node → Result A ParseFault → Type 0
AddsInPassed mode t a ms f new result =
    Goes t (option_map (table f) (add_in_place mode a ms no_slots)) None new result

-- adding it below this table
abbrev pub AddsInTable : (mode : Mode) {A : Type 0} → Text → Addition → List (Mention Source)
    → TableView → TableView → Result A ParseFault → Type 0
AddsInTable mode t a ms old new result =
    Goes t (change_table (add_in_place mode a ms) (table_node old)) (path_clash a ms old.slots)
    (table_node new) result

abbrev pub AreTables : Node → Type 0
AreTables (tables e xs) = Unit {0}
AreTables n = ⊥

-- adding it below this element, the last of the array of tables in the way
abbrev pub AddsInLast : (mode : Mode) {A : Type 0} → Text → Addition → Mention Source → Node
    → List (Mention Source) → Node → Node → Result A ParseFault → Type 0
AddsInLast mode t a m way ms old new result =
    AreTables way
    → Goes t (change_table (add_in_place mode a ms) old)
    (clash_in_last (m, way) (path_clash a ms) (item old no_items)) new result

-- adding it at the last key of a path
abbrev pub PutsLast : (mode : Mode) {A : Type 0} → Text → Addition → Mention Source → Slots → Slots
    → Result A ParseFault → Type 0
PutsLast mode t a m old new result =
    Goes t (put_in_place mode a m old (node_at m.segment.key old))
    (last_key_clash a m (node_at m.segment.key old)) new result

-- the table of a header with these fields, with the slots of the table that is there, if until now
-- that was only passed through
abbrev pub opened : TableFields → Node → Option Node
opened g (table f inner) = if f.is_implicit && not f.is_dotted then Some (table g inner) else None
opened g n = None

-- the array of tables that is there, with the table of a header that ends at this byte as one more
-- element
abbrev pub with_element : ℕ → Node → Node → Option Node
with_element end n (tables e xs) = Some (tables (reaching e end) (with_item xs n))
with_element end n other = None
