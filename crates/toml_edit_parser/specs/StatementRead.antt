-- What reading the statements of a text, one after another, does to what is held of its tree (TOML
-- 1.1.0, "Key/Value Pair", "Table" and "Array of Tables").
use Rattle.std.specs.Prelude.{◌≡◌, ℕ, ◌+◌, ◌≤◌, Bool, true, if◌then◌else◌, List, [], ◌++◌, length, map, Some, Result, Ok, Err}
use Rattle.std.specs.declared.alloc.Global.{Global}
use Rattle.std.specs.declared.borrow.CowStr.{CowStr}
use Rattle.std.specs.Borrow.{Bor}
use Rattle.toml_edit_model.specs.Mode.{Mode, with_return}
use Rattle.toml_edit_model.specs.Text.{Text}
use Rattle.toml_edit_model.specs.Syntax as syntax
use Rattle.toml_edit_model.specs.Syntax.{Frame, Segment, Header, Statement, IsStatement, key_line, opening_brackets}
use Rattle.toml_edit_model.specs.Syntax.{brackets_text, statement_text}
use Rattle.toml_edit_model.specs.Version.{Version, is_of_version}
use Rattle.toml_edit_model.specs.Faults.{own_faults, late_faults}
use Rattle.toml_edit_model.specs.Tree.{Raw, Node, nothing, Slots, Tree}
use Rattle.toml_edit_model.specs.TreeOf.{spanned_form, spanned_in, header_leaf, root_fields}
use Rattle.toml_edit_laws.specs.Building.{slots_along, Builder, added, clash_at, faults_at, behind, IsStatementNode}
use Rattle.toml_edit_laws.specs.Standing.{Stands}
use Rattle.toml_edit_laws.specs.TableClash.{table_way_faults}
use Rattle.toml_edit_laws.specs.AddPath.{put_along}
use Rattle.toml_edit_laws.specs.PlaceOrder.{slots_by_place, ArePlaced}
use Rattle.toml_edit_error.specs.Fault.{IfToml}
use Rattle.toml_edit_error.specs.declared.toml_error.ParseFault.{ParseFault}
use Rattle.toml_edit_syntax.specs.declared.event.Event.{Event}
use Rattle.toml_edit_syntax.specs.declared.event.Span.{Span}
use Rattle.toml_edit_syntax.specs.Events.{statement_events}
use Rattle.toml_edit_syntax.specs.ValueEvents.{shortened}
use Rattle.toml_edit_tree.specs.View.{slots_view}
use Rattle.toml_edit_parser.specs.PathRead.{IsPathFrom}
use Rattle.toml_edit_parser.specs.StatementParts.{IsEnded, header_behind, line_behind}
use Rattle.toml_edit_parser.specs.ValueRead.{NamesOne, span_at}
use Rattle.toml_edit_parser.specs.BlockRead.{names}
use Rattle.toml_edit_parser.specs.declared.document.building.Building.{Building}
use Rattle.toml_edit_parser.specs.declared.document.path.Kind.{Kind}
use Rattle.toml_edit_parser.specs.declared.document.path.Kind.TheVariants as kinds
use Rattle.toml_edit_parser.specs.declared.document.statement.HeaderParts.{HeaderParts}

-- a statement of the grammar, whatever ends it
abbrev pub IsWhole : Statement → Type 0
IsWhole s = IsStatement (λ end. Unit {0}) s

-- What is held between statements: the slots of the root, without those of the table of the last
-- block, which are held by themselves, the keys of that block, and how many headers there were.
-- Where a header headed a table that was only passed through, the table is where it was: put in the
-- order of their keys, they are the builder's slots.
pub record IsHeld (b : Builder) (h : Building) : Type 0 where
  pub block : b.block ≡ names h.block.items
  pub headers : b.headers ≡ h.headers
  -- each header takes up bytes
  pub counted : b.headers ≤ b.start
  pub left : Slots
  pub there : slots_along b.block (slots_view h.root) ≡ Some left
  pub slots : b.slots
      ≡ slots_by_place (put_along b.block (slots_view h.current) (slots_view h.root))
  pub placed : ArePlaced b.start (put_along b.block (slots_view h.current) (slots_view h.root))

-- A fact for where the events begin with those of this statement, which is in the text from this
-- byte on.
abbrev pub IfStatementNext : Text → List Event → Statement → ℕ → List Event → Type 0 → Type 0
IfStatementNext t es s start more P =
    IsWhole s
    → Stands t start (statement_text s)
    → es ≡ shortened 0 (statement_events start s ++ more) → P

-- And with those of the next statement, where this is held of those before it,
abbrev pub IfStatementDue : Text → Building → List Event → Builder → Statement → List Event → Type 0
    → Type 0
IfStatementDue t held es b s more P =
    IsWhole s
    → Stands t b.start (statement_text s)
    → IsEnded t b.start s → IsHeld b held
    → es ≡ shortened 0 (statement_events b.start s ++ more) → P

-- or of a key line after the text at this span,
abbrev pub IfLineDue : Text → Building → Span → List Event → Builder → Frame → syntax.Value → Text
    → List Event → Type 0 → Type 0
IfLineDue t held leading es b f v end more P =
    IsWhole (key_line f v end)
    → Stands t b.start (statement_text (key_line f v end))
    → IsEnded t b.start (key_line f v end) → IsHeld b held
    → leading ≡ span_at b.start f.leading
    → es ≡ shortened 0 (line_behind b.start f v more) → P

-- or of a header after the text and the opening brackets at these spans.
abbrev pub IfHeaderDue : Text → Building → Span → Bool → Span → List Event → Builder → Header → Text
    → List Event → Type 0 → Type 0
IfHeaderDue t held leading is_array opening es b h end more P =
    IsWhole (syntax.header h end)
    → Stands t b.start (statement_text (syntax.header h end))
    → IsEnded t b.start (syntax.header h end)
    → IsHeld b held → leading ≡ span_at b.start h.leading → is_array ≡ h.is_array
    → opening ≡ span_at (b.start + length h.leading) (opening_brackets h.is_array)
    → es ≡ shortened 0 (header_behind b.start h more) → P

-- The statement is right and is added: the builder after it is what is held. These events follow.
pub record IsAdded (mode : Mode) (b : Builder) (s : Statement) (more : List Event) (new : Building)
    (rest : List Event) : Type 0 where
  pub node : Node
  pub is_node : IsStatementNode mode b.start s node
  pub slots : Slots
  pub faultless : own_faults b.start s ≡ []
  pub added_is : added mode b s node ≡ Some slots
  pub held : (inner : Slots) → slots_along (behind b s slots).block slots ≡ Some inner
      → IsHeld (behind b s slots) new
  pub rest_is : rest ≡ shortened 0 more

-- what reading a statement returns, where these events follow it: it is added, or the report names
-- what is in it
abbrev pub ReadsStatement : Mode → Text → Builder → Statement → List Event → Building
    → Result (Bor (List Event)) ParseFault → Type 0
ReadsStatement mode t b s more new (Ok r) = IsAdded mode b s more new r.now
ReadsStatement mode t b s more new (Err e) = IfToml e (NamesOne t (faults_at b s))

-- And in a version of the grammar: the statement is one of the version too, or the report may name
-- what it has that the version hasn't.
abbrev pub ReadsInVersion : Mode → Version → Text → Builder → Statement → List Event → Building
    → Result (Bor (List Event)) ParseFault → Type 0
ReadsInVersion mode version t b s more new (Ok r) =
    (is_of_version version s ≡ true) × IsAdded mode b s more new r.now
ReadsInVersion mode version t b s more new (Err e) =
    IfToml e (NamesOne t (late_faults version b.start s ++ faults_at b s))

-- ---- a header

-- what a header adds, by whether its brackets are two, and where they are
abbrev pub kind_of : Bool → Span → Kind
kind_of is_array brackets = if is_array then kinds.Element brackets else kinds.Table

-- the parts of a header that begins at this byte
pub record AreHeaderParts (mode : Mode) (h : Header) (end : Text) (start : ℕ)
    (parts : HeaderParts) : Type 0 where
  pub leading : parts.leading ≡ span_at start h.leading
  pub is_array : parts.is_array ≡ h.is_array
  pub brackets : parts.brackets ≡ span_at (start + length h.leading) (brackets_text h)
  pub path : IsPathFrom
      (header_leaf (spanned_in mode)
      (start + length h.leading + length (opening_brackets h.is_array)) h)
      (start + length h.leading + length (opening_brackets h.is_array)
      + length h.opening) h.path parts.path
  pub trailing : parts.trailing
      ≡ span_at (start + length h.leading + length (brackets_text h))
      (with_return mode h.trailing end)

-- A fact for where these are the parts of the next header, and this is held of the statements
-- before it.
abbrev pub IfHeaderRead : Mode → Text → Building → HeaderParts → Builder → Header → Text → Type 0
    → Type 0
IfHeaderRead mode t held parts b h end P =
    IsWhole (syntax.header h end)
    → Stands t b.start (statement_text (syntax.header h end)) → IsHeld b held
    → AreHeaderParts mode h end b.start parts → P

-- the names of a path's keys; reading them fails only if memory runs out
abbrev pub ReadsNames : List Segment → List (CowStr Global) → Result (Unit {0}) ParseFault → Type 0
ReadsNames p ns (Ok _) = names ns ≡ map (λ s. s.key) p
ReadsNames p ns (Err e) = IfToml e (λ r. ⊥)

-- The header's table is added: the builder after it is what is held.
pub record IsOpened (mode : Mode) (b : Builder) (s : Statement) (new : Building) : Type 0 where
  pub slots : Slots
  pub added_is : added mode b s nothing ≡ Some slots
  pub held : (inner : Slots) → slots_along (behind b s slots).block slots ≡ Some inner
      → IsHeld (behind b s slots) new

abbrev pub OpensBlock : (mode : Mode) {A : Type 0} → Text → Builder → Statement → Building
    → Result A ParseFault → Type 0
OpensBlock mode t b s new (Ok a) = IsOpened mode b s new
OpensBlock mode t b s new (Err e) = IfToml e (NamesOne t (table_way_faults (clash_at b s)))

-- ---- all statements

-- a tree that was read
abbrev pub tree_of : Slots → Raw → Tree
tree_of slots trailing = record {
  root = root_fields spanned_form;
  slots = slots;
  trailing = trailing;
}
