-- What laying out a value, the members of a list or a statement does, by the events of the text.
use Rattle.std.specs.Prelude.{◌≡◌, ◌^◌, ◌<◌, ℕ, ◌+◌, ◌-◌, Bool, true, false, if◌then◌else◌, List, [], ◌∷◌, ◌++◌, length, Option, Some, None, option_map}
use Rattle.std.specs.Borrow.{Bor}
use Rattle.toml_edit_model.specs.Syntax.{Value, Elements, Pairs, IsValue, value_text, has_elements, has_pairs}
use Rattle.toml_edit_model.specs.Text.{Text}
use Rattle.toml_edit_laws.specs.Standing.{Stands}
use Rattle.toml_edit_syntax.specs.declared.event.Event.{Event}
use Rattle.toml_edit_syntax.specs.declared.event.EventKind.{EventKind}
use Rattle.toml_edit_syntax.specs.declared.event.EventKind.TheVariants.{Before, Leading}
use Rattle.toml_edit_syntax.specs.declared.event.Span.{Span}
use Rattle.toml_edit_syntax.specs.ValueEvents.{value_events}
use Rattle.toml_edit_parser.specs.ValueRead.{is_comma}
use Rattle.toml_edit_fmt_laws.specs.Rules.{Rules}
use Rattle.toml_edit_fmt_laws.specs.Formatted as laws
use Rattle.toml_edit_fmt.specs.ValueBits.{Listed, counted, edge_text}
use Rattle.toml_edit_fmt.specs.declared.value.Layout as layouts
use Rattle.toml_edit_fmt.specs.declared.value.Layout.TheVariants.{Untouched, OnOneLine, LineByLine, InRows}
use Rattle.toml_edit_fmt.specs.declared.value.Brackets as code
use Rattle.toml_edit_fmt.specs.declared.value.Place.{Place}

abbrev pub layout_of : layouts.Layout → laws.Layout
layout_of Untouched = laws.untouched
layout_of OnOneLine = laws.on_one_line
layout_of LineByLine = laws.line_by_line
layout_of InRows = laws.in_rows

abbrev pub is_open : layouts.Layout → Bool
is_open LineByLine = true
is_open InRows = true
is_open Untouched = false
is_open OnOneLine = false

-- a space inside of the brackets of a list on one line
abbrev pub has_space : Rules → Bool → Bool
has_space r is_array = if is_array then r.bracket_space else r.brace_space

abbrev pub listed : Rules → code.Brackets → Listed
listed r x =
    record {
      layout = layout_of x.layout;
      depth = x.depth;
      edge = edge_text x.has_any (has_space r x.is_array);
      has_any = x.has_any;
    }

-- so much of the line is used, if it may be broken
abbrev pub RoomIs : Option ℕ → Place → Type 0
RoomIs None p = p.may_break ≡ false
RoomIs (Some used) p = (p.may_break ≡ true) × (p.used ≡ counted used)

-- Where a value stands.
pub record StandsAt (depth : ℕ) (room : Option ℕ) (p : Place) : Type 0 where
  pub depth_is : p.depth ≡ depth
  pub room_is : RoomIs room p

-- A fact for where the events begin with those of this value, which is in the source from this byte on.
abbrev pub IfValueNext : Text → List Event → Value → ℕ → List Event → Type 0 → Type 0
IfValueNext source es v start more P =
    IsValue v → Stands source start (value_text v) → es ≡ value_events start v ++ more → P

-- No list in these events is too deep to count.
abbrev pub CanGoDeeper : ℕ → List Event → Type 0
CanGoDeeper depth es = depth + length es < 2 ^ 64

-- ---- the parts of lists

-- the text before a member, where one comes first
abbrev pub is_of_member : EventKind → Bool
is_of_member Before = true
is_of_member Leading = true
is_of_member _ = false

abbrev pub split_member : List Event → Option (Span × List Event)
split_member [] = None
split_member (e ∷ es) = if is_of_member e.kind then Some (e.span, es) else None

abbrev pub SplitsMember : List Event → Option (Span × Bor (List Event)) → Type 0
SplitsMember es result = option_map (λ p. (p.0, p.1.now)) result ≡ split_member es

-- the comma after the last member, where it comes first
abbrev pub split_comma : List Event → Bool × List Event
split_comma [] = (false, [])
split_comma (e ∷ es) = if is_comma e.kind then (true, es) else (false, e ∷ es)

-- ---- how they are laid out

pub record IsArrayLaid (r : Rules) (depth : ℕ) (room : Option ℕ) (es : Elements) (comma : Bool) (t : Text)
    (x : code.Brackets) : Type 0 where
  pub layout : layout_of x.layout ≡ laws.array_layout r depth room es comma t
  pub any : x.has_any ≡ has_elements es

pub record IsInlineLaid (r : Rules) (depth : ℕ) (ps : Pairs) (comma : Bool) (t : Text)
    (x : code.Brackets) : Type 0 where
  pub layout : layout_of x.layout ≡ laws.inline_layout r ps t
  pub any : x.has_any ≡ has_pairs ps
