-- The members of arrays and inline tables, and what ends them, part by part.
use Rattle.std.specs.Prelude.{◌≡◌, ℕ, ◌+◌, Bool, true, false, List, [], ◌∷◌, ◌++◌, codes, length, Option, Some, None, is_none, is_some, option_map, unwrap_or}
use Rattle.std.specs.Borrow.{Bor}
use Rattle.std.specs.List.{AllByRecursion}
use Rattle.toml_edit_model.specs.Syntax.{Around, Frame, Value, IsClose, IsPath, IsValue, comma_text, path_text, value_text}
use Rattle.toml_edit_model.specs.Text.{Text, one}
use Rattle.toml_edit_laws.specs.Standing.{Stands}
use Rattle.toml_edit_syntax.specs.declared.event.EventKind.{EventKind}
use Rattle.toml_edit_syntax.specs.declared.event.EventKind.TheVariants.{After, Before, Equals, Leading}
use Rattle.toml_edit_syntax.specs.declared.event.Event.{Event}
use Rattle.toml_edit_syntax.specs.ValueEvents.{close_events, event, path_events, value_at_byte, value_events}
use Rattle.toml_edit_fmt_laws.specs.Rules.{Rules}
use Rattle.toml_edit_fmt_laws.specs.Formatted.{inner_depth, inner_room}
use Rattle.toml_edit_fmt.specs.PageView.{Bit, letters}
use Rattle.toml_edit_fmt.specs.ValueBits.{Listed, after_bits, before_bits, close_bits, head_text, value_bits}

-- ---- a member

pub data Member : Type 0 where
  of_array : Around → Value → Member
  of_inline : Frame → Value → Member

abbrev pub IsMember : Bool → Member → Type 0
IsMember is_array (of_array a v) = (is_array ≡ true) × IsValue v
IsMember is_array (of_inline f v) = (is_array ≡ false) × IsPath f.path × IsValue v

abbrev pub text_before : Member → Text
text_before (of_array a v) = a.before
text_before (of_inline f v) = f.leading

abbrev pub text_after : Member → Text
text_after (of_array a v) = a.after
text_after (of_inline f v) = f.trailing

abbrev pub value_of : Member → Value
value_of (of_array a v) = v
value_of (of_inline f v) = v

abbrev pub kind_before : Member → EventKind
kind_before (of_array a v) = Before
kind_before (of_inline f v) = Leading

-- a key and the sign `=`, with what is beside it
abbrev pub head : Member → Text
head (of_array a v) = []
head (of_inline f v) = path_text f.path ++ (f.before_equals ++ (codes "=" ++ f.after_equals))

abbrev pub head_events : ℕ → Member → List Event
head_events start (of_array a v) = []
head_events start (of_inline f v) =
    path_events start f.path
    ++ (event Equals (start + length (path_text f.path) + length f.before_equals) (codes "=") ∷ [])

abbrev pub head_bits : Rules → Member → List Bit
head_bits r (of_array a v) = []
head_bits r (of_inline f v) = one (letters (head_text r f))

-- where its value begins
abbrev pub value_at : ℕ → Member → ℕ
value_at start (of_array a v) = start + length a.before
value_at start (of_inline f v) = value_at_byte start f

abbrev pub room_inside : Rules → Listed → Member → Option ℕ
room_inside r x (of_array a v) = inner_room r x.layout x.depth
room_inside r x (of_inline f v) = None

abbrev pub text_of : Option (Bor Text) → Option Text
text_of text = option_map (λ b. b.now) text

-- ---- members, and the end, where the text after the member before begins at a byte

-- what is after the last member: perhaps a comma, a text and the bracket
pub record End : Type 0 where
  pub comma : Bool
  pub inner : Text
  pub kind : EventKind
  pub bracket : Text

abbrev pub with_comma : Option Text → Text
with_comma None = []
with_comma (Some t) = t ++ codes ","

abbrev pub begins : Option Text → ℕ → ℕ
begins None at = at
begins (Some t) at = at + length t + 1

abbrev pub members_text : End → Option Text → List Member → Text
members_text e last [] = unwrap_or last [] ++ (comma_text e.comma ++ (e.inner ++ e.bracket))
members_text e last (m ∷ ms) =
    with_comma last
    ++ (text_before m ++ (head m ++ (value_text (value_of m) ++ members_text e (Some (text_after m)) ms)))

abbrev pub members_events : End → Option Text → ℕ → List Member → List Event
members_events e last at [] =
    close_events e.kind e.bracket
    (at + length (unwrap_or last []) + length (comma_text e.comma) + length e.inner) e.comma e.inner
members_events e last at (m ∷ ms) =
    let start = begins last at in
    let after = value_at start m + length (value_text (value_of m)) in
    event (kind_before m) start (text_before m)
    ∷ head_events (start + length (text_before m)) m
    ++ (value_events (value_at start m) (value_of m)
    ++ (event After after (text_after m) ∷ members_events e (Some (text_after m)) after ms))

abbrev pub members_bits : Rules → Listed → End → Option Text → List Member → List Bit
members_bits r x e last [] = close_bits r x last e.comma e.inner e.bracket
members_bits r x e last (m ∷ ms) =
    after_bits r x last
    ++ (before_bits r x (is_none last) (text_before m)
    ++ (head_bits r m
    ++ (value_bits r (inner_depth x.layout x.depth) (room_inside r x m) (value_of m)
    ++ members_bits r x e (Some (text_after m)) ms)))

abbrev pub has_any : Option Text → List Member → Bool
has_any last [] = is_some last
has_any last (m ∷ ms) = true

-- The events begin with those of these members and of the end, which are in the source with the text
-- after the member before, if there is one, from this byte on.
pub record AreNext (source : Text) (is_array : Bool) (events : List Event) (e : End) (last : Option Text)
    (ms : List Member) (at : ℕ) (more : List Event) : Type 0 where
  pub members : AllByRecursion (IsMember is_array) ms
  pub close : IsClose (has_any last ms) e.comma e.inner
  pub stands : Stands source at (members_text e last ms)
  pub events_are : events ≡ members_events e last at ms ++ more
