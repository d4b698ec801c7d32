-- What is inside brackets, as the events tell it.
use Rattle.std.specs.Prelude.{◌≡◌, ℕ, ◌+◌, ◌-◌, Bool, true, false, not, ◌==◌, ◌&&◌, ◌||◌, if◌then◌else◌, List, [], ◌∷◌, ◌++◌, codes, length}
use Rattle.std.specs.Prelude.{Option, Some, None}
use Rattle.toml_edit_model.specs.OwnedForm.{cut_out}
use Rattle.toml_edit_model.specs.Spelling.{SpellsKey}
use Rattle.toml_edit_model.specs.Syntax.{Segment, array, inline_table, Elements, Pairs, AreElements, ArePairs, has_elements, has_pairs, value_text}
use Rattle.toml_edit_model.specs.Text.{Text}
use Rattle.toml_edit_laws.specs.Standing.{Stands}
use Rattle.toml_edit_syntax.specs.declared.event.EventKind.{EventKind}
use Rattle.toml_edit_syntax.specs.declared.event.EventKind.TheVariants.{Key, BeforeDot, Equals, Scalar, ArrayOpen, ArrayClose}
use Rattle.toml_edit_syntax.specs.declared.event.EventKind.TheVariants.{InlineTableOpen, InlineTableClose, Leading, Before, After, Inner}
use Rattle.toml_edit_syntax.specs.declared.event.Event.{Event}
use Rattle.toml_edit_syntax.specs.ValueEvents.{elements_events, pairs_events, close_events}
use Rattle.toml_edit_fmt_laws.specs.Rules.{Rules}
use Rattle.toml_edit_fmt_laws.specs.Laying.{columns, is_broken}
use Rattle.toml_edit_fmt_laws.specs.Formatted.{elements_have_comments, flat_width, has_broken_elements, has_broken_pairs, has_comments, laid_spelling}
use Rattle.toml_edit_fmt.specs.ValueBits.{counted}
use Rattle.toml_edit_parser.specs.ValueRead.{is_before, is_comma, is_scalar}
use Rattle.toml_edit_fmt.specs.declared.measure.Inside.{Inside}
use Rattle.toml_edit_fmt.specs.declared.measure.Look.{Look}

-- after the opening bracket of an array, which begins at this byte
abbrev pub array_rest : ℕ → Elements → Bool → Text → List Event
array_rest start es comma t =
    elements_events (start + 1) es
    ++ close_events ArrayClose (codes "]") (start + length (value_text (array es comma t)) - 1) comma t

abbrev pub inline_rest : ℕ → Pairs → Bool → Text → List Event
inline_rest start ps comma t =
    pairs_events (start + 1) ps
    ++ close_events InlineTableClose (codes "}")
    (start + length (value_text (inline_table ps comma t)) - 1) comma t

-- A fact for where the events begin with those of this array after its bracket, which is in the source
-- from this byte on.
abbrev pub IfArrayNext : Text → List Event → Elements → Bool → Text → ℕ → List Event → Type 0 → Type 0
IfArrayNext source events es comma t start more P =
    AreElements es → Stands source start (value_text (array es comma t))
    → events ≡ array_rest start es comma t ++ more → P

abbrev pub IfInlineNext : Text → List Event → Pairs → Bool → Text → ℕ → List Event → Type 0 → Type 0
IfInlineNext source events ps comma t start more P =
    ArePairs ps → Stands source start (value_text (inline_table ps comma t))
    → events ≡ inline_rest start ps comma t ++ more → P

-- ---- what is measured

pub record IsInsideArray (r : Rules) (es : Elements) (comma : Bool) (t : Text) (i : Inside) : Type 0 where
  pub any : i.has_any ≡ has_elements es
  pub broken : i.is_broken ≡ (has_broken_elements es || is_broken t)
  pub comments : i.has_comments ≡ (elements_have_comments es || has_comments t)
  pub columns : i.columns ≡ counted (flat_width r (array es comma t))

-- The width of an inline table is not asked for, and its comments where it has no pairs.
pub record IsInsideInline (ps : Pairs) (t : Text) (i : Inside) : Type 0 where
  pub any : i.has_any ≡ has_pairs ps
  pub broken : i.is_broken ≡ (has_broken_pairs ps || is_broken t)
  pub comments : has_pairs ps ≡ false → i.has_comments ≡ has_comments t

-- ---- a look at events

abbrev pub plus : Option ℕ → ℕ → Option ℕ
plus None n = None
plus (Some m) n = counted (m + n)

abbrev pub widened : ℕ → Look → Look
widened n l = record l { inside = record l.inside { columns = plus l.inside.columns n } }

abbrev pub opened : Look → Look
opened l = record (widened 2 l) { level = l.level + 1; is_filled = false }

abbrev pub closed : Bool → Look → Look
closed has_space l =
    record (if l.is_filled && has_space then widened 2 l else l) { level = l.level - 1 }

abbrev pub parted : Look → Look
parted l = if l.is_filled then widened 2 l else l

abbrev pub passed : Look → Look
passed l =
    record l {
      is_filled = true;
      inside = record l.inside { has_any = l.inside.has_any || (l.level == 1) };
    }

abbrev pub seeing : Text → Look → Look
seeing t l =
    if l.level == 1 then
    record l {
      inside = record l.inside {
        is_broken = l.inside.is_broken || is_broken t;
        has_comments = l.inside.has_comments || has_comments t;
      };
    }
    else l

-- What an event of this kind with this text changes.
abbrev pub Looks : Rules → EventKind → Text → Look → Look → Type 0
Looks r ArrayOpen t old new = new ≡ opened old
Looks r InlineTableOpen t old new = new ≡ opened old
Looks r ArrayClose t old new = new ≡ closed r.bracket_space old
Looks r InlineTableClose t old new = new ≡ closed r.brace_space old
Looks r Key t old new =
    (s : Segment) → SpellsKey s.key s.spelled → t ≡ s.spelled
    → new ≡ widened (columns (laid_spelling r s)) old
Looks r Scalar t old new = new ≡ widened (columns t) old
Looks r BeforeDot t old new = new ≡ widened 1 old
Looks r Equals t old new = new ≡ widened 3 old
Looks r After t old new = new ≡ passed (seeing t old)
Looks r Before t old new = new ≡ parted (seeing t old)
Looks r Leading t old new = new ≡ parted (seeing t old)
Looks r Inner t old new = new ≡ seeing t old
Looks r _ t old new = new ≡ old

-- ---- rows

-- another element comes first, or a comma comes first or is before what does
abbrev pub has_element : List Event → Bool
has_element [] = false
has_element (e ∷ es) = is_before e.kind

abbrev pub has_comma : List Event → Bool
has_comma [] = false
has_comma (e ∷ es) = is_before e.kind || is_comma e.kind

-- the text before an element and the element, if it is a scalar on one line, and no newline is before a
-- comma after it
abbrev pub split_short : Text → List Event → Option (Text × Text × List Event)
split_short source (b ∷ v ∷ a ∷ es) =
    if (is_before b.kind && is_scalar v.kind)
    && not (is_broken (text v) || (has_comma es && is_broken (text a)))
    then Some (text b, text v, es) else None
  where
    text : Event → Text
    text e = cut_out source e.span.start e.span.end
split_short source _ = None
