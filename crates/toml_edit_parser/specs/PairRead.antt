-- What reading the pairs of an inline table or one of them does, by the events of the text.
use Rattle.std.specs.Prelude.{◌≡◌, ◌≤◌, ◌<◌, ◌⊎◌, ℕ, suc, ◌+◌, ◌-◌, Bool, true, false, List, [], ◌∷◌, ◌++◌, length, take, drop, Option}
use Rattle.std.specs.Prelude.{Some, None, option_map, option_and_then, max, codes, position, if◌then◌else◌, Result, Ok, Err}
use Rattle.std.specs.List.{AllByRecursion, last_or}
use Rattle.std.specs.Borrow.{Bor}
use Rattle.toml_edit_model.specs.Text.{Text, is_empty}
use Rattle.toml_edit_model.specs.Syntax.{Segment, Frame, Value, Pairs, ArePairs, IsFrame, IsValue, IsSpelledSegment, inline_table, no_pairs}
use Rattle.toml_edit_model.specs.Syntax.{pair, ends_unspaced, frame_text, nesting_limit, path_text, pairs_text, value_text}
use Rattle.toml_edit_model.specs.Trivia.{IsWholeTrivia}
use Rattle.toml_edit_model.specs.Conversions.{with_decor}
use Rattle.toml_edit_model.specs.Paths.{Mention, Path, line_mentions, pair_mentions}
use Rattle.toml_edit_model.specs.Accepted.{all_agree}
use Rattle.toml_edit_model.specs.Faults.{duplicate_key, long_path, value_faults, pair_clashes, pairs_faults}
use Rattle.toml_edit_model.specs.Tree.{Raw, span, Decor, Key, Node, inline, Slots, no_slots, unset}
use Rattle.toml_edit_model.specs.TreeOf.{Entry, spanned_form, decor_at, entries, value_start, AreEntrySlots}
use Rattle.toml_edit_laws.specs.Standing.{Stands}
use Rattle.toml_edit_laws.specs.FlatTree.{with_slot}
use Rattle.toml_edit_laws.specs.InlineTree.{node_at, path_fields, add_last, add_entry, clash_below, entry_clash, way_fault, pair_path}
use Rattle.toml_edit_laws.specs.InlineTree.{IsPairNode}
use Rattle.toml_edit_error.specs.Report.{Report, fault_of}
use Rattle.toml_edit_error.specs.Fault.{IfToml}
use Rattle.toml_edit_error.specs.declared.toml_error.ParseFault.{ParseFault}
use Rattle.toml_edit_syntax.specs.declared.event.Event.{Event}
use Rattle.toml_edit_syntax.specs.declared.event.EventKind.{EventKind}
use Rattle.toml_edit_syntax.specs.declared.event.EventKind.TheVariants.{After, AfterKey, Equals, InlineTableClose}
use Rattle.toml_edit_syntax.specs.declared.event.Span.{Span}
use Rattle.toml_edit_syntax.specs.ValueEvents.{event, close_events, pairs_events, path_events, shortened, value_at_byte, value_events}
use Rattle.toml_edit_syntax.specs.Events.{IsSpanOf}
use Rattle.toml_edit_parser.specs.declared.key.FrameSpans.{FrameSpans}
use Rattle.toml_edit_parser.specs.declared.key.KeyPath.{KeyPath}
use Rattle.toml_edit_parser.specs.declared.events.Close.{Close}
use Rattle.toml_edit_tree.specs.declared.value.Value as code
use Rattle.toml_edit_tree.specs.Containers.{InlineView, inline_node}
use Rattle.toml_edit_parser.specs.ValueRead.{span_at, spanned_raw, split_leading, AreIn, NamesOne}
use Rattle.toml_edit_tree.specs.View.{value_view}
use Rattle.toml_edit_model.specs.Roles.{dotted_role, may_meet_inline}
use Rattle.toml_edit_model.specs.TableMentions.{kept}

-- ---- the parts of a pair up to its value

pub record FrameParts : Type 0 where
  pub leading : Span
  pub path : List Event
  pub before_equals : Span
  pub after_equals : Span

abbrev pub parts_of : FrameSpans → FrameParts
parts_of s = record {
  leading = s.leading;
  path = s.path.now;
  before_equals = s.before_equals;
  after_equals = s.after_equals;
}

-- those of a pair that begins at this byte
abbrev pub frame_parts : ℕ → Frame → FrameParts
frame_parts start f =
    let key = start + length f.leading in
    let before_equals = key + length (path_text f.path) in
    record {
      leading = span_at start f.leading;
      path = path_events key f.path;
      before_equals = span_at before_equals f.before_equals;
      after_equals = span_at (before_equals + length f.before_equals + 1) f.after_equals;
    }

-- the events of a pair from its key up to its value
abbrev pub key_events : ℕ → Frame → List Event
key_events start f =
    let key = start + length f.leading in
    path_events key f.path
    ++ (event Equals (key + length (path_text f.path) + length f.before_equals) (codes "=")
    ∷ [])

-- what follows the last key of a path, of a key line or of a header
abbrev pub ends_path : EventKind → Bool
ends_path Equals = true
ends_path AfterKey = true
ends_path _ = false

-- where a path ends
abbrev pub path_end : List Event → Option ℕ
path_end es = position (λ e. ends_path e.kind) es

-- what is between two parts
abbrev pub between : Span → Span → Span
between left right = record { start = left.end; end = max left.end right.start }

-- those of a pair whose path this is, where the sign `=` and the value come after it
abbrev pub frame_behind : Span → List Event → List Event → Option (FrameParts × List Event)
frame_behind leading path (sign ∷ value ∷ es) =
    option_map (λ key. (
      record {
        leading = leading;
        path = path;
        before_equals = between key.span sign.span;
        after_equals = between sign.span value.span;
      },
      value ∷ es,
    ))
    (last_or None path)
frame_behind leading path _ = None

-- the parts of a pair after its leading text, and the events after them
abbrev pub split_frame : Span → List Event → Option (FrameParts × List Event)
split_frame leading es =
    option_and_then (λ at. frame_behind leading (take at es) (drop at es)) (path_end es)

-- ---- a path

-- the text between a dot and the key after it, where a path begins there
abbrev pub first_before : List Segment → Text
first_before [] = []
first_before (s ∷ rest) = s.before

-- a path as it is read: where the texts around its pair's key are, where the text after the dot
-- before it is, and its events
pub record PathView : Type 0 where
  pub prefix : Span
  pub suffix : Span
  pub before : Span
  pub events : List Event

abbrev pub path_of : KeyPath → PathView
path_of p = record {
  prefix = p.prefix;
  suffix = p.suffix;
  before = p.before;
  events = p.events.now;
}

-- the path of these events between two texts, which begins where the first of them ends
abbrev pub path_between : Span → List Event → Span → PathView
path_between prefix es suffix = record {
  prefix = prefix;
  suffix = suffix;
  before = record { start = prefix.end; end = prefix.end };
  events = es;
}

-- the spans of a path lie in the text
pub record IsPathIn (t : Text) (p : KeyPath) : Type 0 where
  pub prefix : IsSpanOf t p.prefix
  pub suffix : IsSpanOf t p.suffix
  pub before : IsSpanOf t p.before
  pub events : AreIn t p.events.now

-- the text before a dot, and the path after it
abbrev pub split_dot : KeyPath → List Event → Option (Span × PathView)
split_dot p (a ∷ b ∷ es) =
    Some (a.span, record { prefix = p.prefix; suffix = p.suffix; before = b.span; events = es })
split_dot p _ = None

-- the decor of a path's last key
abbrev pub leaf_of : KeyPath → Decor
leaf_of p = record { prefix = Some (spanned_raw p.prefix); suffix = Some (spanned_raw p.suffix) }

-- a path of this entry, that begins at this byte
abbrev pub IsPathAt : Entry → ℕ → List Segment → KeyPath → Type 0
IsPathAt e start p k =
    (leaf_of k ≡ e.leaf) × (k.before ≡ span_at start (first_before p))
    × (k.events.now ≡ path_events start p)

-- a key with this name, that is spelled at the span
abbrev pub key_with : Text → Span → Decor → Raw → Raw → Key
key_with name at own before after =
    record {
      name = name;
      spelling = Some (span at.start at.end);
      leaf = own;
      dotted = record { prefix = Some before; suffix = Some after };
    }

-- the keys of a path, from one of them on, are spelled, and nothing follows the last
pub record IsEndOfPath (p : List Segment) : Type 0 where
  pub some : is_empty p ≡ false
  pub ends : ends_unspaced p ≡ true
  pub spelled : AllByRecursion IsSpelledSegment p

-- A fact for where this path is the end of one of this entry, in the source from this byte on.
abbrev pub IfPathNext : Text → KeyPath → Entry → List Segment → ℕ → Type 0 → Type 0
IfPathNext source k e p start P =
    IsEndOfPath p → Stands source start (path_text p) → IsPathAt e start p k → P

-- ---- one pair

-- what is in the way of a pair is named
abbrev pub NamesClash : Text → Option (Mention Entry × Node) → Report → Type 0
NamesClash source clash r =
    (r.input ≡ source) × (c : Mention Entry × Node) × (clash ≡ Some c) × (fault_of r ≡ way_fault c)

-- what adding an item at the end of a path does to slots
abbrev pub AddsEntry : {A : Type 0} → Text → List (Mention Entry) → Node → Slots → Slots
    → Result A ParseFault → Type 0
AddsEntry source ms n old new (Ok _) = add_entry spanned_form ms n old ≡ Some new
AddsEntry source ms n old new (Err e) = IfToml e (NamesClash source (entry_clash ms old))

-- the item with a change in it, where it is a dotted inline table
abbrev pub change_inside : (Slots → Option Slots) → Node → Option Node
change_inside change (inline f inner) =
    if f.is_dotted then option_map (inline f) (change inner) else None
change_inside change _ = None

-- what going on below a key does to the item that is there
abbrev pub AddsInside : {A : Type 0} → Text → Mention Entry → List (Mention Entry) → Node → Node
    → Node → Result A ParseFault → Type 0
AddsInside source m ms n old new (Ok _) = change_inside (add_entry spanned_form ms n) old ≡ Some new
AddsInside source m ms n old new (Err e) =
    IfToml e (NamesClash source (clash_below m (entry_clash ms) (Some old)))

-- a mention of a key that goes on, which is spelled at this span
abbrev pub IsPassed : Span → Mention Entry → Type 0
IsPassed s m = (m.role ≡ dotted_role) × (s ≡ span_at m.start m.segment.spelled)

-- what adding an item at the end of a path, whichever it is, below this key does to the item that
-- is there
abbrev pub AddsPathInside : {A : Type 0} → Text → Span → KeyPath → Node → Node → Node
    → Result A ParseFault → Type 0
AddsPathInside source key k n old new result =
    (m : Mention Entry) (e : Entry) (p : List Segment) (start : ℕ) (above : Path)
    → IsPassed key m → IfPathNext source k e p start
    (AddsInside source m (line_mentions e start above p) n old new result)

-- what adding a slot with this key does
abbrev pub AddsLast : {A : Type 0} → Text → Span → Key → Node → Slots → Slots → Result A ParseFault
    → Type 0
AddsLast source s k n old new (Ok _) = add_last old k n (node_at k.name old) ≡ Some new
AddsLast source s k n old new (Err e) =
    IfToml e (λ r. (m : Node) × (node_at k.name old ≡ Some m)
    × (r ≡ record { message = duplicate_key; span = Some (s.start, s.end); input = source }))

-- what adding an item below a new key does
abbrev pub AddsBelow : {A : Type 0} → Key → Span → List (Mention Entry) → Node → Slots → Slots
    → Result A ParseFault → Type 0
AddsBelow k s ms n old new (Ok _) =
    option_map (λ inner. with_slot old k (inline (path_fields (Some (s.start, s.end))) inner))
    (add_entry spanned_form ms n no_slots) ≡ Some new
AddsBelow k s ms n old new (Err e) = IfToml e (λ r. ⊥)

-- the item of a pair that begins at this byte, put between the texts around its value, which ends
-- at `end`
abbrev pub pair_item : ℕ → Frame → ℕ → Node → Node
pair_item start f end n =
    with_decor
    (decor_at spanned_form (start + value_start spanned_form f) f.after_equals end f.trailing) n

-- A fact for where the events begin with that of the text after the value of this pair, whose other
-- parts these are.
abbrev pub IfPairEnds : Text → FrameSpans → List Event → Frame → ℕ → ℕ → List Event → Type 0
    → Type 0
IfPairEnds source s es f start end more P =
    IsFrame IsWholeTrivia f
    → Stands source (start + length f.leading) (path_text f.path)
    → parts_of s ≡ frame_parts start f
    → es ≡ event After end f.trailing ∷ more → P

-- what ending a pair with this item returns
abbrev pub EndsPair : Text → Frame → Value → ℕ → ℕ → Node → List Event → Slots → Slots
    → Result (Bor (List Event)) ParseFault → Type 0
EndsPair source f v start end n more old new (Ok r) =
    (r.now ≡ more)
    × (add_entry spanned_form (pair_path spanned_form start f v) (pair_item start f end n) old
    ≡ Some new)
EndsPair source f v start end n more old new (Err e) =
    IfToml e (NamesClash source (entry_clash (pair_path spanned_form start f v) old))

-- A fact for where the events begin with those of this pair after its leading text, which is at
-- this span.
abbrev pub IfPairNext : Text → Span → List Event → Frame → Value → ℕ → ℕ → List Event → Type 0
    → Type 0
IfPairNext source leading es f v start level more P =
    IsFrame IsWholeTrivia f → IsValue v
    → Stands source start (frame_text f (value_text v)) → level ≤ nesting_limit
    → leading ≡ span_at start f.leading
    → es ≡ key_events start f
    ++ shortened level (value_events (value_at_byte start f) v
    ++ (event After (value_at_byte start f + length (value_text v)) f.trailing ∷ more))
    → P

-- what reading a pair that begins at this byte does to the slots of those before it
pub record AddsPair (f : Frame) (v : Value) (start level : ℕ) (more : List Event) (old new : Slots)
    (rest : List Event) : Type 0 where
  pub short : long_path f.path ≡ []
  pub faultless : value_faults v (value_at_byte start f) level ≡ []
  pub rest_is : rest ≡ shortened level more
  pub item : Node
  pub node : IsPairNode spanned_form start f v item
  pub added : add_entry spanned_form (pair_path spanned_form start f v) item old ≡ Some new

abbrev pub NamesPair : Text → Frame → Value → ℕ → ℕ → Slots → Report → Type 0
NamesPair source f v start level old r =
    NamesOne source (long_path f.path ++ value_faults v (value_at_byte start f) level) r
    ⊎ NamesClash source (entry_clash (pair_path spanned_form start f v) old) r

abbrev pub ReadsPair : Text → Frame → Value → ℕ → ℕ → List Event → Slots → Slots
    → Result (Bor (List Event)) ParseFault → Type 0
ReadsPair source f v start level more old new (Ok r) = AddsPair f v start level more old new r.now
ReadsPair source f v start level more old new (Err e) =
    IfToml e (NamesPair source f v start level old)

-- ---- all pairs

-- where there are pairs, they are in the source, from this byte on
abbrev pub PairsStand : Text → ℕ → Pairs → Type 0
PairsStand source start no_pairs = Unit {0}
PairsStand source start (pair f v ps) = Stands source start (pairs_text (pair f v ps))

-- A fact for where the events begin with those of these pairs, and no further one comes next.
abbrev pub IfPairsNext : Text → List Event → Pairs → ℕ → ℕ → List Event → Type 0 → Type 0
IfPairsNext source es ps start level more P =
    ArePairs ps
    → PairsStand source start ps
    → level ≤ nesting_limit → split_leading (shortened level more) ≡ None
    → es ≡ shortened level (pairs_events start ps ++ more) → P

-- And with those of this inline table, after its opening brace, which is at `opening`.
abbrev pub IfInlineNext : Text → ℕ → List Event → Pairs → Bool → Text → ℕ → ℕ → List Event
    → Type 0 → Type 0
IfInlineNext source opening es ps comma t start level more P =
    ArePairs ps
    → Stands source start (value_text (inline_table ps comma t))
    → level < nesting_limit → opening ≡ start
    → es ≡ shortened (suc level) (pairs_events (start + 1) ps
    ++ (close_events InlineTableClose (codes "}")
    (start + length (value_text (inline_table ps comma t)) - 1) comma t ++ more))
    → P

pub record ArePairsRead (ps : Pairs) (start level : ℕ) (more : List Event) (ss : Slots)
    (rest : List Event) : Type 0 where
  pub faultless : pairs_faults ps start level ≡ []
  pub rest_is : rest ≡ shortened level more
  pub slots : AreEntrySlots spanned_form (entries spanned_form ps start)
      (kept (entries spanned_form ps start)) ss
  pub agreement : all_agree may_meet_inline (pair_mentions 0 ps) ≡ true

abbrev pub ReadsPairs : Text → Pairs → ℕ → ℕ → List Event → Slots
    → Result (Bor (List Event)) ParseFault → Type 0
ReadsPairs source ps start level more ss (Ok r) = ArePairsRead ps start level more ss r.now
ReadsPairs source ps start level more ss (Err e) =
    IfToml e (NamesOne source
    (pair_clashes [] (pair_mentions start ps) ++ pairs_faults ps start level))

-- ---- the end

-- an inline table that opens at this byte, with this end
abbrev pub inline_of : ℕ → Close → Slots → InlineView
inline_of start close ss =
    record {
      fields = record {
        decor = unset;
        is_dotted = false;
        comma = close.comma;
        trailing = spanned_raw close.inner;
        extent = Some (start, close.end);
      };
      slots = ss;
    }

-- what ending an inline table that opens at this byte returns
pub record MakesInline (start : ℕ) (close : Close) (ss : Slots) (more : List Event) (n : Node)
    (rest : List Event) : Type 0 where
  pub rest_is : rest ≡ more
  pub node : n ≡ inline_node (inline_of start close ss)

abbrev pub EndsInline : ℕ → Close → Slots → List Event
    → Result (code.Value × Bor (List Event)) ParseFault → Type 0
EndsInline start close ss more (Ok r) = MakesInline start close ss more (value_view r.0) r.1.now
EndsInline start close ss more (Err e) = IfToml e (λ r. ⊥)
