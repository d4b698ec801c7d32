-- What reading a value, the elements of an array or one of them does, by the events of the text.
use Rattle.std.specs.Prelude.{◌≡◌, ◌≤◌, ◌<◌, ℕ, suc, ◌+◌, ◌-◌, Bool, true, false, List, [], ◌∷◌, ◌++◌, length, codes, Contains, Option}
use Rattle.std.specs.Prelude.{Some, None, if◌then◌else◌, ◌==◌, Result, Ok, Err, IfOk}
use Rattle.std.specs.List.{AllByRecursion}
use Rattle.std.specs.Borrow.{Bor}
use Rattle.toml_edit_model.specs.Text.{Text}
use Rattle.toml_edit_model.specs.Scalars as scalars
use Rattle.toml_edit_model.specs.Spelling.{Spells}
use Rattle.toml_edit_model.specs.Syntax.{Around, Value, Elements, AreElements, IsValue, array, no_elements, element, value_text}
use Rattle.toml_edit_model.specs.Syntax.{elements_text, nesting_limit}
use Rattle.toml_edit_model.specs.Faults.{Fault, value_faults, elements_faults}
use Rattle.toml_edit_model.specs.Tree.{Raw, owned, span, unset, Node, Items}
use Rattle.toml_edit_model.specs.TreeOf.{spanned_form, decor_at, IsValueNode, AreElementNodes}
use Rattle.toml_edit_model.specs.Conversions.{with_decor}
use Rattle.toml_edit_laws.specs.Standing.{Stands}
use Rattle.toml_edit_error.specs.Report.{Report, fault_of}
use Rattle.toml_edit_error.specs.Fault.{IfToml}
use Rattle.toml_edit_error.specs.declared.toml_error.ParseFault.{ParseFault}
use Rattle.toml_edit_syntax.specs.declared.event.Event.{Event}
use Rattle.toml_edit_syntax.specs.declared.event.EventKind.{EventKind}
use Rattle.toml_edit_syntax.specs.declared.event.EventKind.TheVariants.{After, ArrayClose, Before, Scalar, Leading, Comma}
use Rattle.toml_edit_syntax.specs.declared.event.Span.{Span}
use Rattle.toml_edit_syntax.specs.ValueEvents.{event, value_events, elements_events, close_events, shortened}
use Rattle.toml_edit_syntax.specs.Events.{IsSpanOf}
use Rattle.toml_edit_tree.specs.declared.item.Item.{Item}
use Rattle.toml_edit_parser.specs.declared.events.Close.{Close}
use Rattle.toml_edit_tree.specs.declared.value.Value as code
use Rattle.toml_edit_tree.specs.Containers.{ArrayView, array_node}
use Rattle.toml_edit_tree.specs.View.{item_view, items_view, value_view}

-- a text that begins at this byte
abbrev pub span_at : ℕ → Text → Span
span_at start t = record { start = start; end = start + length t }

-- the spans of events lie in the text
abbrev pub AreIn : Text → List Event → Type 0
AreIn t es = AllByRecursion (λ e. IsSpanOf t e.span) es

-- the span, or the empty text where nothing is there
abbrev pub spanned_raw : Span → Raw
spanned_raw s = if s.start == s.end then owned [] else span s.start s.end

-- ---- parts of a list of events

abbrev pub split_first : List Event → Option (Event × List Event)
split_first [] = None
split_first (e ∷ es) = Some (e, es)

abbrev pub is_before : EventKind → Bool
is_before Before = true
is_before _ = false

-- the text before an element, where one comes first
abbrev pub split_before : List Event → Option (Span × List Event)
split_before [] = None
split_before (e ∷ es) = if is_before e.kind then Some (e.span, es) else None

abbrev pub is_scalar : EventKind → Bool
is_scalar Scalar = true
is_scalar _ = false

-- the place of a scalar, where one comes first
abbrev pub split_scalar : List Event → Option (Span × List Event)
split_scalar [] = None
split_scalar (e ∷ es) = if is_scalar e.kind then Some (e.span, es) else None

abbrev pub is_leading : EventKind → Bool
is_leading Leading = true
is_leading _ = false

-- the text before a pair, where one comes first
abbrev pub split_leading : List Event → Option (Span × List Event)
split_leading [] = None
split_leading (e ∷ es) = if is_leading e.kind then Some (e.span, es) else None

abbrev pub is_comma : EventKind → Bool
is_comma Comma = true
is_comma _ = false

-- a closing bracket with what is before it
abbrev pub split_close : List Event → Option (Close × List Event)
split_close (a ∷ b ∷ es) =
    if is_comma a.kind then behind_comma b es
    else Some (record { comma = false; inner = a.span; end = b.span.end }, es)
  where
    behind_comma : Event → List Event → Option (Close × List Event)
    behind_comma b [] = None
    behind_comma b (c ∷ es) = Some (record { comma = true; inner = b.span; end = c.span.end }, es)
split_close _ = None

-- where there are elements, they are in the source, from this byte on
abbrev pub ElementsStand : Text → ℕ → Elements → Type 0
ElementsStand source start no_elements = Unit {0}
ElementsStand source start (element a v es) = Stands source start (elements_text (element a v es))

-- ---- what comes first

-- A fact for where the events begin with those of this value, which is in the source, from this
-- byte on, inside so many brackets.
abbrev pub IfValueNext : Text → List Event → Value → ℕ → ℕ → List Event → Type 0 → Type 0
IfValueNext source es v start level more P =
    IsValue v → Stands source start (value_text v)
    → level ≤ nesting_limit → es ≡ shortened level (value_events start v ++ more) → P

-- And with those of this array, after its opening bracket, which is at `opening`.
abbrev pub IfArrayNext : Text → ℕ → List Event → Elements → Bool → Text → ℕ → ℕ → List Event
    → Type 0 → Type 0
IfArrayNext source opening events es comma t start level more P =
    AreElements es
    → Stands source start (value_text (array es comma t)) → level < nesting_limit
    → opening ≡ start
    → events ≡ shortened (suc level) (elements_events (start + 1) es
    ++ (close_events ArrayClose (codes "]")
    (start + length (value_text (array es comma t)) - 1) comma t ++ more))
    → P

-- And with those of these elements, where no further one comes next.
abbrev pub IfElementsNext : Text → List Event → Elements → ℕ → ℕ → List Event → Type 0 → Type 0
IfElementsNext source events es start level more P =
    AreElements es
    → ElementsStand source start es
    → level ≤ nesting_limit → split_before (shortened level more) ≡ None
    → events ≡ shortened level (elements_events start es ++ more) → P

-- And with those of the value and of the text after it, of an element whose text before it is at
-- this span,
abbrev pub IfElementNext : Text → Span → List Event → Around → Value → ℕ → ℕ → List Event → Type 0
    → Type 0
IfElementNext source before es a v start level more P =
    IsValue v
    → Stands source (start + length a.before) (value_text v) → level ≤ nesting_limit
    → before ≡ span_at start a.before
    → es ≡ shortened level (value_events (start + length a.before) v
    ++ (event After (start + length a.before + length (value_text v)) a.after ∷ more))
    → P

-- or with that of the text after it alone, where the element is a scalar at a span.
abbrev pub IfScalarNext : Text → Span → Span → List Event → Around → scalars.Scalar → Text → ℕ → ℕ
    → List Event → Type 0 → Type 0
IfScalarNext source before at es a s t start level more P =
    Spells s t
    → Stands source (start + length a.before) t → before ≡ span_at start a.before
    → at ≡ span_at (start + length a.before) t
    → es ≡ shortened level (event After (start + length a.before + length t) a.after ∷ more) → P

-- ---- results

-- Fewer events are left, in the text.
abbrev pub Leaves : Text → List Event → Result (Bor (List Event)) ParseFault → Type 0
Leaves t es result = IfOk result (λ r. AreIn t r.now × (length r.now < length es))

-- Fewer events are left beside what was read.
abbrev pub LeavesBeside : {A : Type 0} → Text → List Event
    → Result (A × Bor (List Event)) ParseFault → Type 0
LeavesBeside t es result = IfOk result (λ r. AreIn t r.1.now × (length r.1.now < length es))

-- Some events are left, or all of them.
abbrev pub LeavesRest : Text → List Event → Result (Bor (List Event)) ParseFault → Type 0
LeavesRest t es result = IfOk result (λ r. AreIn t r.now × (length r.now ≤ length es))

-- The value has no fault, and the item, put between what is around it, is the value's.
pub record IsRead (v : Value) (start level : ℕ) (more : List Event) (n : Node)
    (rest : List Event) : Type 0 where
  pub faultless : value_faults v start level ≡ []
  pub rest_is : rest ≡ shortened level more
  pub node : (i : ℕ) (before after : Text) → start ≡ i + length before
      → IsValueNode spanned_form v i before after
      (with_decor (decor_at spanned_form i before (start + length (value_text v)) after) n)

-- the report is of the text, and names one of these faults
abbrev pub NamesOne : Text → List Fault → Report → Type 0
NamesOne source faults r = (r.input ≡ source) × Contains faults (fault_of r)

-- what reading this value, which begins at this byte inside so many brackets, returns, where these
-- events follow
abbrev pub ReadsValue : Text → Value → ℕ → ℕ → List Event
    → Result (code.Value × Bor (List Event)) ParseFault → Type 0
ReadsValue source v start level more (Ok r) = IsRead v start level more (value_view r.0) r.1.now
ReadsValue source v start level more (Err e) =
    IfToml e (NamesOne source (value_faults v start level))

-- what putting its item in a place returns, where this item is then
abbrev pub PutsValue : Text → Value → ℕ → ℕ → List Event → Node
    → Result (Bor (List Event)) ParseFault → Type 0
PutsValue source v start level more n (Ok r) = IsRead v start level more n r.now
PutsValue source v start level more n (Err e) =
    IfToml e (NamesOne source (value_faults v start level))

-- what reading an element does to the items before it, if the text before it begins at this byte
pub record AddsElement (a : Around) (v : Value) (start level : ℕ) (more : List Event)
    (old new : List Item) (rest : List Event) : Type 0 where
  pub faultless : value_faults v (start + length a.before) level ≡ []
  pub rest_is : rest ≡ shortened level more
  pub added : Item
  pub items : new ≡ old ++ added ∷ []
  pub node : IsValueNode spanned_form v start a.before a.after (item_view added)

abbrev pub ReadsElement : Text → Around → Value → ℕ → ℕ → List Event → List Item → List Item
    → Result (Bor (List Event)) ParseFault → Type 0
ReadsElement source a v start level more old new (Ok r) =
    AddsElement a v start level more old new r.now
ReadsElement source a v start level more old new (Err e) =
    IfToml e (NamesOne source (value_faults v (start + length a.before) level))

pub record AreRead (es : Elements) (start level : ℕ) (more : List Event) (items : List Item)
    (rest : List Event) : Type 0 where
  pub faultless : elements_faults es start level ≡ []
  pub rest_is : rest ≡ shortened level more
  pub nodes : AreElementNodes spanned_form es start (items_view items)

abbrev pub ReadsElements : Text → Elements → ℕ → ℕ → List Event → List Item
    → Result (Bor (List Event)) ParseFault → Type 0
ReadsElements source es start level more items (Ok r) = AreRead es start level more items r.now
ReadsElements source es start level more items (Err e) =
    IfToml e (NamesOne source (elements_faults es start level))

-- what ending an element with this item returns
pub record PutsElement (n : Node) (more : List Event) (old new : List Item)
    (rest : List Event) : Type 0 where
  pub rest_is : rest ≡ more
  pub added : Item
  pub items : new ≡ old ++ added ∷ []
  pub node : item_view added ≡ n

abbrev pub EndsElement : Node → List Event → List Item → List Item
    → Result (Bor (List Event)) ParseFault → Type 0
EndsElement n more old new (Ok r) = PutsElement n more old new r.now
EndsElement n more old new (Err e) = IfToml e (λ r. ⊥)

-- an array that opens at this byte, with this end
abbrev pub array_of : ℕ → Close → Items → ArrayView
array_of start close xs =
    record {
      fields = record {
        decor = unset;
        comma = close.comma;
        trailing = spanned_raw close.inner;
        extent = Some (start, close.end);
      };
      items = xs;
    }

-- what ending an array that opens at this byte returns
pub record MakesArray (start : ℕ) (close : Close) (xs : Items) (more : List Event) (n : Node)
    (rest : List Event) : Type 0 where
  pub rest_is : rest ≡ more
  pub node : n ≡ array_node (array_of start close xs)

abbrev pub EndsArray : ℕ → Close → Items → List Event
    → Result (code.Value × Bor (List Event)) ParseFault → Type 0
EndsArray start close xs more (Ok r) = MakesArray start close xs more (value_view r.0) r.1.now
EndsArray start close xs more (Err e) = IfToml e (λ r. ⊥)
