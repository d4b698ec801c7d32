-- The loop over the elements of an array: how far it is, and its steps.
use Rattle.std.proofs.Common.{◌≡◌, ℕ, ◌+◌, ◌≤◌, List, [], ◌∷◌, ◌++◌, length, refl, sym, ap, ◌∙◌, subst, append_assoc, Some, None, codes}
use Rattle.std.specs.Prelude.{Contains, Result, Ok, Err}
use Rattle.std.specs.Borrow.{Bor}
use Rattle.std.proofs.lemmas.List.Elements.{Contains-append_left, Contains-append_right}
use Rattle.toml_edit_model.specs.Text.{Text}
use Rattle.toml_edit_model.specs.Syntax.{Around, Value, Elements, no_elements, element, IsValue, AreElements, value_text, elements_text}
use Rattle.toml_edit_model.specs.Syntax.{nesting_limit}
use Rattle.toml_edit_model.specs.Faults.{Fault, value_faults, elements_faults}
use Rattle.toml_edit_model.specs.Tree.{Node}
use Rattle.toml_edit_model.specs.TreeOf.{spanned_form, decor_at, IsValueNode, AreElementNodes}
use Rattle.toml_edit_model.specs.Conversions.{with_decor}
use Rattle.toml_edit_laws.specs.Standing.{Stands}
use Rattle.toml_edit_laws.proofs.common.StandingLaws.{stands-left, stands-right}
use Rattle.toml_edit_laws.proofs.common.Tests.{append-nil}
use Rattle.toml_edit_error.specs.declared.toml_error.ParseFault.{ParseFault}
use Rattle.toml_edit_syntax.specs.declared.event.Event.{Event}
use Rattle.toml_edit_syntax.specs.declared.event.EventKind.TheVariants.{After}
use Rattle.toml_edit_syntax.specs.declared.event.Span.{Span}
use Rattle.toml_edit_syntax.specs.ValueEvents.{event, value_events, elements_events, shortened}
use Rattle.toml_edit_tree.specs.declared.item.Item.{Item}
use Rattle.toml_edit_parser.specs.ValueRead.{span_at, split_before, ElementsStand, IsRead, AddsElement, ReadsElement, EndsElement, AreRead}
use Rattle.toml_edit_tree.specs.View.{item_view, items_view}
use Rattle.toml_edit_parser.proofs.ReadLaws.{mapped, same_spans}

-- what is said of a list of elements whose events these are
pub record AreBefore (source : Text) (es : Elements) (start level : ℕ) (more events : List Event) : Type 0 where
  pub grammar : AreElements es
  pub stand : ElementsStand source start es
  pub below : level ≤ nesting_limit
  pub ends : split_before (shortened level more) ≡ None
  pub events_are : events ≡ shortened level (elements_events start es ++ more)

-- some elements are done, and these are left
pub record Left (source : Text) (es : Elements) (start level : ℕ) (more : List Event) (rest : List Event) (done : List Item) : Type 0 where
  pub left : Elements
  pub place : ℕ
  pub before : AreBefore source left place level more rest
  pub faultless : elements_faults left place level ≡ [] → elements_faults es start level ≡ []
  pub fault : (f : Fault) → Contains (elements_faults left place level) f → Contains (elements_faults es start level) f
  pub nodes : (others : List Item) → AreElementNodes spanned_form left place (items_view others)
      → AreElementNodes spanned_form es start (items_view (done ++ others))

pub at_start : (source : Text) (es : Elements) (start level : ℕ) (more events : List Event) (done : List Item) → done ≡ []
    → AreBefore source es start level more events → Left source es start level more events done
at_start source es start level more events done none h =
    record {
      left = es;
      place = start;
      before = h;
      faultless = λ e. e;
      fault = λ f c. c;
      nodes = λ others n. subst (λ (xs : List Item). AreElementNodes spanned_form es start (items_view (xs ++ others))) (sym none) n;
    }

-- ---- the next element

-- where the element after one begins
abbrev pub next_element : ℕ → Around → Value → ℕ
next_element start a v = start + length a.before + length (value_text v) + length a.after + 1

pub record Next (source : Text) (es : Elements) (start level : ℕ) (more : List Event) (before : Span) (tail : List Event)
    (done : List Item) : Type 0 where
  pub around : Around
  pub value : Value
  pub others : Elements
  pub place : ℕ
  pub grammar : IsValue value
  pub others_grammar : AreElements others
  pub stands : Stands source (place + length around.before) (value_text value)
  pub others_stand : ElementsStand source (next_element place around value) others
  pub below : level ≤ nesting_limit
  pub ends : split_before (shortened level more) ≡ None
  pub before_is : before ≡ span_at place around.before
  pub tail_is : tail ≡ shortened level (value_events (place + length around.before) value
      ++ (event After (place + length around.before + length (value_text value)) around.after
      ∷ (elements_events (next_element place around value) others ++ more)))
  pub faultless : value_faults value (place + length around.before) level ≡ []
      → elements_faults others (next_element place around value) level ≡ []
      → elements_faults es start level ≡ []
  pub fault : (f : Fault) → Contains (value_faults value (place + length around.before) level) f
      → Contains (elements_faults es start level) f
  pub later_fault : (f : Fault) → Contains (elements_faults others (next_element place around value) level) f
      → Contains (elements_faults es start level) f
  pub nodes : (x : Item) (xs : List Item) → IsValueNode spanned_form value place around.before around.after (item_view x)
      → AreElementNodes spanned_form others (next_element place around value) (items_view xs)
      → AreElementNodes spanned_form es start (items_view (done ++ x ∷ xs))

value_stands : (source : Text) (start : ℕ) (a : Around) (v : Value) (es : Elements) → Stands source start (elements_text (element a v es))
    → Stands source (start + length a.before) (value_text v)
value_stands source start a v no_elements h =
    stands-left source (start + length a.before) (value_text v) a.after (stands-right source start a.before (value_text v ++ a.after) h)
value_stands source start a v (element b w es) h =
    let later : Text = a.after ++ (codes "," ++ elements_text (element b w es)) in
    stands-left source (start + length a.before) (value_text v) later (stands-right source start a.before (value_text v ++ later) h)

others_stand_there : (source : Text) (start : ℕ) (a : Around) (v : Value) (es : Elements)
    → Stands source start (elements_text (element a v es))
    → ElementsStand source (next_element start a v) es
others_stand_there source start a v no_elements h = tt
others_stand_there source start a v (element b w es) h =
    let others : Text = elements_text (element b w es) in
    let comma : Text = codes "," ++ others in
    let later : Text = a.after ++ comma in
    let one = stands-right source start a.before (value_text v ++ later) h in
    let two = stands-right source (start + length a.before) (value_text v) later one in
    let three = stands-right source (start + length a.before + length (value_text v)) a.after comma two in
    stands-right source (start + length a.before + length (value_text v) + length a.after) (codes ",") others three

both_none : (a b : List Fault) → a ≡ [] → b ≡ [] → a ++ b ≡ []
both_none a b e f = ap (λ (x : List Fault). x ++ b) e ∙ f

next_of : (source : Text) (es : Elements) (start level : ℕ) (more rest : List Event) (before : Span) (tail : List Event) (done : List Item)
    (left : Elements) (place : ℕ) → AreBefore source left place level more rest
    → (elements_faults left place level ≡ [] → elements_faults es start level ≡ [])
    → ((f : Fault) → Contains (elements_faults left place level) f → Contains (elements_faults es start level) f)
    → ((others : List Item) → AreElementNodes spanned_form left place (items_view others)
    → AreElementNodes spanned_form es start (items_view (done ++ others)))
    → Some (before, tail) ≡ split_before rest → Next source es start level more before tail done
next_of source es start level more rest before tail done no_elements place h faultless fault nodes e =
    let f = e ∙ ap split_before h.events_are ∙ h.ends in absurd cc
next_of source es start level more rest before tail done (element a v others) place h faultless fault nodes e =
    let at = place + length a.before in
    let after = at + length (value_text v) in
    let next = next_element place a v in
    let p = same_spans before (span_at place a.before) tail _ (e ∙ ap split_before h.events_are) in
    record {
      around = a;
      value = v;
      others = others;
      place = place;
      grammar = h.grammar.2;
      others_grammar = h.grammar.3;
      stands = value_stands source place a v others h.stand;
      others_stand = others_stand_there source place a v others h.stand;
      below = h.below;
      ends = h.ends;
      before_is = p.0;
      tail_is = p.1 ∙ ap (shortened level) (append_assoc (value_events at v) (event After after a.after
          ∷ elements_events next others) more);
      faultless = λ one two. faultless (both_none (value_faults v at level) (elements_faults others next level) one two);
      fault = λ f c. fault f (Contains-append_left (value_faults v at level) (elements_faults others next level) f c);
      later_fault = λ f c. fault f (Contains-append_right (value_faults v at level) (elements_faults others next level) f c);
      nodes = λ x xs n ns. nodes (x ∷ xs) (n, ns);
    }

pub next : (source : Text) (es : Elements) (start level : ℕ) (more rest : List Event) (before : Span) (tail : List Event) (done : List Item)
    → Left source es start level more rest done → Some (before, tail) ≡ split_before rest → Next source es start level more before tail done
next source es start level more rest before tail done h e =
    next_of source es start level more rest before tail done h.left h.place h.before h.faultless h.fault h.nodes e

-- one more is done
pub added : (source : Text) (es : Elements) (start level : ℕ) (more : List Event) (before : Span) (tail : List Event) (done now : List Item)
    (rest : List Event)
    (n : Next source es start level more before tail done)
    → AddsElement n.around n.value n.place level (elements_events (next_element n.place n.around n.value) n.others ++ more) done now rest
    → Left source es start level more rest now
added source es start level more before tail done now rest n h =
    let next = next_element n.place n.around n.value in
    record {
      left = n.others;
      place = next;
      before = record { grammar = n.others_grammar; stand = n.others_stand; below = n.below; ends = n.ends; events_are = h.rest_is };
      faultless = λ e. n.faultless h.faultless e;
      fault = n.later_fault;
      nodes = λ others ns.
          subst (λ (xs : List Item). AreElementNodes spanned_form es start (items_view xs))
          (sym (ap (λ (xs : List Item). xs ++ others) h.items ∙ append_assoc done (h.added ∷ []) others))
          (n.nodes h.added others h.node ns);
    }

-- an element whose value was read is added with what stands around it
pub element_read : (source : Text) (a : Around) (v : Value) (start level : ℕ) (more : List Event) (old new : List Item) (n : Node)
    (inner : List Event)
    (r : Result (Bor (List Event)) ParseFault)
    → IsRead v (start + length a.before) level (event After (start + length a.before + length (value_text v)) a.after ∷ more) n inner
    → EndsElement (with_decor (decor_at spanned_form start a.before (start + length a.before + length (value_text v)) a.after) n)
    (shortened level more) old new r
    → ReadsElement source a v start level more old new r
element_read source a v start level more old new n inner (Ok r) h put =
    record {
      faultless = h.faultless;
      rest_is = put.rest_is;
      added = put.added;
      items = put.items;
      node = subst (λ m. IsValueNode spanned_form v start a.before a.after m) (sym put.node) (h.node start a.before a.after refl);
    }
element_read source a v start level more old new n inner (Err e) h put = mapped e _ _ (λ r none. absurd none) put

-- ---- the end

ended_of : (source : Text) (es : Elements) (start level : ℕ) (more rest : List Event) (done : List Item)
    (left : Elements) (place : ℕ) → AreBefore source left place level more rest
    → (elements_faults left place level ≡ [] → elements_faults es start level ≡ [])
    → ((others : List Item) → AreElementNodes spanned_form left place (items_view others)
    → AreElementNodes spanned_form es start (items_view (done ++ others)))
    → None ≡ split_before rest → AreRead es start level more done rest
ended_of source es start level more rest done no_elements place h faultless nodes e =
    record {
      faultless = faultless refl;
      rest_is = h.events_are;
      nodes = subst (λ (xs : List Item). AreElementNodes spanned_form es start (items_view xs)) (append-nil done) (nodes [] tt);
    }
ended_of source es start level more rest done (element a v others) place h faultless nodes e =
    let f = e ∙ ap split_before h.events_are in absurd cc

pub ended : (source : Text) (es : Elements) (start level : ℕ) (more rest : List Event) (done : List Item)
    → Left source es start level more rest done → None ≡ split_before rest → AreRead es start level more done rest
ended source es start level more rest done h e = ended_of source es start level more rest done h.left h.place h.before h.faultless h.nodes e
