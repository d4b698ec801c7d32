-- An array, from its elements and its end.
use Rattle.std.proofs.Common.{◌≡◌, ℕ, suc, ◌+◌, ◌-◌, ◌<◌, Bool, true, false, ◌==◌, List, [], ◌∷◌, ◌++◌, length, refl, sym, ap, ◌∙◌, subst}
use Rattle.std.proofs.Common.{arith, Some, None, codes}
use Rattle.std.specs.Prelude.{Result, Ok, Err}
use Rattle.std.specs.Borrow.{Bor}
use Rattle.std.proofs.lemmas.Bool.{ne_eqb}
use Rattle.std.proofs.lemmas.Bool.Decides.{nat_tests}
use Rattle.toml_edit_model.specs.Text.{Text}
use Rattle.toml_edit_model.specs.Syntax.{array, Elements, no_elements, element, value_text, elements_text, comma_text, nesting_limit}
use Rattle.toml_edit_model.specs.Faults.{Fault, deep_bracket, value_faults, elements_faults}
use Rattle.toml_edit_model.specs.Tree.{Raw, Decor, Extent, ArrayFields, Node, Items}
use Rattle.toml_edit_model.specs.TreeOf.{spanned_form, decor_at, span_of, IsValueNode, AreElementNodes}
use Rattle.toml_edit_model.specs.Conversions.{with_decor}
use Rattle.toml_edit_laws.specs.Standing.{Stands}
use Rattle.toml_edit_laws.proofs.common.StandingLaws.{stands-left, stands-right}
use Rattle.toml_edit_error.specs.Fault.{IfToml}
use Rattle.toml_edit_error.specs.declared.toml_error.ParseFault.{ParseFault}
use Rattle.toml_edit_syntax.specs.declared.event.Event.{Event}
use Rattle.toml_edit_syntax.specs.declared.event.EventKind.TheVariants.{ArrayClose}
use Rattle.toml_edit_syntax.specs.ValueEvents.{close_events, shortened}
use Rattle.toml_edit_tree.specs.declared.item.Item.{Item}
use Rattle.toml_edit_parser.specs.declared.events.Close.{Close}
use Rattle.toml_edit_tree.specs.declared.value.Value as code
use Rattle.toml_edit_parser.specs.ValueRead.{span_at, spanned_raw, split_before, split_close, ElementsStand, NamesOne, IsRead, ReadsValue}
use Rattle.toml_edit_parser.specs.ValueRead.{AreRead, MakesArray, EndsArray, array_of}
use Rattle.toml_edit_tree.specs.Containers.{array_node}
use Rattle.toml_edit_tree.specs.View.{items_view, value_view}
use Rattle.toml_edit_parser.proofs.ReadLaws.{mapped}

-- the span of a text
pub spanned_raw-is : (start : ℕ) (t : Text) → spanned_raw (span_at start t) ≡ span_of start t
spanned_raw-is start [] = let e : (start == start + 0) ≡ true = grind (arith, nat_tests) in rw e refl
spanned_raw-is start (c ∷ t) =
    let e : (start == start + length (c ∷ t)) ≡ false = ne_eqb start (start + length (c ∷ t)) (λ same. omega (arith, same)) in
    rw e refl

pub less : (level : ℕ) → suc level - 1 ≡ level
less level = omega arith

-- where the end of an array is read
abbrev pub end_at : ℕ → Bool → Text → Close
end_at at comma t = record { comma = comma; inner = span_at (at - length t) t; end = at + 1 }

pub array_end_split : (level at : ℕ) (comma : Bool) (t : Text) (more : List Event)
    → split_close (shortened (suc level) (close_events ArrayClose (codes "]") at comma t ++ more))
    ≡ Some (end_at at comma t, shortened level more)
array_end_split level at true t more = rw (less level) refl
array_end_split level at false t more = rw (less level) refl

pub array_ends : (level at : ℕ) (comma : Bool) (t : Text) (more : List Event)
    → split_before (shortened level (close_events ArrayClose (codes "]") at comma t ++ more)) ≡ None
array_ends level at true t more = refl
array_ends level at false t more = refl

pub elements_stand : (source : Text) (es : Elements) (comma : Bool) (t : Text) (start : ℕ)
    → Stands source start (value_text (array es comma t)) → ElementsStand source (start + 1) es
elements_stand source no_elements comma t start h = tt
elements_stand source (element a v es) comma t start h =
    let later : Text = comma_text comma ++ (t ++ codes "]") in
    let inner : Text = elements_text (element a v es) in
    stands-left source (start + 1) inner later (stands-right source start (codes "[") (inner ++ later) h)

pub not_deep : (level start : ℕ) → level < nesting_limit → deep_bracket level start ≡ []
not_deep level start below =
    let e : (level == nesting_limit) ≡ false = ne_eqb level nesting_limit (λ same. omega (arith, same)) in
    rw e refl

pub array_fault : (es : Elements) (comma : Bool) (t : Text) (start level : ℕ) → level < nesting_limit
    → value_faults (array es comma t) start level ≡ elements_faults es (start + 1) (suc level)
array_fault es comma t start level below =
    ap (λ (x : List Fault). x ++ elements_faults es (start + 1) (suc level)) (not_deep level start below)

-- a text in brackets has a byte
pub size_is : (start n : ℕ) → start + suc n - 1 + 1 ≡ start + suc n
size_is start n = omega arith

abbrev fields_of : Decor → Bool → Raw → Extent → ArrayFields
fields_of d comma r extent = record { decor = d; comma = comma; trailing = r; extent = extent }

pub array_read : (es : Elements) (comma : Bool) (t : Text) (start level : ℕ) (more : List Event) (items : List Item) (inner : List Event)
    (n : Node) (rest : List Event)
    → level < nesting_limit
    → AreRead es (start + 1) (suc level) (close_events ArrayClose (codes "]") (start + length (value_text (array es comma t)) - 1) comma t
    ++ more) items inner
    → MakesArray start (end_at (start + length (value_text (array es comma t)) - 1) comma t) (items_view items) (shortened level more) n
    rest
    → IsRead (array es comma t) start level more n rest
array_read es comma t start level more items inner n rest below h made =
    let size = length (value_text (array es comma t)) in
    let at = start + size - 1 in
    record {
      faultless = array_fault es comma t start level below ∙ h.faultless;
      rest_is = made.rest_is;
      node = λ i before after e.
          let trailing = spanned_raw-is (at - length t) t in
          let close = size_is start (length (elements_text es ++ (comma_text comma ++ (t ++ codes "]")))) in
          subst (λ m. IsValueNode spanned_form (array es comma t) i before after
          (with_decor (decor_at spanned_form i before (start + size) after) m)) (sym made.node) (
            ap (λ (r : Raw). fields_of (decor_at spanned_form i before (start + size) after) comma r (Some (start, at + 1))) trailing
                ∙ ap (λ j. fields_of (decor_at spanned_form i before (start + size) after) comma (span_of (at - length t) t) (Some (
                  start,
                  j,
                ))) close
                ∙ ap (λ j. fields_of (decor_at spanned_form i before (j + size) after) comma (span_of (j + size - 1 - length t) t) (Some (
                  j,
                  j + size,
                ))) e,
            subst (λ j. AreElementNodes spanned_form es (j + 1) (items_view items)) e h.nodes,
          );
    }

-- what is made of an array's end is what its end says
pub made_array : (start : ℕ) (own close : Close) (xs : Items) (behind more : List Event) (n : Node) → (own ≡ close) × (behind ≡ more)
    → n ≡ array_node (array_of start own xs)
    → MakesArray start close xs more n behind
made_array start own close xs behind more n same is =
    record {
      rest_is = same.1;
      node = is ∙ ap (λ (c : Close). array_node (array_of start c xs)) same.0;
    }

-- an array whose elements were read is what its end makes of them
pub array_closed : (source : Text) (es : Elements) (comma : Bool) (t : Text) (start level : ℕ) (more : List Event) (items : List Item)
    (inner : List Event)
    (r : Result (code.Value × Bor (List Event)) ParseFault) → level < nesting_limit
    → AreRead es (start + 1) (suc level) (close_events ArrayClose (codes "]") (start + length (value_text (array es comma t)) - 1) comma t
    ++ more) items inner
    → EndsArray start (end_at (start + length (value_text (array es comma t)) - 1) comma t) (items_view items) (shortened level more) r
    → ReadsValue source (array es comma t) start level more r
array_closed source es comma t start level more items inner (Ok r) below h made =
    array_read es comma t start level more items inner (value_view r.0) r.1.now below h made
array_closed source es comma t start level more items inner (Err e) below h made = mapped e _ _ (λ r none. absurd none) made

-- a fault of its elements is one of the array
pub array_refused : (source : Text) (es : Elements) (comma : Bool) (t : Text) (start level : ℕ) (e : ParseFault) → level < nesting_limit
    → IfToml e (NamesOne source (elements_faults es (start + 1) (suc level)))
    → IfToml e (NamesOne source (value_faults (array es comma t) start level))
array_refused source es comma t start level e below h =
    subst (λ fs. IfToml e (NamesOne source fs)) (sym (array_fault es comma t start level below)) h
