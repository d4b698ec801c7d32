-- An inline table, from its pairs and its end.
use Rattle.std.proofs.Common.{◌≡◌, ℕ, suc, ◌+◌, ◌-◌, ◌<◌, Bool, true, false, List, [], ◌++◌, length, refl, sym, ap, ◌∙◌, subst, Some, None}
use Rattle.std.proofs.Common.{codes}
use Rattle.std.specs.Prelude.{Result, Ok, Err}
use Rattle.std.specs.Borrow.{Bor}
use Rattle.toml_edit_model.specs.Text.{Text}
use Rattle.toml_edit_model.specs.Syntax.{inline_table, Pairs, no_pairs, pair, value_text, pairs_text, comma_text, nesting_limit}
use Rattle.toml_edit_model.specs.Paths.{pair_mentions}
use Rattle.toml_edit_model.specs.Faults.{Fault, value_faults, pair_clashes, pairs_faults}
use Rattle.toml_edit_model.specs.Tree.{Raw, Decor, Extent, InlineFields, Node, Slots}
use Rattle.toml_edit_model.specs.TreeOf.{spanned_form, decor_at, span_of, entries, IsValueNode, AreEntrySlots}
use Rattle.toml_edit_model.specs.Conversions.{with_decor}
use Rattle.toml_edit_laws.specs.Standing.{Stands}
use Rattle.toml_edit_laws.proofs.common.StandingLaws.{stands-left, stands-right}
use Rattle.toml_edit_laws.proofs.values.ValueFaults.{is_empty-clashes, is_empty-nil}
use Rattle.toml_edit_error.specs.Fault.{IfToml}
use Rattle.toml_edit_error.specs.declared.toml_error.ParseFault.{ParseFault}
use Rattle.toml_edit_syntax.specs.declared.event.Event.{Event}
use Rattle.toml_edit_syntax.specs.declared.event.EventKind.TheVariants.{InlineTableClose}
use Rattle.toml_edit_syntax.specs.Events.{IsSpanOf}
use Rattle.toml_edit_syntax.specs.ValueEvents.{close_events, shortened}
use Rattle.toml_edit_parser.specs.declared.events.Close.{Close}
use Rattle.toml_edit_tree.specs.declared.value.Value as code
use Rattle.toml_edit_tree.specs.Containers.{inline_node}
use Rattle.toml_edit_parser.specs.PairRead.{ArePairsRead, EndsInline, MakesInline, PairsStand, inline_of}
use Rattle.toml_edit_parser.specs.ValueRead.{IsRead, NamesOne, ReadsValue, split_close, split_leading}
use Rattle.toml_edit_parser.proofs.ArrayLaws.{end_at, less, not_deep, size_is, spanned_raw-is}
use Rattle.toml_edit_parser.proofs.ReadFits.{fits-spanned_raw}
use Rattle.toml_edit_parser.proofs.ReadLaws.{mapped}
use Rattle.toml_edit_model.specs.TableMentions.{kept}
use Rattle.toml_edit_model.specs.OwnedForm.{SlotsFit, NodeFits}

inline_end_split : (level at : ℕ) (comma : Bool) (t : Text) (more : List Event)
    → split_close (shortened (suc level) (close_events InlineTableClose (codes "}") at comma t ++ more))
    ≡ Some (end_at at comma t, shortened level more)
inline_end_split level at true t more = rw (less level) refl
inline_end_split level at false t more = rw (less level) refl

pub inline_ends : (level at : ℕ) (comma : Bool) (t : Text) (more : List Event)
    → split_leading (shortened level (close_events InlineTableClose (codes "}") at comma t ++ more)) ≡ None
inline_ends level at true t more = refl
inline_ends level at false t more = refl

pub pairs_stand : (source : Text) (ps : Pairs) (comma : Bool) (t : Text) (start : ℕ)
    → Stands source start (value_text (inline_table ps comma t)) → PairsStand source (start + 1) ps
pairs_stand source no_pairs comma t start h = tt
pairs_stand source (pair f v ps) comma t start h =
    let later : Text = comma_text comma ++ (t ++ codes "}") in
    let inner : Text = pairs_text (pair f v ps) in
    stands-left source (start + 1) inner later (stands-right source start (codes "{") (inner ++ later) h)

inline_fault : (ps : Pairs) (comma : Bool) (t : Text) (start level : ℕ) → level < nesting_limit
    → value_faults (inline_table ps comma t) start level ≡ pair_clashes [] (pair_mentions (start + 1) ps)
    ++ pairs_faults ps (start + 1) (suc level)
inline_fault ps comma t start level below =
    ap (λ (x : List Fault). x ++ (pair_clashes [] (pair_mentions (start + 1) ps) ++ pairs_faults ps (start + 1) (suc level)))
    (not_deep level start below)

-- what is refused of the pairs is a fault of the inline table
pub inline-refused : (source : Text) (ps : Pairs) (comma : Bool) (t : Text) (start level : ℕ) (e : ParseFault) → level < nesting_limit
    → IfToml e (NamesOne source (pair_clashes [] (pair_mentions (start + 1) ps) ++ pairs_faults ps (start + 1) (suc level)))
    → IfToml e (NamesOne source (value_faults (inline_table ps comma t) start level))
inline-refused source ps comma t start level e below h =
    subst (λ fs. IfToml e (NamesOne source fs)) (sym (inline_fault ps comma t start level below)) h

abbrev fields_of : Decor → Bool → Raw → Extent → InlineFields
fields_of d comma r extent = record { decor = d; is_dotted = false; comma = comma; trailing = r; extent = extent }

inline_read : (ps : Pairs) (comma : Bool) (t : Text) (start level : ℕ) (more : List Event) (ss : Slots) (inner : List Event) (n : Node)
    (rest : List Event)
    → level < nesting_limit
    → ArePairsRead ps (start + 1) (suc level) (close_events InlineTableClose (codes "}") (start
    + length (value_text (inline_table ps comma t)) - 1) comma t ++ more) ss inner
    → MakesInline start (end_at (start + length (value_text (inline_table ps comma t)) - 1) comma t) ss (shortened level more) n rest
    → IsRead (inline_table ps comma t) start level more n rest
inline_read ps comma t start level more ss inner n rest below h made =
    let size = length (value_text (inline_table ps comma t)) in
    let at = start + size - 1 in
    let clashes = pair_clashes [] (pair_mentions (start + 1) ps) in
    let none : clashes ≡ [] = is_empty-nil clashes (is_empty-clashes (start + 1) ps ∙ h.agreement) in
    record {
      faultless = inline_fault ps comma t start level below ∙ ap (λ (x : List Fault). x ++ pairs_faults ps (start + 1) (suc level)) none
          ∙ h.faultless;
      rest_is = made.rest_is;
      node = λ i before after e.
          let trailing = spanned_raw-is (at - length t) t in
          let close = size_is start (length (pairs_text ps ++ (comma_text comma ++ (t ++ codes "}")))) in
          subst (λ m. IsValueNode spanned_form (inline_table ps comma t) i before after
          (with_decor (decor_at spanned_form i before (start + size) after) m)) (sym made.node) (
            ap (λ (r : Raw). fields_of (decor_at spanned_form i before (start + size) after) comma r (Some (start, at + 1))) trailing
                ∙ ap (λ j. fields_of (decor_at spanned_form i before (start + size) after) comma (span_of (at - length t) t) (Some (
                  start,
                  j,
                ))) close
                ∙ ap (λ j. fields_of (decor_at spanned_form i before (j + size) after) comma (span_of (j + size - 1 - length t) t) (Some (
                  j,
                  j + size,
                ))) e,
            subst (λ j. AreEntrySlots spanned_form (entries spanned_form ps (j + 1)) (kept (entries spanned_form ps (j + 1))) ss) e h.slots,
          );
    }

-- an inline table whose pairs were read is closed
pub inline-closed : (source : Text) (ps : Pairs) (comma : Bool) (t : Text) (start level : ℕ) (more : List Event) (ss : Slots)
    (inner : List Event) (opening : ℕ)
    (result : Result (code.Value × Bor (List Event)) ParseFault) → level < nesting_limit → opening ≡ start
    → ArePairsRead ps (start + 1) (suc level) (close_events InlineTableClose (codes "}") (start
    + length (value_text (inline_table ps comma t)) - 1) comma t ++ more) ss inner
    → ((close : Close) (behind : List Event) → split_close inner ≡ Some (close, behind) → EndsInline opening close ss behind result)
    → ReadsValue source (inline_table ps comma t) start level more result
inline-closed source ps comma t start level more ss inner opening (Ok r) below same h told =
    let at = start + length (value_text (inline_table ps comma t)) - 1 in
    let made = told (end_at at comma t) (shortened level more) (ap split_close h.rest_is ∙ inline_end_split level at comma t more) in
    inline_read ps comma t start level more ss inner _ _ below h
    (record { rest_is = made.rest_is; node = made.node ∙ ap (λ j. inline_node (inline_of j (end_at at comma t) ss)) same })
inline-closed source ps comma t start level more ss inner opening (Err e) below same h told =
    let at = start + length (value_text (inline_table ps comma t)) - 1 in
    mapped e (λ r. ⊥) _ (λ r none. absurd none) (told (end_at at comma t) (shortened level more) (ap split_close h.rest_is
    ∙ inline_end_split level at comma t more))

-- what is made of an inline table's end is what its end says
pub made_inline : (start : ℕ) (own close : Close) (ss : Slots) (behind more : List Event) (n : Node) → (own ≡ close) × (behind ≡ more)
    → n ≡ inline_node (inline_of start own ss)
    → MakesInline start close ss more n behind
made_inline start own close ss behind more n same is =
    record {
      rest_is = same.1;
      node = is ∙ ap (λ (c : Close). inline_node (inline_of start c ss)) same.0;
    }

-- it fits its text
pub fits-inline : (t : Text) (n : Node) (start : ℕ) (close : Close) (ss : Slots) → n ≡ inline_node (inline_of start close ss)
    → IsSpanOf t close.inner → SlotsFit t ss → NodeFits t n
fits-inline t n start close ss is inner slots = subst (λ m. NodeFits t m) (sym is) ((tt, tt), fits-spanned_raw t close.inner inner, slots)
