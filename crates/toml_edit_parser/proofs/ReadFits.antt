-- What was read fits its text.
use Rattle.std.proofs.Common.{◌≡◌, ℕ, ◌<◌, true, false, ◌==◌, Option, Some, None, List, [], ◌∷◌, ◌++◌, length, sym, subst, ap, arith, inl}
use Rattle.std.proofs.Common.{inr}
use Rattle.std.proofs.lemmas.Bool.{cases_Bool}
use Rattle.toml_edit_model.specs.Text.{Text}
use Rattle.toml_edit_model.specs.Tree.{Decor, Node, nothing, leaf, list, inline, table, tables, Items}
use Rattle.toml_edit_model.specs.Conversions.{with_decor}
use Rattle.toml_edit_tree.specs.declared.item.Item.{Item}
use Rattle.toml_edit_syntax.specs.declared.event.Event.{Event}
use Rattle.toml_edit_syntax.specs.Events.{IsSpanOf}
use Rattle.toml_edit_parser.specs.declared.events.Close.{Close}
use Rattle.toml_edit_parser.specs.ValueRead.{AreIn, split_close, is_comma, spanned_raw, array_of}
use Rattle.toml_edit_tree.specs.Containers.{array_node}
use Rattle.toml_edit_syntax.specs.declared.event.Span.{Span}
use Rattle.toml_edit_tree.specs.View.{item_view, items_view}
use Rattle.toml_edit_parser.proofs.ReadLaws.{same_closes}
use Rattle.toml_edit_model.specs.OwnedForm.{RawFits, DecorFits, NodeFits, ItemsFit}

-- with another decor
pub fits-with_decor : (t : Text) (n : Node) (d : Decor) → NodeFits t n → DecorFits t d → NodeFits t (with_decor d n)
fits-with_decor t nothing d h f = h
fits-with_decor t (leaf s spelling old) d h f = (h.0, f)
fits-with_decor t (list fields xs) d h f = (f, h.1, h.2)
fits-with_decor t (inline fields ss) d h f = (f, h.1, h.2)
fits-with_decor t (table fields ss) d h f = h
fits-with_decor t (tables e xs) d h f = h

-- one more item
pub fits-item : (t : Text) (xs : List Item) (x : Item) → ItemsFit t (items_view xs) → NodeFits t (item_view x)
    → ItemsFit t (items_view (xs ++ x ∷ []))
fits-item t [] x h n = (n, tt)
fits-item t (y ∷ xs) x h n = (h.0, fits-item t xs x h.1 n)

-- the span of a part
pub fits-spanned_raw : (t : Text) (s : Span) → IsSpanOf t s → RawFits t (spanned_raw s)
fits-spanned_raw t s h = elim (cases_Bool (s.start == s.end)) [ inl e ↦ rw e tt | inr e ↦ rw e (h.start, h.end, h.order) ]

-- an array
pub fits-array : (t : Text) (n : Node) (start : ℕ) (close : Close) (xs : Items) → n ≡ array_node (array_of start close xs)
    → IsSpanOf t close.inner → ItemsFit t xs → NodeFits t n
fits-array t n start close xs is inner items = subst (λ m. NodeFits t m) (sym is) ((tt, tt), fits-spanned_raw t close.inner inner, items)

-- the span of a list's end, of a text that holds the events
pub close_in : (t : Text) (es : List Event) (close : Close) (rest : List Event) → Some (close, rest) ≡ split_close es → AreIn t es
    → IsSpanOf t close.inner × AreIn t rest × (length rest < length es)
close_in t [] close rest e h = absurd cc
close_in t (a ∷ []) close rest e h = absurd cc
close_in t (a ∷ b ∷ []) close rest e h =
    elim (cases_Bool (is_comma a.kind)) [
      | inl is ↦ let f : ◌≡◌ {A = Option (Close × List Event)} (Some (close, rest)) None = rw is at e in absurd cc
      | inr is ↦
          let f : ◌≡◌ {A = Option (Close × List Event)} (Some (close, rest))
          (Some (record { comma = false; inner = a.span; end = b.span.end }, [])) = rw is at e in
          let p = same_closes close _ rest _ f in (
            subst (λ (c : Close). IsSpanOf t c.inner) (sym p.0) h.0,
            subst (AreIn t) (sym p.1) h.1.1,
            let n =
                ap (λ (ys : List Event). length ys) p.1 in omega arith,
          )
    ]
close_in t (a ∷ b ∷ c ∷ es) close rest e h =
    elim (cases_Bool (is_comma a.kind)) [
      | inl is ↦
          let f : ◌≡◌ {A = Option (Close × List Event)} (Some (close, rest))
          (Some (record { comma = true; inner = b.span; end = c.span.end }, es)) = rw is at e in
          let p = same_closes close _ rest _ f in (
            subst (λ (x : Close). IsSpanOf t x.inner) (sym p.0) h.1.0,
            subst (AreIn t) (sym p.1) h.1.1.1,
            let n =
                ap (λ (ys : List Event). length ys) p.1 in omega arith,
          )
      | inr is ↦
          let f : ◌≡◌ {A = Option (Close × List Event)} (Some (close, rest))
          (Some (record { comma = false; inner = a.span; end = b.span.end }, c ∷ es)) = rw is at e in
          let p = same_closes close _ rest _ f in (
            subst (λ (x : Close). IsSpanOf t x.inner) (sym p.0) h.0,
            subst (AreIn t) (sym p.1) h.1.1,
            let n =
                ap (λ (ys : List Event). length ys) p.1 in omega arith,
          )
    ]
