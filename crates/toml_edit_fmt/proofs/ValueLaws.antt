-- Where values stand, and how they are laid out.
use Rattle.std.proofs.Common.{◌≡◌, refl, sym, ap, ◌∙◌, arith, ℕ, zero, suc, ◌*◌, ◌<◌, ◌^◌, Bool, true, false, if◌then◌else◌, length}
use Rattle.std.proofs.Common.{Option, Some, None}
use Rattle.std.specs.List.{repeat}
use Rattle.std.specs.Option.{SomeIff}
use Rattle.std.proofs.lemmas.List.{length-append}
use Rattle.std.proofs.lemmas.Bool.{cond_below, cond_above}
use Rattle.toml_edit_model.specs.Text.{Text, one}
use Rattle.toml_edit_fmt_laws.specs.Rules.{Rules, spaces, units}
use Rattle.toml_edit_fmt_laws.specs.Formatted.{inner_depth, inner_room}
use Rattle.toml_edit_fmt.specs.ValueBits.{counted}
use Rattle.toml_edit_fmt.specs.ValueView.{StandsAt, is_open, layout_of}
use Rattle.toml_edit_fmt.specs.declared.value.Layout.{Layout}
use Rattle.toml_edit_fmt.specs.declared.value.Layout.TheVariants.{Untouched, OnOneLine, LineByLine, InRows}

-- ---- columns

repeat-length : (n : ℕ) (t : Text) → length (repeat n t) ≡ n * length t
repeat-length zero t = omega arith
repeat-length (suc n) t = omega (arith, length-append t (repeat n t), repeat-length n t)

units-length : (r : Rules) (n : ℕ) → length (units r n) ≡ n * r.unit
units-length r n =
    repeat-length n (spaces r.unit) ∙ ap (λ k. n * k) (repeat-length r.unit (one 32) ∙ (let e : r.unit * 1 ≡ r.unit = omega arith in e))

-- the columns of an indentation, if they can be counted
pub indent-counted : (r : Rules) (n : ℕ) (columns : Option ℕ) → SomeIff columns (n * r.unit < 2 ^ 64) (n * r.unit)
    → columns ≡ counted (length (units r n))
indent-counted r n None h =
    cond_above (length (units r n)) (2 ^ 64) (Some (length (units r n))) None None (omega (arith, units-length r n, h)) refl
indent-counted r n (Some k) h =
    ap Some (h.1 ∙ sym (units-length r n)) ∙ cond_below (length (units r n)) (2 ^ 64) (Some (length (units r n))) None (omega (arith, units-length r n, h.0))

-- ---- places

pub stands-closed : (l : Layout) (is_array : Bool) (r : Rules) (d : ℕ) → is_open l ≡ false
    → StandsAt (inner_depth (layout_of l) d) (if is_array then inner_room r (layout_of l) d else None)
    (record { depth = d; may_break = false; used = None })
stands-closed Untouched true r d h = record { depth_is = refl; room_is = refl }
stands-closed Untouched false r d h = record { depth_is = refl; room_is = refl }
stands-closed OnOneLine true r d h = record { depth_is = refl; room_is = refl }
stands-closed OnOneLine false r d h = record { depth_is = refl; room_is = refl }
stands-closed LineByLine is_array r d h = absurd cc
stands-closed InRows is_array r d h = absurd cc

pub stands-open : (l : Layout) (is_array : Bool) (r : Rules) (d n : ℕ) (used : Option ℕ) → is_open l ≡ true → n ≡ suc d
    → used ≡ counted (length (units r n))
    → StandsAt (inner_depth (layout_of l) d) (if is_array then inner_room r (layout_of l) d else None)
    (record { depth = n; may_break = is_array; used = used })
stands-open Untouched is_array r d n used h e u = absurd cc
stands-open OnOneLine is_array r d n used h e u = absurd cc
stands-open LineByLine true r d n used h e u = record { depth_is = e; room_is = (refl, u ∙ ap (λ k. counted (length (units r k))) e) }
stands-open LineByLine false r d n used h e u = record { depth_is = e; room_is = refl }
stands-open InRows true r d n used h e u = record { depth_is = e; room_is = (refl, u ∙ ap (λ k. counted (length (units r k))) e) }
stands-open InRows false r d n used h e u = record { depth_is = e; room_is = refl }
