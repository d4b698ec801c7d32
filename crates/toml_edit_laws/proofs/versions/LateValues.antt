-- The late parts of a value alone in its text.
use Rattle.std.proofs.Common.{◌≡◌, refl, sym, ◌∙◌, ap, subst, ℕ, ◌+◌, ◌-◌, ◌≤◌, arith, true, false, List, [], ◌∷◌, Some, inl, inr}
use Rattle.std.specs.Prelude.{map, Contains}
use Rattle.toml_edit_model.specs.Text.{is_empty}
use Rattle.toml_edit_model.specs.Syntax.{Value}
use Rattle.toml_edit_model.specs.Version.{v1_0, Place, late_value, is_value_of}
use Rattle.toml_edit_model.specs.Faults.{Fault, fault, needs_message, late_value_faults}
use Rattle.toml_edit_laws.proofs.common.Members.{Among, from-contained, to-contained, none-contained}
use Rattle.toml_edit_laws.proofs.versions.LatePlaces.{value-told}

-- one without late parts is of each version,
pub value_of_none : (v : Value) (i : ℕ) → late_value v i ≡ [] → is_value_of v1_0 v ≡ true
value_of_none v i e = sym (value-told v i) ∙ ap is_empty e

-- and one with a late part isn't of TOML 1.0.
pub not_value_of : (v : Value) (i : ℕ) (p : Place) → Contains (late_value v i) p → is_value_of v1_0 v ≡ false
not_value_of v i p h = sym (value-told v i) ∙ some (late_value v i) h
  where
    some : (ps : List Place) → Contains ps p → is_empty ps ≡ false
    some [] c = absurd (none-contained p c)
    some (q ∷ ps) c = refl

image-among : (f : Place → Fault) (p : Place) (ps : List Place) → Among p ps → Among (f p) (map f ps)
image-among f p [] h = elim h [ ]
image-among f p (q ∷ ps) (inl e) = inl (ap f e)
image-among f p (q ∷ ps) (inr h) = inr (image-among f p ps h)

-- A late part is a fault in TOML 1.0, with its span.
pub late_value_fault : (v : Value) (i start end : ℕ) → start ≤ end → Contains (late_value v i) (start, end - start)
    → Contains (late_value_faults v1_0 i v) (record { message = needs_message; span = Some (start, end) })
late_value_fault v i start end less h =
    let fault_at : Place → Fault = λ p. fault needs_message p.0 p.1 in
    let f : Fault = fault_at (start, end - start) in
    let ends : start + (end - start) ≡ end = omega (arith, less) in
    subst (λ n. Contains (map fault_at (late_value v i)) (record { message = needs_message; span = Some (start, n) })) ends
    (to-contained f (map fault_at (late_value v i)) (image-among fault_at (
      start,
      end - start,
    ) (late_value v i) (from-contained (start, end - start) (late_value v i) h)))
