-- Of the headers in order the last is all that counts.
use Rattle.std.proofs.Common.{◌≡◌, suc, ◌-◌, List, [], ◌∷◌, Option, Some, length, sym, ap, ◌∙◌, arith}
use Rattle.std.specs.Prelude.{map, slice_get}
use Rattle.std.proofs.lemmas.Option.{same_Some}
use Rattle.toml_edit_model.specs.Tree.{Decor}
use Rattle.toml_edit_laws.specs.PrintByVisits.{Headed}
use Rattle.toml_edit.specs.LastLines.{last_headed, last_line}

module _ {A : Type 0} (view : A → Headed) where
  abbrev last_at : A → Option Decor
  last_at x = last_line (view x).slots (Some (view x).fields.decor)

  -- the last of them gives the last statement
  pub last-header : (xs : List A) (x : A) (before : Option Decor) → slice_get xs (length xs - 1) ≡ Some x
      → last_headed (map view xs) before ≡ last_line (view x).slots (Some (view x).fields.decor)
  last-header [] x before e = absurd cc
  last-header (y ∷ []) x before e = ap last_at (same_Some y x e)
  last-header (y ∷ z ∷ xs) x before e =
      let one : length (y ∷ z ∷ xs) - 1 ≡ suc (length xs) = omega arith in
      let other : length (z ∷ xs) - 1 ≡ length xs = omega arith in
      last-header (z ∷ xs) x (last_at y) (ap (slice_get (z ∷ xs)) other ∙ ap (slice_get (y ∷ z ∷ xs)) (sym one) ∙ e)
