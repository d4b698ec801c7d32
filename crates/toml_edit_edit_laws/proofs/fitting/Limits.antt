-- The limits of printed statements, of which one is changed, added or left out.
use Rattle.std.proofs.Common.{◌≡◌, ap, sym, ◌∙◌, subst, Bool, true, List, ◌∷◌, ◌++◌}
use Rattle.std.specs.Prelude.{filter}
use Rattle.std.specs.List.{AllByRecursion, list_all}
use Rattle.toml_edit_model.specs.Mode.{Mode}
use Rattle.toml_edit_model.specs.Syntax.{keeps_limits}
use Rattle.toml_edit_model.specs.Tree.{Tree}
use Rattle.toml_edit_model.specs.Print.{Printed, printed, statements_of}
use Rattle.toml_edit_laws.specs.Locality.{statements}
use Rattle.toml_edit_laws.proofs.common.Each.{all-append, all-front, all-back, all-of, all-filter}
use Rattle.toml_edit_laws.proofs.locality.Sound.{of-all}
use Rattle.toml_edit_laws.proofs.normal_texts.LinesInModes.{all-statements}

abbrev pub KeepsLimits : Printed → Type 0
KeepsLimits p = keeps_limits p.statement ≡ true

module _ (mode : Mode) where
  abbrev pub HasLimits : Tree → Type 0
  HasLimits t = list_all keeps_limits (statements_of mode t) ≡ true

  pub each-statement : (t : Tree) → HasLimits t → AllByRecursion KeepsLimits (printed mode t)
  each-statement t h = all-of (λ p. keeps_limits p.statement) (printed mode t) (sym (all-statements (printed mode t)) ∙ h)

  all-limits : (t : Tree) → AllByRecursion KeepsLimits (printed mode t) → HasLimits t
  all-limits t h = all-statements (printed mode t) ∙ of-all (λ p. keeps_limits p.statement) (printed mode t) h

  module _ (t u : Tree) (before after : List Printed) where
    pub limits-changed : (x y : Printed) → printed mode t ≡ before ++ (x ∷ after) → printed mode u ≡ before ++ (y ∷ after)
        → (KeepsLimits x → KeepsLimits y) → HasLimits t → HasLimits u
    limits-changed x y first second f h =
        let old = subst (AllByRecursion KeepsLimits) first (each-statement t h) in
        let rest = all-back KeepsLimits before (x ∷ after) old in
        all-limits u
        (subst (AllByRecursion KeepsLimits) (sym second)
        (all-append KeepsLimits before (y ∷ after) (all-front KeepsLimits before (x ∷ after) old) (f rest.0, rest.1)))

    pub limits-added : (own : List Printed) (x : Printed) → printed mode t ≡ before ++ (own ++ after)
        → printed mode u ≡ before ++ (own ++ (x ∷ after))
        → (AllByRecursion KeepsLimits own → KeepsLimits x) → HasLimits t → HasLimits u
    limits-added own x first second f h =
        let old = subst (AllByRecursion KeepsLimits) first (each-statement t h) in
        let rest = all-back KeepsLimits before (own ++ after) old in
        let mine = all-front KeepsLimits own after rest in
        all-limits u
        (subst (AllByRecursion KeepsLimits) (sym second)
        (all-append KeepsLimits before (own ++ (x ∷ after)) (all-front KeepsLimits before (own ++ after) old)
        (all-append KeepsLimits own (x ∷ after) mine (f mine, all-back KeepsLimits own after rest))))

  pub limits-filtered : (t u : Tree) (test : Printed → Bool) → statements (printed mode u) ≡ statements (filter test (printed mode t))
      → HasLimits t → HasLimits u
  limits-filtered t u test e h =
      let left : List Printed = filter test (printed mode t) in
      ap (list_all keeps_limits) e ∙ all-statements left
      ∙ of-all (λ p. keeps_limits p.statement) left (all-filter KeepsLimits test (printed mode t) (each-statement t h))
