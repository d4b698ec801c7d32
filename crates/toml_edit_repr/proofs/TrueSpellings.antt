-- True spellings of copies.
use Rattle.std.specs.Prelude.{◌≡◌, ◌↔◌, Option, Some, None}
use mathlib.Core.Logic.{∥∥₁_map}
use Rattle.toml_edit_model.specs.Text.{Text}
use Rattle.toml_edit_model.specs.Scalars.{Scalar}
use Rattle.toml_edit_model.specs.Spelling.{SpellsInRange}
use Rattle.toml_edit_model.specs.Tree.{Raw, owned, span, HasTrueSpelling}

-- where all that spells the one spells the other
of_all : (P Q : Text → Type 0) → ((t : Text) → P t → Q t) → (r : Option Raw) → HasTrueSpelling P r → HasTrueSpelling Q r
of_all P Q all (Some (owned t)) spelled = all t spelled
of_all P Q all (Some (span i j)) spelled = tt
of_all P Q all None spelled = tt

-- where both are one scalar, and the spellings are equal
pub true_spelling_copied : {X : Type 0} (spells : Text → X → Type 0) (scalar : X → Scalar)
    → ((t : Text) (x : X) → spells t x ↔ SpellsInRange (scalar x) t)
    → (x y : X) → scalar y ≡ scalar x → (r s : Option Raw) → s ≡ r
    → ∥ HasTrueSpelling (λ t. spells t x) r ∥₁ → ∥ HasTrueSpelling (λ t. spells t y) s ∥₁
true_spelling_copied spells scalar law x y same r s copied spelled =
    rw copied (∥∥₁_map spelled (of_all (λ t. spells t x) (λ t. spells t y) all r))
  where
    all : (t : Text) → spells t x → spells t y
    all t spelled = (law t y).1 (rw same ((law t x).0 spelled))
