-- What a closure keeps whose answer is a test.
use Rattle.std.proofs.Common.{◌≡◌, ap₂, ◌∙◌, Bool, cond, List, [], ◌∷◌}
use Rattle.std.specs.Prelude.{filter}
use Rattle.toml_edit.specs.model.Retaining.{RetainsBy}

pub kept_by : {X : Type 0} (says : X → Bool → Type 0) (test : X → Bool) → ((x : X) (b : Bool) → says x b → b ≡ test x)
    → (before after : List X) → RetainsBy says before after → after ≡ filter test before
kept_by says test same [] after e = e
kept_by says test same (x ∷ before) after (keeps, rest, said, more, e) =
    e ∙ ap₂ (λ (b : Bool) (r : List _). cond b (x ∷ r) r) (same x keeps said) (kept_by says test same before rest more)
