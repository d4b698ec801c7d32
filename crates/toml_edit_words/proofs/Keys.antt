-- The keys of a path.
use Rattle.std.proofs.Common.{◌≡◌, refl, ap, List, [], ◌∷◌, map}
use Rattle.toml_edit_model.specs.Lone.{lone_keys}
use Rattle.toml_edit_model.specs.Syntax.{Segment}
use Rattle.toml_edit_model.specs.Text.{Text}

-- the keys of a lone path have the texts of its segments
pub lone-names : (before : Text) (p : List Segment) (after : Text) → map (λ k. k.name) (lone_keys before p after) ≡ map (λ s. s.key) p
lone-names before [] after = refl
lone-names before (s ∷ []) after = refl
lone-names before (s ∷ r ∷ rest) after = ap (λ xs. s.key ∷ xs) (lone-names before (r ∷ rest) after)
