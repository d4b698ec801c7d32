-- The element that a segment of a path names.
use Rattle.std.specs.Prelude.{◌≡◌, ℕ, ◌^◌, ◌≤◌, Bool, List, Option, Some, None, option_map}
use Rattle.toml_edit_model.specs.Text.{Text}
use Rattle.toml_edit_model.specs.Tree.{Node}
use Rattle.toml_edit_edit_laws.specs.Commands.{number_of, element_of}

-- It is the number that the text names, or none where the text names none below 2^64.
abbrev pub IsNumberOf : Text → Option ℕ → Type 0
IsNumberOf x (Some i) = number_of x ≡ Some i
IsNumberOf x None = (i : ℕ) → number_of x ≡ Some i → 2 ^ 64 ≤ i

-- the place of the element of this kind that the text names
abbrev pub place_named : (Node → Bool) → Text → List Node → Option ℕ
place_named is k ns = option_map (λ x. x.0) (element_of is k ns)
