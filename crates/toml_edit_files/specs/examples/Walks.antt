-- Worked names of a walk.
use Rattle.std.specs.Prelude.{◌≡◌, refl, true, false, [], ◌∷◌, codes}
use Rattle.toml_edit_files.specs.Walks.{below, is_toml}

in-a-folder : below (codes "d") (codes ".git" ∷ codes "a.toml" ∷ codes "e" ∷ []) ≡ codes "d/a.toml" ∷ codes "d/e" ∷ []
in-a-folder = refl

behind-a-slash : below (codes "d/") (codes "a.toml" ∷ []) ≡ codes "d/a.toml" ∷ []
behind-a-slash = refl

toml : is_toml (codes "d/a.toml") ≡ true
toml = refl

no-toml : is_toml (codes "d/a.tom") ≡ false
no-toml = refl
