-- What rules read of a mention: its path and its role.
use Rattle.toml_edit_model.specs.Paths.{Path, Mention, to_key}
use Rattle.std.proofs.Common.{List, ◌∷◌, []}
use Rattle.std.specs.Prelude.{map}
use Rattle.toml_edit_model.specs.Text.{Text}
use Rattle.toml_edit_model.specs.Syntax.{Segment}
use Rattle.toml_edit_model.specs.Roles.{Role, value_role, dotted_role}

abbrev pub Core : Type 0
Core = Path × Role

abbrev pub core : {S : Type 0} → Mention S → Core
core m = (m.path, m.role)

abbrev pub cores : {S : Type 0} → List (Mention S) → List Core
cores ms = map core ms

abbrev pub keys_of_segments : List Segment → List Text
keys_of_segments ss = map (λ s. s.key) ss

abbrev pub line_cores : Path → List Text → List Core
line_cores p [] = []
line_cores p (k ∷ []) = (to_key p k, value_role) ∷ []
line_cores p (k ∷ l ∷ rest) = (to_key p k, dotted_role) ∷ line_cores (to_key p k) (l ∷ rest)
