-- The steps of a path, and their text.
use Rattle.std.specs.Fmt.{decimal}
use Rattle.std.specs.List.{join_with_byte}
use Rattle.std.specs.Prelude.{List, [], ◌∷◌, ◌++◌, codes, map}
use Rattle.toml_edit_model.specs.Text.{Text, joined}
use Rattle.toml_edit_model.specs.Tree.{key_text}
use Rattle.toml_edit_visit.specs.Below.{Step, key, element}
use Rattle.toml_edit_visit.specs.declared.path.Path as paths

-- the steps from the outermost in
abbrev pub steps_on : paths.Path → List Step
steps_on paths.Root = []
steps_on (paths.Key' p up k) = steps_on up ++ (key k.now ∷ [])
steps_on (paths.Element' p up i) = steps_on up ++ (element i ∷ [])

-- the spelling of the key, or the place in decimal
abbrev pub step_text : Step → Text
step_text (key k) = key_text k
step_text (element i) = decimal i

-- the steps with a dot between each two
abbrev pub path_text : List Step → Text
path_text ss = join_with_byte 46 (map step_text ss)

-- with a dot after each
abbrev pub dotted_text : List Step → Text
dotted_text ss = joined (map (λ s. step_text s ++ codes ".") ss)
