-- The path of the edit.
use Rattle.std.proofs.Common.{◌∙◌, List, ap, sym}
use Rattle.toml_edit_model.specs.Keys.{names}
use Rattle.toml_edit_model.specs.Tree.{Key}
use Rattle.toml_edit_edits.specs.Effects.{removed}
use Rattle.toml_edit_edits.specs.Lists.{effect}
use Rattle.toml_edit_edits.proofs.removes.removed_path.Goals as goal

pub returns-in-Remove : goal.returns-in-Remove
returns-in-Remove c =
    λ t. ap (λ e. effect e t) c.in-Remove.is ∙ ap (λ (p : List Key). removed (names p) t) (sym c.as_slice.ensures.value)
