-- The words of an edit that takes a value.
use Rattle.std.proofs.Common.{◌∷◌, [], refl}
use Rattle.toml_edit_parser.specs.Options.{version_of}
use Rattle.toml_edit_edits.specs.Said.{value_name}
use Rattle.toml_edit_edits.proofs.read_edit.value_edit.Goals as goal

pub returns-in-Ok-clause-said : goal.returns-in-Ok-clause-said
returns-in-Ok-clause-said c =
    λ path spelled.
    c.valued.ensures (version_of c.args.options) (value_name c.args.verb ∷ path ∷ c.args.value.now ∷ [])
    (path, c.args.value.now, refl, spelled, c.in-Ok.ensures.spelled)
