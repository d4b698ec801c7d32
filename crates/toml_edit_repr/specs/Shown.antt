-- What is shown of a scalar.
use Rattle.std.specs.Prelude.{[], ◌++◌}
use Rattle.toml_edit_model.specs.Text.{Text}
use Rattle.toml_edit_model.specs.Scalars.{Scalar}
use Rattle.toml_edit_model.specs.Mode.{plain}
use Rattle.toml_edit_model.specs.Tree.{shown_prefix, shown_suffix, scalar_text}
use Rattle.toml_edit_repr.specs.Views.{FormattedView}

-- its shown spelling between the shown sides of its decor, which are empty by default
abbrev pub formatted_text : {X : Type 0} → (X → Scalar) → FormattedView X → Text
formatted_text scalar v =
    shown_prefix plain [] v.decor
    ++ (scalar_text (scalar v.value) v.repr ++ shown_suffix plain [] v.decor)
