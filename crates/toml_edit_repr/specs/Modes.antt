-- The mode of the definitions that a mode of the code is.
use Rattle.toml_edit_model.specs.Mode.{Mode, plain, exact}
use Rattle.toml_edit_repr.specs.declared.mode.Mode as declared
use Rattle.toml_edit_repr.specs.declared.mode.Mode.TheVariants.{Plain, Exact}

abbrev pub mode_of : declared.Mode → Mode
mode_of Plain = plain
mode_of Exact = exact
