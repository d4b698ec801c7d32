-- The version of the definitions that a version of the code is.
use Rattle.toml_edit_model.specs.Version.{Version, v1_0, v1_1}
use Rattle.toml_edit_syntax.specs.declared.version.grammar.Version as declared
use Rattle.toml_edit_syntax.specs.declared.version.grammar.Version.TheVariants.{V1_0, V1_1}

abbrev pub grammar : declared.Version → Version
grammar V1_0 = v1_0
grammar V1_1 = v1_1
