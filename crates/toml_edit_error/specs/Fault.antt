-- The errors of a call that reads a text.
use Rattle.std.specs.Prelude.{◌++◌, codes}
use Rattle.toml_edit_model.specs.Text.{Text, newline}
use Rattle.toml_edit_model.specs.Excerpt.{excerpt}
use Rattle.toml_edit_error.specs.Report.{Report}
use Rattle.toml_edit_error.specs.declared.toml_error.ParseFault.{ParseFault}
use Rattle.toml_edit_error.specs.declared.toml_error.ParseFault.TheVariants.{Toml, Memory}

-- the error is of the text, and its report has this property; out of memory has no report
abbrev pub IfToml : ParseFault → (Report → Type 0) → Type 0
IfToml (Toml e) P = P e
IfToml Memory P = Unit {0}

-- what is shown of it
abbrev pub fault_text : ParseFault → Text
fault_text (Toml e) = excerpt e.input e.span e.message
fault_text Memory = codes "out of memory" ++ newline
