-- What is reported of a misfit.
use Rattle.std.specs.Prelude.{◌++◌, codes, flat_map}
use Rattle.toml_edit.specs.fits.Misfits.{MisfitView, rule_text}
use Rattle.toml_edit.specs.model.Text.{Text}

-- each key of its path, and the rule
abbrev pub report_of : MisfitView → Text
report_of m = flat_map (λ k. k.name ++ codes ": ") m.path ++ rule_text m.rule
