-- The text passes the test, and so it is a float.
use Rattle.std.proofs.Common.{ap, sym, ◌∙◌}
use Rattle.toml_edit_laws.specs.reading.FloatReading.{is_float_text}
use Rattle.toml_edit_laws.proofs.reading.FloatLaws.{float_takes}
use Rattle.toml_edit_datetime.proofs.float_text.FloatText.as_str.Goals as goal

pub returns-clause-float : goal.returns-clause-float
returns-clause-float c = float_takes c.args.self.now (ap is_float_text (sym c.self.view_is) ∙ c.self.invariant)
