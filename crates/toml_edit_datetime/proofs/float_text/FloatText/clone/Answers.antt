-- The copy has the text, and so it passes the test.
use Rattle.std.proofs.Common.{ap, ◌∙◌}
use Rattle.toml_edit_laws.specs.reading.FloatReading.{is_float_text}
use Rattle.toml_edit_laws.proofs.reading.FloatLaws.{float_again}
use Rattle.toml_edit_datetime.proofs.float_text.FloatText.clone.Goals as goal

pub invariant_of-result : goal.invariant_of-result
invariant_of-result c =
    ap is_float_text c.in_ok-from_text.ensures ∙ ap is_float_text c.as_str.ensures.text
    ∙ float_again c.args.self.now c.as_str.ensures.float
