-- A text in which no carriage return is found has none.
use Rattle.std.proofs.Common.{sym, ap, ◌∙◌}
use Rattle.toml_edit_model.specs.Text.{has_byte, carriage_return}
use Rattle.toml_edit_repr.proofs.ReturnLaws.{without_absent}
use Rattle.toml_edit_repr.proofs.write.has_return.Goals as goal

pub returns : goal.returns
returns c h =
    without_absent c.args.text.now (sym (c.contains.ensures.value ∙ ap (has_byte carriage_return) c.as_bytes.ensures.value) ∙ h)
