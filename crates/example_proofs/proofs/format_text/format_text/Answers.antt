-- The text is formatted by the cut by which it is accepted.
use Rattle.std.proofs.Common.{◌∙◌, ap}
use Rattle.toml_edit_model.specs.Syntax.{document_text}
use Rattle.toml_edit_fmt_laws.specs.Aligned.{formatted, pads_as}
use Rattle.toml_edit_fmt_laws.specs.Rules.{default_rules}
use Rattle.example_proofs.proofs.format_text.format_text.Goals as goal

pub returns-in-Ok-clause-formatted : goal.returns-in-Ok-clause-formatted
returns-in-Ok-clause-formatted c =
    let reading = c.in_ok-from_str.ensures.accepted.reading in
    let d = reading.document in
    let pads = pads_as default_rules.comments default_rules d in
    record {
      document = d;
      accepted = reading.accepted;
      made = c.in-Ok.ensures.formatted d reading.accepted.0 ∙ ap (λ r. document_text (formatted r d)) c.default.ensures;
      stays = c.formatted_texts.ensures.again default_rules c.args.text.now d reading.accepted;
      comments = c.formatted.ensures.comments default_rules pads d reading.accepted.0.0;
      places = c.formatted_places.ensures.kept default_rules pads d reading.accepted.0.0;
    }
