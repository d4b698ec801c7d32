-- Its text has a newline just where it is shown with one.
use Rattle.std.proofs.Common.{sym, ap, ◌∙◌}
use Rattle.toml_edit_model.specs.Text.{has_byte, line_feed}
use Rattle.toml_edit_fits.proofs.TriviaLaws.{newline-shown}
use Rattle.toml_edit_fits.proofs.trivia.has_newline.Goals as goal

pub returns : goal.returns
returns c mode = c.has_feed.ensures ∙ sym (newline-shown mode c.text_of.result.now) ∙ ap (has_byte line_feed) (c.text_of.ensures mode)
