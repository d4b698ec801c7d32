-- Formatted texts.
use Rattle.toml_edit_fmt_laws.proofs.Round.{formatted_text_again, formatted_tree_again}
use Rattle.toml_edit_fmt_laws.proofs.Settled.{stays_settled}
use Rattle.toml_edit_fmt_laws.proofs.formatted_texts.Goals as goal

pub returns : goal.returns
returns c = record { again = formatted_text_again; settled = stays_settled; trees = formatted_tree_again }
