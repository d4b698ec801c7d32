-- What formatting leaves.
use Rattle.toml_edit_fmt_laws.proofs.LinesKept.{formatted_keeps_places}
use Rattle.toml_edit_fmt_laws.proofs.OneLine.{stays_on_one_line}
use Rattle.toml_edit_fmt_laws.proofs.PlacedAll.{placed_texts_are_all}
use Rattle.toml_edit_fmt_laws.proofs.formatted_places.Goals as goal

pub returns : goal.returns
returns c = record { whole = placed_texts_are_all; kept = formatted_keeps_places; one_line = stays_on_one_line }
