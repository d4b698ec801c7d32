-- A slot of a steady tree moved to a place among the others.
use Rattle.toml_edit_edit_laws.proofs.placing.Lists.{moved_stands, absent_stays, placed_stays}
use Rattle.toml_edit_edit_laws.proofs.placing.Moving.{moved_others, moved_stays_made}
use Rattle.toml_edit_edit_laws.proofs.placing.MovingLines.{moved_line}
use Rattle.toml_edit_edit_laws.proofs.placing.Meaning.{moved_means}
use Rattle.toml_edit_edit_laws.proofs.placing.Inside.{moved_inside}
use Rattle.toml_edit_edit_laws.proofs.moved.Goals as goal

pub returns : goal.returns
returns c =
    record {
      others = moved_others;
      inside = moved_inside;
      line = moved_line;
      means = moved_means;
      made = moved_stays_made;
      stands = moved_stands;
      absent = absent_stays;
      placed = placed_stays;
    }
