-- The comments beside a key, a value or a header changed.
use Rattle.toml_edit_edit_laws.proofs.comments.Facts.{recommented_means}
use Rattle.toml_edit_edit_laws.proofs.comments.HeaderPrints.{header_recommented, hidden_recommented, root_recommented, keeps_header}
use Rattle.toml_edit_edit_laws.proofs.comments.HeaderSlots.{header_recommented_means, header_recommented_stays_made}
use Rattle.toml_edit_edit_laws.proofs.comments.Lines.{before_line, after_line}
use Rattle.toml_edit_edit_laws.proofs.comments.Values.{line_recommented, recommented_stays_made}
use Rattle.toml_edit_edit_laws.proofs.commented.Goals as goal

pub returns : goal.returns
returns c =
    record {
      meaning = recommented_means;
      made = recommented_stays_made;
      line = line_recommented;
      before = before_line;
      after = after_line;
      header_meaning = header_recommented_means;
      header_made = header_recommented_stays_made;
      header = header_recommented;
      header_frame = keeps_header;
      hidden = hidden_recommented;
      root = root_recommented;
    }
