-- What formatting promises.
use Rattle.toml_edit_fmt_laws.proofs.Accepts.{accepted_alike}
use Rattle.toml_edit_fmt_laws.proofs.Again.{laid_again, formatted_again}
use Rattle.toml_edit_fmt_laws.proofs.Grammar.{stays_document}
use Rattle.toml_edit_fmt_laws.proofs.Means.{means_the_same}
use Rattle.toml_edit_fmt_laws.proofs.Off.{off_changes_nothing}
use Rattle.toml_edit_fmt_laws.proofs.Remarked.{keeps_remarks}
use Rattle.toml_edit_fmt_laws.proofs.formatted.Goals as goal

pub returns : goal.returns
returns c =
    record {
      grammar = stays_document;
      accepted = accepted_alike;
      means = means_the_same;
      comments = keeps_remarks;
      twice = laid_again;
      again = formatted_again;
      off = off_changes_nothing;
    }
