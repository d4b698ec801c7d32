-- What sorts by groups promise.
use Rattle.toml_edit_fmt_laws.proofs.SortedAgain.{sorted_stays_document, sorted_again, formatted_stays_sorted, sorted_formatted_again}
use Rattle.toml_edit_fmt_laws.proofs.SortedComments.{sorted_keeps_comments}
use Rattle.toml_edit_fmt_laws.proofs.SortedGroups.{sorts_by_runs, keeps_statements}
use Rattle.toml_edit_fmt_laws.proofs.SortedMeans.{sorted_accepted_alike, sorted_means_the_same}
use Rattle.toml_edit_fmt_laws.proofs.sorted_by_groups.Goals as goal

pub returns : goal.returns
returns c =
    record {
      grammar = sorted_stays_document;
      accepted = sorted_accepted_alike;
      means = sorted_means_the_same;
      runs = sorts_by_runs;
      statements = keeps_statements;
      comments = sorted_keeps_comments;
      again = sorted_again;
      formatted = formatted_stays_sorted;
      twice = sorted_formatted_again;
    }
