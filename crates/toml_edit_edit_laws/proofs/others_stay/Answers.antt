-- What calls leave, one after another.
use Rattle.toml_edit_edit_laws.proofs.path_calls.Staying.{nothing_changes, one_after_another, edit_stays, after_lines_stays, renaming_stays}
use Rattle.toml_edit_edit_laws.proofs.path_calls.Staying.{insertion_stays, move_stays, comment_stays}
use Rattle.toml_edit_edit_laws.proofs.others_stay.Goals as goal

pub returns : goal.returns
returns c =
    record {
      none = nothing_changes;
      both = one_after_another;
      edit = edit_stays;
      after_lines = after_lines_stays;
      renaming = renaming_stays;
      insertion = insertion_stays;
      moving = move_stays;
      comment = comment_stays;
    }
