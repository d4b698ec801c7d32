-- What calls by paths mean.
use Rattle.toml_edit_edit_laws.proofs.commands.Finding.{item_after_set}
use Rattle.toml_edit_edit_laws.proofs.commands.Keeping.{set_keeps_the_rest}
use Rattle.toml_edit_edit_laws.proofs.means.Absent.{absent_means}
use Rattle.toml_edit_edit_laws.proofs.means.Keys.{move_means, rename_means}
use Rattle.toml_edit_edit_laws.proofs.means.Meant.{holder_is_meant, named_path, printed_is_meant, value_is_meant}
use Rattle.toml_edit_edit_laws.proofs.means.Removing.{remove_element_means, remove_keeps_rest, remove_last_means, remove_means}
use Rattle.toml_edit_edit_laws.proofs.means.Reordering.{reorder_means, sort_means, sorted_reorders}
use Rattle.toml_edit_edit_laws.proofs.means.Setting.{add_means, set_means}
use Rattle.toml_edit_edit_laws.proofs.path_means.Goals as goal

pub returns : goal.returns
returns c =
    record {
      found = item_after_set;
      made = λ t u path v w m s h. (set_keeps_the_rest t u path v w m s h).made;
      sets = set_means;
      adds = add_means;
      absent = absent_means;
      renames = rename_means;
      moves = move_means;
      removes = remove_means;
      removes_only = remove_keeps_rest;
      removes_element = remove_element_means;
      removes_last = remove_last_means;
      reorders = reorder_means;
      sorts = sort_means;
      sorted = sorted_reorders;
      named = named_path;
      printed = printed_is_meant;
      values = value_is_meant;
      holders = holder_is_meant;
    }
