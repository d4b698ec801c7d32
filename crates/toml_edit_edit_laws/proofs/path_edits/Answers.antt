-- Calls by paths, as edits.
use Rattle.toml_edit_edit_laws.proofs.path_calls.Setting.{set_replaces, set_adds_under, set_adds_after_lines}
use Rattle.toml_edit_edit_laws.proofs.path_calls.Removing.{remove_edits}
use Rattle.toml_edit_edit_laws.proofs.headers.Setting.{set_adds_table}
use Rattle.toml_edit_edit_laws.proofs.path_calls.Keys.{move_edits, rename_edits}
use Rattle.toml_edit_edit_laws.proofs.path_calls.Names.{one_call_more, root_is_named, tables_are_named}
use Rattle.toml_edit_edit_laws.proofs.path_edits.Goals as goal

pub returns : goal.returns
returns c =
    record {
      replaces = set_replaces;
      adds = set_adds_under;
      adds_after_lines = set_adds_after_lines;
      adds_table = set_adds_table;
      removes = remove_edits;
      renames = rename_edits;
      moves = move_edits;
      more = one_call_more;
      root = root_is_named;
      named = tables_are_named;
    }
