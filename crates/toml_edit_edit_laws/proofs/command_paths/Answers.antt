-- Paths in the tree of what was read.
use Rattle.toml_edit_edit_laws.proofs.commands.Filled.{paths_have_ways, read_has_no_placeholders}
use Rattle.toml_edit_edit_laws.proofs.commands.Finding.{one_text_names, decimals_name, ways_have_paths}
use Rattle.toml_edit_edit_laws.proofs.command_paths.Goals as goal

pub returns : goal.returns
returns c = record {
  one_text = one_text_names;
  decimals = decimals_name;
  ways = ways_have_paths;
  tables = paths_have_ways;
  filled =
      read_has_no_placeholders;
}
