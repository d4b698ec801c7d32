-- `set` at a path of the tree of what was read.
use Rattle.toml_edit_edit_laws.proofs.commands.Setting.{set_changes, set_adds}
use Rattle.toml_edit_edit_laws.proofs.commands.Keeping.{set_keeps_the_rest}
use Rattle.toml_edit_edit_laws.proofs.commands.Apart.{set_keeps_items}
use Rattle.toml_edit_edit_laws.proofs.commands.ReadingBack.{set_reads_back}
use Rattle.toml_edit_edit_laws.proofs.commands.Finding.{get_after_set}
use Rattle.toml_edit_edit_laws.proofs.commands.Refusing.{set_refuses}
use Rattle.toml_edit_edit_laws.proofs.commands.Stepping.{set_steps}
use Rattle.toml_edit_edit_laws.proofs.command_sets.Goals as goal

pub returns : goal.returns
returns c =
    record {
      change = set_changes;
      new_key = set_adds;
      rest = set_keeps_the_rest;
      items = set_keeps_items;
      back = set_reads_back;
      steps = set_steps;
      found = get_after_set;
      refuses = set_refuses;
    }
