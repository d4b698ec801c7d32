-- `remove` at a path of the tree of what was read.
use Rattle.toml_edit_edit_laws.proofs.commands.Removing.{remove_drops, remove_element_drops, remove_changes}
use Rattle.toml_edit_edit_laws.proofs.commands.Keeping.{remove_keeps_the_rest}
use Rattle.toml_edit_edit_laws.proofs.commands.Apart.{remove_keeps_items}
use Rattle.toml_edit_edit_laws.proofs.commands.ReadingBack.{remove_reads_back}
use Rattle.toml_edit_edit_laws.proofs.commands.Finding.{remove_finds, removed_was_there, remove_refuses}
use Rattle.toml_edit_edit_laws.proofs.command_removes.Goals as goal

pub returns : goal.returns
returns c =
    record {
      slot = remove_drops;
      element = remove_element_drops;
      inside = remove_changes;
      rest = remove_keeps_the_rest;
      items = remove_keeps_items;
      back = remove_reads_back;
      finds = remove_finds;
      was_there = removed_was_there;
      refuses = remove_refuses;
    }
