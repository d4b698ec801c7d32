-- The keys up to here, and those to come, are all of them.
use Rattle.std.proofs.Common.{◌≡◌, ◌++◌, drop, string_bytes}
use Rattle.toml_edit_items.specs.Below.{key_lines}
use Rattle.toml_edit_tree.specs.Indexed.{shown_slots}
use Rattle.toml_edit_items.proofs.below.key_lines.Given as goal

abbrev pub invariant-slots : goal.invariant-slots
invariant-slots l = string_bytes l.text ++ key_lines (shown_slots (drop l.slot-index l.entries)) ≡ key_lines (shown_slots l.entries)
