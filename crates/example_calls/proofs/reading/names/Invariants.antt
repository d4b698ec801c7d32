-- What is written, and the lines of the slots that are left, are the lines of the table.
use Rattle.std.proofs.Common.{◌≡◌, ◌++◌, string_bytes}
use Rattle.example_calls.specs.Names.{name_lines}
use Rattle.toml_edit.specs.model.Iterating.{filled_pairs}
use Rattle.toml_edit.specs.tree.Held.{held_left}
use Rattle.toml_edit.specs.tree.SlotsOf.{slots_of}
use Rattle.example_calls.proofs.reading.names.Given as goal

abbrev pub invariant-loop-name : goal.invariant-loop-name
invariant-loop-name l = string_bytes l.names ++ name_lines (held_left l.name-iterator) ≡ name_lines (filled_pairs (slots_of l.table))
