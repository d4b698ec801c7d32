-- The last operand of all options is that of the rest, or else the one that was found.
use Rattle.std.proofs.Common.{◌≡◌, drop, map}
use Rattle.std.specs.Option.{option_copied}
use Rattle.toml_edit_files.specs.Split.{last_from, last_of, split_of}
use Rattle.toml_edit_files.proofs.SplitLaws.{option_of}
use Rattle.toml_edit_files.proofs.split.Split.last.Given as goal

abbrev pub invariant-options : goal.invariant-options
invariant-options l =
    last_of l.name (split_of l.self).options ≡ last_from (option_copied l.last) l.name (map option_of (drop l.option-index l.option-items))
