-- The options up to here ask for the sorts.
use Rattle.std.proofs.Common.{map, take}
use Rattle.toml_edit_files.specs.Requests.{AreSorts}
use Rattle.toml_edit_files.proofs.SplitLaws.{option_of}
use Rattle.toml_edit_files.proofs.request.sorts_of.Given as goal

abbrev pub invariant-options : goal.invariant-options
invariant-options l = AreSorts (map option_of (take l.option-index l.option-items)) l.sorts.items
