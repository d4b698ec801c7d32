-- The options up to here set the rules, and those to come the others.
use Rattle.std.proofs.Common.{drop, map}
use Rattle.toml_edit_files.specs.Split.{split_of}
use Rattle.toml_edit_files.proofs.RuleLaws.{Sets}
use Rattle.toml_edit_files.proofs.SplitLaws.{option_of}
use Rattle.toml_edit_files.proofs.request.rules_of.Given as goal

abbrev pub invariant-options : goal.invariant-options
invariant-options l =
    Sets (split_of l.words).options (map option_of l.rules.items) (map option_of (drop l.option-index l.option-items))
