-- The words so far, and those of the rest.
use Rattle.std.proofs.Common.{◌≡◌, ◌++◌, IsUtf8, length, map}
use Rattle.toml_edit_c.proofs.Splitting.{now_of}
use Rattle.toml_edit_c.specs.Split.{words_in}
use Rattle.toml_edit_c.proofs.given.split.Given as goal

abbrev pub invariant-loop-word : goal.invariant-loop-word
invariant-loop-word l = (map now_of l.words.items ++ words_in l.rest ≡ words_in l.text) × IsUtf8 l.rest

abbrev pub decreases-loop-word : goal.decreases-loop-word
decreases-loop-word l = length l.rest
