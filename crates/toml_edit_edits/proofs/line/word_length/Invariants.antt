-- The bytes up to here are in the word.
use Rattle.std.proofs.Common.{◌≡◌, ◌++◌, None, false, drop, take}
use Rattle.toml_edit_edits.specs.LineWords.{word_from}
use Rattle.toml_edit_edits.proofs.line.word_length.Given as goal

abbrev pub invariant-loop-at : goal.invariant-loop-at
invariant-loop-at l = word_from None false l.line ≡ take l.at l.line ++ word_from l.quote l.escaped (drop l.at l.line)
