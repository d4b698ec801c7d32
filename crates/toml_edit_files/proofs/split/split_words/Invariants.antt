-- The words to come are split from where the others left off.
use Rattle.std.proofs.Common.{◌≡◌, drop, map, string_bytes}
use Rattle.toml_edit_files.specs.Split.{split_of, split_words, steps}
use Rattle.toml_edit_files.proofs.split.split_words.Given as goal

abbrev pub invariant-words : goal.invariant-words
invariant-words l =
    split_words l.topic (map string_bytes l.words) ≡ steps l.topic (split_of l.split) (map string_bytes (drop l.word-index l.words))
