-- The words that are read are those of the parts up to here.
use Rattle.std.proofs.Common.{◌≡◌, ◌++◌, drop, map, string_bytes}
use Rattle.toml_edit_c.proofs.Splitting.{now_of}
use Rattle.toml_edit_c.specs.Split.{words_in}
use Rattle.toml_edit_c.proofs.run.words_of.Given as goal

abbrev pub invariant-loop-part : goal.invariant-loop-part
invariant-loop-part l = map string_bytes l.words.items ++ map now_of (drop l.part-index l.part-items) ≡ words_in l.bytes
