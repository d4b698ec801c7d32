-- The words to come are read from where the others left off.
use Rattle.std.proofs.Common.{◌≡◌, false, length, map, string_bytes}
use Rattle.toml_edit_files.specs.Requests.{reading_in}
use Rattle.toml_edit_files.proofs.request.reading_of.Given as goal

abbrev pub invariant-words : goal.invariant-words
invariant-words l =
    reading_in (record { strict = false; normal = false }) (map string_bytes l.words) ≡ reading_in l.reading (map string_bytes l.rest)

abbrev pub decreases-words : goal.decreases-words
decreases-words l = length l.rest
