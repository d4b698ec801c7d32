-- The paths of the names up to here.
use Rattle.std.proofs.Common.{◌≡◌, map, take, string_bytes}
use Rattle.toml_edit_files.specs.Walks.{below}
use Rattle.toml_edit_files.proofs.walk.below.Given as goal

abbrev pub invariant-names : goal.invariant-names
invariant-names l = map string_bytes l.paths.items ≡ below l.folder (map string_bytes (take l.name-index l.names))
