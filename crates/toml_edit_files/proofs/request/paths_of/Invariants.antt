-- The texts up to here spell the paths.
use Rattle.std.proofs.Common.{map, take}
use Rattle.toml_edit_files.specs.Requests.{ArePaths}
use Rattle.toml_edit_files.proofs.request.paths_of.Given as goal

abbrev pub invariant-texts : goal.invariant-texts
invariant-texts l = ArePaths (map (λ t. t.now) (take l.text-index l.texts)) (map (λ path. path.items) l.paths.items)
