-- The files of the names up to here are found.
use Rattle.std.proofs.Common.{[], map, string_bytes, take}
use Rattle.toml_edit_files.specs.Folders.{OnlyLooks}
use Rattle.toml_edit_files.specs.Walks.{FindsEach, FindsMore, FindsNamed}
use Rattle.toml_edit_files.proofs.walk.files_of.Given as goal

abbrev pub invariant-names : goal.invariant-names
invariant-names g l =
    FindsMore (FindsEach FindsNamed (map (λ n. n.now) (take l.name-index l.names))) l.files.walked (g.F.Folder.history l.initial.folder)
    (g.F.Folder.history l.folder) [] (map string_bytes l.files.names.items)
    × OnlyLooks (g.F.Folder.history l.initial.folder) (g.F.Folder.history l.folder)
