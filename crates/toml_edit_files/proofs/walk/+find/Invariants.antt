-- The files below the names up to here are found.
use Rattle.std.proofs.Common.{Bool, false, map, string_bytes, take, ◌-◌}
use Rattle.toml_edit_files.specs.Folders.{OnlyLooks}
use Rattle.toml_edit_files.specs.Walks.{Finds, FindsEach, FindsMore}
use Rattle.toml_edit_files.proofs.walk.+find.Given as goal

abbrev pub decreases-find : goal.decreases-find
decreases-find g l = l.depth

abbrev pub invariant-below : goal.invariant-below
invariant-below g l =
    ((walked : Bool) × FindsMore (FindsEach (Finds (l.depth - 1) false) (map string_bytes (take l.path-index l.below))) walked
    (g.F.Folder.history l.initial.folder) (g.F.Folder.history l.folder) (map string_bytes l.initial.files.items) (map string_bytes l.files.items))
    × OnlyLooks (g.F.Folder.history l.initial.folder) (g.F.Folder.history l.folder)
