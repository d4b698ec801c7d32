-- The parts of a watched stream.
use Rattle.std.specs.Prelude.{Bool}
use Rattle.toml_edit_io.specs.declared.watch.Watched.{Watched}

-- the reader or writer
abbrev pub watched_inner : {T : Type 0} → Watched T → T
watched_inner w = w.inner

-- a fault has come
abbrev pub watched_fault : {T : Type 0} → Watched T → Bool
watched_fault w = w.failed
