-- The spelling of a key, which may be dropped.
use Rattle.std.specs.Prelude.{Bool, Option, None, if◌then◌else◌}
use Rattle.toml_edit_model.specs.Tree.{Raw}

-- none where the default spelling was asked for, else this one
abbrev pub kept : Bool → Option Raw → Option Raw
kept is_default spelling = if is_default then None else spelling
