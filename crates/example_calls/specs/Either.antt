-- Tables of either kind.
use Rattle.std.specs.Prelude.{List, Option, None, Some, codes, option_and_then}
use Rattle.toml_edit.specs.model.Lists.{slots_in}
use Rattle.toml_edit.specs.model.Slots.{Slot}
use Rattle.toml_edit.specs.model.TableCalls.{get}
use Rattle.toml_edit.specs.model.TableLike.{like_old}
use Rattle.toml_edit.specs.model.Text.{Text}
use Rattle.toml_edit.specs.model.Tree.{Node}
use Rattle.toml_edit.specs.table_like.Kinds.{differences_of}
use Rattle.toml_edit.specs.tree.Casts.{text_in}

-- the text under `version`, or that of the item where it has no slots
abbrev pub version_among : Node → Option (List (Slot Node)) → Option Text
version_among n None = text_in n
version_among n (Some es) = option_and_then text_in (get (codes "version") es)

-- the version of a dependency
abbrev pub version_in : Node → Option Text
version_in n = version_among n (slots_in n)

-- the item under a key of a table of either kind
abbrev pub item_under : Text → Node → Option Node
item_under k n = option_and_then (like_old (differences_of n) k) (slots_in n)
