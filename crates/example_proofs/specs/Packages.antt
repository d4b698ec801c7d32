-- The packages of a lock file, and their names.
use Rattle.std.specs.Fmt.{decimal}
use Rattle.std.specs.Option.{option_map_or}
use Rattle.std.specs.Prelude.{◌≡◌, ◌<◌, ℕ, Bool, false, true, List, [], ◌∷◌, Option, Some, None, codes, length, option_and_then}
use Rattle.toml_edit.specs.Edited.{replace_at}
use Rattle.toml_edit.specs.edits.Commands.{Answer, refused, no_such_path}
use Rattle.toml_edit.specs.model.Indexing.{indexed, text}
use Rattle.toml_edit.specs.model.Keys.{new_key}
use Rattle.toml_edit.specs.model.Lists.{item_list, slot_list}
use Rattle.toml_edit.specs.model.TableCalls.{get}
use Rattle.toml_edit.specs.model.TablesCalls.{table_at}
use Rattle.toml_edit.specs.model.Text.{Text, same_text}
use Rattle.toml_edit.specs.model.Tree.{Key, Node, Tree}
use Rattle.toml_edit.specs.tree.Casts.{text_in}
use Rattle.toml_edit.specs.tree.Containers.{tables_in}

-- the tables of the array `package`
abbrev pub packages_in : Tree → List Node
packages_in t =
    option_map_or (λ a. item_list a.items) (option_and_then tables_in (get (codes "package") (slot_list t.slots))) []

-- the string under `name` in the table at a place
abbrev pub name_at : ℕ → List Node → Option Text
name_at i ns = option_and_then text_in (option_and_then (indexed (text (codes "name"))) (table_at i ns))

abbrev pub is_named : Text → List Node → ℕ → Bool
is_named name ns i = option_map_or (λ x. same_text x name) (name_at i ns) false

-- the place is that of the first table of this name; or none has the name
abbrev pub IsFirstNamed : Text → List Node → Option ℕ → Type 0
IsFirstNamed name ns (Some i) = (is_named name ns i ≡ true) × ((j : ℕ) → j < i → is_named name ns j ≡ false)
IsFirstNamed name ns None = (j : ℕ) → j < length ns → is_named name ns j ≡ false

-- the path to the version of the package at a place
abbrev pub version_path : ℕ → List Key
version_path i = new_key (codes "package") ∷ new_key (decimal i) ∷ new_key (codes "version") ∷ []

-- the version there replaced
abbrev pub bumped : Node → Tree → Option ℕ → Answer Tree
bumped version t (Some i) = replace_at (version_path i) version t
bumped version t None = refused no_such_path
