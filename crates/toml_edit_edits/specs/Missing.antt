-- Where a path leads to nothing.
use Rattle.std.specs.Prelude.{ℕ, suc, Bool, false, not, ◌&&◌, List, [], ◌∷◌, drop}
use Rattle.std.specs.Char.{is_ascii_digit}
use Rattle.std.specs.Option.{option_map_or}
use Rattle.std.specs.List.{list_all, list_any}
use Rattle.toml_edit_model.specs.Keys.{names}
use Rattle.toml_edit_model.specs.Text.{Text, is_empty}
use Rattle.toml_edit_model.specs.Tree.{Key, Node, Tree}
use Rattle.toml_edit_edit_laws.specs.Commands.{child, root_item}

-- how many keys of a path lead to an item, one after another
abbrev pub keys_there : List Text → Node → ℕ
keys_there [] n = 0
keys_there (k ∷ path) n = option_map_or (λ m. suc (keys_there path m)) (child k n) 0

-- the keys from the first that leads to nothing
abbrev pub unled : List Key → Tree → List Key
unled path t = drop (keys_there (names path) (root_item t)) path

-- A number is that of an element, so it names no key of a table that is made.
abbrev pub is_number : Text → Bool
is_number k = not (is_empty k) && list_all is_ascii_digit k

abbrev pub has_number : List Key → Bool
has_number path = list_any is_number (names path)

abbrev pub is_numbered : List Key → Bool
is_numbered [] = false
is_numbered (k ∷ more) = has_number more
