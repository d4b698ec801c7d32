-- Keys that are spelled in another way than by default.
use Rattle.std.specs.Prelude.{ℕ, suc, ◌-◌, Bool, ◌==◌, ◌&&◌, if◌then◌else◌, nat_eq, List, [], Option, Some, None, drop, flat_map, fold, length, option_and_then, option_to_list}
use Rattle.std.specs.List.{starts_with}
use Rattle.toml_edit.specs.edits.Commands.{root_item}
use Rattle.toml_edit.specs.model.DefaultSpelling.{key_spelling}
use Rattle.toml_edit.specs.model.Excerpt.{position_in}
use Rattle.toml_edit.specs.model.Text.{Text}
use Rattle.toml_edit.specs.model.Tree.{Key, Raw, span, Tree}
use Rattle.toml_edit_visit.specs.Below.{Step, key, element, items_below}
use Rattle.example_proofs.specs.declared.misspelled.Place.{Place}

-- the line and the column of a byte, from 1
abbrev pub place_at : Text → ℕ → Place
place_at source i = record { line = suc (position_in source i).line; column = suc (position_in source i).column }

-- the default spelling stands in the source, from this byte up to that one
abbrev pub has_default : Text → ℕ → ℕ → Text → Bool
has_default source i j default = (j - i == length default) && starts_with nat_eq (drop i source) default

-- the place of a key that has another spelling in the source
abbrev pub spelled_in : Text → Text → Option Raw → Option Place
spelled_in source default (Some (span i j)) = if has_default source i j default then None else Some (place_at source i)
spelled_in source default _ = None

abbrev pub misspelled_key : Text → Key → Option Place
misspelled_key source k = spelled_in source (key_spelling k.name) k.spelling

abbrev pub key_of : Step → Option Key
key_of (key k) = Some k
key_of (element i) = None

-- the last step, if it is a key
abbrev pub last_key : List Step → Option Key
last_key ss = option_and_then key_of (fold (λ _ s. Some s) None ss)

-- the place of the last key of these steps, if it has another spelling
abbrev pub misspelled_at : Text → List Step → Option Place
misspelled_at source ss = option_and_then (misspelled_key source) (last_key ss)

-- those of all keys of the tree, in order
abbrev pub misspelled_keys : Text → Tree → List Place
misspelled_keys source t = flat_map (λ x. option_to_list (misspelled_at source x.0)) (items_below [] (root_item t))
