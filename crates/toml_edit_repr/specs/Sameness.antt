-- When texts, decors and scalars are equal, and what a hash takes in of them.
use Rattle.std.specs.Prelude.{ℕ, Bool, ◌&&◌, List, ◌++◌, Option}
use Rattle.std.specs.Option.{option_eq}
use Rattle.std.specs.Hash as fed
use Rattle.toml_edit_model.specs.Tree.{Raw, Decor}
use Rattle.toml_edit_repr.specs.Views.{FormattedView}
pub use Rattle.toml_edit_text.specs.RawText.{same_raw, raw_hash_input}

-- both are unset, or both are set, and equal
abbrev pub same_side : Option Raw → Option Raw → Bool
same_side = option_eq same_raw

abbrev pub same_decor : Decor → Decor → Bool
same_decor a b = same_side a.prefix b.prefix && same_side a.suffix b.suffix

-- their values, their spellings and their decors are equal
abbrev pub same_formatted : {X : Type 0} → (X → X → Bool) → FormattedView X → FormattedView X → Bool
same_formatted same a b =
    same a.value b.value && (same_side a.repr b.repr && same_decor a.decor b.decor)

abbrev pub side_hash_input : Option Raw → List (List ℕ)
side_hash_input = fed.option raw_hash_input

-- one side after the other
abbrev pub decor_hash_input : Decor → List (List ℕ)
decor_hash_input d = side_hash_input d.prefix ++ side_hash_input d.suffix

-- the value, the spelling and the decor
abbrev pub formatted_hash_input : {X : Type 0} → (X → List (List ℕ)) → FormattedView X
    → List (List ℕ)
formatted_hash_input input v = input v.value ++ (side_hash_input v.repr ++ decor_hash_input v.decor)
