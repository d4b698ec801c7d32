-- A text that comes behind others where it is new.
use Rattle.std.proofs.Common.{◌≡◌, ℕ, List, [], ◌∷◌, ◌++◌, Some, None, Result, Ok, Err, OnErr, refl}
use Rattle.toml_edit_model.specs.Text.{Text}
use Rattle.toml_edit_slots.specs.Slots.{place_in}
use Rattle.toml_edit_slots.specs.SlotIndex.{with_text}

-- what holds anyway holds of an error
pub err_too : {X E P : Type 0} (r : Result X E) → P → OnErr r P
err_too (Ok x) p = tt
err_too (Err e) p = p

pub with_text-new : (u : Text) (us : List Text) → place_in u us ≡ None → with_text u us ≡ us ++ u ∷ []
with_text-new u us h = rw h refl

pub with_text-there : (u : Text) (us : List Text) (i : ℕ) → place_in u us ≡ Some i → with_text u us ≡ us
with_text-there u us i h = rw h refl
