-- The elements that a list's items hold.
use Rattle.std.specs.Prelude.{◌≡◌, ℕ, Bool, false, List, Option, None, Some, option_and_then, slice_get}

-- the element at the place
abbrev pub element_at : {T E : Type 0} → (T → Option E) → ℕ → List T → Option E
element_at held i xs = option_and_then held (slice_get xs i)

-- what a `retain` says at an item: the answer for its element, and false where it holds none
abbrev pub SaysOfHeld : {E : Type 0} → (E → Bool → Type 0) → Option E → Bool → Type 0
SaysOfHeld says None b = b ≡ false
SaysOfHeld says (Some e) b = says e b
