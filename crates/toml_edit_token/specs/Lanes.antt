-- How many bytes pass a test, of those that are looked at in one step.
use Rattle.std.specs.Prelude.{◌≡◌, ℕ, ◌+◌, ◌<◌, ◌≤◌, ◌==◌, Bool, true, List, if◌then◌else◌, slice_index}
use Rattle.std.specs.Int.{trailing_zeros, w64}

-- the bytes from one place up to another pass the test
abbrev pub PassBetween : (ℕ → Bool) → List ℕ → ℕ → ℕ → Type 0
PassBetween test bytes at end = (k : ℕ) → at ≤ k → k < end → test (slice_index bytes k) ≡ true

-- at most so many bytes, and they pass the test
abbrev pub PassesIn : (ℕ → Bool) → List ℕ → ℕ → ℕ → ℕ → Type 0
PassesIn test bytes at most run = (run ≤ most) × PassBetween test bytes at (at + run)

-- the place of the lowest bit that is set, or this
abbrev pub first_set : ℕ → ℕ → ℕ
first_set mask most = if mask == 0 then most else trailing_zeros w64 mask
