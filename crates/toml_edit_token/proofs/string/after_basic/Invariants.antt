-- What is left is read as it is within the whole.
use Rattle.std.proofs.Common.{List, ℕ, ◌<◌, ◌≤◌, length}
use denote.Text.{Utf8}
use denote.Shadow.{shadow}
use Rattle.toml_edit_token.proofs.BasicLoop.{HasRead}
use Rattle.toml_edit_token.proofs.string.after_basic.Given as goal

abbrev pub invariant-parts : goal.invariant-parts
invariant-parts l =
    shadow (Utf8 l.rest) × (length l.rest ≤ length l.fn.s)
    × ((n : ℕ) → length l.fn.s < n → (out : List ℕ) × HasRead n l.fn.s out l.rest)

abbrev pub decreases-parts : goal.decreases-parts
decreases-parts l = length l.rest
