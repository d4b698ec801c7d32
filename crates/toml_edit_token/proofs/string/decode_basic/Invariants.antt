-- What is left is read as it is within the whole.
use Rattle.std.proofs.Common.{ℕ, ◌<◌, ◌≤◌, length, string_bytes}
use denote.Text.{Utf8}
use denote.Shadow.{shadow}
use Rattle.toml_edit_token.proofs.BasicLoop.{HasRead}
use Rattle.toml_edit_token.proofs.string.decode_basic.Given as goal

abbrev pub invariant-parts : goal.invariant-parts
invariant-parts l =
    shadow (Utf8 l.rest) × (length l.rest ≤ length l.fn.s)
    × ((n : ℕ) → length l.fn.s < n → HasRead n l.fn.s (string_bytes l.value) l.rest)

abbrev pub decreases-parts : goal.decreases-parts
decreases-parts l = length l.rest
