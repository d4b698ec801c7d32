-- What is left gets shorter.
use Rattle.std.proofs.Common.{◌≤◌, length}
use denote.Text.{Utf8}
use denote.Shadow.{shadow}
use Rattle.toml_edit_token.proofs.block_string.block_stop.Given as goal

abbrev pub invariant-pieces : goal.invariant-pieces
invariant-pieces l = shadow (Utf8 l.rest) × (length l.rest ≤ length l.fn.s)

abbrev pub decreases-pieces : goal.decreases-pieces
decreases-pieces l = length l.rest
