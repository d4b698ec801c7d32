-- What is left gets shorter.
use Rattle.std.proofs.Common.{◌≤◌, length}
use denote.Text.{Utf8}
use denote.Shadow.{shadow}
use Rattle.toml_edit_token.proofs.string.basic_stop.Given as goal

abbrev pub invariant-parts : goal.invariant-parts
invariant-parts l = shadow (Utf8 l.rest) × (length l.rest ≤ length l.fn.s)

abbrev pub decreases-parts : goal.decreases-parts
decreases-parts l = length l.rest
