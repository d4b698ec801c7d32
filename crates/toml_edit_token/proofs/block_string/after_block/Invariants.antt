-- What is left is read as it is within the whole.
use Rattle.std.proofs.Common.{List, ℕ, ◌≤◌, length}
use denote.Text.{Utf8}
use denote.Shadow.{shadow}
use Rattle.toml_edit_laws.specs.reading.BlockReading.{block_at}
use Rattle.toml_edit_token.specs.BlockPieces.{GoesOn}
use Rattle.toml_edit_token.proofs.block_string.after_block.Given as goal

abbrev pub invariant-pieces : goal.invariant-pieces
invariant-pieces l =
    shadow (Utf8 l.rest) × (length l.rest ≤ length l.fn.s) × ((out : List ℕ) × GoesOn l.form (block_at l.fn.s) out l.rest)

abbrev pub decreases-pieces : goal.decreases-pieces
decreases-pieces l = length l.rest
