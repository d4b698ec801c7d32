-- What is left is read as it is within the whole, after what the string says up to here.
use Rattle.std.proofs.Common.{length, string_bytes}
use denote.Text.{Utf8}
use denote.Shadow.{shadow}
use Rattle.toml_edit_laws.specs.reading.BlockReading.{block_at}
use Rattle.toml_edit_token.specs.BlockPieces.{GoesOn}
use Rattle.toml_edit_token.proofs.block_string.read_block.Given as goal

abbrev pub invariant-pieces : goal.invariant-pieces
invariant-pieces l = shadow (Utf8 l.rest) × GoesOn l.form (block_at l.fn.text) (string_bytes l.value) l.rest

abbrev pub decreases-pieces : goal.decreases-pieces
decreases-pieces l = length l.rest
