-- The last character begins at the greatest place below the end where one does.
use Rattle.std.proofs.Common.{arith}
use Rattle.toml_edit_error.proofs.Cuts.{cut_of-last}
use Rattle.toml_edit_error.proofs.place.byte_within.Goals as goal

pub returns-else-byte-text-clause-cut : goal.returns-else-byte-text-clause-cut
returns-else-byte-text-clause-cut c =
    cut_of-last c.args.text.now c.args.byte c.floor_char_boundary.result (omega arith) (omega arith) c.floor_char_boundary.ensures.boundary
    (λ i l h. c.floor_char_boundary.ensures.nearest i l (omega arith))
