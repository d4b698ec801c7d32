-- One byte more is done, and in the end no text is left.
use Rattle.std.proofs.Common.{◌+◌, arith, false, get_or, refl}
use Rattle.toml_edit_settings.proofs.RowLaws.{end_put, itself_there, put_above}
use Rattle.toml_edit_settings.proofs.pattern.put_itself.Goals as goal

pub bytes-preserved : goal.bytes-preserved
bytes-preserved c = λ is_such rests.
    let row = c.bytes.row in
    let i = c.bytes.at in
    let known = c.bytes.invariant is_such rests in
    put_above i c.itself_at.result (omega arith) known
    (itself_there is_such c.args.path.now i (omega arith) c.args.byte (get_or row (i + 1) false) c.itself_at.result (known.after (i + 1) (omega arith) (omega arith)) c.itself_at.ensures)

pub returns : goal.returns
returns c = λ is_such rests. end_put c.bytes.at (omega arith) (omega arith) (c.bytes.invariant is_such rests) refl
