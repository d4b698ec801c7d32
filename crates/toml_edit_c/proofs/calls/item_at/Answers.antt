-- What stands there is no path.
use Rattle.std.proofs.lemmas.Result.{err_from_is_err_and}
use Rattle.toml_edit.specs.DocumentView.{tree_owned}
use Rattle.toml_edit_c.proofs.Items.{no-path}
use Rattle.toml_edit_c.proofs.calls.item_at.Goals as goal

pub returns-in_err-keys-clause-stops : goal.returns-in_err-keys-clause-stops
returns-in_err-keys-clause-stops c =
    let q = err_from_is_err_and c.from_residual.result c.from_residual.ensures.1 in
    rw (q.1, q.2)
    (no-path c.args.path.now (tree_owned c.args.document.now) c.in_err-keys.field-0.0 c.is_empty.result c.is_empty.ensures c.if-is_empty.false
    c.in_err-keys.ensures.stops)
