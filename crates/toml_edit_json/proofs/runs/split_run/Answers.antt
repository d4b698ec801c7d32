-- A run ends before a byte that is ASCII, or at the end.
use Rattle.toml_edit_json.proofs.Writing.{boundary_run}
use Rattle.toml_edit_json.proofs.runs.split_run.Goals as goal

pub split_at-requires : goal.split_at-requires
split_at-requires c =
    rw (c.run_length.ensures.len, c.as_bytes.ensures.value) (boundary_run c.args.form c.args.text.now)
