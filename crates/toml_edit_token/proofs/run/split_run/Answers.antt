use Rattle.toml_edit_token.proofs.ClassLaws.{IsCharBoundary-run}
use Rattle.toml_edit_token.proofs.run.split_run.Goals as goal

pub split_at-requires : goal.split_at-requires
split_at-requires c =
    rw (c.short_run_len.ensures.len, c.as_bytes.ensures.value) (IsCharBoundary-run c.args.class c.args.s.now c.utf8.s)
