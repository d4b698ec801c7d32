-- What stands there is what is read there.
use Rattle.toml_edit_token.proofs.Ends.{key_found, key_only}
use Rattle.toml_edit_token.proofs.token.after_key.Goals as goal

pub returns-clause-found : goal.returns-clause-found
returns-clause-found c = key_found (λ r. r.now) c.args.s.now c.after_run_or_string.result c.after_run_or_string.ensures.rest

pub returns-clause-only : goal.returns-clause-only
returns-clause-only c = key_only (λ r. r.now) c.args.s.now c.after_run_or_string.result c.after_run_or_string.ensures.rest
