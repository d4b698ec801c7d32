-- What stands there is what is read there.
use Rattle.toml_edit_token.proofs.Ends.{scalar_found, scalar_only}
use Rattle.toml_edit_token.proofs.token.after_scalar.Goals as goal

pub returns-clause-found : goal.returns-clause-found
returns-clause-found c = scalar_found (λ r. r.now) c.args.s.now c.behind_scalar.result c.behind_scalar.ensures.rest

pub returns-clause-only : goal.returns-clause-only
returns-clause-only c = scalar_only (λ r. r.now) c.args.s.now c.behind_scalar.result c.behind_scalar.ensures.rest
