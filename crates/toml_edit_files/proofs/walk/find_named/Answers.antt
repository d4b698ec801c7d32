-- The name is the one of standard input, or another.
use Rattle.std.proofs.Common.{◌∙◌, sym}
use Rattle.toml_edit_files.proofs.WalkLaws.{finds-named, finds-stream}
use Rattle.toml_edit_files.proofs.walk.find_named.Goals as goal

pub returns-then-eq-clause-found : goal.returns-then-eq-clause-found
returns-then-eq-clause-found g c = finds-stream c.args.name.now _ _ _ (sym c.eq.ensures ∙ c.if-eq.true) c.in_ok-add.ensures
