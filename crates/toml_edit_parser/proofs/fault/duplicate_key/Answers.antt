-- The message is one of those that there are.
use Rattle.std.proofs.Common.{lit<, refl, inr}
use Rattle.toml_edit_model.specs.Version.{v1_1}
use Rattle.toml_edit_parser.proofs.fault.duplicate_key.Goals as goal

pub returns-clause-refused : goal.returns-clause-refused
returns-clause-refused c = c.refusal.ensures.refused v1_1 (inr (0, lit< tt, refl))
