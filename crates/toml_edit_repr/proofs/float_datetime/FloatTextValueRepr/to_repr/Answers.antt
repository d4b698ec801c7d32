-- A float spells itself.
use Rattle.toml_edit_laws.proofs.spellings.DefaultLaws.{default_float_spells}
use Rattle.toml_edit_repr.proofs.float_datetime.FloatTextValueRepr.to_repr.Goals as goal

pub returns-clause-spelled : goal.returns-clause-spelled
returns-clause-spelled c = ∣ default_float_spells c.args.self.now c.as_str.ensures.float ∣₁
