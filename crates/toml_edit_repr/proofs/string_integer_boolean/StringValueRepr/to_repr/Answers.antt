-- The default spelling spells the value.
use Rattle.std.proofs.Common.{string_bytes}
use Rattle.toml_edit_laws.proofs.spellings.DefaultLaws.{default_string_spells}
use Rattle.toml_edit_repr.proofs.string_integer_boolean.StringValueRepr.to_repr.Goals as goal

pub returns-clause-spelled : goal.returns-clause-spelled
returns-clause-spelled c = ∣ default_string_spells (string_bytes c.args.self.now) ∣₁
