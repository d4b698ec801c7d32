-- The default spelling spells the integer, which has 64 bits.
use Rattle.toml_edit_laws.proofs.spellings.DefaultLaws.{default_integer_spells}
use Rattle.toml_edit_repr.proofs.Integers.{integer_fits}
use Rattle.toml_edit_repr.proofs.string_integer_boolean.integer_repr.Goals as goal

pub returns-clause-spelled : goal.returns-clause-spelled
returns-clause-spelled c =
    ∣ default_integer_spells c.args.value (integer_fits c.args.value c.ranges.value) ∣₁
