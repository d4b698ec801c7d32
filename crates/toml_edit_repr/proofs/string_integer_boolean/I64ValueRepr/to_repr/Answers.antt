-- The default spelling spells the integer.
use Rattle.std.proofs.Common.{◌≡◌, rules, w64, to_z, of_z}
use Rattle.toml_edit_repr.proofs.string_integer_boolean.I64ValueRepr.to_repr.Goals as goal

pub returns-clause-spelled : goal.returns-clause-spelled
returns-clause-spelled c =
    let same : to_z w64 (of_z w64 c.args.self.now) ≡ c.args.self.now = search rules in
    rw same at c.integer_repr.ensures.spelled
