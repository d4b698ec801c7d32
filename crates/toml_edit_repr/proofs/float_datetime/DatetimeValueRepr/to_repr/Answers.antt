-- The default spelling spells the date or time, which exists.
use Rattle.toml_edit_laws.proofs.spellings.DefaultLaws.{default_datetime_spells}
use Rattle.toml_edit_datetime.specs.DatetimeView.{datetime_view}
use Rattle.toml_edit_repr.proofs.float_datetime.DatetimeValueRepr.to_repr.Goals as goal

pub returns-clause-spelled : goal.returns-clause-spelled
returns-clause-spelled c = ∣ default_datetime_spells (datetime_view c.args.self.now) c.args.self.now.real ∣₁
