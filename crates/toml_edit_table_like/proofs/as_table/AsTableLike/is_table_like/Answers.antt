-- Whether it is a table of either kind.
use Rattle.std.proofs.Common.{is_some, sym, ap, ◌∙◌}
use Rattle.toml_edit_table_like.specs.Refs.{ref_slots}
use Rattle.toml_edit_table_like.proofs.as_table.AsTableLike.is_table_like.Goals as goal
use Rattle.toml_edit_laws.proofs.common.OptionSteps.{is_some-map}

pub returns : goal.returns
returns g c = c.is_some.ensures ∙ sym (is_some-map ref_slots c.as_table_like.result) ∙ ap is_some c.as_table_like.ensures.slots
