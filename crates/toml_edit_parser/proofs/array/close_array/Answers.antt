use Rattle.std.proofs.Common.{◌∙◌}
use Rattle.toml_edit_tree.specs.View.{items_view, value_view}
use Rattle.toml_edit_parser.proofs.ReadLaws.{same_closes}
use Rattle.toml_edit_parser.proofs.ReadFits.{close_in, fits-array}
use Rattle.toml_edit_parser.proofs.ArrayLaws.{made_array}
use Rattle.toml_edit_parser.proofs.NearLaws.{near}
use Rattle.toml_edit_parser.proofs.array.close_array.Goals as goal

pub returns-clause-value : goal.returns-clause-value
returns-clause-value c =
    λ close more e.
    made_array c.args.opening.start c.in-Some.close close (items_view c.args.values.items) c.in-Some.rest.now more
    (value_view c.array_value.result)
    (same_closes c.in-Some.close close c.in-Some.rest.now more (c.in-Some.ensures ∙ e)) c.array_value.ensures

pub returns-clause-fits : goal.returns-clause-fits
returns-clause-fits c =
    λ fits. fits-array c.args.reader.now.source.now (value_view c.array_value.result) c.args.opening.start c.in-Some.close
    (items_view c.args.values.items) c.array_value.ensures
    (close_in c.args.reader.now.source.now c.args.events.now c.in-Some.close c.in-Some.rest.now c.in-Some.ensures c.requires).0 fits

pub array_value-requires : goal.array_value-requires
array_value-requires c =
    near c.args.reader.now.source.now c.in-Some.close.inner c.args.reader.now.short
    (close_in c.args.reader.now.source.now c.args.events.now c.in-Some.close c.in-Some.rest.now c.in-Some.ensures c.requires).0
