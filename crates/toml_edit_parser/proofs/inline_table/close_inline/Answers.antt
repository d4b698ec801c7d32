use Rattle.std.proofs.Common.{◌∙◌}
use Rattle.toml_edit_tree.specs.View.{slots_view, value_view}
use Rattle.toml_edit_parser.proofs.ReadLaws.{same_closes}
use Rattle.toml_edit_parser.proofs.ReadFits.{close_in}
use Rattle.toml_edit_parser.proofs.InlineLaws.{fits-inline, made_inline}
use Rattle.toml_edit_parser.proofs.NearLaws.{near}
use Rattle.toml_edit_parser.proofs.inline_table.close_inline.Goals as goal

pub returns-clause-value : goal.returns-clause-value
returns-clause-value c =
    λ close more e.
    made_inline c.args.opening.start c.in-Some.close close (slots_view c.args.slots) c.in-Some.rest.now more
    (value_view c.inline_value.result)
    (same_closes c.in-Some.close close c.in-Some.rest.now more (c.in-Some.ensures ∙ e)) c.inline_value.ensures

pub returns-clause-fits : goal.returns-clause-fits
returns-clause-fits c =
    λ fits. fits-inline c.args.reader.now.source.now (value_view c.inline_value.result) c.args.opening.start c.in-Some.close (slots_view c.args.slots)
    c.inline_value.ensures
    (close_in c.args.reader.now.source.now c.args.events.now c.in-Some.close c.in-Some.rest.now c.in-Some.ensures c.requires).0 fits

pub inline_value-requires : goal.inline_value-requires
inline_value-requires c =
    near c.args.reader.now.source.now c.in-Some.close.inner c.args.reader.now.short
    (close_in c.args.reader.now.source.now c.args.events.now c.in-Some.close c.in-Some.rest.now c.in-Some.ensures c.requires).0
