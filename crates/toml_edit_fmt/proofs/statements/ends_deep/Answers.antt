-- The last event is the one that tells.
use Rattle.std.proofs.Common.{ap, sym, ◌∙◌}
use Rattle.toml_edit_syntax.specs.ValueEvents.{is_too_deep}
use Rattle.toml_edit_fmt.proofs.WalkLaws.{last-deep, not-deep}
use Rattle.toml_edit_fmt.proofs.statements.ends_deep.Goals as goal

pub returns-in-TooDeep : goal.returns-in-TooDeep
returns-in-TooDeep c = let h = c.in-TooDeep.is in sym (last-deep c.args.events.now _ c.in-len1-up.len_at_least ∙ ap is_too_deep h)

pub returns-in_default : goal.returns-in_default
returns-in_default c = let h = c.in_default.not-TooDeep in sym (last-deep c.args.events.now _ c.in-len1-up.len_at_least ∙ not-deep _ h)
