-- The events are those of the text's one path.
use Rattle.std.proofs.Common.{◌≡◌, List, [], length, subst, arith}
use Rattle.std.proofs.lemmas.Grind.{common_steps}
use Rattle.toml_edit_syntax.specs.declared.event.Event.{Event}
use Rattle.toml_edit_syntax.specs.EventReading.{path_read, preceded}
use Rattle.toml_edit_syntax.specs.Gives.{StopsAs}
use Rattle.toml_edit_syntax.specs.LonePath.{ArePathEvents}
use Rattle.toml_edit_syntax.proofs.LonePathLaws.{are_events, are_spans, not_more, not_wrong}
use Rattle.toml_edit_syntax.proofs.lone_keys.lone_path.Goals as goal

pub returns-in-Ok-clause-cut : goal.returns-in-Ok-clause-cut
returns-in-Ok-clause-cut c =
    let none : length c.split_run-in-Ok.result.1.now ≡ 0 = grind (arith, common_steps) in
    are_events c.args.text.now c.split_run.result.0.now c.split_run.result.1.now c.split_run.ensures.parts c.split_run.ensures.lens
    c.new-events.result.items c.path.new.events.items c.in-Ok.rest.now c.new-events.ensures.items c.in-Ok.ensures.adds
    c.split_run-in-Ok.result.0.now c.split_run-in-Ok.result.1.now c.split_run-in-Ok.ensures.parts none

pub returns-in-Ok-clause-spans : goal.returns-in-Ok-clause-spans
returns-in-Ok-clause-spans c =
    let none : length c.split_run-in-Ok.result.1.now ≡ 0 = grind (arith, common_steps) in
    are_spans c.args.text.now c.split_run.result.0.now c.split_run-in-Ok.result.0.now c.path.new.events.items (are_events c.args.text.now
    c.split_run.result.0.now c.split_run.result.1.now c.split_run.ensures.parts c.split_run.ensures.lens
    c.new-events.result.items c.path.new.events.items c.in-Ok.rest.now c.new-events.ensures.items c.in-Ok.ensures.adds
    c.split_run-in-Ok.result.0.now c.split_run-in-Ok.result.1.now c.split_run-in-Ok.ensures.parts none)

pub returns-then-not-is_empty-clause-every : goal.returns-then-not-is_empty-clause-every
returns-then-not-is_empty-clause-every c =
    λ b p a is.
    let some : length c.split_run-in-Ok.result.1.now ≡ 0 → ⊥ = grind (arith, common_steps) in
    absurd (some (not_more c.args.text.now c.split_run.result.0.now c.split_run.result.1.now c.split_run.ensures.parts
    c.split_run.ensures.lens
    c.new-events.result.items c.path.new.events.items c.in-Ok.rest.now c.new-events.ensures.items c.in-Ok.ensures.adds
    c.split_run-in-Ok.result.0.now c.split_run-in-Ok.result.1.now c.split_run-in-Ok.ensures.parts b p a is))

pub returns-in-Err-Before-clause-every : goal.returns-in-Err-Before-clause-every
returns-in-Err-Before-clause-every c =
    λ b p a is.
    let t = c.args.text.now in
    let start = c.split_run.result.1.now in
    let old = c.new-events.result.items in
    let read = subst (StopsAs c.path.new.events.items (preceded old (path_read (length start) (length t) [] start)))
    c.in-Err-Before.field-0-is c.in-Err-Before.ensures.adds in
    absurd (not_wrong t c.split_run.result.0.now start c.split_run.ensures.parts c.split_run.ensures.lens old read b p a is)
