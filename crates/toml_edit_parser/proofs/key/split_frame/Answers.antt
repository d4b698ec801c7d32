-- A pair is split after its key, step by step.
use Rattle.std.proofs.Common.{List, ap, take, drop, ◌∙◌}
use Rattle.std.specs.Prelude.{option_and_then}
use Rattle.toml_edit_syntax.specs.declared.event.Event.{Event}
use Rattle.toml_edit_parser.specs.PairRead.{frame_behind}
use Rattle.toml_edit_parser.proofs.PairLaws.{frame-behind}
use Rattle.toml_edit_parser.proofs.key.split_frame.Goals as goal

pub returns : goal.returns
returns c =
    let events = c.args.events.now in
    let leading = c.args.leading in
    let signs = c.split_at.result.1.now in
    frame-behind leading c.split_at.result.0.now signs c.in_ok-sign.rest.now c.in_ok-value.field-0-1.now c.in_ok-last.last.now
    c.in_ok-sign.sign c.in_ok-value.value
    c.between.result c.between-2.result c.in_ok-last.ensures.value c.in_ok-sign.ensures c.in_ok-value.ensures c.between.ensures
    c.between-2.ensures
    ∙ ap (λ (path : List Event). frame_behind leading path signs) c.split_at.ensures.front
    ∙ ap (λ (behind : List Event). frame_behind leading (take c.in_ok-path_end.field-0 events) behind) c.split_at.ensures.back
    ∙ ap (option_and_then (λ at. frame_behind leading (take at events) (drop at events))) c.in_ok-path_end.ensures.place
