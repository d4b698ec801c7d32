-- One text more is held, or there was no room for it.
use Rattle.std.proofs.Common.{sym, ap, ◌∙◌}
use Rattle.toml_edit_io.proofs.Puts.{put_once}
use Rattle.toml_edit_io.proofs.SinkLaws.{writes_held, writes_from, if_ok, if_err}
use Rattle.toml_edit_io.proofs.sinks.WrittenSink.put.Goals as goal

pub returns-then-is_err : goal.returns-then-is_err
returns-then-is_err g c =
    let stays = if_err _ _ (sym c.is_err.ensures.value ∙ c.if-is_err.true) c.try_push_str.ensures.err in
    put_once _ _ _ (writes_from g.O.Output.contents g.O.Output.has_failed _ _ _ _ _ _ _ _ (ap (λ s. s.bytes) stays)
    c.put_without_room.ensures)

pub returns-else-is_err : goal.returns-else-is_err
returns-else-is_err g c =
    put_once _ _ _ (writes_held g.O.Output.contents g.O.Output.has_failed _ _ _ _ _ (if_ok _ _ (sym c.is_err.ensures.value
    ∙ c.if-is_err.false) c.try_push_str.ensures.ok))
