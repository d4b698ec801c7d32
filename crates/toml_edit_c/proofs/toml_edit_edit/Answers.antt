-- What is made is given to the caller, or the number of the edit that is refused.
use Rattle.std.proofs.Common.{◌≡◌}
use Rattle.toml_edit_c.specs.Scripts.{IsEditedBy, StopsEditBy}
use Rattle.toml_edit_c.specs.declared.answer.EditStop.{EditStop}
use Rattle.toml_edit_c.proofs.Outcomes.{given, numbered, unanswered}
use Rattle.toml_edit_c.proofs.toml_edit_edit.Goals as goal

pub returns-clause-given : goal.returns-clause-given
returns-clause-given c =
    given c.give_edited.result c.args.room.now c.give_edited.new.room (λ (e : EditStop). e.stop) c.edit.result
    (IsEditedBy c.args.flags c.args.text.now c.args.script.now) c.edit.ensures.made c.give_edited.ensures.text c.give_edited.ensures.status

pub returns-clause-stopped : goal.returns-clause-stopped
returns-clause-stopped c =
    numbered c.give_edited.result c.args.room.now c.give_edited.new.room c.edit.result (StopsEditBy c.args.flags c.args.text.now c.args.script.now)
    c.edit.ensures.stops c.give_edited.ensures.text c.give_edited.ensures.status c.give_edited.ensures.number

pub returns-clause-unanswered : goal.returns-clause-unanswered
returns-clause-unanswered c =
    unanswered c.give_edited.result c.args.room.now c.give_edited.new.room c.edit.result (c.give_edited.new.room ≡ c.args.room.now)
    c.give_edited.ensures.text c.give_edited.ensures.none
