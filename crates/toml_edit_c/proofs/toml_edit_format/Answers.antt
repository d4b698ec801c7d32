-- What is made is given to the caller.
use Rattle.toml_edit_c.specs.Formats.{IsFormattedBy}
use Rattle.toml_edit_c.specs.Made.{StopsReadingBy}
use Rattle.toml_edit_c.proofs.Outcomes.{answers}
use Rattle.toml_edit_c.proofs.toml_edit_format.Goals as goal

pub returns : goal.returns
returns c =
    answers c.give.result c.args.room.now c.give.new.room c.format.result (IsFormattedBy c.args.flags c.args.text.now)
    (StopsReadingBy c.args.flags c.args.text.now) c.format.ensures.made c.format.ensures.stops c.give.ensures.text c.give.ensures.status
    c.give.ensures.none
