-- What is made is given to the caller.
use Rattle.toml_edit_c.specs.Spelled.{IsStringSpelling, StopsSpelling}
use Rattle.toml_edit_c.proofs.Outcomes.{answers}
use Rattle.toml_edit_c.proofs.spelled.toml_edit_string.Goals as goal

pub returns : goal.returns
returns c =
    answers c.give.result c.args.room.now c.give.new.room c.string.result (IsStringSpelling c.args.text.now) (StopsSpelling c.args.text.now)
    c.string.ensures.made c.string.ensures.stops c.give.ensures.text c.give.ensures.status c.give.ensures.none
