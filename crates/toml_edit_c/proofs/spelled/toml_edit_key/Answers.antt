-- What is made is given to the caller.
use Rattle.toml_edit_c.specs.Spelled.{IsKeySpelling, StopsSpelling}
use Rattle.toml_edit_c.proofs.Outcomes.{answers}
use Rattle.toml_edit_c.proofs.spelled.toml_edit_key.Goals as goal

pub returns : goal.returns
returns c =
    answers c.give.result c.args.room.now c.give.new.room c.key.result (IsKeySpelling c.args.name.now) (StopsSpelling c.args.name.now)
    c.key.ensures.made c.key.ensures.stops c.give.ensures.text c.give.ensures.status c.give.ensures.none
