-- What is made is given to the caller.
use Rattle.toml_edit_c.specs.Items.{AreKeysBy, StopsKeysBy}
use Rattle.toml_edit_c.proofs.Outcomes.{answers}
use Rattle.toml_edit_c.proofs.list.toml_edit_keys.Goals as goal

pub returns : goal.returns
returns c =
    answers c.give.result c.args.room.now c.give.new.room c.keys.result (AreKeysBy c.args.flags c.args.text.now c.args.path.now)
    (StopsKeysBy c.args.flags c.args.text.now c.args.path.now) c.keys.ensures.made c.keys.ensures.stops c.give.ensures.text c.give.ensures.status
    c.give.ensures.none
