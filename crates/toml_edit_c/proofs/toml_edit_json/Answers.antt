-- What is made is given to the caller.
use Rattle.toml_edit_c.specs.Items.{IsJsonBy, StopsItemBy}
use Rattle.toml_edit_c.proofs.Outcomes.{answers}
use Rattle.toml_edit_c.proofs.toml_edit_json.Goals as goal

pub returns : goal.returns
returns c =
    answers c.give.result c.args.room.now c.give.new.room c.json.result (IsJsonBy c.args.flags c.args.text.now c.args.path.now)
    (StopsItemBy c.args.flags c.args.text.now c.args.path.now) c.json.ensures.made c.json.ensures.stops c.give.ensures.text c.give.ensures.status
    c.give.ensures.none
