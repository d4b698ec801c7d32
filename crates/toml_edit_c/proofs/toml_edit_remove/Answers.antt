-- What is made is given to the caller.
use Rattle.toml_edit_c.specs.Asks.{ask, remove_words}
use Rattle.toml_edit_c.specs.Made.{IsMadeBy, StopsCall}
use Rattle.toml_edit_c.proofs.Outcomes.{answers}
use Rattle.toml_edit_c.proofs.toml_edit_remove.Goals as goal

pub returns : goal.returns
returns c =
    let q = ask c.args.flags (remove_words c.args.path.now) in
    answers c.give.result c.args.room.now c.give.new.room c.make.result (IsMadeBy q c.args.text.now) (StopsCall q c.args.text.now)
    c.make.ensures.made c.make.ensures.stops c.give.ensures.text c.give.ensures.status c.give.ensures.none
