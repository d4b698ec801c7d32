-- The item under a key, made a value.
use Rattle.std.proofs.Common.{◌≡◌, Some, sym, ◌∙◌}
use Rattle.toml_edit_laws.proofs.slots.Places.{changed-none, none_at}
use Rattle.toml_edit_model.specs.Conversions.{made_value}
use Rattle.toml_edit_model.specs.Slots.{on_item}
use Rattle.toml_edit_slots.specs.Slots.{place}
use Rattle.toml_edit_table_like.specs.Shown.{shown}
use Rattle.toml_edit_table_like.proofs.MadeLaws.{changed-here}
use Rattle.toml_edit_table_like.proofs.ShownLaws.{apart-first, place-shown}
use Rattle.toml_edit_table_like.proofs.inline.make_value_under.Goals as goal

pub returns-in-Some : goal.returns-in-Some
returns-in-Some c =
    let k = c.args.key.now in
    let es = c.args.slots.now in
    let i = c.in-Some.at in
    let at : place k es ≡ Some i = sym c.in-Some.ensures.place in
    changed-here k es i at (apart-first es c.as_slice.ensures.apart) made_value _ c.make_value.new.self c.item_mut.ensures.item
    c.make_value.ensures

pub returns-in-None : goal.returns-in-None
returns-in-None c =
    let k = c.args.key.now in
    let es = c.args.slots.now in
    sym (changed-none k (on_item made_value) (shown es) (none_at k (shown es) (place-shown k es ∙ sym c.in-None.ensures.place)))
