-- A name that is added for one of the slots.
use Rattle.std.proofs.Common.{[], ◌∷◌, ◌++◌, set, length-append, length-set, arith, subst}
use Rattle.toml_edit_slots.specs.Slots.{names}
use Rattle.toml_edit_slots.specs.SlotIndex.{IsIndex}
use Rattle.toml_edit_slots.proofs.KeptLaws.{has_room}
use Rattle.toml_edit_slots.proofs.NewLaws.{with_text-new}
use Rattle.toml_edit_slots.proofs.RenameLaws.{among-set}
use Rattle.toml_edit_slots.proofs.index.add_name.Goals as goal

pub returns-in_ok-put_new_place-clause-ok : goal.returns-in_ok-put_new_place-clause-ok
returns-in_ok-put_new_place-clause-ok g c = λ k.
    let us = names c.args.entries.now in
    let t = c.args.name.now in
    has_room c.put_new_place.new.index (us ++ t ∷ []) (set us k t)
    (subst (IsIndex c.put_new_place.new.index) (with_text-new t us c.requires.new) c.in_ok-put_new_place.ensures.ok)
    (omega (arith, length-set us k t, length-append us (t ∷ [])))
    (λ u is. among-set us k u t is)
