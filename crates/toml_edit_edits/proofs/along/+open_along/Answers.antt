-- The table that is opened, and those further along.
use Rattle.std.proofs.Common.{◌≡◌, ◌∙◌, List, ap, sym, subst, take, Some}
use Rattle.toml_edit_model.specs.Keys.{names}
use Rattle.toml_edit_model.specs.Lists.{slots_in}
use Rattle.toml_edit_model.specs.Slots.{Slot, AreApart}
use Rattle.toml_edit_model.specs.Tree.{Node, Key}
use Rattle.toml_edit_edit_laws.specs.Commands.{item_below}
use Rattle.toml_edit_tree.specs.View.{item_view}
use Rattle.toml_edit_edits.specs.Along.{AreApartAlong}
use Rattle.toml_edit_edits.proofs.PathLaws.{along-below, along-none, no-child, one-child, opened, unopened}
use Rattle.toml_edit_edits.proofs.along.+open_along.Goals as goal
use Rattle.toml_edit_edits.proofs.along.+open_along.Goals.{in-Some-as_slots, in_default-as_slots}

pub returns-in-Some-get : goal.returns-in-Some-get
returns-in-Some-get t c =
    let n = item_view c.args.item.now in
    let k = c.in-Some.key.now in
    let apart : (es : List (Slot Node)) → slots_in n ≡ Some es → AreApart es = elim c.match-as_slots.branch [
      | in-Some-as_slots w ↦ opened n w.in-Some-as_slots.slots.now (sym w.in-Some-as_slots.ensures) w.get_key_value.ensures.apart
      | in_default-as_slots w ↦ unopened n (sym w.in_default-as_slots.ensures)
    ] in
    subst (λ (p : List Key). AreApartAlong (names p) n) (sym c.in-Some.ensures.cases.0)
    (along-below k.name (names c.in-Some.rest.now) n (item_view c.in-Some-get.below.now) apart
    (one-child k.name n (item_view c.in-Some-get.below.now) (sym (c.in-Some-get.ensures ∙ ap (λ (p : List Key). item_below (names (take 1 p)) n) c.in-Some.ensures.cases.0))) c.open_along.ensures)

pub returns-in_default-get : goal.returns-in_default-get
returns-in_default-get t c =
    let n = item_view c.args.item.now in
    let k = c.in-Some.key.now in
    let apart : (es : List (Slot Node)) → slots_in n ≡ Some es → AreApart es = elim c.match-as_slots.branch [
      | in-Some-as_slots w ↦ opened n w.in-Some-as_slots.slots.now (sym w.in-Some-as_slots.ensures) w.get_key_value.ensures.apart
      | in_default-as_slots w ↦ unopened n (sym w.in_default-as_slots.ensures)
    ] in
    subst (λ (p : List Key). AreApartAlong (names p) n) (sym c.in-Some.ensures.cases.0)
    (along-none k.name (names c.in-Some.rest.now) n apart
    (no-child k.name n (sym (c.in_default-get.ensures ∙ ap (λ (p : List Key). item_below (names (take 1 p)) n) c.in-Some.ensures.cases.0))))
