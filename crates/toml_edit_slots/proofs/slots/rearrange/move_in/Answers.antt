-- A part of the slice, turned by one.
use Rattle.std.proofs.Common.{◌≡◌, ◌+◌, ◌-◌, arith, drop, length, length-drop, length-take-le, refl, take}
use Rattle.toml_edit_slots.proofs.MoveLaws.{moved-left, moved-right}
use Rattle.toml_edit_slots.proofs.slots.rearrange.move_in.Goals as goal

pub returns-then-from-to : goal.returns-then-from-to
returns-then-from-to g c =
    moved-left c.args.items.now c.args.from c.args.to _ c.rotate_left.new.self c.if-from-to.true c.requires.to refl
    c.rotate_left.ensures.after

pub returns-else-from-to : goal.returns-else-from-to
returns-else-from-to g c =
    let xs = c.args.items.now in
    let i = c.args.from in
    let j = c.args.to in
    let long : length (take (i + 1 - j) (drop j xs)) ≡ i + 1 - j =
    length-take-le (i + 1 - j) (drop j xs) (omega (arith, length-drop j xs, c.requires.from)) in
    moved-right xs i j _ _ c.rotate_right.new.self c.if-from-to.false c.requires.from refl (omega (arith, long, c.if-from-to.false))
    c.rotate_right.ensures.after
