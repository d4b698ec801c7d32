-- Each turn reads a place more.
use Rattle.std.proofs.Common.{◌≡◌, ◌+◌, ◌-◌, ◌*◌, ◌<◌, ◌≤◌, length, get_or, ◌∙◌, sym, ap, arith}
use Rattle.std.proofs.lemmas.Grind.{common_steps}
use Rattle.toml_edit_datetime.proofs.Fractions.{power_room, digit_more, zero_more, digit_below, tenfold}
use Rattle.toml_edit_datetime.proofs.reading.nanoseconds_of.Goals as goal
use Rattle.toml_edit_datetime.proofs.reading.nanoseconds_of.Goals.{in-Some, in-None}

pub loop-place-preserved : goal.loop-place-preserved
loop-place-preserved c =
    let l = c.loop-place in
    let ds = c.args.digits.now in
    let room = tenfold l.place in
    elim c.match-get.branch [
      | in-Some w ↦
          let within : l.place < length ds = grind (arith, common_steps) in
          let digit = c.requires l.place within in
          let small = digit_below (get_or ds l.place 0) digit in
          let same : c.from.result ≡ get_or ds l.place 0 - 48 = grind (arith, common_steps) in
          record {
            small = omega (arith, l.invariant.small);
            read =
                rw same (sym (digit_more ds l.place within digit ∙ ap (λ x. x * 10 + (get_or ds l.place 0 - 48)) (sym l.invariant.read)));
          }
      | in-None w ↦
          let past : length ds ≤ l.place = grind (arith, common_steps) in
          let same : c.from.result ≡ 0 = grind (arith, common_steps) in
          record {
            small = omega (arith, l.invariant.small);
            read =
                rw same (sym (zero_more ds l.place c.loop-place-test.true past ∙ ap (λ x. x * 10) (sym l.invariant.read) ∙ omega arith));
          }
    ]

pub overflow_mul-value : goal.overflow_mul-value
overflow_mul-value c = omega (arith, c.loop-place.invariant.small, power_room c.loop-place.place c.loop-place-test.true)

pub overflow_add-value : goal.overflow_add-value
overflow_add-value c =
    let small : c.loop-place.value < 100000000 =
    omega (arith, c.loop-place.invariant.small, power_room c.loop-place.place c.loop-place-test.true) in
    elim c.match-get.branch [
      | in-Some w ↦
          let within : c.loop-place.place < length c.args.digits.now = grind (arith, common_steps) in
          let below = digit_below (get_or c.args.digits.now c.loop-place.place 0) (c.requires c.loop-place.place within) in
          let same : c.from.result ≡ get_or c.args.digits.now c.loop-place.place 0 - 48 = grind (arith, common_steps) in
          omega arith
      | in-None w ↦ omega (arith, c.from.ensures, w.digit-is)
    ]
