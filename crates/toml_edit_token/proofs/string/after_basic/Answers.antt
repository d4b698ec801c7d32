-- Each turn goes on as the string is read.
use Rattle.std.proofs.Common.{◌≡◌, ◌≢◌, [], sym, ap, ◌∙◌, rules, arith, le_refl}
use Rattle.std.specs.Prelude.{option_map}
use Rattle.std.proofs.lemmas.Grind.{common_steps}
use Rattle.toml_edit_laws.specs.reading.Runs.{first}
use Rattle.toml_edit_token.proofs.BasicLoop.{prepend-nil, turn_ends, turn_fails, turn_bad, turn_goes}
use Rattle.toml_edit_token.proofs.string.after_basic.Goals as goal

pub parts-init : goal.parts-init
parts-init c = (c.utf8.s, le_refl _, λ n h. ([], (n, h, sym (prepend-nil _))))

pub returns-then-byte-eq34-clause-rest : goal.returns-then-byte-eq34-clause-rest
returns-then-byte-eq34-clause-rest c n h =
    let l = c.parts in
    let (out, read) = l.invariant.2 n h in
    let quote : first c.split_run.result.1.now ≡ 34 = grind (arith, common_steps) in
    let whole = turn_ends n c.args.s.now out l.rest.now c.split_run.result.0.now c.split_run.result.1.now read c.split_run.ensures.parts
    quote in
    sym (ap (option_map (λ p. p.1)) whole ∙ grind (arith, common_steps))

pub returns-then-byte-ne92-clause-rest : goal.returns-then-byte-ne92-clause-rest
returns-then-byte-ne92-clause-rest c n h =
    let l = c.parts in
    let (out, read) = l.invariant.2 n h in
    let quote : first c.split_run.result.1.now ≢ 34 = grind (arith, common_steps) in
    let escape : first c.split_run.result.1.now ≢ 92 = grind (arith, common_steps) in
    sym (ap (option_map (λ p. p.1)) (turn_fails n c.args.s.now out l.rest.now c.split_run.result.0.now c.split_run.result.1.now read
    c.split_run.ensures.parts quote escape))

pub returns-in_err-next-clause-rest : goal.returns-in_err-next-clause-rest
returns-in_err-next-clause-rest c n h =
    let l = c.parts in
    let (out, read) = l.invariant.2 n h in
    let quote : first c.split_run.result.1.now ≢ 34 = grind (arith, common_steps) in
    let escape : first c.split_run.result.1.now ≡ 92 = grind (arith, common_steps) in
    rw c.from_residual.ensures (sym (ap (option_map (λ p. p.1))
    (turn_bad n c.args.s.now out l.rest.now c.split_run.result.0.now c.split_run.result.1.now read c.split_run.ensures.parts quote
    escape
    (rw (← c.skip-in-parts.ensures.rest) (sym c.in_err-next.ensures.value)))))

pub parts-preserved : goal.parts-preserved
parts-preserved c =
    let l = c.parts in
    let quote : first c.split_run.result.1.now ≢ 34 = grind (arith, common_steps) in
    let escape : first c.split_run.result.1.now ≡ 92 = grind (arith, common_steps) in
    let lens = c.split_run.ensures.lens in
    let len = c.skip-in-parts.ensures.len in
    let within = c.in_ok-next.ensures.within in (
      search rules,
      omega (arith, l.invariant.1),
      λ n h.
          let (out, read) = l.invariant.2 n h in
          let (m, room, whole) =
          turn_goes n c.args.s.now out l.rest.now c.split_run.result.0.now c.split_run.result.1.now read c.split_run.ensures.parts
          c.in_ok-next.field-0-0 c.in_ok-next.next.now quote escape
          (rw (← c.skip-in-parts.ensures.rest) (sym c.in_ok-next.ensures.value)) in
          (_, (m, omega arith, whole)),
    )
