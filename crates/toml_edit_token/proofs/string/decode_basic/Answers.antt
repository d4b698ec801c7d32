-- Each turn goes on as the string is read.
use Rattle.std.proofs.Common.{string_bytes, ◌++◌, List, ℕ, subst, encode_utf8, ◌≡◌, ◌≢◌, sym, ap, ◌∙◌, rules, arith, le_refl}
use Rattle.std.proofs.lemmas.Grind.{common_steps}
use Rattle.toml_edit_laws.specs.reading.Runs.{first}
use Rattle.toml_edit_laws.specs.reading.Tokens.{prepend, basic_at, whole}
use Rattle.toml_edit_token.proofs.BasicLoop.{prepend-nil, turn_ends, turn_fails, turn_bad, turn_goes}
use Rattle.toml_edit_token.proofs.string.decode_basic.Goals as goal
use Rattle.toml_edit_token.proofs.string.decode_basic.Goals.{then-is_empty, else-is_empty}

pub parts-init : goal.parts-init
parts-init c = (c.utf8.s, le_refl _, λ n h. (n, h, rw c.in_ok-value.ensures.bytes (sym (prepend-nil _))))

pub returns-then-byte-eq34 : goal.returns-then-byte-eq34
returns-then-byte-eq34 c n h =
    let l = c.parts in
    let quote : first c.split_run.result.1.now ≡ 34 = grind (arith, common_steps) in
    let read = turn_ends n c.args.s.now _ l.rest.now c.split_run.result.0.now c.split_run.result.1.now (l.invariant.2 n h)
    c.split_run.ensures.parts quote in
    elim c.if-is_empty.branch [
      | then-is_empty w ↦ sym (ap whole read ∙ grind (arith, common_steps))
      | else-is_empty w ↦ sym (ap whole read ∙ grind (arith, common_steps))
    ]

pub returns-then-byte-ne92 : goal.returns-then-byte-ne92
returns-then-byte-ne92 c n h =
    let l = c.parts in
    let quote : first c.split_run.result.1.now ≢ 34 = grind (arith, common_steps) in
    let escape : first c.split_run.result.1.now ≢ 92 = grind (arith, common_steps) in
    sym (ap whole (turn_fails n c.args.s.now _ l.rest.now c.split_run.result.0.now c.split_run.result.1.now (l.invariant.2 n h)
    c.split_run.ensures.parts quote escape))

pub returns-in_default : goal.returns-in_default
returns-in_default c n h =
    let l = c.parts in
    let quote : first c.split_run.result.1.now ≢ 34 = grind (arith, common_steps) in
    let escape : first c.split_run.result.1.now ≡ 92 = grind (arith, common_steps) in
    sym (ap whole (turn_bad n c.args.s.now _ l.rest.now c.split_run.result.0.now c.split_run.result.1.now (l.invariant.2 n h)
    c.split_run.ensures.parts quote escape
    (rw (← c.skip-in-parts.ensures.rest) (sym c.in_default.ensures.value))))

pub parts-preserved : goal.parts-preserved
parts-preserved c =
    let l = c.parts in
    let quote : first c.split_run.result.1.now ≢ 34 = grind (arith, common_steps) in
    let escape : first c.split_run.result.1.now ≡ 92 = grind (arith, common_steps) in
    let lens = c.split_run.ensures.lens in
    let len = c.skip-in-parts.ensures.len in
    let within = c.in-Some.ensures.within in (
      search rules,
      omega (arith, l.invariant.1),
      λ n h.
          let (m, room, read) =
          turn_goes n c.args.s.now _ l.rest.now c.split_run.result.0.now c.split_run.result.1.now (l.invariant.2 n h)
          c.split_run.ensures.parts c.in-Some.c c.in-Some.next.now quote escape
          (rw (← c.skip-in-parts.ensures.rest) (sym c.in-Some.ensures.value)) in
          let grown : (string_bytes l.value ++ c.split_run.result.0.now) ++ encode_utf8 c.in-Some.c ≡ string_bytes c.push.new.self =
          grind (arith, common_steps) in
          (m, omega arith, subst (λ (x : List ℕ). basic_at n c.args.s.now ≡ prepend x (basic_at m c.in-Some.next.now)) grown read),
    )
