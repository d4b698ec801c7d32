-- The places, moved down one by one.
use Rattle.std.proofs.Common.{◌≡◌, ◌<◌, length, refl, ap, ◌∙◌, arith, rules}
use Rattle.std.proofs.lemmas.Map.Text.{is_text}
use Rattle.std.specs.Map.{lookup}
use Rattle.toml_edit_slots.specs.declared.hashed.Hashed.{Hashed}
use Rattle.toml_edit_slots.proofs.HashedLaws.{closed-before, closed-behind, closed-within, lookup-closed}
use Rattle.toml_edit_slots.proofs.hashed.Hashed.close_gap.Goals.{then-place-gap, else-place-gap}
use Rattle.toml_edit_slots.proofs.hashed.Hashed.close_gap.Goals as goal

pub loop-at-init : goal.loop-at-init
loop-at-init c = refl

pub index-place-requires : goal.index-place-requires
index-place-requires c =
    let es = c.args.self.now.places.entries in
    let len : c.len-at-end.result ≡ length es = c.len-at-end.ensures.len in
    closed-within c.args.gap c.loop-at.at es c.loop-at.self.places.entries c.loop-at.invariant (omega (arith, len, c.loop-at-test.true))

pub index_mut-requires : goal.index_mut-requires
index_mut-requires c =
    let es = c.args.self.now.places.entries in
    let len : c.len-at-end.result ≡ length es = c.len-at-end.ensures.len in
    closed-within c.args.gap c.loop-at.at es c.loop-at.self.places.entries c.loop-at.invariant (omega (arith, len, c.loop-at-test.true))

pub loop-at-preserved : goal.loop-at-preserved
loop-at-preserved c =
    let es = c.args.self.now.places.entries in
    let ds = c.loop-at.self.places.entries in
    elim c.if-place-gap.branch [
      | then-place-gap w ↦
          ap (λ (m : Hashed). m.places.entries) w.self-is
          ∙ closed-behind c.args.gap c.loop-at.at es ds c.loop-at.invariant w.if-place-gap.true (search rules)
      | else-place-gap w ↦
          ap (λ (m : Hashed). m.places.entries) w.self-is
          ∙ closed-before c.args.gap c.loop-at.at es ds c.loop-at.invariant w.if-place-gap.false (search rules)
    ]

pub returns : goal.returns
returns c t =
    let es = c.args.self.now.places.entries in
    let len : c.len-at-end.result ≡ length es = c.len-at-end.ensures.len in
    ap (lookup (is_text t)) c.loop-at.invariant ∙ lookup-closed c.args.gap (is_text t) c.loop-at.at es (omega (arith, len))
