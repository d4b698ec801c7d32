-- A slot that is pushed, and moved to its place.
use Rattle.std.proofs.Common.{◌≡◌, [], ◌∷◌, ◌++◌, ap, arith, length, vec_len, ◌∙◌}
use Rattle.toml_edit_slots.specs.InPlace.{moved}
use Rattle.toml_edit_slots.specs.Seen.{seen}
use Rattle.toml_edit_slots.specs.declared.slots.Slot.{Slot}
use Rattle.toml_edit_slots.proofs.MoveLaws.{insert-seen, moved-end}
use Rattle.toml_edit_slots.proofs.slots.Slots.insert_at.Goals as goal

pub returns-in-Ok-clause-slots : goal.returns-in-Ok-clause-slots
returns-in-Ok-clause-slots g c =
    let es = c.args.self.now in
    let s : Slot g.row.T.Denot = record { key = c.args.key; item = c.args.item } in
    let long : c.len-last.result ≡ length es =
    let v = c.self.inside.entries in
    let all : vec_len v ≡ length v.items = omega (arith, v.ok.0) in
    c.len-last.ensures ∙ all ∙ ap length c.self.view_is in
    ap seen (c.move_at.ensures ∙ ap (moved c.len-last.result c.args.at) c.in-Ok.ensures.slots
    ∙ ap (λ n. moved n c.args.at (es ++ s ∷ [])) long ∙ moved-end es c.args.at s)
    ∙ insert-seen es c.args.at s
