-- The place of a name, put in.
use Rattle.std.proofs.Common.{◌≡◌, Some, string_bytes, rules, ap, ◌∙◌}
use Rattle.std.proofs.lemmas.Map.Text.{hash_map_updates_text}
use Rattle.toml_edit_slots.specs.Hashed.{HasSame, place_of}
use Rattle.toml_edit_slots.proofs.HashedLaws.{put-grown}
use Rattle.toml_edit_slots.proofs.hashed.Hashed.insert.Goals as goal
use Rattle.toml_edit_slots.proofs.hashed.Hashed.insert.Goals.{else-capacity-len-via-then-capacity-len+else-is_err, else-capacity-len-via-else-capacity-len}

pub returns-then-is_none-clause-ok : goal.returns-then-is_none-clause-ok
returns-then-is_none-clause-ok c t =
    let l = c.else-capacity-len.self in
    let same : HasSame c.args.self.now l =
    elim c.else-capacity-len.branch [
      | else-capacity-len-via-then-capacity-len+else-is_err w ↦ λ v. ap (λ m. place_of m v) w.self-is ∙ w.grow.ensures v
      | else-capacity-len-via-else-capacity-len w ↦ λ v. ap (λ m. place_of m v) w.self-is
    ] in
    let text : string_bytes c.in-Ok.text ≡ c.args.name.now = search rules in
    put-grown c.args.self.now l (string_bytes c.in-Ok.text) c.args.name.now c.args.at same text t
    (hash_map_updates_text (string_bytes c.in-Ok.text) l.places c.insert.new.self (Some c.args.at) c.in-Ok-insert.ensures.updates t)

pub returns-else-is_none-clause-ok : goal.returns-else-is_none-clause-ok
returns-else-is_none-clause-ok c t =
    let l = c.else-capacity-len.self in
    let same : HasSame c.args.self.now l =
    elim c.else-capacity-len.branch [
      | else-capacity-len-via-then-capacity-len+else-is_err w ↦ λ v. ap (λ m. place_of m v) w.self-is ∙ w.grow.ensures v
      | else-capacity-len-via-else-capacity-len w ↦ λ v. ap (λ m. place_of m v) w.self-is
    ] in
    let text : string_bytes c.in-Ok.text ≡ c.args.name.now = search rules in
    put-grown c.args.self.now l (string_bytes c.in-Ok.text) c.args.name.now c.args.at same text t
    (hash_map_updates_text (string_bytes c.in-Ok.text) l.places c.insert.new.self (Some c.args.at) c.in-Ok-insert.ensures.updates t)
