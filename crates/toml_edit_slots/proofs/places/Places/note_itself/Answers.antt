-- The place of a name, noted under the name.
use Rattle.std.proofs.Common.{◌≡◌, ℕ, Option, Some, string_bytes, cond, refl, ap, rules, ◌∙◌}
use Rattle.std.proofs.lemmas.Map.Text.{btree_map_updates_text}
use Rattle.std.specs.BTreeMap.{get_by_text}
use Rattle.toml_edit_model.specs.Text.{Text, same_text}
use Rattle.toml_edit_slots.proofs.PlacesLaws.{place-other, place-put}
use Rattle.toml_edit_slots.proofs.places.Places.note_itself.Goals as goal

pub returns-clause-ok : goal.returns-clause-ok
returns-clause-ok c =
    let m = c.args.self.now in
    let u = c.args.name.now in
    let w : Option ℕ = Some c.args.at in
    let ns = c.insert.new.self in
    let text : string_bytes c.in_ok-text.text ≡ u = search rules in
    let put : (t : Text) → get_by_text ns t ≡ cond (same_text u t) w (get_by_text m.names t) =
    λ t. btree_map_updates_text (string_bytes c.in_ok-text.text) m.names ns w c.in_ok-insert.ensures.updates t
    ∙ ap (λ y. cond (same_text y t) w (get_by_text m.names t)) text in
    (place-put m ns u w put c.args.at refl, λ k t other noted. place-other m ns u w put t other ∙ noted)
