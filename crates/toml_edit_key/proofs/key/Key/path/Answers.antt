-- The key that is pushed has the next name.
use Rattle.std.proofs.Common.{◌<◌, ◌++◌, ◌∷◌, ◌∙◌, [], ap, arith, length, map, sym, take}
use Rattle.std.proofs.lemmas.List.{map_more}
use Rattle.toml_edit_model.specs.Keys.{new_key}
use Rattle.toml_edit_key.proofs.key.Key.path.Goals as goal

pub names-preserved : goal.names-preserved
names-preserved c =
    let ns = c.args.names.now in let i = c.names.name-index in let below : i < length ns = omega arith in
    c.in_ok-push.ensures.items ∙ (ap (λ ks. ks ++ (c.in_ok-from_text.field-0 ∷ [])) c.names.invariant
    ∙ (ap (λ k. map (λ name. new_key name.now) (take i ns) ++ (k ∷ [])) c.in_ok-from_text.ensures
    ∙ sym (map_more (λ name. new_key name.now) ns i _ below)))
