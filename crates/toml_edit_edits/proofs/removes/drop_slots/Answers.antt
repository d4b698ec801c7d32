-- The others are kept.
use Rattle.std.proofs.Common.{◌≡◌, Bool, rules, subst}
use Rattle.std.specs.Prelude.{not}
use Rattle.toml_edit_tree.proofs.SlotsLaws.{retains-shown}
use Rattle.toml_edit_edits.specs.Removes.{is_among, texts}
use Rattle.toml_edit_edits.proofs.RemovesLaws.{kept-by}
use Rattle.toml_edit_edits.proofs.removes.drop_slots.Goals as goal

pub returns : goal.returns
returns c =
    let ks = texts c.args.names.now in
    kept-by (λ s b. b ≡ not (is_among s.key.name ks)) (λ s. not (is_among s.key.name ks)) (λ s b e. e) _ _
    (retains-shown _ (λ s b. b ≡ not (is_among s.key.name ks))
    (λ s b k. subst (λ t. b ≡ not (is_among t ks)) k.shows.0 (search rules))
    c.args.slots.now c.retain.new.self c.retain.ensures)
