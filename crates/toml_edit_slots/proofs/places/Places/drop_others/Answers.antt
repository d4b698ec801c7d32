-- What fits stays.
use Rattle.std.proofs.Common.{rules, arith}
use Rattle.std.proofs.lemmas.Map.Made.{filter_same_pairs}
use Rattle.toml_edit_slots.specs.Slots.{names}
use Rattle.toml_edit_slots.proofs.IndexLaws.{length-names}
use Rattle.toml_edit_slots.proofs.PlacesLaws.{fits, hash_fits, index-fitting}
use Rattle.toml_edit_slots.proofs.places.Places.drop_others.Goals as goal

pub returns : goal.returns
returns g c =
    let us = names c.args.entries.now in
    index-fitting us c.args.self.now (record { hashes = c.retain-2.new.self; names = c.retain.new.self })
    (λ k t below there. c.requires k t (omega (arith, below, length-names c.args.entries.now)) there)
    (filter_same_pairs _ (fits us) _ (λ k v b w f' h. search rules) _ _ c.retain.ensures.filtered)
    (filter_same_pairs _ (hash_fits us) _ (λ k v b w f' h. search rules) _ _ c.retain-2.ensures.filtered)
