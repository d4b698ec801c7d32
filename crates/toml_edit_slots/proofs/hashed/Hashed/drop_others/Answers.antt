-- What fits stays.
use Rattle.std.proofs.Common.{rules, arith, string_bytes}
use Rattle.indexmap.proofs.CallerLemmas.{filter-RetainsPairs}
use Rattle.toml_edit_slots.specs.Slots.{names}
use Rattle.toml_edit_slots.proofs.IndexLaws.{length-names}
use Rattle.toml_edit_slots.proofs.HashedLaws.{fits, hashed-fitting}
use Rattle.toml_edit_slots.proofs.hashed.Hashed.drop_others.Goals as goal

pub returns : goal.returns
returns g c =
    let us = names c.args.entries.now in
    hashed-fitting us c.args.self.now (record { places = c.retain.new.self; tally = c.recount.new.self })
    (λ k t below there. c.requires k t (omega (arith, below, length-names c.args.entries.now)) there)
    (filter-RetainsPairs _ (fits string_bytes us) _ (λ k v b w f' h. search rules) _ _ c.retain.ensures.filtered)
