use Rattle.std.proofs.Common.{◌≡◌, IsSomeAnd, sym, subst}
use Rattle.std.specs.Cow.{cow_str_bytes}
use Rattle.toml_edit_model.specs.Spelling.{SpellsKey}
use Rattle.toml_edit_parser.proofs.key.read_name_in_place.Goals as goal

pub returns-in-Some-clause-name : goal.returns-in-Some-clause-name
returns-in-Some-clause-name c =
    λ k h. let known = c.in_ok-name.ensures.only k (subst (SpellsKey k) (sym c.text_at.ensures) h) in
    sym (subst (λ o. IsSomeAnd o (λ s. k ≡ cow_str_bytes s)) c.in-Some.is known)

pub returns-in-None-clause-name : goal.returns-in-None-clause-name
returns-in-None-clause-name c =
    λ k h. let known = c.in_ok-name.ensures.only k (subst (SpellsKey k) (sym c.text_at.ensures) h) in
    absurd (subst (λ o. IsSomeAnd o (λ s. k ≡ cow_str_bytes s)) c.in-None.is known)
