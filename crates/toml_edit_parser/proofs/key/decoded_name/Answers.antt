use Rattle.std.proofs.Common.{◌≡◌, ◌∙◌, IsSomeAnd, ap, sym, subst}
use Rattle.std.specs.Cow.{cow_str_bytes}
use Rattle.toml_edit_model.specs.Spelling.{SpellsKey}
use Rattle.toml_edit_parser.proofs.key.decoded_name.Goals as goal

pub returns-in_ok-from_str-in-Some-Borrowed-clause-name : goal.returns-in_ok-from_str-in-Some-Borrowed-clause-name
returns-in_ok-from_str-in-Some-Borrowed-clause-name c =
    λ k h. let known = c.in_ok-name.ensures.only k (subst (SpellsKey k) (sym c.text_at.ensures) h) in
    let is = subst (λ o. IsSomeAnd o (λ s. k ≡ cow_str_bytes s)) c.in-Some-Borrowed.is known in
    c.in_ok-from_str-in-Some-Borrowed.ensures.ok ∙ sym (is ∙ ap cow_str_bytes c.in-Some-Borrowed.field-0-is)

pub returns-in-Some-Owned-clause-name : goal.returns-in-Some-Owned-clause-name
returns-in-Some-Owned-clause-name c =
    λ k h. let known = c.in_ok-name.ensures.only k (subst (SpellsKey k) (sym c.text_at.ensures) h) in
    let is = subst (λ o. IsSomeAnd o (λ s. k ≡ cow_str_bytes s)) c.in-Some-Owned.is known in
    sym (is ∙ ap cow_str_bytes c.in-Some-Owned.field-0-is)

pub returns-in-None-clause-name : goal.returns-in-None-clause-name
returns-in-None-clause-name c =
    λ k h. let known = c.in_ok-name.ensures.only k (subst (SpellsKey k) (sym c.text_at.ensures) h) in
    absurd (subst (λ o. IsSomeAnd o (λ s. k ≡ cow_str_bytes s)) c.in-None.is known)
