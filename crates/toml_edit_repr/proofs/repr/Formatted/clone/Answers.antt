-- What spells the value spells its copy, which is equal.
use Rattle.std.proofs.Common.{IsTrue, subst}
use Rattle.toml_edit_repr.specs.Sameness.{same_formatted}
use Rattle.toml_edit_repr.specs.SamenessLaws.{same_formatted-copied}
use Rattle.toml_edit_repr.specs.Views.{FormattedView}
use Rattle.toml_edit_repr.proofs.TrueSpellings.{true_spelling_copied}
use Rattle.toml_edit_repr.proofs.repr.Formatted.clone.Goals as goal

pub invariant_of-result : goal.invariant_of-result
invariant_of-result g c =
    true_spelling_copied g.T.ValueRepr.spells g.T.ScalarValue.scalar g.met.T.ValueRepr.spells_scalar
    c.self.inside.value c.in_ok-value.value c.in_ok-value.ensures.scalar
    c.self.inside.repr c.in_ok-repr.repr c.in_ok-repr.ensures c.self.invariant

pub returns-clause-equal : goal.returns-clause-equal
returns-clause-equal g c =
    let copy : FormattedView g.row.T.Denot =
    record { value = c.in_ok-value.value; repr = c.in_ok-repr.repr; decor = c.in_ok-decor.decor } in
    let old : FormattedView g.row.T.Denot =
    record { value = c.self.inside.value; repr = c.self.inside.repr; decor = c.self.inside.decor } in
    subst (λ v. IsTrue (same_formatted g.T.PartialEq.eq copy v)) c.self.view_is
    (same_formatted-copied g.T.PartialEq.eq copy old c.in_ok-value.ensures.equal c.in_ok-repr.ensures c.in_ok-decor.ensures)
