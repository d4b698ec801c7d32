-- A late part is refused, and where there is none the value is of the version.
use Rattle.std.proofs.Common.{◌≡◌, refl, sym, ap, ◌∙◌, subst, true, length, inr, lit<}
use Rattle.std.proofs.lemmas.Bool.{false≢true}
use Rattle.toml_edit_model.specs.Version.{is_value_of, v1_0}
use Rattle.toml_edit_laws.proofs.versions.LateValues.{value_of_none}
use Rattle.toml_edit_error.specs.Fault.{IfToml}
use Rattle.toml_edit_syntax.specs.declared.version.grammar.Version.{Version}
use Rattle.toml_edit_syntax.specs.Grammar.{grammar}
use Rattle.toml_edit_parser.proofs.LoneValueLaws.{stands}
use Rattle.toml_edit_parser.proofs.LoneVersionLaws.{late_refused, not_early}
use Rattle.toml_edit_parser.specs.LoneValue.{IsLoneRefusalIn}
use Rattle.toml_edit_parser.proofs.from_str.refuse_late.Goals as goal

pub returns-in-Some-clause-every : goal.returns-in-Some-clause-every
returns-in-Some-clause-every c =
    λ v lone ok.
    absurd (false≢true (sym (not_early c.args.reader.now.source.now c.in-Some.span
    (λ v lone. c.in-Some.ensures.found v (length lone.before) lone.value (stands c.args.reader.now.source.now v lone) (c.requires.cut.every v lone)) v
    lone)
    ∙ ap (λ (x : Version). is_value_of (grammar x) v) (sym c.in-V1_0.is) ∙ ok))

pub returns-in-Some-clause-refused : goal.returns-in-Some-clause-refused
returns-in-Some-clause-refused c =
    subst (λ (x : Version). IfToml c.refusal.result (IsLoneRefusalIn (grammar x) c.args.reader.now.source.now)) (sym c.in-V1_0.is)
    (late_refused c.args.reader.now.source.now c.in-Some.span
    (λ v lone. c.in-Some.ensures.found v (length lone.before) lone.value (stands c.args.reader.now.source.now v lone) (c.requires.cut.every v lone))
    c.args.events.now c.refusal.result c.requires.cut c.in-Some.ensures.span c.refusal.ensures.report
    (c.refusal.ensures.refused v1_0 (inr (0, lit< tt, refl))))

pub returns-in-None-clause-passed : goal.returns-in-None-clause-passed
returns-in-None-clause-passed c =
    λ v lone whole _.
    subst (λ (x : Version). is_value_of (grammar x) v ≡ true) (sym c.in-V1_0.is)
    (value_of_none v (length lone.before)
    (c.in-None.ensures.none v (length lone.before) lone.value (stands c.args.reader.now.source.now v lone) (c.requires.cut.every v lone) whole refl))
