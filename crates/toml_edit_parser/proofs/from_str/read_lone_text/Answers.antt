-- Reading a lone value in a version.
use Rattle.std.proofs.Common.{refl, inl}
use Rattle.toml_edit_model.specs.Version.{v1_1}
use Rattle.toml_edit_syntax.specs.LoneEvents.{AreLoneEvents}
use Rattle.toml_edit_syntax.specs.Grammar.{grammar}
use Rattle.toml_edit_parser.proofs.LoneValueLaws.{not_text, refused_whole, syntax_refused}
use Rattle.toml_edit_parser.proofs.LoneVersionLaws.{accepted_of_all, fault_in, read_in, refused_in}
use Rattle.toml_edit_parser.proofs.from_str.read_lone_text.Goals as goal

pub returns-in-Err-Text-clause-every : goal.returns-in-Err-Text-clause-every
returns-in-Err-Text-clause-every c =
    λ v lone ok. absurd (not_text _ c.in-Err-Text.field-0 c.in-Err-Text.mistake c.in-Err-Text.span refl c.in-Err-Text.field-0-is
    (c.in-Err-Text.ensures.every v lone))

pub returns-in-Err-Text-clause-refused : goal.returns-in-Err-Text-clause-refused
returns-in-Err-Text-clause-refused c =
    fault_in (grammar c.args.version) c.args.text.now c.refusal_with.result
    (refused_whole c.args.text.now c.refusal_with.result
    (λ v lone. not_text _ c.in-Err-Text.field-0 c.in-Err-Text.mistake c.in-Err-Text.span refl c.in-Err-Text.field-0-is
    (c.in-Err-Text.ensures.every v lone))
    (c.refusal_with.ensures.refused v1_1 (inl c.message.ensures.listed))
    (syntax_refused _ _ _ c.refusal_with.result c.message.ensures.listed c.refusal_with.ensures.report))

pub returns-in_ok-refuse_late-in-Ok-clause-read : goal.returns-in_ok-refuse_late-in-Ok-clause-read
returns-in_ok-refuse_late-in-Ok-clause-read c =
    let are : AreLoneEvents c.args.text.now c.as_slice.result.now = rw c.as_slice.ensures.value c.in-Ok.ensures.cut in
    read_in (grammar c.args.version) c.args.text.now c.as_slice.result.now c.read_lone.result are
    (λ v lone whole. c.in_ok-refuse_late-in-Ok.ensures.passed v lone whole refl) c.read_lone.ensures.read

pub returns-in_ok-refuse_late-in-Ok-clause-refused :
    goal.returns-in_ok-refuse_late-in-Ok-clause-refused
returns-in_ok-refuse_late-in-Ok-clause-refused c =
    refused_in (grammar c.args.version) c.args.text.now c.read_lone.result c.read_lone.ensures.refused

pub returns-in_ok-refuse_late-in-Ok-clause-every :
    goal.returns-in_ok-refuse_late-in-Ok-clause-every
returns-in_ok-refuse_late-in-Ok-clause-every c =
    λ v lone ok. c.read_lone.ensures.every v lone (accepted_of_all (grammar c.args.version) v ok)
