-- What the version lacks.
use Rattle.std.proofs.Common.{ap}
use Rattle.toml_edit_model.specs.Version.{is_of_version}
use Rattle.toml_edit_syntax.specs.Grammar.{grammar}
use Rattle.toml_edit_parser.proofs.VersionLaws.{late_named, early_statement}
use Rattle.toml_edit_parser.proofs.document.statement.late_part.Goals as goal

pub returns-in-V1_0-clause-found : goal.returns-in-V1_0-clause-found
returns-in-V1_0-clause-found c =
    λ s start more whole stands e.
    late_named (grammar c.args.version) start s c.late_part_of_statement.result (ap grammar c.in-V1_0.is)
    (c.late_part_of_statement.ensures.found s start more whole stands e)

pub returns-in-V1_0-clause-none : goal.returns-in-V1_0-clause-none
returns-in-V1_0-clause-none c =
    λ s start more whole stands e shallow none.
    early_statement (grammar c.args.version) start s (ap grammar c.in-V1_0.is)
    (c.late_part_of_statement.ensures.none s start more whole stands e shallow none)

pub returns-in-V1_1-clause-none : goal.returns-in-V1_1-clause-none
returns-in-V1_1-clause-none c = λ s start more whole stands e shallow none. ap (λ v. is_of_version (grammar v) s) c.in-V1_1.is

pub returns-in-V1_0-clause-early : goal.returns-in-V1_0-clause-early
returns-in-V1_0-clause-early c = λ _. ap grammar c.in-V1_0.is
