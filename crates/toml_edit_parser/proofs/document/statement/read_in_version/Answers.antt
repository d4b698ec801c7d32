-- A statement, where it is one of the version.
use Rattle.std.proofs.Common.{refl}
use Rattle.toml_edit_syntax.specs.Grammar.{grammar}
use Rattle.toml_edit_repr.specs.Modes.{mode_of}
use Rattle.toml_edit_parser.proofs.VersionLaws.{late-message, refuses-in, names_late, reads_in_version}
use Rattle.toml_edit_parser.proofs.document.statement.read_in_version.Goals as goal

pub returns-in-Some-clause-statement : goal.returns-in-Some-clause-statement
returns-in-Some-clause-statement c =
    λ b s more whole stands ended held e.
    names_late (grammar c.args.reader.now.version) c.args.reader.now.source.now b s c.in-Some.span c.refusal.result
    (c.in-Some.ensures.found s b.start more whole stands e)
    c.in-Some.ensures.span c.refusal.ensures.report

pub returns-in-None-clause-statement : goal.returns-in-None-clause-statement
returns-in-None-clause-statement c =
    λ b s more whole stands ended held e.
    reads_in_version (mode_of c.args.reader.now.mode) (grammar c.args.reader.now.version) c.args.reader.now.source.now b s more
    c.read_statement.new.building c.read_statement.result
    (λ shallow. c.in-None.ensures.none s b.start more whole stands e shallow refl)
    (c.read_statement.ensures.statement b s more whole stands ended held e)

pub returns-in-Some-clause-refused : goal.returns-in-Some-clause-refused
returns-in-Some-clause-refused c =
    c.refusal.ensures.refused (grammar c.args.reader.now.version)
    (late-message (grammar c.args.reader.now.version) (c.in-Some.ensures.early refl))

pub returns-in-None-clause-refused : goal.returns-in-None-clause-refused
returns-in-None-clause-refused c =
    refuses-in (grammar c.args.reader.now.version) c.args.reader.now.source.now c.read_statement.result c.read_statement.ensures.refused
