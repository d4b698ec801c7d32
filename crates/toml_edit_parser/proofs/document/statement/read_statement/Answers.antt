-- A statement, by its first events.
use Rattle.std.proofs.Common.{true, false}
use Rattle.toml_edit_model.specs.Syntax.{Statement, statement_text}
use Rattle.toml_edit_laws.specs.Standing.{Stands}
use Rattle.toml_edit_repr.specs.Modes.{mode_of}
use Rattle.toml_edit_parser.specs.StatementParts.{IsEnded}
use Rattle.toml_edit_parser.specs.StatementRead.{IsWhole, ReadsStatement}
use Rattle.toml_edit_parser.proofs.OpeningLaws.{first-is, header-case, line-case}
use Rattle.toml_edit_parser.proofs.document.statement.read_statement.Goals as goal

pub returns-in-HeaderOpen-clause-statement : goal.returns-in-HeaderOpen-clause-statement
returns-in-HeaderOpen-clause-statement c =
    λ b s more whole stands ended held e.
    let t = c.args.reader.now.source.now in
    header-case b.start more c.args.events.now c.in-Some.behind.now c.in-Some-split_first.inside.now c.in-Some.leading
    c.in-Some-split_first.opening
    (first-is _ _ _ c.in-Some.ensures) (first-is _ _ _ c.in-Some-split_first.ensures) false s
    (λ (x : Statement). IsWhole x → Stands t b.start (statement_text x) → IsEnded t b.start x
    → ReadsStatement (mode_of c.args.reader.now.mode) t b x more c.add_header.new.building c.add_header.result)
    whole e c.in-HeaderOpen.is
    (λ h end leading array opening inside is standing here. c.add_header.ensures.header b h end more is standing here held leading array
    opening inside)
    whole stands ended

pub returns-in-ArrayHeaderOpen-clause-statement : goal.returns-in-ArrayHeaderOpen-clause-statement
returns-in-ArrayHeaderOpen-clause-statement c =
    λ b s more whole stands ended held e.
    let t = c.args.reader.now.source.now in
    let told = c.add_header-in-ArrayHeaderOpen in
    header-case b.start more c.args.events.now c.in-Some.behind.now c.in-Some-split_first.inside.now c.in-Some.leading
    c.in-Some-split_first.opening
    (first-is _ _ _ c.in-Some.ensures) (first-is _ _ _ c.in-Some-split_first.ensures) true s
    (λ (x : Statement). IsWhole x → Stands t b.start (statement_text x) → IsEnded t b.start x
    → ReadsStatement (mode_of c.args.reader.now.mode) t b x more told.new.building told.result)
    whole e c.in-ArrayHeaderOpen.is
    (λ h end leading array opening inside is standing here. told.ensures.header b h end more is standing here held leading array opening
    inside)
    whole stands ended

pub returns-in_default-kind-clause-statement : goal.returns-in_default-kind-clause-statement
returns-in_default-kind-clause-statement c =
    λ b s more whole stands ended held e.
    let t = c.args.reader.now.source.now in
    line-case b.start more c.args.events.now c.in-Some.behind.now c.in-Some-split_first.inside.now c.in-Some.leading
    c.in-Some-split_first.opening
    (first-is _ _ _ c.in-Some.ensures) (first-is _ _ _ c.in-Some-split_first.ensures) s
    (λ (x : Statement). IsWhole x → Stands t b.start (statement_text x) → IsEnded t b.start x
    → ReadsStatement (mode_of c.args.reader.now.mode) t b x more c.add_line.new.building c.add_line.result)
    whole e c.in_default-kind.not-HeaderOpen c.in_default-kind.not-ArrayHeaderOpen
    (λ f v end leading behind is standing here. c.add_line.ensures.line b f v end more is standing here held leading behind)
    whole stands ended
