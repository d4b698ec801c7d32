-- The message is one of those that there are.
use Rattle.toml_edit_parser.proofs.ListedLaws.{refused_place}
use Rattle.toml_edit_parser.proofs.fault.refusal_with.Goals as goal

pub returns-clause-refused : goal.returns-clause-refused
returns-clause-refused c =
    λ version is.
    refused_place version c.args.reader.now.source.now c.args.message.now (c.args.span.start, c.args.span.end) c.refusal.result is
    (c.requires.start, c.requires.end, c.requires.order) c.refusal.ensures
