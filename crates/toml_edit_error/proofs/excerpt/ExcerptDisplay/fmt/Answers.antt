-- The place, and then the message.
use Rattle.std.proofs.Common.{rules}
use Rattle.std.proofs.Output.{has_written_append, has_written_of_eq}
use Rattle.toml_edit_error.proofs.Excerpts.{excerpt_text}
use Rattle.toml_edit_error.proofs.excerpt.ExcerptDisplay.fmt.Goals as goal

pub returns-clause-writes : goal.returns-clause-writes
returns-clause-writes g c plain ok =
    let e = c.args.self.now in
    let r = c.new-place.result in
    let p = c.new-place.ensures in
    let done = c.write_place.ensures plain (search rules) in
    has_written_of_eq _ _ _ _ _
    (excerpt_text e.title.now e.source.now e.message.now r.content.now e.span.0 e.span.1 r.line r.column r.marks p.line p.column p.content
    p.marks)
    (has_written_append _ _ _ _ _ _ done (c.write_message.ensures done.plain ok))
