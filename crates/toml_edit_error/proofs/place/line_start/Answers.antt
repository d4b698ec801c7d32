-- A line begins after the newline before it, or where the text does.
use Rattle.std.proofs.Common.{◌≡◌}
use Rattle.std.proofs.lemmas.Str.{IsCharBoundary-start}
use Rattle.toml_edit_error.proofs.Cuts.{line_start-some, line_start-none}
use Rattle.toml_edit_error.proofs.place.line_start.Goals as goal

pub returns-in-Some-clause-boundary : goal.returns-in-Some-clause-boundary
returns-in-Some-clause-boundary c =
    let same : c.as_bytes.result.now ≡ c.args.text.now = c.as_bytes.ensures.value in
    (line_start-some c.args.text.now c.args.byte c.in-Some.newline c.requires c.utf8.text (rw same at c.in-Some.ensures)).0

pub returns-in-Some-clause-start : goal.returns-in-Some-clause-start
returns-in-Some-clause-start c =
    let same : c.as_bytes.result.now ≡ c.args.text.now = c.as_bytes.ensures.value in
    (line_start-some c.args.text.now c.args.byte c.in-Some.newline c.requires c.utf8.text (rw same at c.in-Some.ensures)).1

pub returns-in-None-clause-boundary : goal.returns-in-None-clause-boundary
returns-in-None-clause-boundary c = IsCharBoundary-start c.args.text.now c.utf8.text

pub returns-in-None-clause-start : goal.returns-in-None-clause-start
returns-in-None-clause-start c =
    let same : c.as_bytes.result.now ≡ c.args.text.now = c.as_bytes.ensures.value in
    line_start-none c.args.text.now c.args.byte c.requires (rw same at c.in-None.ensures)
