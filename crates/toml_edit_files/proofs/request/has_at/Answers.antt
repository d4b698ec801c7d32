-- The words are a file, a path and perhaps a kind.
use Rattle.toml_edit_files.proofs.request.has_at.Goals as goal

pub returns-clause-says : goal.returns-clause-says
returns-clause-says c version s more operands kind = (c.args.path.now, more, operands, c.in_ok-path.ensures.spelled, kind)
