-- The keys of a path have the texts of its segments.
use Rattle.toml_edit_words.proofs.Read.{path-only, path-refused, path-spelled}
use Rattle.toml_edit_words.proofs.path_in.Goals as goal

pub returns-clause-spelled : goal.returns-clause-spelled
returns-clause-spelled c = path-spelled c.args.word.now c.parse.result c.parse.ensures.keys

pub returns-clause-only : goal.returns-clause-only
returns-clause-only c = path-only c.args.word.now c.parse.result c.parse.ensures.every

pub returns-clause-refused : goal.returns-clause-refused
returns-clause-refused c = path-refused c.args.word.now c.parse.result c.parse.ensures.every
