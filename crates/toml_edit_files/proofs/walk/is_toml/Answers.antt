use Rattle.std.proofs.Common.{codes}
use Rattle.std.proofs.lemmas.Str.Pattern.{ends_text}
use Rattle.toml_edit_files.proofs.walk.is_toml.Goals as goal

pub returns : goal.returns
returns c = ends_text c.ends_with.result (codes ".toml") c.args.name.now c.ends_with.ensures.cases
