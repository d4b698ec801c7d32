-- A path that is not the root's has a line.
use Rattle.std.proofs.Common.{rules}
use Rattle.toml_edit_items.proofs.BelowLaws.{line-shown}
use Rattle.toml_edit_items.proofs.below.put_path_line.Goals as goal

pub returns : goal.returns
returns c = rw (line-shown c.args.path.now c.in_default.not-Root) (search rules)
