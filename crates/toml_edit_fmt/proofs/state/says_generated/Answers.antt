-- What is searched is a part.
use Rattle.std.specs.Prelude.{codes}
use Rattle.std.proofs.lemmas.Bool.Decides.{same_from_decides}
use Rattle.std.proofs.lemmas.Str.Pattern.{contains_text}
use Rattle.toml_edit_fmt_laws.specs.Formatted.{has_part}
use Rattle.toml_edit_fmt.proofs.StateLaws.{part-decides}
use Rattle.toml_edit_fmt.proofs.state.says_generated.Goals as goal

pub returns : goal.returns
returns c =
    let n = codes "@generated" in
    same_from_decides c.contains.result (has_part n c.args.comment.now) (contains_text c.contains.result n c.args.comment.now c.contains.ensures.cases) (part-decides n c.args.comment.now)
