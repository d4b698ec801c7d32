-- An ASCII byte ends where a character does.
use Rattle.std.proofs.lemmas.Str.{IsCharBoundary-after_ascii}
use Rattle.toml_edit_token.proofs.spelling.after_first.Goals as goal

pub range_from-requires : goal.range_from-requires
range_from-requires c _ = IsCharBoundary-after_ascii c.args.s.now 0 c.utf8.s c.requires.some c.requires.ascii
