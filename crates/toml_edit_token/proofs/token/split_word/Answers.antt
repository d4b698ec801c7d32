-- A word ends where a character does.
use Rattle.toml_edit_laws.proofs.reading.WordLaws.{IsCharBoundary-word}
use Rattle.toml_edit_token.proofs.token.split_word.Goals as goal

pub split_at-requires : goal.split_at-requires
split_at-requires c = rw c.word_len.ensures.len (IsCharBoundary-word c.args.s.now c.utf8.s)
