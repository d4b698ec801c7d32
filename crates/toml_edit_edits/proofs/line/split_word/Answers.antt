-- The word is in front, and ends between characters.
use Rattle.std.proofs.Common.{◌∙◌, None, ap, false, length, subst, sym, take}
use Rattle.std.specs.Prelude.{IsCharBoundary}
use Rattle.toml_edit_edits.specs.LineWords.{first_word}
use Rattle.toml_edit_edits.proofs.LineWordLaws.{boundary, is-front}
use Rattle.toml_edit_edits.proofs.line.split_word.Goals as goal

pub split_at-requires : goal.split_at-requires
split_at-requires c =
    subst (IsCharBoundary c.args.line.now) (sym (c.word_length.ensures ∙ ap (λ t. length (first_word t)) c.as_bytes.ensures.value))
    (boundary None false c.args.line.now)

pub returns-clause-word : goal.returns-clause-word
returns-clause-word c =
    c.split_at.ensures.front
    ∙ ap (λ n. take n c.args.line.now) (c.word_length.ensures ∙ ap (λ t. length (first_word t)) c.as_bytes.ensures.value)
    ∙ (is-front None false c.args.line.now).0
