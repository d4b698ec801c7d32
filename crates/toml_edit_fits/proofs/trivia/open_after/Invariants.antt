-- After the bytes up to here, the rest leaves a comment open just where all of them do.
use Rattle.std.proofs.Common.{◌≡◌, false, length}
use Rattle.toml_edit_model.specs.Mode.{shown_text}
use Rattle.toml_edit_repr.specs.Modes.{mode_of}
use Rattle.toml_edit_fits.specs.TriviaTests.{open_after}
use Rattle.toml_edit_fits.proofs.trivia.open_after.Given as goal

abbrev pub invariant-bytes : goal.invariant-bytes
invariant-bytes l = open_after l.is_open (shown_text (mode_of l.mode) l.rest) ≡ open_after false (shown_text (mode_of l.mode) l.text)

abbrev pub decreases-bytes : goal.decreases-bytes
decreases-bytes l = length l.rest
