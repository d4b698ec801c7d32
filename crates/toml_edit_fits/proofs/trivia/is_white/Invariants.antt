-- It is white just where what is to come is.
use Rattle.std.proofs.Common.{◌≡◌, drop}
use Rattle.toml_edit_model.specs.Mode.{shown_text}
use Rattle.toml_edit_repr.specs.Modes.{mode_of}
use Rattle.toml_edit_fits.specs.TriviaTests.{is_white}
use Rattle.toml_edit_fits.proofs.trivia.is_white.Given as goal

abbrev pub invariant-bytes : goal.invariant-bytes
invariant-bytes l = is_white (shown_text (mode_of l.mode) (drop l.byte-index l.bytes)) ≡ is_white (shown_text (mode_of l.mode) l.bytes)
