use Rattle.std.proofs.Common.{◌≡◌, ◌+◌, ◌≤◌, ℕ, [], length}
use denote.Text.{Utf8}
use denote.Shadow.{shadow}
use Rattle.toml_edit_model.specs.Text.{Text}
use Rattle.toml_edit_syntax.specs.EventReading.{preceded, path_read}
use Rattle.toml_edit_syntax.proofs.value.path.Given as goal

abbrev pub invariant-segments : goal.invariant-segments
invariant-segments l = record {
  utf8 : shadow (Utf8 l.rest);
  shorter : length l.rest ≤ length l.fn.s;
  before : Text;
  fuel : ℕ;
  room : length l.rest ≤ fuel;
  fits : length before + length l.rest ≤ l.whole;
  read : preceded l.fn.events.items (path_read (length l.fn.s) l.whole [] l.fn.s)
      ≡ preceded l.events.items (path_read fuel l.whole before l.rest);
}

abbrev pub decreases-segments : goal.decreases-segments
decreases-segments l = length l.rest
