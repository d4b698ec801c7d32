use Rattle.std.proofs.Common.{subst, sym, IsUtf8}
use Rattle.std.proofs.lemmas.Str.{IsUtf8-had}
use Rattle.toml_edit_text.proofs.leaked.Leaked.read.Goals as goal

pub from_utf8_unchecked-requires : goal.from_utf8_unchecked-requires
from_utf8_unchecked-requires c = subst IsUtf8 (sym c.read.ensures) (IsUtf8-had _ c.requires.utf8)
