-- What a `Strip` owns and shows: the bytes xs side by side from p on.
use Rattle.std.specs.Prelude.{ℕ, ◌^◌, ◌<◌, List, length}
use base.Fml.{Lft, Fml, ftrue, fsep, fex}
use types.SemTy.{cells}
use denote.Builtin.{u8}
use denote.Memory.{mem}
use denote.RawPtr.{Ptr, block_of, count_of, InBlock}
use denote.Sharing.{said, beside}
use denote.Slice.{elements_shared}

-- p is not null, and xs is no longer than a block may be
abbrev pub Placed : Ptr → List ℕ → Type 0
Placed p xs = InBlock p × (length xs < 2 ^ 63)

abbrev pub placed : Ptr → List ℕ → Fml
placed p xs = fex (Placed p xs) (λ _. ftrue)

abbrev pub strip_owns : Ptr → List ℕ → Fml
strip_owns p xs = fsep (placed p xs) (cells (mem u8) xs (block_of p) (count_of p))

abbrev pub strip_lent : Ptr → List ℕ → Lft → Fml
strip_lent p xs = beside (said (placed p xs)) (elements_shared u8 xs (block_of p) (count_of p))
