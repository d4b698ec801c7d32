-- What a `Shown` has: the right to read bytes at a place.
use Rattle.std.specs.Prelude.{◌≡◌, ℕ, List}
use base.Fml.{Lft, Fml}
use denote.Builtin.{u8}
use denote.RawPtr.{Ptr, block_ptr, block_of, count_of}
use denote.Slice.{elements_shared}

-- p points into a block
abbrev pub IsPlaced : Ptr → Type 0
IsPlaced p = p ≡ block_ptr (block_of p) (count_of p)

-- the bytes xs at p may be read while κ lasts
abbrev pub shown_at : Ptr → List ℕ → Lft → Fml
shown_at p xs = elements_shared u8 xs (block_of p) (count_of p)
