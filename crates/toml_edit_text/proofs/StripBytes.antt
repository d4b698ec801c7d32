-- Ghost steps for the bytes of a `Strip`. Assumes `Logic`.
use Rattle.std.specs.Prelude.{ℕ, ◌+◌, List, [], ◌∷◌}
use seplogic.Ra.Ura.{Ura}
use base.Fraction.{full_share}
use base.Fml.{Lft, ftrue}
use types.Logic.{Logic}
use types.SemTy.{cells}
use denote.Builtin.{u8}
use denote.Memory.{mem, part_at, shared_of}
use denote.Slice.{elements_shared}
use denote.Struct.Lending.{Lends, Lends-both, Lends-nothing}
use denote.Copied.{uint_Copied}
use mir.Syntax.{w8}
use base.Shift.{Keyless}
use denote.Param.Send.{part_keyless, array_sync, sendable}
use denote.RawPtr.{Ptr, block_of, count_of}
use Rattle.toml_edit_text.specs.Strip.{strip_owns, strip_lent}

module _ {M : Type 1} {𝓤 : Ura M} (𝓛 : Logic 𝓤) (l : Lft) where
  pub Lends-bytes : (xs : List ℕ) (b o : ℕ) → Lends 𝓛 (cells (mem u8) xs b o) (elements_shared u8 xs b o) l
  Lends-bytes [] b o = Lends-nothing 𝓛 ftrue l
  Lends-bytes (x ∷ xs) b o =
      Lends-both 𝓛 (part_at u8 full_share x b o) (cells (mem u8) xs b (o + 1)) (shared_of u8 x b o) (elements_shared u8 xs b (o + 1)) l
      (λ κ ts. (uint_Copied 𝓛 w8).shares full_share l x κ ts b o) (Lends-bytes xs b (o + 1))

bytes-keyless : (xs : List ℕ) (b o : ℕ) → Keyless (cells (mem u8) xs b o)
bytes-keyless [] b o = tt
bytes-keyless (x ∷ xs) b o = (part_keyless u8 (search sendable) full_share x b o, bytes-keyless xs b (o + 1))

pub owns-keyless : (p : Ptr) (xs : List ℕ) → Keyless (strip_owns p xs)
owns-keyless p xs = ((λ _. tt), bytes-keyless xs (block_of p) (count_of p))

pub lent-keyless : (p : Ptr) (xs : List ℕ) (κ : Lft) → Keyless (strip_lent p xs κ)
lent-keyless p xs κ = ((λ _. tt), ((array_sync u8 0 (search sendable)).shared xs (block_of p) (count_of p) κ).1)
