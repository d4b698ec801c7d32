-- What a `Shown` owns can be had twice, and names no thread. Assumes `Logic`.
use Rattle.std.proofs.Common.{ℕ, List, []}
use seplogic.Ra.Ura.{Ura}
use base.Logic.{ent, sep}
use base.Shift.{Keyless}
use types.Logic.{Logic, sem}
use denote.Builtin.{u8}
use denote.Plain.{uint_row_laws}
use denote.Param.Send.{IsSync, array_sync, sendable}
use denote.RawPtr.{Ptr, block_of, count_of}
use denote.SharingLaws.{contraction}
use denote.Slice.{elements_shr_laws}
use mir.Syntax.{w8}
use Rattle.toml_edit_text.specs.Shown.{shown_at}

pub shown_dup : {M : Type 1} {𝓤 : Ura M} (𝓛 : Logic 𝓤) (p : Ptr) (xs : List ℕ)
    → ent 𝓤 (sem 𝓛 (shown_at p xs [])) (sep 𝓤 (sem 𝓛 (shown_at p xs [])) (sem 𝓛 (shown_at p xs [])))
shown_dup 𝓛 p xs = contraction 𝓛 (shown_at p xs) (elements_shr_laws u8 (uint_row_laws w8) xs (block_of p) (count_of p)) []

u8-sync : IsSync u8
u8-sync = search sendable

pub shown-keyless : (p : Ptr) (xs : List ℕ) → Keyless (shown_at p xs [])
shown-keyless p xs = ((array_sync u8 0 u8-sync).shared xs (block_of p) (count_of p) []).1
