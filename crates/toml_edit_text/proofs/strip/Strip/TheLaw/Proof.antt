-- A `&` to the bytes is made of one to each. Assumes `Logic`.
use mir.Syntax.{w8}
use denote.Builtin.{u8}
use denote.Plain.{uint_row_laws}
use denote.RawPtr.{block_of, count_of}
use denote.Sharing.{said}
use denote.SharingLaws.{said_shr_laws, beside_shr_laws}
use denote.Slice.{elements_shared, elements_shr_laws}
use denote.Param.Shared.{copy_shared}
use denote.Struct.Field.{RawPtr-field}
use denote.Struct.Laws.{RawPtr-copy}
use denote.Struct.Lending.{Lends-said, Lends-both, of_Lends}
use Rattle.toml_edit_text.specs.Strip.{placed}
use Rattle.toml_edit_text.specs.contracts.strip.Strip as C
use Rattle.toml_edit_text.proofs.StripBytes.{Lends-bytes}
use Rattle.toml_edit_text.proofs.strip.Strip.TheLaw.Statement.{statement}

pub shares : statement
shares = of_Lends C.struct C.the_codes C.the_heap C.the_lent
    (λ d p. beside_shr_laws (said (placed d.ptr d.items)) (elements_shared u8 d.items (block_of d.ptr) (count_of d.ptr))
    (said_shr_laws (placed d.ptr d.items) (λ _. tt)) (elements_shr_laws u8 (uint_row_laws w8) d.items (block_of d.ptr)
    (count_of d.ptr)))
    (copy_shared RawPtr-field RawPtr-copy, tt)
    (λ M 𝓤 𝓛 d p. Lends-both 𝓛 (placed d.ptr d.items) _ (said (placed d.ptr d.items))
    (elements_shared u8 d.items (block_of d.ptr) (count_of d.ptr)) C.the_row.lives
    (Lends-said 𝓛 (placed d.ptr d.items) (λ _. tt) C.the_row.lives)
    (Lends-bytes 𝓛 C.the_row.lives d.items (block_of d.ptr) (count_of d.ptr)))
