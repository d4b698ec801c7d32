-- A deed may cross threads where its allocator may.
use denote.RattleType.{RattleType}
use denote.Param.Send.{IsSend, Frees, AllSend, owning_send, sendable}
use denote.Struct.Owning.{fields}
use Rattle.core.specs.declared.alloc.Allocator.{Ghosts}
use Rattle.toml_edit_text.specs.contracts.deed.Deed as Deed

pub send : (A : RattleType) (g : Ghosts A.Denot) → IsSend A → Frees g g.dealloc_token → IsSend (Deed.the_row A g)
send A g s f =
    let O = Deed.the_type A g in let all : AllSend (fields O) = (search sendable, tt) in
    owning_send O all (λ d. f.frees d.alloc _ d.at) (λ k x w. tt)
