-- A `&` to a deed holds nothing, so it may cross threads.
use denote.RattleType.{RattleType}
use denote.Param.Send.{IsSync, struct_sync, sendable}
use denote.Struct.Owning.{shape, to}
use Rattle.core.specs.declared.alloc.Allocator.{Ghosts}
use Rattle.toml_edit_text.specs.contracts.deed.Deed as Deed

pub sync : (A : RattleType) (g : Ghosts A.Denot) → IsSync (Deed.the_row A g)
sync A g = let O = Deed.the_type A g in record {
  shared =
      λ d b o κ. ((struct_sync (shape O) (search sendable, tt)).shared (to O d) b o κ, tt);
}
