use denote.Param.Send.{IsSync, struct_sync}
use denote.Struct.Owning.{shape}
use Rattle.toml_edit_text.proofs.ShownLaws.{shown-keyless}
use Rattle.toml_edit_text.specs.contracts.shown.Shown as C

pub sync : IsSync C.the_row
sync = record { shared = λ s b o κ. ((struct_sync (shape C.the_type) tt).shared tt b o κ, shown-keyless s.ptr s.items) }
