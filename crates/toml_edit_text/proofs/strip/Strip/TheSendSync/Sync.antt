use denote.Param.Send.{IsSync, struct_sync}
use denote.Struct.Owning.{shape, to}
use Rattle.toml_edit_text.proofs.StripBytes.{lent-keyless}
use Rattle.toml_edit_text.specs.contracts.strip.Strip as C

pub sync : IsSync C.the_row
sync = record {
  shared = λ s b o κ. (
    (struct_sync (shape C.the_type) (search denote.Param.Send.sendable, tt)).shared (to C.the_type s) b o
        κ,
    lent-keyless s.ptr s.items κ,
  );
}
