use denote.Param.Send.{IsSend, owning_send}
use Rattle.toml_edit_text.proofs.StripBytes.{owns-keyless}
use Rattle.toml_edit_text.specs.contracts.strip.Strip as C

pub send : IsSend C.the_row
send = owning_send C.the_type (search denote.Param.Send.sendable, tt) (λ s. owns-keyless s.ptr s.items) (λ k x w. tt)
