use denote.Param.Send.{IsSend, owning_send}
use Rattle.toml_edit_text.proofs.ShownLaws.{shown-keyless}
use Rattle.toml_edit_text.specs.contracts.shown.Shown as C

pub send : IsSend C.the_row
send = owning_send C.the_type tt (λ s. shown-keyless s.ptr s.items) (λ k x w. tt)
