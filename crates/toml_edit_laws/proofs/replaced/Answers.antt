-- A value of a steady tree replaced.
use Rattle.toml_edit_laws.proofs.locality.Replacing.{replaced}
use Rattle.toml_edit_laws.proofs.locality.Values.{keeps_frame}
use Rattle.toml_edit_laws.proofs.locality.Calls.{calls_on_present, index_writes}
use Rattle.toml_edit_laws.proofs.locality.Made.{replaced_stays_made}
use Rattle.toml_edit_laws.proofs.replaced.Goals as goal

pub returns : goal.returns
returns c = record { change = replaced; frame = keeps_frame; calls = calls_on_present; index = index_writes; made = replaced_stays_made }
