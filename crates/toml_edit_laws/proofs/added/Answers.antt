-- A value added under a new key of a steady tree.
use Rattle.toml_edit_laws.proofs.locality.Adding.{added}
use Rattle.toml_edit_laws.proofs.locality.Calls.{calls_on_absent}
use Rattle.toml_edit_laws.proofs.locality.Made.{added_stays_made}
use Rattle.toml_edit_laws.proofs.added.Goals as goal

pub returns : goal.returns
returns c = record { change = added; calls = calls_on_absent; made = added_stays_made }
