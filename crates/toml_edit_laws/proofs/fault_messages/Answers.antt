-- The messages of a value's faults.
use Rattle.toml_edit_laws.proofs.values.FaultMessages.{value-messages}
use Rattle.toml_edit_laws.proofs.fault_messages.Goals as goal

pub returns : goal.returns
returns c = value-messages
