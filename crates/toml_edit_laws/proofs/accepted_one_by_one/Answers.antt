-- Statements that are right one after another are accepted together; and the first faulty statement, with its faults.
use Rattle.toml_edit_laws.proofs.one_by_one.Together.{one_by_one}
use Rattle.toml_edit_laws.proofs.one_by_one.FirstFaulty.{first_faulty_laws}
use Rattle.toml_edit_laws.proofs.building.FirstFaults.{faults_of_first}
use Rattle.toml_edit_laws.proofs.accepted_one_by_one.Goals as goal

pub returns : goal.returns
returns c = record { steps = one_by_one; first = first_faulty_laws; faults = faults_of_first }
