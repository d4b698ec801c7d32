-- A slot of a steady tree removed, or an element of an array of tables.
use Rattle.toml_edit_laws.proofs.locality.Removing.{removed}
use Rattle.toml_edit_laws.proofs.locality.RemovingElements.{removed_element}
use Rattle.toml_edit_laws.proofs.locality.Made.{removed_stays_made, removed_element_stays_made}
use Rattle.toml_edit_laws.proofs.removed.Goals as goal

pub returns : goal.returns
returns c = record { slot = removed; element = removed_element; slot_made = removed_stays_made; element_made = removed_element_stays_made }
