-- Where each message stands among those that there are.
use Rattle.std.proofs.Common.{refl, lit<}
use Rattle.toml_edit_parser.proofs.fault.Fault.extending.Goals as goal

pub returns-in-String-clause-listed : goal.returns-in-String-clause-listed
returns-in-String-clause-listed c = (4, lit< tt, refl)

pub returns-in-Integer-clause-listed : goal.returns-in-Integer-clause-listed
returns-in-Integer-clause-listed c = (5, lit< tt, refl)

pub returns-in-Float-clause-listed : goal.returns-in-Float-clause-listed
returns-in-Float-clause-listed c = (6, lit< tt, refl)

pub returns-in-Boolean-clause-listed : goal.returns-in-Boolean-clause-listed
returns-in-Boolean-clause-listed c = (7, lit< tt, refl)

pub returns-in-Datetime-clause-listed : goal.returns-in-Datetime-clause-listed
returns-in-Datetime-clause-listed c = (8, lit< tt, refl)

pub returns-in-Array-clause-listed : goal.returns-in-Array-clause-listed
returns-in-Array-clause-listed c = (9, lit< tt, refl)

pub returns-in-InlineTable-clause-listed : goal.returns-in-InlineTable-clause-listed
returns-in-InlineTable-clause-listed c = (10, lit< tt, refl)
