-- Where each message stands among those that there are.
use Rattle.std.proofs.Common.{refl, lit<}
use Rattle.toml_edit_syntax.proofs.mistake.Mistake.message.Goals as goal

pub returns-in-UnexpectedCharacter-clause-listed : goal.returns-in-UnexpectedCharacter-clause-listed
returns-in-UnexpectedCharacter-clause-listed c = (0, lit< tt, refl)

pub returns-in-ExpectedKey-clause-listed : goal.returns-in-ExpectedKey-clause-listed
returns-in-ExpectedKey-clause-listed c = (1, lit< tt, refl)

pub returns-in-ExpectedEquals-clause-listed : goal.returns-in-ExpectedEquals-clause-listed
returns-in-ExpectedEquals-clause-listed c = (2, lit< tt, refl)

pub returns-in-ExpectedValue-clause-listed : goal.returns-in-ExpectedValue-clause-listed
returns-in-ExpectedValue-clause-listed c = (3, lit< tt, refl)

pub returns-in-ExpectedNewline-clause-listed : goal.returns-in-ExpectedNewline-clause-listed
returns-in-ExpectedNewline-clause-listed c = (4, lit< tt, refl)

pub returns-in-UnclosedString-clause-listed : goal.returns-in-UnclosedString-clause-listed
returns-in-UnclosedString-clause-listed c = (5, lit< tt, refl)

pub returns-in-UnclosedArray-clause-listed : goal.returns-in-UnclosedArray-clause-listed
returns-in-UnclosedArray-clause-listed c = (6, lit< tt, refl)

pub returns-in-UnclosedInlineTable-clause-listed : goal.returns-in-UnclosedInlineTable-clause-listed
returns-in-UnclosedInlineTable-clause-listed c = (7, lit< tt, refl)

pub returns-in-UnclosedHeader-clause-listed : goal.returns-in-UnclosedHeader-clause-listed
returns-in-UnclosedHeader-clause-listed c = (8, lit< tt, refl)

pub returns-in-InvalidEscape-clause-listed : goal.returns-in-InvalidEscape-clause-listed
returns-in-InvalidEscape-clause-listed c = (9, lit< tt, refl)

pub returns-in-InvalidNumber-clause-listed : goal.returns-in-InvalidNumber-clause-listed
returns-in-InvalidNumber-clause-listed c = (10, lit< tt, refl)

pub returns-in-InvalidDateTime-clause-listed : goal.returns-in-InvalidDateTime-clause-listed
returns-in-InvalidDateTime-clause-listed c = (11, lit< tt, refl)

pub returns-in-ControlCharacter-clause-listed : goal.returns-in-ControlCharacter-clause-listed
returns-in-ControlCharacter-clause-listed c = (12, lit< tt, refl)

pub returns-in-CarriageReturn-clause-listed : goal.returns-in-CarriageReturn-clause-listed
returns-in-CarriageReturn-clause-listed c = (13, lit< tt, refl)
