-- Where each message stands among those that there are.
use Rattle.std.proofs.Common.{refl, lit<, inl, inr}
use Rattle.toml_edit_parser.proofs.fault.Fault.message.Goals as goal

pub returns-in-DuplicateKey-clause-listed : goal.returns-in-DuplicateKey-clause-listed
returns-in-DuplicateKey-clause-listed c = inr (1, lit< tt, refl)

pub returns-in-ExtendsString-clause-listed : goal.returns-in-ExtendsString-clause-listed
returns-in-ExtendsString-clause-listed c = inr (5, lit< tt, refl)

pub returns-in-ExtendsInteger-clause-listed : goal.returns-in-ExtendsInteger-clause-listed
returns-in-ExtendsInteger-clause-listed c = inr (6, lit< tt, refl)

pub returns-in-ExtendsFloat-clause-listed : goal.returns-in-ExtendsFloat-clause-listed
returns-in-ExtendsFloat-clause-listed c = inr (7, lit< tt, refl)

pub returns-in-ExtendsBoolean-clause-listed : goal.returns-in-ExtendsBoolean-clause-listed
returns-in-ExtendsBoolean-clause-listed c = inr (8, lit< tt, refl)

pub returns-in-ExtendsDatetime-clause-listed : goal.returns-in-ExtendsDatetime-clause-listed
returns-in-ExtendsDatetime-clause-listed c = inr (9, lit< tt, refl)

pub returns-in-ExtendsArray-clause-listed : goal.returns-in-ExtendsArray-clause-listed
returns-in-ExtendsArray-clause-listed c = inr (10, lit< tt, refl)

pub returns-in-ExtendsInlineTable-clause-listed : goal.returns-in-ExtendsInlineTable-clause-listed
returns-in-ExtendsInlineTable-clause-listed c = inr (11, lit< tt, refl)

pub returns-in-RecursionLimit-clause-listed : goal.returns-in-RecursionLimit-clause-listed
returns-in-RecursionLimit-clause-listed c = inr (4, lit< tt, refl)

pub returns-in-NeedsLaterVersion-clause-listed : goal.returns-in-NeedsLaterVersion-clause-listed
returns-in-NeedsLaterVersion-clause-listed c = inr (0, lit< tt, refl)

pub returns-in-Malformed-clause-listed : goal.returns-in-Malformed-clause-listed
returns-in-Malformed-clause-listed c = inl (0, lit< tt, refl)
