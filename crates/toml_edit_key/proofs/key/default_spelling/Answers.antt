-- The default spelling of a name spells it.
use Rattle.toml_edit_laws.proofs.spellings.EscapeLaws.{key-spells}
use Rattle.toml_edit_key.proofs.key.default_spelling.Goals as goal

pub returns-in_err-spelling-clause-spelled : goal.returns-in_err-spelling-clause-spelled
returns-in_err-spelling-clause-spelled c = key-spells c.args.name.now

pub returns-in_err-from_string-clause-spelled : goal.returns-in_err-from_string-clause-spelled
returns-in_err-from_string-clause-spelled c = key-spells c.args.name.now

pub returns-clause-spelled : goal.returns-clause-spelled
returns-clause-spelled c = key-spells c.args.name.now
