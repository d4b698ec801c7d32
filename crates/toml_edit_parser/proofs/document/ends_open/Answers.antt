-- The last two events of a text tell.
use Rattle.toml_edit_parser.proofs.OpenEndLaws.{none-by, open-by}
use Rattle.toml_edit_parser.proofs.document.ends_open.Goals as goal

pub returns-in_default : goal.returns-in_default
returns-in_default c = λ start ss final is place. none-by start ss c.args.events.now final is c.in_default.len_below

pub returns-in-len2-up : goal.returns-in-len2-up
returns-in-len2-up c = λ start ss final is place. open-by start ss c.args.events.now final _ is place c.in-len2-up.len_at_least
