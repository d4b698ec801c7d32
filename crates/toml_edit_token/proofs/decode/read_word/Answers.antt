-- A float or a date that was read is what the word spells: it is no integer.
use Rattle.toml_edit_datetime.specs.DatetimeView.{datetime_view}
use Rattle.toml_edit_token.proofs.WordReading.{word_date, word_float}
use Rattle.toml_edit_token.proofs.decode.read_word.Goals as goal

pub returns-in-Some : goal.returns-in-Some
returns-in-Some c = word_float c.args.word.now c.in-Some.float c.in_ok-float.field-0 c.in_ok-float.ensures.same c.in-Some.is

pub returns-in-Some-read_datetime : goal.returns-in-Some-read_datetime
returns-in-Some-read_datetime c = word_date c.args.word.now (datetime_view c.in-Some-read_datetime.datetime) c.in-Some-read_datetime.ensures
