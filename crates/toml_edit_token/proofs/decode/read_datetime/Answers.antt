-- What was read as a date or a time is what the word spells, in range.
use Rattle.toml_edit_datetime.specs.DatetimeView.{datetime_view}
use Rattle.toml_edit_token.proofs.Decoding.{datetime_read}
use Rattle.toml_edit_token.proofs.decode.read_datetime.Goals as goal

pub returns : goal.returns
returns c = rw c.ok.ensures.value (datetime_read c.args.word.now datetime_view c.from_str.result c.from_str.ensures.spelled
    c.from_str.ensures.read)
