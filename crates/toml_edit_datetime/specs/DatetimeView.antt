-- What a date-time says.
use Rattle.std.specs.Prelude.{Option, option_map}
use Rattle.toml_edit_model.specs.Scalars.{Datetime as DatetimeRecord}
use Rattle.toml_edit_datetime.specs.declared.date.Date.{Date}
use Rattle.toml_edit_datetime.specs.declared.datetime.Datetime.{Datetime}
use Rattle.toml_edit_datetime.specs.declared.datetime.Offset.{Offset}
use Rattle.toml_edit_datetime.specs.declared.time.Time.{Time}
use Rattle.toml_edit_datetime.specs.DateView.{date_view}
use Rattle.toml_edit_datetime.specs.TimeView.{time_view}
use Rattle.toml_edit_datetime.specs.OffsetView.{offset_view}

-- the date-time of these parts
abbrev pub datetime_of : Option Date → Option Time → Option Offset → DatetimeRecord
datetime_of date time offset = record {
  date = option_map date_view date;
  time = option_map time_view time;
  offset = option_map offset_view offset;
}

abbrev pub datetime_view : Datetime → DatetimeRecord
datetime_view d = datetime_of d.date d.time d.offset
