-- What a date says.
use Rattle.toml_edit_model.specs.Scalars.{Date as DateRecord}
use Rattle.toml_edit_datetime.specs.declared.date.Date.{Date}

abbrev pub date_view : Date → DateRecord
date_view d = record { year = d.year; month = d.month; day = d.day }
