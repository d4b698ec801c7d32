-- What a time says.
use Rattle.std.specs.Prelude.{ℕ, Option}
use Rattle.toml_edit_model.specs.Scalars.{Time as TimeRecord}
use Rattle.toml_edit_datetime.specs.declared.time.Time.{Time}

-- the time of these parts
abbrev pub time_of : ℕ → ℕ → Option ℕ → Option ℕ → TimeRecord
time_of hour minute second nanosecond =
    record { hour = hour; minute = minute; second = second; nanosecond = nanosecond }

abbrev pub time_view : Time → TimeRecord
time_view t = record {
  hour = t.hour;
  minute = t.minute;
  second = t.second;
  nanosecond = t.nanosecond;
}
