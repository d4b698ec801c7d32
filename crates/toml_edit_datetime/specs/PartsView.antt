-- What the parts of a date-time that the code reads say.
use Rattle.std.specs.Prelude.{Option, option_map}
use Rattle.std.specs.Borrow.{Bor}
use Rattle.toml_edit_model.specs.Text.{Text}
use Rattle.toml_edit_model.specs.Scalars.{Date, Time}
use Rattle.toml_edit_laws.specs.reading.Runs.{Read}
use Rattle.toml_edit_laws.specs.reading.DatetimeReading as reading
use Rattle.toml_edit_datetime.specs.declared.parts.DateParts.{DateParts}
use Rattle.toml_edit_datetime.specs.declared.parts.TimeParts.{TimeParts}
use Rattle.toml_edit_datetime.specs.declared.parts.OffsetParts.{OffsetParts}
use Rattle.toml_edit_datetime.specs.declared.parts.Parts.{Parts}
use Rattle.toml_edit_datetime.specs.OffsetView.{offset_view}

abbrev pub date_parts_view : DateParts → Date
date_parts_view d = record { year = d.year; month = d.month; day = d.day }

abbrev pub time_parts_view : TimeParts → Time
time_parts_view t = record {
  hour = t.hour;
  minute = t.minute;
  second = t.second;
  nanosecond = t.nanosecond;
}

abbrev pub offset_parts_view : OffsetParts → reading.OffsetParts
offset_parts_view o = record { offset = offset_view o.offset; is_real = o.is_real }

abbrev pub parts_view : Parts → reading.Parts
parts_view p = record {
  date = option_map date_parts_view p.date;
  time = option_map time_parts_view p.time;
  offset = option_map offset_parts_view p.offset;
}

-- what a function read, seen so
abbrev pub read_as : {A B : Type 0} → (A → B) → Option (A × Bor Text) → Read B
read_as view r = option_map (λ p. (view p.0, p.1.now)) r

-- what a function read
abbrev pub read_of : {A : Type 0} → Option (A × Bor Text) → Read A
read_of r = read_as (λ a. a) r
