-- The places up to here are read.
use Rattle.std.proofs.Common.{◌≡◌, ◌^◌, ◌<◌, ◌++◌, take}
use Rattle.std.specs.Str.Parse.{digits_value}
use Rattle.toml_edit_datetime.proofs.Fractions.{zeros}
use Rattle.toml_edit_datetime.proofs.reading.nanoseconds_of.Given as goal

abbrev pub invariant-loop-place : goal.invariant-loop-place
invariant-loop-place l = record {
  small : l.value < 10 ^ l.place;
  read : l.value ≡ digits_value 10 (take l.place (l.digits ++ zeros));
}
