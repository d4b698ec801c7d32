-- What a text gives that is to be a date-time in range.
use Rattle.std.specs.Prelude.{◌≡◌, true, false, Some, Result, IfOk, IsErr, option_map}
use Rattle.std.specs.Result.{result_ok}
use Rattle.toml_edit_model.specs.Text.{Text}
use Rattle.toml_edit_model.specs.Scalars.{Datetime as DatetimeRecord, datetime}
use Rattle.toml_edit_model.specs.Spelling.{SpellsDatetime, SpellsInRange, is_in_range}
use Rattle.toml_edit_datetime.specs.declared.datetime.Datetime.{Datetime}
use Rattle.toml_edit_datetime.specs.declared.datetime.DatetimeFault.{DatetimeFault}
use Rattle.toml_edit_datetime.specs.DatetimeView.{datetime_view}
use Rattle.toml_edit_laws.specs.reading.DatetimeReading.{ranged_of}

-- what it spells, where that is in range, and else the fault
pub record ReadsDatetime (text : Text) (r : Result Datetime DatetimeFault) : Type 0 where
  pub spelled : IfOk r (λ d. SpellsInRange (datetime (datetime_view d)) text)
  pub read : (d : DatetimeRecord) → SpellsDatetime d text → is_in_range (datetime d) text ≡ true
      → option_map datetime_view (result_ok r) ≡ Some d
  pub refused : (d : DatetimeRecord) → SpellsDatetime d text → IsErr r
      → is_in_range (datetime d) text ≡ false
  pub value : option_map datetime_view (result_ok r) ≡ ranged_of text
