-- Dates and times.
use Rattle.std.specs.Prelude.{◌≡◌, ℕ, ◌&&◌, List, Option, None, Some, if◌then◌else◌, nat_lt, option_and_then, option_map}
use Rattle.toml_edit.specs.model.Scalars.{Date, Datetime, datetime, is_real_date, zulu}
use Rattle.toml_edit.specs.model.Slots.{Slot, inserted}
use Rattle.toml_edit.specs.model.Spelling.{SpellsInRange}
use Rattle.toml_edit.specs.model.Text.{Text}
use Rattle.toml_edit.specs.model.Tree.{Node, leaf, unset}
use Rattle.toml_edit.specs.tree.Casts.{datetime_in}

-- the beginning of a minute of a day in UTC, if there is such a day and such a minute
abbrev pub in_utc : Date → ℕ → ℕ → Option Datetime
in_utc d hour minute =
    if is_real_date d && (nat_lt hour 24 && nat_lt minute 60)
    then Some (record {
      date = Some d;
      time = Some (record { hour = hour; minute = minute; second = Some 0; nanosecond = None });
      offset = Some zulu;
    })
    else None

-- the year of a date, with a time or without
abbrev pub year_in : Node → Option ℕ
year_in n = option_map (λ d. d.year) (option_and_then (λ d. d.date) (datetime_in n))

-- the date-time that the text spells was inserted under the name, and the other slots stay
abbrev pub SetsSpelled : Text → Text → List (Slot Node) → List (Slot Node) → Type 0
SetsSpelled t text old new =
    (d : Datetime) × SpellsInRange (datetime d) text × (new ≡ inserted t (leaf (datetime d) None unset) old)

-- the text spells no date-time, or one that does not exist
abbrev pub SpellsNoDate : Text → Type 0
SpellsNoDate text = (d : Datetime) → SpellsInRange (datetime d) text → ⊥
