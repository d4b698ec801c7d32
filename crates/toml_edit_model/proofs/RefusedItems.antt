-- Worked items that the types of a tree don't hold: two equal keys, spellings of something else, scalars that don't exist.
use Rattle.std.specs.Prelude.{◌≡◌, refl, ℕ, pos, negsuc, true, false, codes, Option, Some, None}
use Rattle.std.proofs.lemmas.Bool.{false≢true}
use Rattle.toml_edit_model.specs.Scalars.{integer, float, datetime, Date, Time, Offset, zulu, shift}
use Rattle.toml_edit_model.specs.Tree.{owned, unset, Node, leaf, no_slots, slot, IsWellMade, SlotsAreWellMade}
use Rattle.toml_edit_model.specs.examples.Parts.{plain_key, plain_int, table_at}
use Rattle.toml_edit_model.proofs.TokenTests.{no_scalar, no_key, no_float}

-- ---- keys

true_is_false : true ≡ false → ⊥
true_is_false e = cc

-- two slots of one key, in the root, and in a table in it
pub equal_keys : SlotsAreWellMade (slot (plain_key (codes "a")) (plain_int 1)
    (slot (plain_key (codes "b")) (plain_int 2) (slot (plain_key (codes "a")) (plain_int 3) no_slots))) → ⊥
equal_keys h = true_is_false h.0

pub equal_keys_below : IsWellMade (table_at None (slot (plain_key (codes "a")) (plain_int 1)
    (slot (plain_key (codes "a")) (plain_int 2) no_slots))) → ⊥
equal_keys_below h = true_is_false h.0

-- different keys are well made
pub different_keys : SlotsAreWellMade (slot (plain_key (codes "a")) (plain_int 1) (slot (plain_key (codes "b")) (plain_int 2) no_slots))
different_keys = (refl, tt, (tt, refl), (refl, tt, (tt, refl), tt))

-- a key `a` that is spelled `a b`
pub false_key : SlotsAreWellMade (slot (record (plain_key (codes "a")) { spelling = Some (owned (codes "a b")) }) (plain_int 1) no_slots)
    → ⊥
false_key h = no_key (codes "a b") refl _ h.1

-- ---- scalars

-- 1 spelled `x`
pub false_spelling : IsWellMade (leaf (integer (pos 1)) (Some (owned (codes "x"))) unset) → ⊥
false_spelling h = no_scalar (codes "x") refl (integer (pos 1)) h.0.0

-- 2^63 and -2^63 - 1; the float `1`, which is an integer
pub great_integer : IsWellMade (leaf (integer (pos 9223372036854775808)) None unset) → ⊥
great_integer h = false≢true h.1

pub small_integer : IsWellMade (leaf (integer (negsuc 9223372036854775808)) None unset) → ⊥
small_integer h = false≢true h.1

pub integer_as_float : IsWellMade (leaf (float (codes "1")) None unset) → ⊥
integer_as_float h = no_float (codes "1") refl h.1

-- dates, times and offsets
abbrev at : Option Date → Option Time → Option Offset → Node
at d t o = leaf (datetime (record { date = d; time = t; offset = o })) None unset

abbrev day : ℕ → Option Date
day n = Some (record { year = 2023; month = 2; day = n })

abbrev clock : ℕ → Option ℕ → Option ℕ → Option Time
clock hour second nanosecond = Some (record { hour = hour; minute = 0; second = second; nanosecond = nanosecond })

pub well_made_datetime : IsWellMade (at (day 28) (clock 23 (Some 60) (Some 999999999)) (Some (shift (negsuc 1438))))
well_made_datetime = (tt, refl)

pub no_such_day : IsWellMade (at (day 29) None None) → ⊥
no_such_day h = false≢true h.1

pub no_such_hour : IsWellMade (at None (clock 24 None None) None) → ⊥
no_such_hour h = false≢true h.1

pub too_many_nanoseconds : IsWellMade (at None (clock 0 (Some 0) (Some 1000000000)) None) → ⊥
too_many_nanoseconds h = false≢true h.1

pub nanoseconds_without_second : IsWellMade (at None (clock 0 None (Some 0)) None) → ⊥
nanoseconds_without_second h = false≢true h.1

pub offset_of_a_day : IsWellMade (at (day 28) (clock 0 None None) (Some (shift (pos 1440)))) → ⊥
offset_of_a_day h = false≢true h.1

pub offset_of_a_time : IsWellMade (at None (clock 0 None None) (Some zulu)) → ⊥
offset_of_a_time h = false≢true h.1

pub offset_of_a_date : IsWellMade (at (day 28) None (Some zulu)) → ⊥
offset_of_a_date h = false≢true h.1

pub empty_datetime : IsWellMade (at None None None) → ⊥
empty_datetime h = false≢true h.1
