-- What is read is in range exactly where its parts exist.
use Rattle.std.proofs.Common.{◌≡◌, ℕ, Bool, true, false, cond, ◌&&◌, List, Option, Some, None, Result, Ok, Err, is_some, IsTrue, refl, sym}
use Rattle.std.proofs.Common.{ap, subst, ◌∙◌, inl, inr}
use Rattle.std.specs.Prelude.{option_map, ◌↔◌}
use Rattle.std.specs.Result.{result_ok}
use Rattle.std.proofs.lemmas.Bool.{false≢true, cases_Bool}
use Rattle.toml_edit_model.specs.Scalars.{Date as DateRecord, Time as TimeRecord, Offset as OffsetData, Datetime as DatetimeRecord}
use Rattle.toml_edit_model.specs.Scalars.{datetime, is_real_date, is_real_time, is_absent_or}
use Rattle.toml_edit_model.specs.Spelling.{SpellsDatetime, is_in_range}
use Rattle.toml_edit_model.specs.Tree.{has_real_parts}
use Rattle.toml_edit_datetime.specs.declared.datetime.Datetime.{Datetime}
use Rattle.toml_edit_datetime.specs.declared.datetime.DatetimeFault.{DatetimeFault}
use Rattle.toml_edit_datetime.specs.DatetimeView.{datetime_view}
use Rattle.toml_edit_laws.specs.reading.DatetimeReading.{OffsetParts, Parts, parts_of, parts_datetime, datetime_of, ranged_of, are_real}
use Rattle.toml_edit_datetime.specs.ReadsDatetime.{ReadsDatetime}
use Rattle.toml_edit_laws.proofs.common.OptionSteps.{bind_some}
use Rattle.toml_edit_laws.proofs.reading.Steps.{guard_some}
use Rattle.toml_edit_laws.proofs.reading.DatetimeLaws.{parts_take, datetime_takes, datetime_again}
use Rattle.toml_edit_laws.proofs.spellings.OffsetLaws.{real_parts}

-- ---- tests

-- a value was let through
let_through : {A : Type 0} (b : Bool) (x y : A) → Some y ≡ cond b (Some x) None → (b ≡ true) × (x ≡ y)
let_through b x y e = guard_some b x y (sym e)

-- none was
held_back : {A : Type 0} (b : Bool) (x : A) → None ≡ cond b (Some x) None → b ≡ false
held_back true x e = absurd cc
held_back false x e = refl

-- ---- reading

ranged_step : (t : List ℕ) (p : Parts) → parts_of t ≡ Some p → ranged_of t ≡ cond (are_real p) (Some (parts_datetime p)) None
unfolding ranged_of datetime_of
ranged_step t p e = rw (e, (parts_take t p e).1) refl

pub ranged_none : (t : List ℕ) → parts_of t ≡ None → None ≡ ranged_of t
unfolding ranged_of datetime_of
ranged_none t e = rw e refl

-- the parts, and which of them exist
abbrev date_is_real : Parts → Bool
date_is_real p = is_absent_or is_real_date p.date

abbrev time_is_real : Parts → Bool
time_is_real p = is_absent_or is_real_time p.time

abbrev offset_is_real : Parts → Bool
offset_is_real p = is_absent_or (λ (o : OffsetParts). o.is_real) p.offset

refused_right : (a c : Bool) (p : Parts) → cond ((a && false) && c) (Some (parts_datetime p)) None ≡ None
refused_right true c p = refl
refused_right false c p = refl

refused_last : (a : Bool) (p : Parts) → cond (a && false) (Some (parts_datetime p)) None ≡ None
refused_last true p = refl
refused_last false p = refl

abbrev made : Option DateRecord → Option TimeRecord → Option OffsetData → DatetimeRecord
made date time offset = record { date = date; time = time; offset = offset }

pub date_refused : (t : List ℕ) (p : Parts) → parts_of t ≡ Some p → None ≡ cond (date_is_real p) (Some p.date) None → None ≡ ranged_of t
date_refused t p e none = let bad = held_back (date_is_real p) p.date none in sym (ranged_step t p e ∙ rw bad refl)

pub time_refused : (t : List ℕ) (p : Parts) → parts_of t ≡ Some p → None ≡ cond (time_is_real p) (Some p.time) None → None ≡ ranged_of t
time_refused t p e none =
    let bad = held_back (time_is_real p) p.time none in
    sym (ranged_step t p e ∙ rw bad (refused_right (date_is_real p) (offset_is_real p) p))

pub offset_refused : (t : List ℕ) (p : Parts) → parts_of t ≡ Some p → None
    ≡ cond (offset_is_real p) (Some (option_map (λ o. o.offset) p.offset)) None → None ≡ ranged_of t
offset_refused t p e none =
    let bad = held_back (offset_is_real p) (option_map (λ o. o.offset) p.offset) none in
    sym (ranged_step t p e ∙ rw bad (refused_last (date_is_real p && time_is_real p) p))

-- all parts exist
pub joined : (t : List ℕ) (p : Parts) (date : Option DateRecord) (time : Option TimeRecord) (offset : Option OffsetData)
    (r : Option DatetimeRecord) → parts_of t ≡ Some p
    → Some date ≡ cond (date_is_real p) (Some p.date) None
    → Some time ≡ cond (time_is_real p) (Some p.time) None
    → Some offset ≡ cond (offset_is_real p) (Some (option_map (λ o. o.offset) p.offset)) None
    → r ≡ cond (has_real_parts date time offset) (Some (made date time offset)) None → r ≡ ranged_of t
joined t p date time offset r e has_date has_time has_offset made_it =
    let (rd, ed) = let_through (date_is_real p) p.date date has_date in
    let (rt, et) = let_through (time_is_real p) p.time time has_time in
    let (ro, eo) = let_through (offset_is_real p) (option_map (λ o. o.offset) p.offset) offset has_offset in
    let all : are_real p ≡ true = rw (rd, rt, ro) refl in
    let (spells, range) = parts_take t p e in
    let real : has_real_parts p.date p.time (option_map (λ o. o.offset) p.offset) ≡ true =
    real_parts (parts_datetime p) t spells (range ∙ all) in
    let here : has_real_parts date time offset ≡ true = rw (← ed, ← et, ← eo) real in
    let one : r ≡ Some (made date time offset) = made_it ∙ rw here refl in
    let same : Some (made date time offset) ≡ Some (parts_datetime p) = rw (← ed, ← et, ← eo) refl in
    one ∙ same ∙ sym (ranged_step t p e ∙ rw all refl)

-- ---- what is answered

-- the date-time is spelled, and in range
ranged_takes : (t : List ℕ) (d : DatetimeRecord) → ranged_of t ≡ Some d → (datetime_of t ≡ Some d) × (is_in_range (datetime d) t ≡ true)
unfolding ranged_of
ranged_takes t d e =
    let (x, found, f) = bind_some (datetime_of t) _ d e in
    let (range, same) = guard_some (is_in_range (datetime x) t) x d f in
    (found ∙ ap (λ (y : DatetimeRecord). Some y) same, subst (λ (y : DatetimeRecord). is_in_range (datetime y) t ≡ true) same range)

ranged_again : (t : List ℕ) (d : DatetimeRecord) → SpellsDatetime d t → is_in_range (datetime d) t ≡ true → ranged_of t ≡ Some d
unfolding ranged_of
ranged_again t d spells range = rw (datetime_again t d spells, range) refl

pub reads : (t : List ℕ) (r : Result Datetime DatetimeFault) → option_map datetime_view (result_ok r) ≡ ranged_of t → ReadsDatetime t r
reads t (Ok d) e =
    let (found, range) = ranged_takes t (datetime_view d) (sym e) in
    record {
      spelled = (datetime_takes t (datetime_view d) found, range);
      read = λ x spells real. sym found ∙ datetime_again t x spells;
      refused = λ x spells err. absurd (false≢true err);
      value = e;
    }
reads t (Err f) e =
    record {
      spelled = tt;
      read = λ x spells real. e ∙ ranged_again t x spells real;
      refused = λ x spells err. elim (cases_Bool (is_in_range (datetime x) t)) [
        | inl real ↦ let wrong = e ∙ ranged_again t x spells real in absurd cc
        | inr other ↦ other
      ];
      value = e;
    }

-- a text is read where it is spelled
found_takes : (t : List ℕ) (o : Option DatetimeRecord) → datetime_of t ≡ o → is_some o ≡ true → (d : DatetimeRecord) × SpellsDatetime d t
found_takes t (Some d) e some = (d, datetime_takes t d e)
found_takes t None e some = absurd (false≢true some)

pub spelled_or_not : (t : List ℕ) (b : Bool) → b ≡ is_some (datetime_of t) → IsTrue b ↔ ((d : DatetimeRecord) × SpellsDatetime d t)
spelled_or_not t b e =
    (λ h. found_takes t (datetime_of t) refl (sym e ∙ h), λ (d, spells). e ∙ ap is_some (datetime_again t d spells))
