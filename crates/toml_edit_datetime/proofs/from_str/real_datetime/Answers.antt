-- Each part that exists is taken on, and one that doesn't makes the date-time one out of range.
use Rattle.std.proofs.Common.{◌≡◌, Option, Some, None, refl, arith}
use Rattle.std.specs.Option.{ok_or}
use Rattle.std.specs.Result.{result_ok}
use Rattle.std.proofs.lemmas.Grind.{common_steps}
use Rattle.std.proofs.lemmas.Result.{err_from_is_err_and}
use Rattle.toml_edit_laws.specs.reading.DatetimeReading.{parts_of}
use Rattle.toml_edit_datetime.specs.PartsView.{parts_view}
use Rattle.toml_edit_datetime.proofs.RangeLaws.{ranged_none, date_refused, time_refused, offset_refused, joined}
use Rattle.toml_edit_datetime.proofs.from_str.real_datetime.Goals as goal

ok_of_some : {T E : Type 0} (o : Option T) (e : E) → result_ok (ok_or o e) ≡ o
ok_of_some None e = refl
ok_of_some (Some x) e = refl

pub returns-in_err-parts : goal.returns-in_err-parts
returns-in_err-parts c =
    let none : parts_of c.args.text.now ≡ None = grind (arith, common_steps) in
    let p = err_from_is_err_and c.from_residual.result c.from_residual.ensures.1 in
    rw p.1 (ranged_none c.args.text.now none)

pub returns-in_err-date : goal.returns-in_err-date
returns-in_err-date c =
    let some : parts_of c.args.text.now ≡ Some (parts_view c.in_ok-parts.parts) = grind (arith, common_steps) in
    let p = err_from_is_err_and c.from_residual-in_err-date.result c.from_residual-in_err-date.ensures.1 in
    rw p.1 (date_refused c.args.text.now (parts_view c.in_ok-parts.parts) some c.in_err-date.ensures)

pub returns-in_err-time : goal.returns-in_err-time
returns-in_err-time c =
    let some : parts_of c.args.text.now ≡ Some (parts_view c.in_ok-parts.parts) = grind (arith, common_steps) in
    let p = err_from_is_err_and c.from_residual-in_err-time.result c.from_residual-in_err-time.ensures.1 in
    rw p.1 (time_refused c.args.text.now (parts_view c.in_ok-parts.parts) some c.in_err-time.ensures)

pub returns-in_err-offset : goal.returns-in_err-offset
returns-in_err-offset c =
    let some : parts_of c.args.text.now ≡ Some (parts_view c.in_ok-parts.parts) = grind (arith, common_steps) in
    let p = err_from_is_err_and c.from_residual-in_err-offset.result c.from_residual-in_err-offset.ensures.1 in
    rw p.1 (offset_refused c.args.text.now (parts_view c.in_ok-parts.parts) some c.in_err-offset.ensures)

pub returns : goal.returns
returns c =
    let some : parts_of c.args.text.now ≡ Some (parts_view c.in_ok-parts.parts) = grind (arith, common_steps) in
    rw c.ok_or-2.ensures.value (rw (ok_of_some c.new.result _)
    (joined c.args.text.now (parts_view c.in_ok-parts.parts) _ _ _ _ some c.in_ok-date.ensures c.in_ok-time.ensures c.in_ok-offset.ensures
    c.new.ensures))
