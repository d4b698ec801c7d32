-- The search gives the first newline.
use Rattle.std.proofs.Common.{◌≡◌, sym, ◌-◌, arith}
use Rattle.toml_edit_error.proofs.Lines.{first_line-some, first_line-none}
use Rattle.toml_edit_error.proofs.place.first_line.Goals as goal

pub returns-in-Some : goal.returns-in-Some
returns-in-Some c =
    let same : c.as_bytes.result.now ≡ c.args.text.now = c.as_bytes.ensures.value in
    let found = rw same at c.in-Some.ensures in
    let all : c.in-Some.newline - 0 ≡ c.in-Some.newline = omega arith in
    rw (c.range.ensures.value, all) (sym (first_line-some c.args.text.now c.in-Some.newline found))

pub returns-in-None : goal.returns-in-None
returns-in-None c =
    let same : c.as_bytes.result.now ≡ c.args.text.now = c.as_bytes.ensures.value in
    let none = rw same at c.in-None.ensures in
    sym (first_line-none c.args.text.now none)
