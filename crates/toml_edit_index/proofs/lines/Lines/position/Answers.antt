-- From the mark before the byte on.
use Rattle.std.proofs.Common.{◌≡◌, ◌∙◌, arith, ◌/◌, ◌*◌, ◌<◌, length}
use Rattle.std.proofs.lemmas.List.{get_or_read}
use Rattle.toml_edit_index.specs.Lines.{first, position_at}
use Rattle.toml_edit_index.proofs.LineLaws.{from_mark, to_byte}
use Rattle.toml_edit_index.proofs.lines.Lines.position.Goals as goal

pub after-requires-clause-line : goal.after-requires-clause-line
after-requires-clause-line c =
    let l = c.args.self.now in
    let b = c.min-byte.result in
    let under : b / 64 < length l.marks.items = omega (arith, c.requires.all) in
    let is : c.index.result.now ≡ position_at l.bytes.now (64 * (b / 64)) =
    get_or_read l.marks.items (b / 64) c.index.result.now under c.index.ensures first ∙ c.requires.marks (b / 64) under in
    (from_mark l.bytes.now b 18446744073709551616 c.index.result.now (omega arith) is (omega arith)).0

pub after-requires-clause-column : goal.after-requires-clause-column
after-requires-clause-column c =
    let l = c.args.self.now in
    let b = c.min-byte.result in
    let under : b / 64 < length l.marks.items = omega (arith, c.requires.all) in
    let is : c.index.result.now ≡ position_at l.bytes.now (64 * (b / 64)) =
    get_or_read l.marks.items (b / 64) c.index.result.now under c.index.ensures first ∙ c.requires.marks (b / 64) under in
    (from_mark l.bytes.now b 18446744073709551616 c.index.result.now (omega arith) is (omega arith)).1

pub returns : goal.returns
returns c =
    let l = c.args.self.now in
    let b = c.min-byte.result in
    let under : b / 64 < length l.marks.items = omega (arith, c.requires.all) in
    let is : c.index.result.now ≡ position_at l.bytes.now (64 * (b / 64)) =
    get_or_read l.marks.items (b / 64) c.index.result.now under c.index.ensures first ∙ c.requires.marks (b / 64) under in
    to_byte l.bytes.now c.args.byte b c.index.result.now c.after.result (omega arith) is c.after.ensures
