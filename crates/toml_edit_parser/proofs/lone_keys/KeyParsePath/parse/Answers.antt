-- A lone path is read, up to a number of keys, and nothing else is.
use Rattle.std.proofs.Common.{◌<◌, ◌≤◌, length, refl, arith}
use Rattle.toml_edit_parser.proofs.LonePathLaws.{gave_every, gave_keys, gave_long, gave_refused, long_refused, marked_path, not_lone}
use Rattle.toml_edit_parser.proofs.LonePathLaws.{of_lone, of_long}
use Rattle.toml_edit_parser.proofs.LoneValueLaws.{not_text}
use Rattle.toml_edit_parser.proofs.lone_keys.KeyParsePath.parse.Goals as goal

pub returns-then-len-gt-MOST_PATH_EVENTS-clause-every : goal.returns-then-len-gt-MOST_PATH_EVENTS-clause-every
returns-then-len-gt-MOST_PATH_EVENTS-clause-every c =
    λ b p a l.
    let q = c.in-Ok.path in
    let many : 238 < length q.events.items = omega (arith, c.if-len-gt-MOST_PATH_EVENTS.true, c.len.ensures) in
    absurd (not_lone c.args.text.now q.before.now q.after.now q.events.items c.in-Ok.ensures.cut many b p a l)

pub returns-then-len-gt-MOST_PATH_EVENTS-clause-refused : goal.returns-then-len-gt-MOST_PATH_EVENTS-clause-refused
returns-then-len-gt-MOST_PATH_EVENTS-clause-refused c =
    let q = c.in-Ok.path in
    let many : 238 < length q.events.items = omega (arith, c.if-len-gt-MOST_PATH_EVENTS.true, c.len.ensures) in
    long_refused c.args.text.now q.before.now q.after.now q.events.items c.in-Ok.ensures.cut many c.refusal_of_all.result
    (rw c.lone_reader-reader.ensures at c.refusal_of_all.ensures.report)

pub returns-else-len-gt-MOST_PATH_EVENTS-clause-keys : goal.returns-else-len-gt-MOST_PATH_EVENTS-clause-keys
returns-else-len-gt-MOST_PATH_EVENTS-clause-keys c =
    let q = c.in-Ok.path in
    let few : length q.events.items ≤ 238 = omega (arith, c.if-len-gt-MOST_PATH_EVENTS.false, c.len.ensures) in
    gave_keys c.args.text.now q.before.now q.after.now q.events.items c.in-Ok.ensures.cut few (λ v. v.items) c.read_keys.result
    (rw c.lone_reader-reader.ensures at c.read_keys.ensures)

pub returns-else-len-gt-MOST_PATH_EVENTS-clause-every : goal.returns-else-len-gt-MOST_PATH_EVENTS-clause-every
returns-else-len-gt-MOST_PATH_EVENTS-clause-every c =
    let q = c.in-Ok.path in
    let few : length q.events.items ≤ 238 = omega (arith, c.if-len-gt-MOST_PATH_EVENTS.false, c.len.ensures) in
    gave_every c.args.text.now q.before.now q.after.now q.events.items c.in-Ok.ensures.cut few (λ v. v.items) c.read_keys.result
    (rw c.lone_reader-reader.ensures at c.read_keys.ensures)

pub returns-else-len-gt-MOST_PATH_EVENTS-clause-long : goal.returns-else-len-gt-MOST_PATH_EVENTS-clause-long
returns-else-len-gt-MOST_PATH_EVENTS-clause-long c =
    λ b p a l.
    let q = c.in-Ok.path in
    let few : length q.events.items ≤ 238 = omega (arith, c.if-len-gt-MOST_PATH_EVENTS.false, c.len.ensures) in
    absurd (gave_long c.args.text.now q.before.now q.after.now q.events.items c.in-Ok.ensures.cut few (λ v. v.items) c.read_keys.result
    (rw c.lone_reader-reader.ensures at c.read_keys.ensures) b p a l)

pub returns-else-len-gt-MOST_PATH_EVENTS-clause-refused : goal.returns-else-len-gt-MOST_PATH_EVENTS-clause-refused
returns-else-len-gt-MOST_PATH_EVENTS-clause-refused c =
    let q = c.in-Ok.path in
    let few : length q.events.items ≤ 238 = omega (arith, c.if-len-gt-MOST_PATH_EVENTS.false, c.len.ensures) in
    gave_refused c.args.text.now q.before.now q.after.now q.events.items c.in-Ok.ensures.cut few (λ v. v.items) c.read_keys.result
    (rw c.lone_reader-reader.ensures at c.read_keys.ensures)

pub returns-in-Err-Text-clause-every : goal.returns-in-Err-Text-clause-every
returns-in-Err-Text-clause-every c =
    λ b p a l.
    absurd (not_text _ c.in-Err-Text.field-0 c.in-Err-Text.mistake c.in-Err-Text.span refl c.in-Err-Text.field-0-is
    (c.in-Err-Text.ensures.every b p a (of_lone c.args.text.now b p a l)))

pub returns-in-Err-Text-clause-long : goal.returns-in-Err-Text-clause-long
returns-in-Err-Text-clause-long c =
    λ b p a l.
    absurd (not_text _ c.in-Err-Text.field-0 c.in-Err-Text.mistake c.in-Err-Text.span refl c.in-Err-Text.field-0-is
    (c.in-Err-Text.ensures.every b p a (of_long c.args.text.now b p a l)))

pub returns-in-Err-Text-clause-refused : goal.returns-in-Err-Text-clause-refused
returns-in-Err-Text-clause-refused c =
    marked_path c.args.text.now c.message.result.now (c.in-Err-Text.span.start, c.in-Err-Text.span.end) c.refusal_with.result
    c.message.ensures.listed
    (rw c.lone_reader-reader.ensures at c.refusal_with.ensures.report)

pub returns-then-len-gt-MOST_PATH_EVENTS-clause-long : goal.returns-then-len-gt-MOST_PATH_EVENTS-clause-long
returns-then-len-gt-MOST_PATH_EVENTS-clause-long c = λ b p a l. rw c.lone_reader-reader.ensures at c.refusal_of_all.ensures.report

pub read_keys-requires-clause-spans : goal.read_keys-requires-clause-spans
read_keys-requires-clause-spans c = rw c.lone_reader-reader.ensures c.in-Ok.ensures.spans
