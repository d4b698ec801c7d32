use Rattle.std.proofs.Common.{string_bytes, arith, subst, sym}
use Rattle.std.proofs.lemmas.Result.{err_from_is_err_and}
use Rattle.toml_edit_parser.specs.Near.{IsNear}
use Rattle.toml_edit_parser.proofs.KeyPathLaws.{after-dot-in, behind-dot-in, last-read, name-refused, passed-read}
use Rattle.toml_edit_parser.proofs.SplitLaws.{first_in}
use Rattle.toml_edit_parser.proofs.NearLaws.{near}
use Rattle.toml_edit_parser.proofs.key.next_key.Goals as goal

pub returns-in_err-name-clause-key : goal.returns-in_err-name-clause-key
returns-in_err-name-clause-key c =
    λ own p start are stands at.
    let q = err_from_is_err_and c.from_residual.result c.from_residual.ensures.1 in
    rw (q.1, q.2) (name-refused c.args.reader.now.source.now own p start c.args.path c.in-Some.first c.in-Some.rest.now c.in_err-name.field-0.0
    (record { are = are; stands = stands; at = at; split = c.in-Some.ensures }) c.in_err-name.ensures.name)

pub returns-in-None-clause-key : goal.returns-in-None-clause-key
returns-in-None-clause-key c =
    λ own p start are stands at.
    last-read c.args.reader.now.source.now own p start c.args.path c.in-Some.first c.in-Some.rest.now (string_bytes c.in_ok-name.name)
    c.last_key-key.result
    (record { are = are; stands = stands; at = at; split = c.in-Some.ensures }) c.in_ok-name.ensures.name c.in-None.ensures
    c.last_key-key.ensures.key

pub returns-in-Some-split_dot-clause-key : goal.returns-in-Some-split_dot-clause-key
returns-in-Some-split_dot-clause-key c =
    λ own p start are stands at.
    passed-read c.args.reader.now.source.now own p start c.args.path c.in-Some.first c.in-Some.rest.now (string_bytes c.in_ok-name.name)
    c.passed_key-key.result
    c.in-Some-split_dot.after c.in-Some-split_dot.inside
    (record { are = are; stands = stands; at = at; split = c.in-Some.ensures }) c.in_ok-name.ensures.name c.in-Some-split_dot.ensures
    c.passed_key-key.ensures.key

pub returns-in-Some-split_dot-clause-span : goal.returns-in-Some-split_dot-clause-span
returns-in-Some-split_dot-clause-span c =
    (first_in c.args.reader.now.source.now c.args.path.events.now c.in-Some.first c.in-Some.rest.now c.in-Some.ensures c.requires.spans).0

pub returns-in-Some-split_dot-clause-rest : goal.returns-in-Some-split_dot-clause-rest
returns-in-Some-split_dot-clause-rest c =
    let first = first_in c.args.reader.now.source.now c.args.path.events.now c.in-Some.first c.in-Some.rest.now c.in-Some.ensures c.requires.spans in
    let dot = behind-dot-in c.args.reader.now.source.now c.args.path c.in-Some-split_dot.after c.in-Some-split_dot.inside c.in-Some.rest.now
    c.in-Some-split_dot.ensures first.1 in
    (dot.0, omega (arith, first.2, dot.1))

pub last_key-key-requires-clause-span : goal.last_key-key-requires-clause-span
last_key-key-requires-clause-span c =
    near c.args.reader.now.source.now c.in-Some.first.span c.args.reader.now.short
    (first_in c.args.reader.now.source.now c.args.path.events.now c.in-Some.first c.in-Some.rest.now c.in-Some.ensures c.requires.spans).0

pub passed_key-key-requires-clause-span : goal.passed_key-key-requires-clause-span
passed_key-key-requires-clause-span c =
    near c.args.reader.now.source.now c.in-Some.first.span c.args.reader.now.short
    (first_in c.args.reader.now.source.now c.args.path.events.now c.in-Some.first c.in-Some.rest.now c.in-Some.ensures c.requires.spans).0

pub passed_key-key-requires-clause-after : goal.passed_key-key-requires-clause-after
passed_key-key-requires-clause-after c =
    near c.args.reader.now.source.now c.in-Some-split_dot.after c.args.reader.now.short
    (after-dot-in c.args.reader.now.source.now c.args.path c.in-Some-split_dot.after c.in-Some-split_dot.inside c.in-Some.rest.now
    c.in-Some-split_dot.ensures (first_in c.args.reader.now.source.now c.args.path.events.now c.in-Some.first c.in-Some.rest.now c.in-Some.ensures c.requires.spans).1).0

pub returns-in-Some-split_dot-clause-near : goal.returns-in-Some-split_dot-clause-near
returns-in-Some-split_dot-clause-near c =
    let t = c.args.reader.now.source.now in
    let dot = after-dot-in t c.args.path c.in-Some-split_dot.after c.in-Some-split_dot.inside c.in-Some.rest.now
    c.in-Some-split_dot.ensures (first_in c.args.reader.now.source.now c.args.path.events.now c.in-Some.first c.in-Some.rest.now c.in-Some.ensures c.requires.spans).1 in (
      subst IsNear (sym dot.2) c.requires.prefix,
      subst IsNear (sym dot.3) c.requires.suffix,
      near t c.in-Some-split_dot.inside.before c.args.reader.now.short dot.1,
    )
