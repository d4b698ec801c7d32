-- The name of the first key, which is that of the key that would be read.
use Rattle.std.proofs.Common.{[], Some, None, arith, refl}
use Rattle.std.specs.Cow.{cow_str_bytes}
use Rattle.std.proofs.lemmas.Result.{err_from_is_err_and}
use Rattle.toml_edit_model.specs.Tree.{owned, unset}
use Rattle.toml_edit_parser.specs.PairRead.{key_with, leaf_of}
use Rattle.toml_edit_parser.specs.ValueRead.{spanned_raw}
use Rattle.toml_edit_parser.proofs.KeyPathLaws.{behind-dot-in, last-read, name-refused, passed-read}
use Rattle.toml_edit_parser.proofs.SplitLaws.{first_in}
use Rattle.toml_edit_parser.proofs.key.next_name.Goals as goal

pub returns-in_err-name-clause-name : goal.returns-in_err-name-clause-name
returns-in_err-name-clause-name c =
    λ own p start are stands at.
    let q = err_from_is_err_and c.from_residual.result c.from_residual.ensures.1 in
    rw (q.1, q.2) (name-refused c.args.reader.now.source.now own p start c.args.path c.in-Some.first c.in-Some.rest.now c.in_err-name.field-0.0
    (record { are = are; stands = stands; at = at; split = c.in-Some.ensures }) c.in_err-name.ensures.name)

pub returns-in-None-clause-name : goal.returns-in-None-clause-name
returns-in-None-clause-name c =
    λ own p start are stands at.
    let name = cow_str_bytes c.in_ok-name.name in
    let k = key_with name c.in-Some.first.span (leaf_of c.args.path) (spanned_raw c.args.path.before) (owned []) in (
      record { key = k; span = c.in-Some.first.span; rest = None },
      last-read c.args.reader.now.source.now own p start c.args.path c.in-Some.first c.in-Some.rest.now name k
          (record { are = are; stands = stands; at = at; split = c.in-Some.ensures }) c.in_ok-name.ensures.name c.in-None.ensures refl,
      refl,
      refl,
    )

pub returns-in-Some-split_dot-clause-name : goal.returns-in-Some-split_dot-clause-name
returns-in-Some-split_dot-clause-name c =
    λ own p start are stands at.
    let name = cow_str_bytes c.in_ok-name.name in
    let k = key_with name c.in-Some.first.span unset (spanned_raw c.args.path.before) (spanned_raw c.in-Some-split_dot.field-0-0) in (
      record { key = k; span = c.in-Some.first.span; rest = Some c.in-Some-split_dot.inside },
      passed-read c.args.reader.now.source.now own p start c.args.path c.in-Some.first c.in-Some.rest.now name k
          c.in-Some-split_dot.field-0-0 c.in-Some-split_dot.inside
          (record { are = are; stands = stands; at = at; split = c.in-Some.ensures }) c.in_ok-name.ensures.name c.in-Some-split_dot.ensures
          refl,
      refl,
      refl,
    )

pub returns-in-Some-split_dot-clause-rest : goal.returns-in-Some-split_dot-clause-rest
returns-in-Some-split_dot-clause-rest c =
    let first = first_in c.args.reader.now.source.now c.args.path.events.now c.in-Some.first c.in-Some.rest.now c.in-Some.ensures c.requires in
    let dot = behind-dot-in c.args.reader.now.source.now c.args.path c.in-Some-split_dot.field-0-0 c.in-Some-split_dot.inside c.in-Some.rest.now
    c.in-Some-split_dot.ensures first.1 in
    (dot.0, omega (arith, first.2, dot.1))
