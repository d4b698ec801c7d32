-- A path of one event is one key; another goes the long way.
use Rattle.std.proofs.Common.{◌∙◌, None, eqb-true, length, refl, sym, string_bytes}
use Rattle.std.proofs.lemmas.Result.{err_from_is_err_and}
use Rattle.toml_edit_laws.specs.AddPath.{a_value}
use Rattle.toml_edit_tree.specs.View.{item_view, slots_view}
use Rattle.toml_edit_parser.specs.declared.key.PathKey.{PathKey}
use Rattle.toml_edit_parser.proofs.EntryLaws.{some-key}
use Rattle.toml_edit_parser.proofs.PathLaws.{last-here, last-step, line-put, name-step, no-dot}
use Rattle.toml_edit_parser.proofs.SplitLaws.{first_in}
use Rattle.toml_edit_parser.proofs.NearLaws.{near}
use Rattle.toml_edit_parser.proofs.document.path.add_value.Goals as goal
use Rattle.toml_edit_parser.proofs.ReadLaws.{mapped}

pub returns-in_default-clause-added : goal.returns-in_default-clause-added
returns-in_default-clause-added c =
    λ mode s ms at. some-key at.segments at.start c.args.path.events.now _ at.ends at.read.2 c.in_default.ensures

pub returns-in_err-name-clause-added : goal.returns-in_err-name-clause-added
returns-in_err-name-clause-added c =
    λ mode s ms at.
    let q = err_from_is_err_and c.from_residual.result c.from_residual.ensures.1 in
    rw (q.1, q.2) (mapped c.in_err-name.field-0.0 (λ r. ⊥) _ (λ r none. absurd none)
    (name-step mode c.args.reader.now.source.now c.in_err-name.field-0.0 s ms c.args.path c.in-Some.first c.in-Some.rest.now c.in-Some.ensures
    c.in_err-name.ensures.name at))

pub add_last-requires : goal.add_last-requires
add_last-requires c =
    record {
      span =
          (first_in c.args.reader.now.source.now c.args.path.events.now c.in-Some.first c.in-Some.rest.now c.in-Some.ensures c.requires.events).0;
    }

pub returns-clause-added : goal.returns-clause-added
returns-clause-added c =
    λ mode s ms at.
    let t = c.args.reader.now.source.now in
    let n = item_view c.args.item.now in
    let ss = slots_view c.args.slots.now in
    let first = c.in-Some.first in
    let rest = c.in-Some.rest.now in
    let k : PathKey = record { key = c.last_key.result; span = first.span; rest = None } in
    last-here mode t c.add_last.result s ms k (a_value n) ss _
    (last-step mode t s ms c.args.path first rest (string_bytes c.in_ok-name.name) c.last_key.result c.in-Some.ensures
    c.in_ok-name.ensures.name (no-dot c.args.path rest
    (eqb-true (length rest) 0 (sym c.is_empty.ensures ∙ c.if-not-is_empty.false))) c.last_key.ensures.key at) refl
    (λ m is. line-put mode t c.add_last.result s m k.key k.span n ss _ is c.add_last.ensures.last)

pub returns-then-not-is_empty-clause-added : goal.returns-then-not-is_empty-clause-added
returns-then-not-is_empty-clause-added c = λ mode s ms at. c.add_path.ensures.added mode s ms tt at

pub last_key-requires-clause-span : goal.last_key-requires-clause-span
last_key-requires-clause-span c =
    near c.args.reader.now.source.now c.in-Some.first.span c.args.reader.now.short
    (first_in c.args.reader.now.source.now c.args.path.events.now c.in-Some.first c.in-Some.rest.now c.in-Some.ensures c.requires.events).0

pub last_key-requires-clause-prefix : goal.last_key-requires-clause-prefix
last_key-requires-clause-prefix c =
    near c.args.reader.now.source.now c.args.path.prefix c.args.reader.now.short c.requires.prefix

pub last_key-requires-clause-suffix : goal.last_key-requires-clause-suffix
last_key-requires-clause-suffix c =
    near c.args.reader.now.source.now c.args.path.suffix c.args.reader.now.short c.requires.suffix

pub last_key-requires-clause-before : goal.last_key-requires-clause-before
last_key-requires-clause-before c =
    near c.args.reader.now.source.now c.args.path.before c.args.reader.now.short c.requires.before
