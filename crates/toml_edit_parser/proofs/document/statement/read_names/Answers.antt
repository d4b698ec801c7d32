-- The names of a path's keys, one after another.
use Rattle.std.proofs.Common.{◌∷◌, ◌++◌, [], ap, sym, ◌∙◌}
use Rattle.std.specs.Cow.{cow_str_bytes}
use Rattle.std.proofs.lemmas.List.{map-append}
use Rattle.std.proofs.lemmas.Result.{err_from_is_err_and}
use Rattle.toml_edit_model.specs.Text.{Text}
use Rattle.toml_edit_parser.specs.BlockRead.{names}
use Rattle.toml_edit_parser.proofs.NamesLaws.{names-begin, names-next, names-end}
use Rattle.toml_edit_parser.proofs.document.statement.read_names.Goals as goal

pub keys-init : goal.keys-init
keys-init c =
    record {
      spans = c.requires;
      named = λ own p start ends stands read. names-begin c.args.reader.now.source.now own p start c.args.path _ ends stands read
          (ap names c.clear.ensures.items);
    }

pub returns-in_err-name-clause-names : goal.returns-in_err-name-clause-names
returns-in_err-name-clause-names c =
    λ own p start ends stands read.
    let q = err_from_is_err_and c.from_residual.result c.from_residual.ensures.1 in
    let n = c.keys.invariant.named own p start ends stands read in
    rw (q.1, q.2) (c.in_err-name.ensures.name own n.segments n.start n.ends n.stands n.read)

pub keys-preserved : goal.keys-preserved
keys-preserved c =
    record {
      spans = let inside = rw c.in-Some.is at c.in_ok-name.ensures.rest in inside.0;
      named = λ own p start ends stands read.
          let n = c.keys.invariant.named own p start ends stands read in
          let done = names c.keys.names.items in
          let first = c.in_ok-name.ensures.name own n.segments n.start n.ends n.stands n.read in
          names-next c.args.reader.now.source.now own p done _ c.keys.left first.0 c.in-Some.inside n first.1
          (ap names c.in_ok-push.ensures.items ∙ map-append cow_str_bytes c.keys.names.items (c.in_ok-name.field-0.name ∷ [])
          ∙ ap (λ (x : Text). done ++ (x ∷ [])) (sym first.2))
          (first.3 ∙ c.in-Some.is);
    }

pub returns-in-None-clause-names : goal.returns-in-None-clause-names
returns-in-None-clause-names c =
    λ own p start ends stands read.
    let n = c.keys.invariant.named own p start ends stands read in
    let done = names c.keys.names.items in
    let first = c.in_ok-name.ensures.name own n.segments n.start n.ends n.stands n.read in
    names-end c.args.reader.now.source.now own p done _ c.keys.left first.0 n first.1
    (ap names c.in_ok-push.ensures.items ∙ map-append cow_str_bytes c.keys.names.items (c.in_ok-name.field-0.name ∷ [])
    ∙ ap (λ (x : Text). done ++ (x ∷ [])) (sym first.2))
    (first.3 ∙ c.in-None.is)
