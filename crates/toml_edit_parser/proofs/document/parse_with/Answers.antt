-- Batch after batch of the statements of a text, and statement after statement of a batch.
use Rattle.std.proofs.Common.{refl, sym, ◌∙◌}
use Rattle.toml_edit_laws.proofs.versions.Accepting.{later-accepts}
use Rattle.toml_edit_syntax.specs.Grammar.{grammar}
use Rattle.toml_edit_tree.specs.View.{slots_view}
use Rattle.toml_edit_repr.specs.Modes.{mode_of}
use Rattle.toml_edit_parser.proofs.BatchLaws.{last_batch, open_end}
use Rattle.toml_edit_parser.proofs.LoopLaws.{ahead_set, at_start, built, ended, ends-here, goes_on, in_batch, is-whole, more, next}
use Rattle.toml_edit_parser.proofs.LoopLaws.{next_is, refused, stands-here}
use Rattle.toml_edit_parser.proofs.WholeLaws.{parsed, short_refusal}
use Rattle.toml_edit_parser.proofs.document.parse_with.Goals as goal

pub batches-init : goal.batches-init
batches-init c =
    let mode = mode_of c.args.mode in
    let version = grammar c.args.version in
    let t = c.args.source.now in
    let rest = c.statements_of.result.now in
    let es = c.next_batch.new.events.items in
    let b = c.in_ok-batch.batch in
    record {
      spans = c.in_ok-batch.ensures.spans;
      after = (rest, c.in_ok-batch.ensures.after);
      progress = λ d cut.
          let told = c.statements_of.ensures.statements d cut in
          let from = at_start mode version t d rest c.new-building.result cut told (c.new-building.ensures d.has_mark) in
          in_batch mode version t d rest c.new-building.result b.end b.rest.now es from
          (c.in_ok-batch.ensures.batch from.left d.final from.grammar cut.0.1 from.rest_is);
      last = λ d cut.
          let told = c.statements_of.ensures.statements d cut in
          let from = at_start mode version t d rest c.new-building.result cut told (c.new-building.ensures d.has_mark) in
          last_batch mode version t d rest c.new-building.result b.end b.rest.now es from
          (c.in_ok-batch.ensures.batch from.left d.final from.grammar cut.0.1 from.rest_is);
    }

pub statements-init : goal.statements-init
statements-init c =
    record {
      spans = rw c.as_slice-left.ensures.value c.batches.invariant.spans;
      progress = λ d cut.
          rw c.as_slice-left.ensures.value
          (ahead_set (mode_of c.args.mode) (grammar c.args.version) c.args.source.now d c.batches.batch.end c.batches.batch.rest.now
          c.batches.events.items c.batches.building _ refl refl refl refl
          (c.batches.invariant.progress d cut));
    }

pub statements-preserved : goal.statements-preserved
statements-preserved c =
    record {
      spans = c.in-Ok.ensures.rest.0;
      progress = λ d cut.
          let mode = mode_of c.args.mode in
          let version = grammar c.args.version in
          let t = c.args.source.now in
          let end = c.batches.batch.end in
          let behind_it = c.batches.batch.rest.now in
          let es = c.statements.left.now in
          let h = c.statements.building in
          let n = next mode version t d end behind_it es h (c.statements.invariant.progress d cut) (sym c.starts_statement.ensures
          ∙ c.statements-test.true) in
          goes_on mode version t d end behind_it es h n _ _ cut.0
          (c.in-Ok.ensures.statement n.builder n.statement (more mode version t d end behind_it es h n)
          (is-whole mode version t d end behind_it es h n) (stands-here mode version t d end behind_it es h n)
          (ends-here mode version t d end behind_it es h n) n.held n.rest_is);
    }

pub refused_in-requires-clause-names : goal.refused_in-requires-clause-names
refused_in-requires-clause-names c =
    λ d cut.
    let mode = mode_of c.args.mode in
    let version = grammar c.args.version in
    let t = c.args.source.now in
    let end = c.batches.batch.end in
    let behind_it = c.batches.batch.rest.now in
    let es = c.statements.left.now in
    let h = c.statements.building in
    let n = next mode version t d end behind_it es h (c.statements.invariant.progress d cut) (sym c.starts_statement.ensures
    ∙ c.statements-test.true) in
    refused mode version t d end behind_it es h n c.in-Err.fault cut.0
    (c.in-Err.ensures.statement n.builder n.statement (more mode version t d end behind_it es h n)
    (is-whole mode version t d end behind_it es h n) (stands-here mode version t d end behind_it es h n)
    (ends-here mode version t d end behind_it es h n) n.held n.rest_is)

pub batches-preserved : goal.batches-preserved
batches-preserved c =
    let mode = mode_of c.args.mode in
    let version = grammar c.args.version in
    let t = c.args.source.now in
    let rest = c.batches.batch.rest.now in
    let es = c.next_batch-in-MoreStatements.new.events.items in
    let b = c.in_ok-batch-in-MoreStatements.batch in
    let h = c.statements.building in
    record {
      spans = c.in_ok-batch-in-MoreStatements.ensures.spans;
      after = (rest, c.in_ok-batch-in-MoreStatements.ensures.after);
      progress = λ d cut.
          let end = ended mode version t d c.batches.batch.end rest c.statements.left.now h (c.statements.invariant.progress d cut)
          (sym c.starts_statement.ensures ∙ c.statements-test.false) in
          let from = next_is mode version t d c.batches.batch.end rest c.statements.left.now h end c.in-MoreStatements.is in
          in_batch mode version t d rest h b.end b.rest.now es from
          (c.in_ok-batch-in-MoreStatements.ensures.batch from.left d.final from.grammar cut.0.1 from.rest_is);
      last = λ d cut.
          let end = ended mode version t d c.batches.batch.end rest c.statements.left.now h (c.statements.invariant.progress d cut)
          (sym c.starts_statement.ensures ∙ c.statements-test.false) in
          let from = next_is mode version t d c.batches.batch.end rest c.statements.left.now h end c.in-MoreStatements.is in
          last_batch mode version t d rest h b.end b.rest.now es from
          (c.in_ok-batch-in-MoreStatements.ensures.batch from.left d.final from.grammar cut.0.1 from.rest_is);
    }

pub returns-in-WholeText-clause-parsed : goal.returns-in-WholeText-clause-parsed
returns-in-WholeText-clause-parsed c =
    let mode = mode_of c.args.mode in
    let version = grammar c.args.version in
    let t = c.args.source.now in
    let end = c.batches.batch.end in
    let rest = c.batches.batch.rest.now in
    let es = c.statements.left.now in
    let h = c.statements.building in
    let (d, cut) = c.batches.invariant.after.1.cut c.in-WholeText.is in
    let e = ended mode version t d end rest es h (c.statements.invariant.progress d cut) (sym c.starts_statement.ensures
    ∙ c.statements-test.false) in
    let tree = built mode version t d end rest es h e (slots_view c.put_in_order.new.slots) c.trailing-after.result cut c.in-WholeText.is
    (c.in_ok-put_in_order-in-WholeText.ensures ∙ c.whole-slots.ensures e.builder e.held) c.trailing-after.ensures in
    let accepted = (later-accepts version t d (cut, tree.0)).1 in
    parsed mode version t d (slots_view c.put_in_order.new.slots) c.trailing-after.result c.ends_open-open_end.result cut tree
    (open_end t d c.batches.events.items c.ends_open-open_end.result (c.batches.invariant.last d cut c.in-WholeText.is) accepted
    (λ start ss final is place. c.ends_open-open_end.ensures start ss final (c.as_slice-in-WholeText.ensures.value ∙ is) place))

pub returns-in-TooManyBrackets-clause-every : goal.returns-in-TooManyBrackets-clause-every
returns-in-TooManyBrackets-clause-every c =
    λ d accepted.
    let mode = mode_of c.args.mode in
    let version = grammar c.args.version in
    let t = c.args.source.now in
    let end = c.batches.batch.end in
    let rest = c.batches.batch.rest.now in
    let es = c.statements.left.now in
    let h = c.statements.building in
    let e = ended mode version t d end rest es h (c.statements.invariant.progress d accepted.0) (sym c.starts_statement.ensures
    ∙ c.statements-test.false) in
    absurd (e.deep c.in-TooManyBrackets.is)

pub returns-in-TooManyBrackets-clause-refused : goal.returns-in-TooManyBrackets-clause-refused
returns-in-TooManyBrackets-clause-refused c =
    let mode = mode_of c.args.mode in
    let version = grammar c.args.version in
    let t = c.args.source.now in
    let end = c.batches.batch.end in
    let rest = c.batches.batch.rest.now in
    let es = c.statements.left.now in
    let h = c.statements.building in
    short_refusal version t c.refusal_of_all.result (c.batches.invariant.after.1.brackets c.in-TooManyBrackets.is)
    (λ d cut.
    let e = ended mode version t d end rest es h (c.statements.invariant.progress d cut) (sym c.starts_statement.ensures
    ∙ c.statements-test.false) in
    e.deep c.in-TooManyBrackets.is)
    (c.refusal_of_all.ensures.refused version)

pub trailing-after-requires : goal.trailing-after-requires
trailing-after-requires c = c.statements.invariant.spans
