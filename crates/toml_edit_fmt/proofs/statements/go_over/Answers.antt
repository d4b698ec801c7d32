-- Batch after batch.
use Rattle.std.proofs.Common.{ap, subst, sym, ◌∙◌, rules}
use Rattle.toml_edit_syntax.specs.LateEvents.{AreIn}
use Rattle.toml_edit_fmt.specs.TextView.{ends_deep}
use Rattle.toml_edit_fmt.proofs.WalkLaws.{deep-end, deep-events, next-batch, whole-document}
use Rattle.toml_edit_fmt.proofs.statements.go_over.Goals as goal

pub hand_on-requires : goal.hand_on-requires
hand_on-requires g c =
    rw (c.batches.invariant.source, c.as_slice-in-batches.ensures.value) c.in_ok-batch.ensures.spans

pub batches-preserved : goal.batches-preserved
batches-preserved g c =
    record {
      utf8 = search rules;
      reached = c.in_ok-batch.ensures.after.reached c.in-MoreStatements.is;
      source = c.in_ok-hand_on.ensures.source ∙ c.batches.invariant.source;
      progress = λ d cut.
          next-batch g.S.Statements.takes g.S.Statements.takes_last c.args.text.now d cut c.batches.left.now c.args.to.now c.batches.to
          (c.batches.invariant.progress d cut) c.read_batch.new.events.items c.as_slice-in-batches.result.now c.in_ok-batch.batch.end
          c.in_ok-batch.batch.rest.now c.as_slice-in-batches.ensures.value c.in_ok-batch.ensures.batch c.hand_on.new.to
          (ap ends_deep (c.as_slice-in-batches.ensures.value ∙ sym c.as_slice.ensures.value) ∙ sym c.ends_deep.ensures ∙ c.if-ends_deep.false)
          c.in_ok-hand_on.ensures.statements c.in-MoreStatements.is;
    }

pub returns-then-ends_deep-clause-refused : goal.returns-then-ends_deep-clause-refused
returns-then-ends_deep-clause-refused g c _ d cut =
    deep-events g.S.Statements.takes g.S.Statements.takes_last c.args.text.now d cut c.batches.left.now c.args.to.now c.batches.to
    (c.batches.invariant.progress d cut) c.read_batch.new.events.items c.as_slice.result.now c.in_ok-batch.batch.end
    c.in_ok-batch.batch.rest.now c.as_slice.ensures.value c.in_ok-batch.ensures.batch (sym c.ends_deep.ensures ∙ c.if-ends_deep.true)

pub returns-in-WholeText-clause-walk : goal.returns-in-WholeText-clause-walk
returns-in-WholeText-clause-walk g c d cut =
    whole-document g.S.Statements.takes g.S.Statements.takes_last c.args.text.now d cut c.batches.left.now c.args.to.now c.batches.to
    (c.batches.invariant.progress d cut) c.read_batch.new.events.items c.as_slice-in-batches.result.now c.in_ok-batch.batch.end
    c.in_ok-batch.batch.rest.now c.as_slice-in-batches.ensures.value c.in_ok-batch.ensures.batch c.hand_on.new.to
    (ap ends_deep (c.as_slice-in-batches.ensures.value ∙ sym c.as_slice.ensures.value) ∙ sym c.ends_deep.ensures ∙ c.if-ends_deep.false)
    c.in_ok-hand_on.ensures.statements c.in-WholeText.is

pub returns-in-TooManyBrackets-clause-refused : goal.returns-in-TooManyBrackets-clause-refused
returns-in-TooManyBrackets-clause-refused g c _ d cut =
    deep-end g.S.Statements.takes g.S.Statements.takes_last c.args.text.now d cut c.batches.left.now c.args.to.now c.batches.to
    (c.batches.invariant.progress d cut) c.read_batch.new.events.items c.as_slice.result.now c.in_ok-batch.batch.end
    c.in_ok-batch.batch.rest.now c.as_slice.ensures.value c.in_ok-batch.ensures.batch c.in-TooManyBrackets.is
