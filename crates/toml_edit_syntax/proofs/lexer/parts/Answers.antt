-- Each turn of the loop adds the events of a statement, as the text is read.
use Rattle.std.proofs.Common.{◌≡◌, ◌≤◌, ◌-◌, List, length, refl, sym, ap, subst, ◌∙◌, rules, arith, le_refl}
use Rattle.std.proofs.lemmas.Grind.{common_steps}
use Rattle.std.proofs.lemmas.List.{length-append}
use Rattle.toml_edit_model.specs.Text.{Text}
use Rattle.toml_edit_syntax.specs.declared.event.Event.{Event}
use Rattle.toml_edit_syntax.specs.ValueReading.{Reading, got}
use Rattle.toml_edit_syntax.specs.Gives.{StopsAs}
use Rattle.toml_edit_syntax.specs.EventReading.{preceded}
use Rattle.toml_edit_syntax.specs.StatementReading.{statement_read, rest_read}
use Rattle.toml_edit_syntax.specs.Batches.{EndsWith}
use Rattle.toml_edit_syntax.proofs.EventSteps.{goes, added}
use Rattle.toml_edit_syntax.proofs.ItemLoop.{stops}
use Rattle.toml_edit_syntax.proofs.SpanLaws.{AreSpans}
use Rattle.toml_edit_syntax.proofs.BatchLaws as batch
use Rattle.toml_edit_syntax.proofs.StatementsLoop as loop
use Rattle.toml_edit_syntax.proofs.lexer.parts.Goals as goal

-- what is left is no longer than the text
fits_in : (t rest : Text) → EndsWith t rest → length rest ≤ length t
fits_in t rest (before, is) = omega (arith, ap length is, length-append before rest)

pub statements-init : goal.statements-init
statements-init c =
    record {
      utf8 = search rules;
      ends = c.requires.ends;
      shorter = le_refl _;
      less = λ some. absurd (let none = ap length c.requires.none in omega (arith, some, none));
      read = λ n h. (n, h, refl);
      batch = λ ss final are last is. batch.none_gone (length c.args.source.now) ss final c.args.s.now c.args.events.now.items are is
          c.requires.none (fits_in c.args.source.now c.args.s.now c.requires.ends);
      spans = subst (AreSpans c.args.source.now) (sym c.requires.none) tt;
    }

pub returns-then-is_empty-clause-reads : goal.returns-then-is_empty-clause-reads
returns-then-is_empty-clause-reads c n h =
    let l = c.statements in
    let whole = length c.args.source.now in
    let (k, room, read) = l.invariant.read n h in
    let nothing : length c.split_at.result.1.now ≡ 0 = grind (arith, common_steps) in
    let pushed = added l.events.items c.push.new.self.items c.new_event.result _ c.in_ok-push.ensures.items c.new_event.ensures in
    read
    ∙ ap (preceded l.events.items) (loop.ends whole l.rest.now (fits_in c.args.source.now l.rest.now l.invariant.ends) k room
    c.trivia-len.result.1 c.trivia-len.result.0 c.split_at.result.0.now c.split_at.result.1.now c.trivia-len.ensures.value
    c.split_at.ensures.front c.split_at.ensures.back nothing)
    ∙ ap (λ (es : List Event). got es l.rest.now) (sym pushed)

pub returns-then-is_empty-clause-batch : goal.returns-then-is_empty-clause-batch
returns-then-is_empty-clause-batch c ss final are last is =
    let l = c.statements in
    let whole = length c.args.source.now in
    let g = l.invariant.batch ss final are last is in
    let nothing : length c.split_at.result.1.now ≡ 0 = grind (arith, common_steps) in
    batch.batch_ends whole (whole - length c.args.s.now) ss final l.events.items l.rest.now g last c.split_at.result.0.now
    c.split_at.result.1.now c.trivia-len.result.0 c.trivia-len.result.1 c.trivia-len.ensures.value c.split_at.ensures.front
    c.split_at.ensures.back
    c.new_event.result c.push.new.self.items l.rest.now nothing c.new_event.ensures c.in_ok-push.ensures.items

pub returns-then-is_empty-clause-spans : goal.returns-then-is_empty-clause-spans
returns-then-is_empty-clause-spans c =
    let l = c.statements in
    let nothing : length c.split_at.result.1.now ≡ 0 = grind (arith, common_steps) in
    batch.end_spans l.rest.now c.split_at.result.0.now c.split_at.result.1.now c.trivia-len.result.0 c.trivia-len.result.1
    c.trivia-len.ensures.value c.split_at.ensures.front c.split_at.ensures.back
    c.args.source.now c.new_event.result l.events.items c.push.new.self.items l.invariant.ends nothing c.new_event.ensures
    c.in_ok-push.ensures.items
    l.invariant.spans

pub returns-then-len-ge-BATCH_SIZE-clause-batch : goal.returns-then-len-ge-BATCH_SIZE-clause-batch
returns-then-len-ge-BATCH_SIZE-clause-batch c ss final are last is =
    let l = c.statements in
    let whole = length c.args.source.now in
    let g = l.invariant.batch ss final are last is in
    batch.batch_stops whole (whole - length c.args.s.now) ss final l.events.items l.rest.now g last c.split_at.result.0.now
    c.split_at.result.1.now c.trivia-len.result.0 c.trivia-len.result.1 c.trivia-len.ensures.value c.split_at.ensures.front
    c.split_at.ensures.back
    (grind (arith, common_steps))

pub returns-then-inside-clause-reads : goal.returns-then-inside-clause-reads
returns-then-inside-clause-reads c n h =
    let l = c.statements in
    let (k, room, read) = l.invariant.read n h in
    read
    ∙ ap (preceded l.events.items) (loop.stops_inside (length c.args.source.now) l.rest.now
    (fits_in c.args.source.now l.rest.now l.invariant.ends) k room c.trivia-len.result.1 c.trivia-len.result.0 c.split_at.result.0.now
    c.split_at.result.1.now c.trivia-len.ensures.value c.split_at.ensures.front c.split_at.ensures.back (grind (arith, common_steps))
    c.if-inside.true)

pub returns-in_err-rest-clause-reads : goal.returns-in_err-rest-clause-reads
returns-in_err-rest-clause-reads c n h =
    let l = c.statements in
    let whole = length c.args.source.now in
    let (k, room, read) = l.invariant.read n h in
    let why = c.in_err-rest.field-0.0 in
    let new = c.statement.new.events.items in
    let leading = c.split_at.result.0.now in
    let tail = c.split_at.result.1.now in
    let (m, more, turn) =
    loop.turns whole l.rest.now (fits_in c.args.source.now l.rest.now l.invariant.ends) k room c.trivia-len.result.1
    c.trivia-len.result.0 leading tail c.trivia-len.ensures.value c.split_at.ensures.front c.split_at.ensures.back (grind (
      arith,
      common_steps,
    )) c.if-inside.false in
    batch.matches_err c.from_residual-in_err-rest.result why _ _ c.from_residual-in_err-rest.ensures.1
    (subst (λ (r : Reading (List Event)). StopsAs new r why) (sym (read ∙ ap (preceded l.events.items) turn))
    (stops new l.events.items (statement_read whole leading tail) (rest_read m whole) why c.in_err-rest.ensures.adds))

pub returns-in_err-rest-clause-batch : goal.returns-in_err-rest-clause-batch
returns-in_err-rest-clause-batch c ss final are last is =
    let l = c.statements in
    let whole = length c.args.source.now in
    let new = c.statement.new.events.items in
    let leading = c.split_at.result.0.now in
    let tail = c.split_at.result.1.now in
    let g = l.invariant.batch ss final are last is in
    batch.matches_err c.from_residual-in_err-rest.result c.in_err-rest.field-0.0 _ _ c.from_residual-in_err-rest.ensures.1
    (λ deep-is any.
    batch.batch_deep whole (whole - length c.args.s.now) ss final l.events.items l.rest.now g last leading tail c.trivia-len.result.0
    c.trivia-len.result.1 c.trivia-len.ensures.value c.split_at.ensures.front c.split_at.ensures.back (grind (arith, common_steps))
    new any (subst (StopsAs new (preceded l.events.items (statement_read whole leading tail))) deep-is c.in_err-rest.ensures.adds))

pub returns-in_err-rest-clause-spans : goal.returns-in_err-rest-clause-spans
returns-in_err-rest-clause-spans c =
    let l = c.statements in
    let whole = length c.args.source.now in
    let new = c.statement.new.events.items in
    let leading = c.split_at.result.0.now in
    let tail = c.split_at.result.1.now in
    let n = c.trivia-len.result.0 in
    let inside = c.trivia-len.result.1 in
    batch.matches_err c.from_residual-in_err-rest.result c.in_err-rest.field-0.0 _ _ c.from_residual-in_err-rest.ensures.1
    (λ deep-is.
    batch.stopped c.args.source.now l.rest.now leading tail c.utf8.source l.invariant.ends
    (batch.both_parts l.rest.now leading tail n inside c.trivia-len.ensures.value c.split_at.ensures.front c.split_at.ensures.back)
    (batch.leading_trivia l.rest.now leading tail n inside c.trivia-len.ensures.value c.split_at.ensures.front c.split_at.ensures.back
    c.if-inside.false)
    l.events.items new l.invariant.spans (subst (StopsAs new (preceded l.events.items (statement_read whole leading tail))) deep-is
    c.in_err-rest.ensures.adds))

pub statements-preserved : goal.statements-preserved
statements-preserved c =
    let l = c.statements in
    let whole = length c.args.source.now in
    let front = c.split_at.ensures.front_len in
    let back = c.split_at.ensures.back_len in
    let less = c.in_ok-rest.ensures.shorter in
    let leading = c.split_at.result.0.now in
    let tail = c.split_at.result.1.now in
    let n = c.trivia-len.result.0 in
    let inside = c.trivia-len.result.1 in
    let new = c.statement.new.events.items in
    let next = c.in_ok-rest.rest.now in
    let (spans, ends) =
    batch.took c.args.source.now l.rest.now leading tail c.utf8.source l.invariant.ends
    (batch.both_parts l.rest.now leading tail n inside c.trivia-len.ensures.value c.split_at.ensures.front c.split_at.ensures.back)
    (batch.leading_trivia l.rest.now leading tail n inside c.trivia-len.ensures.value c.split_at.ensures.front c.split_at.ensures.back
    c.if-inside.false) l.events.items new next l.invariant.spans c.in_ok-rest.ensures.adds in
    record {
      utf8 = search rules;
      ends = ends;
      shorter = omega (arith, l.invariant.shorter);
      less = λ _. omega (arith, l.invariant.shorter);
      read = λ m h.
          let (k, room, read) = l.invariant.read m h in
          let (j, more, turn) =
          loop.turns whole l.rest.now (fits_in c.args.source.now l.rest.now l.invariant.ends) k room inside n leading tail
          c.trivia-len.ensures.value c.split_at.ensures.front c.split_at.ensures.back (grind (arith, common_steps)) c.if-inside.false in (
            j,
            omega (arith, more),
            read ∙ ap (preceded l.events.items) turn
                ∙ goes l.events.items new (statement_read whole leading tail) next (rest_read j whole) c.in_ok-rest.ensures.adds,
          );
      batch = λ ss final are last is.
          batch.batch_goes whole (whole - length c.args.s.now) ss final l.events.items l.rest.now (l.invariant.batch ss final are last is)
          last leading tail n inside c.trivia-len.ensures.value c.split_at.ensures.front c.split_at.ensures.back (grind (
            arith,
            common_steps,
          ))
          new next c.in_ok-rest.ensures.adds;
      spans = spans;
    }
