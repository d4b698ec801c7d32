-- Each turn of the loop adds the events of an element or a pair, as the list is read.
use Rattle.std.proofs.Common.{◌≡◌, ◌≢◌, ℕ, ◌+◌, ◌-◌, ◌≤◌, List, [], ◌∷◌, ◌++◌, length, drop, refl, sym, ap, subst, ◌∙◌, rules, arith}
use Rattle.std.proofs.Common.{le_refl, true, false, suc}
use Rattle.std.proofs.lemmas.Grind.{common_steps}
use Rattle.toml_edit_model.specs.Text.{Text}
use Rattle.toml_edit_model.specs.Syntax.{nesting_limit}
use Rattle.toml_edit_syntax.specs.declared.event.EventKind.{EventKind}
use Rattle.toml_edit_syntax.specs.declared.event.EventKind.TheVariants.{TooDeep}
use Rattle.toml_edit_syntax.specs.declared.event.Event.{Event}
use Rattle.toml_edit_syntax.specs.declared.value.Brackets.{Brackets}
use Rattle.toml_edit_laws.specs.reading.Runs.{first}
use Rattle.toml_edit_syntax.specs.ValueReading.{Reading, deep}
use Rattle.toml_edit_syntax.specs.Gives.{StopsAs, Leaves}
use Rattle.toml_edit_syntax.specs.EventReading.{preceded, opening, opening_byte, closing_byte, value_read, items_read}
use Rattle.toml_edit_syntax.proofs.EventSteps.{between, preceded-twice, added}
use Rattle.toml_edit_syntax.proofs.ItemLoop as loop
use Rattle.toml_edit_syntax.proofs.ValueTurns.{value_scalar, value_sinks, value_opens}
use Rattle.toml_edit_syntax.proofs.value.+value.Goals as goal

pub items-items-init : goal.items-items-init
items-items-init t c = record { utf8 = search rules; shorter = le_refl _; behind = λ e. absurd cc; read = λ n h. (n, h, refl) }

pub items-returns-in_err-before-clause-adds : goal.items-returns-in_err-before-clause-adds
items-returns-in_err-before-clause-adds t c n h =
    let l = c.items in
    let room : c.args.level ≤ nesting_limit = omega arith in
    let fits : length l.rest.now ≤ c.args.whole = omega (arith, l.invariant.shorter) in
    let (k, fuel, read) = l.invariant.read n h in
    loop.leaves_err _ c.from_residual.result _ c.in_err-before.field-0.0 _ c.from_residual.ensures.1 (λ y e. e)
    (loop.stops_before _ _ _ c.in_err-before.ensures.before (read
    ∙ loop.trivia_fails c.args.brackets k c.args.level c.args.whole l.comma l.rest.now l.events.items room fits fuel
    c.in_err-before.ensures.value))

pub items-returns-then-first_byte-closing_byte-clause-adds : goal.items-returns-then-first_byte-closing_byte-clause-adds
items-returns-then-first_byte-closing_byte-clause-adds t c n h =
    let l = c.items in
    let room : c.args.level ≤ nesting_limit = omega arith in
    let fits : length l.rest.now ≤ c.args.whole = omega (arith, l.invariant.shorter) in
    let (k, fuel, read) = l.invariant.read n h in
    let here : first c.in_ok-before.start.now ≡ closing_byte c.args.brackets = grind (arith, common_steps) in
    let lens = c.in_ok-before.ensures.lens in
    let closed = read ∙ loop.closes c.args.brackets k c.args.level c.args.whole l.comma l.rest.now l.events.items room fits fuel
    c.in_ok-before.before.now c.in_ok-before.start.now c.in_ok-before.ensures.value here in
    subst (Leaves c.close.new.events.items c.close.result) (sym closed) c.close.ensures.adds

pub items-returns-in_err-start-clause-adds : goal.items-returns-in_err-start-clause-adds
items-returns-in_err-start-clause-adds t c n h =
    let l = c.items in
    let room : c.args.level ≤ nesting_limit = omega arith in
    let fits : length l.rest.now ≤ c.args.whole = omega (arith, l.invariant.shorter) in
    let (k, fuel, read) = l.invariant.read n h in
    let other : first c.in_ok-before.start.now ≢ closing_byte c.args.brackets = grind (arith, common_steps) in
    loop.leaves_err _ c.from_residual-in_err-start.result _ c.in_err-start.field-0.0 _ c.from_residual-in_err-start.ensures.1 (λ y e. e)
    (subst (λ (r : Reading (List Event)). StopsAs c.push_before_value.new.events.items r c.in_err-start.field-0.0) (sym read)
    (loop.head_stops c.args.brackets k c.args.level c.args.whole l.comma l.rest.now l.events.items room fits fuel
    c.in_ok-before.before.now c.in_ok-before.start.now c.in_ok-before.ensures.value other c.push_before_value.new.events.items
    c.in_err-start.field-0.0 c.in_err-start.ensures.adds))

pub items-returns-in_err-end-clause-adds : goal.items-returns-in_err-end-clause-adds
items-returns-in_err-end-clause-adds t c n h =
    let l = c.items in
    let room : c.args.level ≤ nesting_limit = omega arith in
    let fits : length l.rest.now ≤ c.args.whole = omega (arith, l.invariant.shorter) in
    let (k, fuel, read) = l.invariant.read n h in
    let other : first c.in_ok-before.start.now ≢ closing_byte c.args.brackets = grind (arith, common_steps) in
    loop.leaves_err _ c.from_residual-in_err-end.result _ c.in_err-end.field-0.0 _ c.from_residual-in_err-end.ensures.1 (λ y e. e)
    (subst (λ (r : Reading (List Event)). StopsAs c.value.new.events.items r c.in_err-end.field-0.0) (sym read)
    (loop.value_stops c.args.brackets k c.args.level c.args.whole l.comma l.rest.now l.events.items room fits fuel
    c.in_ok-before.before.now c.in_ok-before.start.now c.in_ok-before.ensures.value other c.push_before_value.new.events.items
    c.in_ok-start.start.now c.in_ok-start.ensures.adds c.in_ok-start.ensures.within c.value.new.events.items c.in_err-end.field-0.0
    c.in_err-end.ensures.adds))

pub items-returns-in_err-after-clause-adds : goal.items-returns-in_err-after-clause-adds
items-returns-in_err-after-clause-adds t c n h =
    let l = c.items in
    let room : c.args.level ≤ nesting_limit = omega arith in
    let fits : length l.rest.now ≤ c.args.whole = omega (arith, l.invariant.shorter) in
    let (k, fuel, read) = l.invariant.read n h in
    let other : first c.in_ok-before.start.now ≢ closing_byte c.args.brackets = grind (arith, common_steps) in
    loop.leaves_err _ c.from_residual-in_err-after.result _ c.in_err-after.field-0.0 _ c.from_residual-in_err-after.ensures.1 (λ y e. e)
    (loop.stops_before _ _ _ c.in_err-after.ensures.before (read
    ∙ loop.after_fails c.args.brackets k c.args.level c.args.whole l.comma l.rest.now l.events.items room fits fuel
    c.in_ok-before.before.now c.in_ok-before.start.now c.in_ok-before.ensures.value other c.push_before_value.new.events.items
    c.in_ok-start.start.now c.in_ok-start.ensures.adds c.in_ok-start.ensures.within c.value.new.events.items c.in_ok-end.end.now
    c.in_ok-end.ensures.adds c.in_err-after.ensures.value))

pub items-returns-then-first_byte-closing_byte-2-clause-adds : goal.items-returns-then-first_byte-closing_byte-2-clause-adds
items-returns-then-first_byte-closing_byte-2-clause-adds t c n h =
    let l = c.items in
    let room : c.args.level ≤ nesting_limit = omega arith in
    let fits : length l.rest.now ≤ c.args.whole = omega (arith, l.invariant.shorter) in
    let (k, fuel, read) = l.invariant.read n h in
    let other : first c.in_ok-before.start.now ≢ closing_byte c.args.brackets = grind (arith, common_steps) in
    let within = c.in_ok-start.ensures.within in
    let before = c.in_ok-before.ensures.lens in
    let shorter = c.in_ok-end.ensures.shorter in
    let after = c.in_ok-after.ensures.lens in
    let ends : length c.in_ok-end.end.now ≤ c.args.whole = omega (arith, fits) in
    let pushed = added c.value.new.events.items c.push.new.self.items c.new_event.result _ c.in_ok-push.ensures.items c.new_event.ensures in
    let here : first c.in_ok-after.next.now ≡ closing_byte c.args.brackets = grind (arith, common_steps) in
    let closed = read ∙ loop.last_closes c.args.brackets k c.args.level c.args.whole l.comma l.rest.now l.events.items room fits fuel
    c.in_ok-before.before.now c.in_ok-before.start.now c.in_ok-before.ensures.value other c.push_before_value.new.events.items
    c.in_ok-start.start.now c.in_ok-start.ensures.adds c.in_ok-start.ensures.within c.value.new.events.items c.in_ok-end.end.now
    c.in_ok-end.ensures.adds c.in_ok-after.after.now c.in_ok-after.next.now c.in_ok-after.ensures.value ends c.push.new.self.items
    pushed here in
    subst (Leaves c.close-then-first_byte-closing_byte-2.new.events.items c.close-then-first_byte-closing_byte-2.result) (sym closed)
    c.close-then-first_byte-closing_byte-2.ensures.adds

pub items-returns-then-first_byte-ne44-clause-adds : goal.items-returns-then-first_byte-ne44-clause-adds
items-returns-then-first_byte-ne44-clause-adds t c n h =
    let l = c.items in
    let room : c.args.level ≤ nesting_limit = omega arith in
    let fits : length l.rest.now ≤ c.args.whole = omega (arith, l.invariant.shorter) in
    let (k, fuel, read) = l.invariant.read n h in
    let other : first c.in_ok-before.start.now ≢ closing_byte c.args.brackets = grind (arith, common_steps) in
    let within = c.in_ok-start.ensures.within in
    let before = c.in_ok-before.ensures.lens in
    let shorter = c.in_ok-end.ensures.shorter in
    let after = c.in_ok-after.ensures.lens in
    let ends : length c.in_ok-end.end.now ≤ c.args.whole = omega (arith, fits) in
    let pushed = added c.value.new.events.items c.push.new.self.items c.new_event.result _ c.in_ok-push.ensures.items c.new_event.ensures in
    let bracket : first c.in_ok-after.next.now ≢ closing_byte c.args.brackets = grind (arith, common_steps) in
    let comma : first c.in_ok-after.next.now ≢ 0x2C = grind (arith, common_steps) in
    read ∙ loop.comma_fails c.args.brackets k c.args.level c.args.whole l.comma l.rest.now l.events.items room fits fuel
    c.in_ok-before.before.now c.in_ok-before.start.now c.in_ok-before.ensures.value other c.push_before_value.new.events.items
    c.in_ok-start.start.now c.in_ok-start.ensures.adds c.in_ok-start.ensures.within c.value.new.events.items c.in_ok-end.end.now
    c.in_ok-end.ensures.adds c.in_ok-after.after.now c.in_ok-after.next.now c.in_ok-after.ensures.value ends c.push.new.self.items
    pushed bracket comma

pub items-items-preserved : goal.items-items-preserved
items-items-preserved t c =
    let l = c.items in
    let within = c.in_ok-start.ensures.within in
    let before = c.in_ok-before.ensures.lens in
    let shorter = c.in_ok-end.ensures.shorter in
    let after = c.in_ok-after.ensures.lens in
    let ends : length c.in_ok-end.end.now ≤ c.args.whole = omega (arith, l.invariant.shorter) in
    let pushed = added c.value.new.events.items c.push.new.self.items c.new_event.result _ c.in_ok-push.ensures.items c.new_event.ensures in
    let less = c.skip-rest.ensures.len in
    record {
      utf8 = search rules;
      shorter = omega (arith, l.invariant.shorter);
      behind = λ _. omega (arith, l.invariant.shorter);
      read = λ n h.
          let room : c.args.level ≤ nesting_limit = omega arith in
          let fits : length l.rest.now ≤ c.args.whole = omega (arith, l.invariant.shorter) in
          let (k, fuel, read) = l.invariant.read n h in
          let other : first c.in_ok-before.start.now ≢ closing_byte c.args.brackets = grind (arith, common_steps) in
          let comma : first c.in_ok-after.next.now ≡ 0x2C = grind (arith, common_steps) in
          let (m, more, went) =
          loop.goes_on c.args.brackets k c.args.level c.args.whole l.comma l.rest.now l.events.items room fits fuel
          c.in_ok-before.before.now c.in_ok-before.start.now c.in_ok-before.ensures.value other c.push_before_value.new.events.items
          c.in_ok-start.start.now c.in_ok-start.ensures.adds c.in_ok-start.ensures.within c.value.new.events.items c.in_ok-end.end.now
          c.in_ok-end.ensures.adds c.in_ok-after.after.now c.in_ok-after.next.now c.in_ok-after.ensures.value ends c.push.new.self.items
          pushed comma in (
            m,
            omega (arith, more),
            read ∙ went ∙ ap (λ (x : Text). preceded c.push.new.self.items
                (items_read c.args.brackets m c.args.level c.args.whole true x)) (sym c.skip-rest.ensures.rest),
          );
    }

pub value-returns-in_default-clause-adds : goal.value-returns-in_default-clause-adds
value-returns-in_default-clause-adds t c n h =
    let old = c.args.events.now.items in
    let s = c.args.s.now in
    let (m, is) = loop.one_less n (omega (arith, h)) in
    let by = λ (k : ℕ). preceded old (value_read k c.args.level c.args.whole s) in
    let other : (b : Brackets) → first s ≢ opening_byte b = λ b e. c.in_default.ensures b (c.first_byte.ensures ∙ e) in
    subst (Leaves c.scalar.new.events.items c.scalar.result) (sym (ap by is
    ∙ ap (preceded old) (value_scalar m c.args.level c.args.whole s other))) c.scalar.ensures.adds

pub value-returns-then-level-eq-NESTING_LIMIT-clause-adds : goal.value-returns-then-level-eq-NESTING_LIMIT-clause-adds
value-returns-then-level-eq-NESTING_LIMIT-clause-adds t c n h =
    let old = c.args.events.now.items in
    let s = c.args.s.now in
    let (m, is) = loop.one_less n (omega (arith, h)) in
    let by = λ (k : ℕ). preceded old (value_read k c.args.level c.args.whole s) in
    let here : first s ≡ opening_byte c.in-Some.brackets = grind (arith, common_steps) in
    let rest = c.skip-rest.result.now in
    let pushed = added old c.push.new.self.items c.new_event.result _ c.in_ok-push.ensures.items c.new_event.ensures in
    ap by is
    ∙ ap (preceded old) (value_sinks m c.args.level c.args.whole s (omega arith) c.in-Some.brackets here c.if-level-eq-NESTING_LIMIT.true)
    ∙ ap (λ (x : Text). deep (old ++ between TooDeep (c.args.whole - length s) (c.args.whole - length x) ∷ []))
    (sym c.skip-rest.ensures.rest)
    ∙ ap deep (sym pushed)

pub value-returns-clause-adds : goal.value-returns-clause-adds
value-returns-clause-adds t c n h =
    let old = c.args.events.now.items in
    let s = c.args.s.now in
    let (m, is) = loop.one_less n (omega (arith, h)) in
    let by = λ (k : ℕ). preceded old (value_read k c.args.level c.args.whole s) in
    let here : first s ≡ opening_byte c.in-Some.brackets = grind (arith, common_steps) in
    let b = c.in-Some.brackets in
    let less = c.skip-rest.ensures.len in
    let pushed = added old c.push-2.new.self.items c.new_event-2.result _ c.in_ok-push-2.ensures.items c.new_event-2.ensures in
    let place = λ (k : EventKind) (x : Text). old ++ between k (c.args.whole - length s) (c.args.whole - length x) ∷ [] in
    let opened : c.push-2.new.self.items ≡ place (opening b) (drop 1 s) = pushed
    ∙ ap (λ (k : EventKind). place k c.skip-rest.result.now) c.open_kind.ensures ∙ ap (place (opening b)) c.skip-rest.ensures.rest in
    let inside = λ (level : ℕ) (x : Text). items_read b m level c.args.whole false x in
    let one_more : suc c.args.level ≡ c.args.level + 1 = omega arith in
    let all = ap by is
    ∙ ap (preceded old) (value_opens m c.args.level c.args.whole s (omega arith) (omega arith) c.if-level-eq-NESTING_LIMIT.false b here)
    ∙ preceded-twice old (between (opening b) (c.args.whole - length s) (c.args.whole - length (drop 1 s))
    ∷ []) (inside (suc c.args.level) (drop 1 s))
    ∙ ap (λ (es : List Event). preceded es (inside (suc c.args.level) (drop 1 s))) (sym opened)
    ∙ ap (λ (x : Text). preceded c.push-2.new.self.items (inside (suc c.args.level) x)) (sym c.skip-rest.ensures.rest)
    ∙ ap (λ (level : ℕ). preceded c.push-2.new.self.items (inside level c.skip-rest.result.now)) one_more in
    c.mark_unclosed.ensures.leaves c.items-inner.new.events.items _
    (subst (Leaves c.items-inner.new.events.items c.items-inner.result) (sym all)
    (c.items-inner.ensures.adds m (omega (arith, is, h, less))))
