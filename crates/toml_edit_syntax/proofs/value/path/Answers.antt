-- The parts of each segment are added as the key is read.
use Rattle.std.proofs.Common.{◌≡◌, ◌≢◌, ◌+◌, List, [], Some, None, length, refl, sym, ap, ◌∙◌, rules, arith, le_refl}
use Rattle.std.specs.Prelude.{option_map}
use Rattle.std.proofs.lemmas.Grind.{common_steps}
use Rattle.toml_edit_model.specs.Text.{Text}
use Rattle.toml_edit_model.specs.Trivia.{is_blank}
use Rattle.toml_edit_syntax.specs.declared.event.Event.{Event}
use Rattle.toml_edit_laws.specs.reading.Runs.{first, split_while}
use Rattle.toml_edit_laws.specs.reading.Tokens.{key_at}
use Rattle.toml_edit_syntax.specs.ValueReading.{got}
use Rattle.toml_edit_syntax.specs.EventReading.{preceded, path_read}
use Rattle.toml_edit_syntax.proofs.EventSteps.{preceded-twice, added, added_three}
use Rattle.toml_edit_syntax.proofs.PathTurns.{path_wrong, path_ends, path_goes, map_none}
use Rattle.toml_edit_syntax.proofs.value.path.Goals as goal

pub segments-init : goal.segments-init
segments-init c = record {
  utf8 = search rules;
  shorter = le_refl _;
  before = [];
  fuel = length c.args.s.now;
  room = le_refl _;
  fits =
      omega (arith, c.requires);
  read = refl;
}

pub returns-in_default-clause-adds : goal.returns-in_default-clause-adds
returns-in_default-clause-adds c =
    let l = c.segments in
    let none : option_map (λ (p : Text × Text). p.1) (key_at l.rest.now) ≡ None = grind (arith, common_steps) in
    l.invariant.read ∙ ap (preceded l.events.items) (path_wrong l.invariant.fuel c.args.whole l.invariant.before l.rest.now
    (map_none (key_at l.rest.now) (λ (p : Text × Text). p.1) none))

pub returns-then-first_byte-ne46-clause-adds : goal.returns-then-first_byte-ne46-clause-adds
returns-then-first_byte-ne46-clause-adds c =
    let l = c.segments in
    let end = c.in-Some.end.now in
    let found : option_map (λ (p : Text × Text). p.1) (key_at l.rest.now) ≡ Some end = grind (arith, common_steps) in
    let other : first c.split_run.result.1.now ≢ 46 = grind (arith, common_steps) in
    let ended = path_ends l.invariant.fuel c.args.whole l.invariant.before l.rest.now end l.invariant.fits c.in-Some.ensures.within found
    c.split_run.result.0.now c.split_run.result.1.now c.split_run.ensures.parts l.invariant.room other in
    let new = added l.events.items c.push.new.self.items c.new_event.result _ c.in_ok-push.ensures.items c.new_event.ensures in
    l.invariant.read ∙ ap (preceded l.events.items) ended ∙ ap (λ (es : List Event). got es end) (sym new)

pub segments-preserved : goal.segments-preserved
segments-preserved c =
    let l = c.segments in
    let end = c.in-Some.end.now in
    let dot = c.split_run.result.1.now in
    let after = c.split_run-in-segments.result.0.now in
    let next = c.split_run-in-segments.result.1.now in
    let within = c.in-Some.ensures.within in
    let lens = c.split_run.ensures.lens in
    let less : length after + length next + 1 ≡ length dot = omega (arith, c.split_run-in-segments.ensures.lens, c.skip.ensures.len) in
    let found : option_map (λ (p : Text × Text). p.1) (key_at l.rest.now) ≡ Some end = grind (arith, common_steps) in
    let here : first dot ≡ 46 = grind (arith, common_steps) in
    let (m, is, went) = path_goes l.invariant.fuel c.args.whole l.invariant.before l.rest.now end l.invariant.fits within found
    c.split_run.result.0.now dot c.split_run.ensures.parts after next (c.split_run-in-segments.ensures.parts
    ∙ ap (split_while is_blank) c.skip.ensures.rest) lens less l.invariant.room here in
    let new = added_three l.events.items c.push.new.self.items c.push-in-segments.new.self.items c.push-in-segments-2.new.self.items
    c.new_event.result c.new_event-in-segments.result c.new_event-in-segments-2.result _ _ _
    c.in_ok-push.ensures.items c.in_ok-push-2.ensures.items c.in_ok-push-3.ensures.items c.new_event.ensures c.new_event-in-segments.ensures
    c.new_event-in-segments-2.ensures in
    record {
      utf8 = search rules;
      shorter = omega (arith, l.invariant.shorter);
      before = after;
      fuel = m;
      room = omega (arith, l.invariant.room);
      fits = omega (arith, l.invariant.fits);
      read = l.invariant.read ∙ ap (preceded l.events.items) went ∙ preceded-twice l.events.items _ (path_read m c.args.whole after next)
          ∙ ap (λ (es : List Event). preceded es (path_read m c.args.whole after next)) (sym new);
    }
