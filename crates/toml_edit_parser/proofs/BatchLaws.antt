-- The last batch of the statements of a document.
use Rattle.std.proofs.Common.{◌≡◌, ℕ, ◌+◌, ◌-◌, Bool, true, false, List, [], ◌∷◌, ◌++◌, length, map, sym, ap, ◌∙◌, append-nil, arith}
use Rattle.std.proofs.lemmas.List.{length-append}
use Rattle.std.specs.List.{list_any}
use Rattle.toml_edit_model.specs.Accepted.{is_accepted}
use Rattle.toml_edit_model.specs.Mode.{Mode}
use Rattle.toml_edit_model.specs.Normal.{has_open_end}
use Rattle.toml_edit_model.specs.Text.{Text, joined}
use Rattle.toml_edit_model.specs.Syntax.{Statement, Document, statement_text}
use Rattle.toml_edit_model.specs.Version.{Version}
use Rattle.toml_edit_syntax.specs.Batches.{IsBatch, last_events}
use Rattle.toml_edit_syntax.specs.Events.{events_from, has_deep_value}
use Rattle.toml_edit_syntax.specs.ValueEvents.{event, shortened}
use Rattle.toml_edit_syntax.specs.declared.event.Event.{Event}
use Rattle.toml_edit_syntax.specs.declared.event.EventKind.TheVariants.{Final}
use Rattle.toml_edit_syntax.specs.declared.lexer.BatchEnd.{BatchEnd}
use Rattle.toml_edit_syntax.specs.declared.lexer.BatchEnd.TheVariants.{WholeText}
use Rattle.toml_edit_parser.specs.declared.document.building.Building.{Building}
use Rattle.toml_edit_parser.proofs.LoopLaws.{Between, batch-place}
use Rattle.toml_edit_parser.proofs.OpenEndLaws.{open-later}
use Rattle.toml_edit_parser.proofs.ShallowLaws.{accepted-shallow, none-right, uncut}

-- the trivia at the end of the text
abbrev pub end_event : Text → Document → Event
end_event t d = event Final (length t - length d.final) d.final

-- The events are those of the last statements of the document, of which the first begins at this byte, and of the trivia at its end.
pub record LastBatch (t : Text) (d : Document) (es : List Event) : Type 0 where
  pub start : ℕ
  pub earlier : List Statement
  pub here : List Statement
  pub split : d.statements ≡ earlier ++ here
  pub some : here ≡ [] → earlier ≡ []
  pub events : es ≡ shortened 0 (events_from start here ++ end_event t d ∷ [])
  pub place : length t - length d.final ≡ start + length (joined (map statement_text here))

pub last_batch : (mode : Mode) (version : Version) (t : Text) (d : Document) (rest : Text) (h : Building) (end : BatchEnd)
    (behind_it : Text) (es : List Event) (p : Between mode version t d rest h)
    → IsBatch (length t) (length t - length rest) p.left d.final es end behind_it → end ≡ WholeText → LastBatch t d es
last_batch mode version t d rest h end behind_it es p b is =
    let start = length t - length rest in
    let done = p.before.before.done in
    let here_is : p.left ≡ b.here = b.parts ∙ ap (λ (x : List Statement). b.here ++ x) (b.none is) ∙ append-nil b.here in
    let split = p.before.before.split ∙ ap (λ (x : List Statement). done ++ x) here_is in
    record {
      start = start;
      earlier = done;
      here = b.here;
      split = split;
      some = λ nil. sym (append-nil done) ∙ ap (λ (x : List Statement). done ++ x) (sym nil) ∙ sym split ∙ p.some (here_is ∙ nil);
      events = b.events ∙ ap (λ (x : BatchEnd). shortened 0 (events_from start b.here ++ last_events x (length t) d.final)) is;
      place =
          let place = batch-place mode version t d rest h p in
          let whole = p.size ∙ ap (λ (ss : List Statement). p.builder.start + length (joined (map statement_text ss) ++ d.final)) here_is in
          let both = length-append (joined (map statement_text b.here)) d.final in
          omega (arith, place, whole, both);
    }

-- whether the document's last statement has no newline
pub open_end : (t : Text) (d : Document) (es : List Event) (is_open : Bool) → LastBatch t d es → is_accepted d ≡ true
    → ((start : ℕ) (ss : List Statement) (final : Event) → es ≡ events_from start ss ++ (final ∷ []) → final.span.start ≡ start
    + length (joined (map statement_text ss)) → is_open ≡ has_open_end ss)
    → is_open ≡ has_open_end d.statements
open_end t d es is_open l accepted told =
    let shallow : list_any has_deep_value l.here ≡ false =
    none-right l.earlier l.here (ap (list_any has_deep_value) (sym l.split) ∙ accepted-shallow d accepted) in
    told l.start l.here (end_event t d) (l.events ∙ uncut l.start l.here shallow (end_event t d ∷ [])) l.place
    ∙ open-later l.earlier l.here l.some
    ∙ ap has_open_end (sym l.split)
