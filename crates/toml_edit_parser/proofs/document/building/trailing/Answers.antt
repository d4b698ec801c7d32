-- The span of the first event lies in the text.
use Rattle.std.proofs.Common.{◌≡◌, List, [], ◌∷◌, Some, sym, subst}
use Rattle.std.specs.List.{slice_get}
use Rattle.toml_edit_model.specs.Text.{Text}
use Rattle.toml_edit_syntax.specs.declared.event.Event.{Event}
use Rattle.toml_edit_syntax.specs.Events.{IsSpanOf}
use Rattle.toml_edit_parser.specs.ValueRead.{AreIn}
use Rattle.toml_edit_parser.proofs.NearLaws.{near}
use Rattle.toml_edit_parser.proofs.document.building.trailing.Goals as goal

front_in : (t : Text) (es : List Event) (front : Event) → Some front ≡ slice_get es 0 → AreIn t es → IsSpanOf t front.span
front_in t [] front is all = absurd cc
front_in t (e ∷ es) front is all =
    let same : front ≡ e = cc in
    subst (λ (x : Event). IsSpanOf t x.span) (sym same) all.0

pub raw-requires : goal.raw-requires
raw-requires c =
    let t = c.args.reader.now.source.now in
    near t c.in-Some.last.now.span c.args.reader.now.short (front_in t c.args.events.now c.in-Some.last.now c.in-Some.ensures.value c.requires)
