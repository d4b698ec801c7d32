-- The walk over the statements of a text, and what formatting it gives.
use Rattle.std.specs.Prelude.{◌≡◌, ◌⊎◌, ℕ, ◌+◌, ◌-◌, Bool, true, false, List, [], ◌∷◌, length}
use Rattle.std.specs.List.{list_any}
use Rattle.toml_edit_model.specs.Syntax.{Statement, Document, IsCut, document_text, mark_text, newline_after, statement_text}
use Rattle.toml_edit_model.specs.Text.{Text}
use Rattle.toml_edit_model.specs.Trivia.{IsNewline}
use Rattle.toml_edit_syntax.specs.declared.event.EventKind.TheVariants.{Final}
use Rattle.toml_edit_syntax.specs.declared.event.Event.{Event}
use Rattle.toml_edit_syntax.specs.declared.lexer.SyntaxFault.{SyntaxFault}
use Rattle.toml_edit_syntax.specs.declared.lexer.SyntaxFault.TheVariants as stop
use Rattle.toml_edit_syntax.specs.Events.{has_deep_value, statement_events}
use Rattle.toml_edit_syntax.specs.ValueEvents.{event, is_too_deep}
use Rattle.toml_edit_fmt_laws.specs.Rules.{Rules}
use Rattle.toml_edit_fmt_laws.specs.Aligned.{formatted}
use Rattle.toml_edit_fmt.specs.declared.fault.FormatFault.{FormatFault}
use Rattle.toml_edit_fmt.specs.declared.fault.FormatFault.TheVariants as fault

-- The statements, of which the first begins at this byte, were taken one after another.
abbrev pub TookAll : {S : Type 0} → (List Event → S → S → Type 0) → ℕ → List Statement → S → S → Type 0
TookAll takes start [] old new = new ≡ old
TookAll {S} takes start (s ∷ rest) old new =
    (mid : S) × takes (statement_events start s) old mid
    × TookAll takes (start + length (statement_text s)) rest mid new

-- And what is after the last one.
abbrev pub TookDocument : {S : Type 0} → (List Event → S → S → Type 0) → (Event → S → S → Type 0) → Document → S
    → S → Type 0
TookDocument {S} takes takes_last d old new =
    (mid : S) × TookAll takes (length (mark_text d.has_mark)) d.statements old mid
    × takes_last (event Final (length (document_text d) - length d.final) d.final) mid new

-- The statements of a batch, and the last event of the text where it is among these.
abbrev pub HandedOn : {S : Type 0} → (List Event → S → S → Type 0) → (Event → S → S → Type 0) → ℕ → List Statement
    → List Event → S → S → Type 0
HandedOn takes takes_last start ss [] old new = TookAll takes start ss old new
HandedOn {S} takes takes_last start ss (e ∷ es) old new =
    (mid : S) × TookAll takes start ss old mid × takes_last e mid new

-- The statement at this byte ends in a newline, or with the text.
abbrev pub IsEnded : Text → ℕ → Statement → Type 0
IsEnded t start s =
    IsNewline (newline_after s) ⊎ ((newline_after s ≡ []) × (length t ≡ start + length (statement_text s)))

-- the last event is a bracket that is one too many
abbrev pub ends_deep : List Event → Bool
ends_deep [] = false
ends_deep (e ∷ []) = is_too_deep e.kind
ends_deep (e ∷ f ∷ es) = ends_deep (f ∷ es)

abbrev pub fault_of : SyntaxFault → FormatFault
fault_of stop.Memory = fault.Memory
fault_of (stop.Text mistake at) = fault.Text

-- The text is outside the grammar, or nested too deep.
abbrev pub IsRefused : Text → FormatFault → Type 0
IsRefused t e = e ≡ fault.Text → (d : Document) → IsCut d t → list_any has_deep_value d.statements ≡ true

-- It is one text of the formatted document, whatever the cut.
abbrev pub IsFormatted : Rules → Text → Text → Type 0
IsFormatted r t out = (d : Document) → IsCut d t → out ≡ document_text (formatted r d)
