-- What laying out a statement does to a page and to what is known.
use Rattle.std.specs.Prelude.{◌≡◌, ℕ, if◌then◌else◌, List, [], ◌∷◌, ◌++◌}
use Rattle.toml_edit_model.specs.Syntax.{Document, Statement, newline_after, statement_text}
use Rattle.toml_edit_model.specs.Text.{Text, one}
use Rattle.toml_edit_laws.specs.Standing.{Stands}
use Rattle.toml_edit_syntax.specs.declared.event.EventKind.TheVariants.{Final}
use Rattle.toml_edit_syntax.specs.declared.event.Event.{Event}
use Rattle.toml_edit_syntax.specs.ValueEvents.{event}
use Rattle.toml_edit_fmt_laws.specs.Rules.{Rules}
use Rattle.toml_edit_fmt_laws.specs.Laying.{final_text}
use Rattle.toml_edit_fmt_laws.specs.Formatted.{State, after, leading_of, reached, start, state_after, stays}
use Rattle.toml_edit_fmt.specs.PageView.{Bit, letters, Grows}
use Rattle.toml_edit_fmt.specs.RulesView.{rules_of}
use Rattle.toml_edit_fmt.specs.StateView.{state_of}
use Rattle.toml_edit_fmt.specs.StatementView.{IfStatementNext}
use Rattle.toml_edit_fmt.specs.TextView.{IsEnded}
use Rattle.toml_edit_fmt.specs.ValueBits.{statement_bits}
use Rattle.toml_edit_fmt.specs.declared.text.Layout.{Layout}

-- of a statement with its newline, and of the end of the text
abbrev pub lay_bits : Rules → State → Statement → List Bit
lay_bits r st s =
    if stays (reached r st (leading_of s)) then one (letters (statement_text s))
    else statement_bits r (reached r st (leading_of s)) s ++ one (letters (newline_after s))

abbrev pub final_bits : Rules → State → Text → List Bit
final_bits r st t = one (letters (if stays (reached r st t) then t else final_text r st.is_start t))

abbrev pub statements_bits : Rules → State → List Statement → List Bit
statements_bits r st [] = []
statements_bits r st (s ∷ rest) = lay_bits r st s ++ statements_bits r (after r st s) rest

-- of a document but its mark
abbrev pub document_bits : Rules → Document → List Bit
document_bits r d =
    statements_bits r start d.statements ++ final_bits r (state_after r start d.statements) d.final

pub record Lays (s : Statement) (old new : Layout) : Type 0 where
  pub page : Grows (lay_bits (rules_of old.page.rules) (state_of old.state) s) old.page new.page
  pub state : state_of new.state ≡ after (rules_of old.page.rules) (state_of old.state) s

-- These events are of a statement that is laid out, where they are those of one.
abbrev pub LaysEvents : List Event → Layout → Layout → Type 0
LaysEvents es old new =
    (s : Statement) (start : ℕ)
    → IfStatementNext old.page.source.now es s start (IsEnded old.page.source.now start s → Lays s old new)

abbrev pub LaysLast : Event → Layout → Layout → Type 0
LaysLast e old new =
    (t : Text) (start : ℕ) → Stands old.page.source.now start t → e ≡ event Final start t
    → Grows (final_bits (rules_of old.page.rules) (state_of old.state) t) old.page new.page
