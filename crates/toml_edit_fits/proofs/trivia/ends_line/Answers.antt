-- It is trivia without newlines.
use Rattle.std.proofs.Common.{◌≡◌, false, sym, ap, ◌∙◌, []}
use Rattle.std.specs.Prelude.{not, ◌&&◌, is_some}
use Rattle.std.specs.Option.{option_copied}
use Rattle.toml_edit_model.specs.Mode.{Mode, exact, line_end, shown_text}
use Rattle.toml_edit_model.specs.Text.{Text, has_byte, line_feed}
use Rattle.toml_edit_model.specs.Tree.{shown_side}
use Rattle.toml_edit_repr.specs.Modes.{mode_of}
use Rattle.toml_edit_fits.specs.TriviaTests.{ends_line, ends_line_from, is_final, open_after}
use Rattle.toml_edit_fits.proofs.TriviaLaws.{end-shown, ends-is, newline-shown}
use Rattle.toml_edit_fits.proofs.trivia.ends_line.Goals as goal

-- of a suffix and its text without the carriage return of its newline
told : (mode : Mode) (t u side : Text) → u ≡ line_end exact t → shown_text mode t ≡ side
    → (not (has_byte line_feed u) && is_some (open_after false (shown_text mode u))) ≡ ends_line mode side
told mode t u side e s =
    let shown : shown_text mode u ≡ line_end mode side = ap (shown_text mode) e ∙ end-shown mode t ∙ ap (line_end mode) s in
    ap (λ b. not b && is_final (shown_text mode u)) (sym (newline-shown mode u)) ∙ sym (ends-is false (shown_text mode u))
    ∙ ap (ends_line_from false) shown

pub returns-then-not-has_feed : goal.returns-then-not-has_feed
returns-then-not-has_feed c =
    let mode = mode_of c.args.mode in
    let u = c.line_text-text.result.now in
    c.is_some.ensures ∙ ap is_some c.open_after.ensures
    ∙ sym (ap (λ b. not b && is_some (open_after false (shown_text mode u))) (sym c.has_feed.ensures ∙ c.if-not-has_feed.true))
    ∙ told mode c.text_of.result.now u (shown_side mode [] (option_copied c.args.side)) c.line_text-text.ensures (c.text_of.ensures mode)

pub returns-else-not-has_feed : goal.returns-else-not-has_feed
returns-else-not-has_feed c =
    let mode = mode_of c.args.mode in
    let u = c.line_text-text.result.now in
    ap not c.if-not-has_feed.false
    ∙ sym (ap (λ b. not b && is_some (open_after false (shown_text mode u))) (sym c.has_feed.ensures ∙ c.if-not-has_feed.false))
    ∙ told mode c.text_of.result.now u (shown_side mode [] (option_copied c.args.side)) c.line_text-text.ensures (c.text_of.ensures mode)
