-- Each event of a cut lies on the boundaries of characters.
use Rattle.std.proofs.Common.{◌≡◌, ℕ, ◌+◌, Bool, true, false, [], ◌∷◌, ◌++◌, length, refl, ap, subst, inl, inr, arith}
use Rattle.std.specs.Str.{IsCharBoundary}
use Rattle.std.proofs.lemmas.List.{length-append}
use Rattle.std.proofs.lemmas.Str.{IsCharBoundary-end}
use Rattle.toml_edit_model.specs.Text.{Text}
use Rattle.toml_edit_model.specs.Trivia.{IsLineEnd}
use Rattle.toml_edit_model.specs.Syntax.{Frame, Value, Header, Statement, key_line, header, path_text, value_text, opening_brackets}
use Rattle.toml_edit_model.specs.Syntax.{closing_brackets, statement_text, IsFrame, IsValue, IsHeader}
use Rattle.toml_edit_syntax.specs.declared.event.EventKind.TheVariants.{Leading, BeforeKey, AfterKey, HeaderClose, LineEnd, Final}
use Rattle.toml_edit_syntax.specs.ValueEvents.{event, path_events, frame_events, value_at_byte, value_events}
use Rattle.toml_edit_syntax.specs.Events.{line_events, header_open, header_events, statement_events}
use Rattle.toml_edit_laws.proofs.reading.Begins.{StartsAscii, ascii_begins, ascii_blank, ascii_newline, ascii_trivia, ascii_line_end}
use Rattle.toml_edit_laws.proofs.one_cut.Statements.{leading_of, statement_tail, IsEnding, EndsAt}
use Rattle.toml_edit_syntax.proofs.PathLaws.{behind_trivia, path_begins}
use Rattle.toml_edit_syntax.proofs.Outcomes.{value_begins}
use Rattle.toml_edit_syntax.proofs.StatementLaws.{statement_then}
use Rattle.toml_edit_syntax.proofs.SpanLaws.{Cut, further, cut_as, at_cut, AreSpans, both_spans, part_span, path_spans, value_cut}
use Rattle.toml_edit_syntax.proofs.SpanLaws.{frame_spans, value_spans, ascii_value}

line_spans : (t more : Text) (at : ℕ) (f : Frame) (v : Value) → IsFrame IsLineEnd f → IsValue v → StartsAscii more
    → Cut t at (f.leading ++ behind_trivia f (value_text v ++ (f.trailing ++ more))) → AreSpans t (line_events at f v)
line_spans t more at f v frame is ascii c =
    let r2 = f.trailing ++ more in
    let r1 = value_text v ++ r2 in
    let start = value_at_byte at f in
    let c1 = value_cut t r1 at f c in
    let c2 = further t (value_text v) r2 start c1 in
    let a2 = ascii_line_end f.trailing more frame.0.trailing ascii in
    let a1 = ascii_value (value_text v) r2 (value_begins v is) in
    let head = frame_spans IsLineEnd t r1 at f frame a1 c in
    let last = part_span t f.trailing more (start + length (value_text v)) LineEnd c2 a2 ascii in
    let value = value_spans v t r2 start is a2 c1 in
    both_spans t (frame_events at f) (value_events start v ++ event LineEnd (start + length (value_text v)) f.trailing ∷ []) head
    (both_spans t (value_events start v) (event LineEnd (start + length (value_text v)) f.trailing ∷ []) value (last, tt))

opening_ascii : (is_array : Bool) (rest : Text) → StartsAscii (opening_brackets is_array ++ rest)
opening_ascii true rest = omega arith
opening_ascii false rest = omega arith

closing_ascii : (is_array : Bool) (rest : Text) → StartsAscii (closing_brackets is_array ++ rest)
closing_ascii true rest = omega arith
closing_ascii false rest = omega arith

header_spans : (t more : Text) (at : ℕ) (h : Header) → IsHeader h → StartsAscii more
    → Cut t at (h.leading ++ (opening_brackets h.is_array
    ++ (h.opening ++ (path_text h.path ++ (h.closing ++ (closing_brackets h.is_array ++ (h.trailing ++ more)))))))
    → AreSpans t (header_events at h)
header_spans t more at h (spaced, path) ascii c =
    let r6 = h.trailing ++ more in
    let r5 = closing_brackets h.is_array ++ r6 in
    let r4 = h.closing ++ r5 in
    let r3 = path_text h.path ++ r4 in
    let r2 = h.opening ++ r3 in
    let r1 = opening_brackets h.is_array ++ r2 in
    let brackets = at + length h.leading in
    let before = brackets + length (opening_brackets h.is_array) in
    let key = before + length h.opening in
    let after = key + length (path_text h.path) in
    let close = after + length h.closing in
    let end = close + length (closing_brackets h.is_array) in
    let c1 = further t h.leading r1 at c in
    let c2 = further t (opening_brackets h.is_array) r2 brackets c1 in
    let c3 = further t h.opening r3 before c2 in
    let c4 = further t (path_text h.path) r4 key c3 in
    let c5 = further t h.closing r5 after c4 in
    let c6 = further t (closing_brackets h.is_array) r6 close c5 in
    let a6 = ascii_line_end h.trailing more spaced.trailing ascii in
    let a5 = closing_ascii h.is_array r6 in
    let a4 = ascii_blank h.closing r5 spaced.closing a5 in
    let a3 = ascii_begins (path_text h.path) r4 (path_begins h.path path) in
    let a2 = ascii_blank h.opening r3 spaced.opening a3 in
    let a1 = opening_ascii h.is_array r2 in
    let keys = path_spans t r4 key h.path path.spelled spaced.segments a4 c3 in
    let ends = event AfterKey after h.closing ∷ event HeaderClose close (closing_brackets h.is_array) ∷ event LineEnd end h.trailing ∷ [] in
    let last : AreSpans t ends = (
      part_span t h.closing r5 after AfterKey c4 a4 a5,
      (
        part_span t (closing_brackets h.is_array) r6 close HeaderClose c5 a5 a6,
        (part_span t h.trailing more end LineEnd c6 a6 ascii, tt),
      ),
    ) in (
      part_span t h.leading r1 at Leading c (ascii_trivia h.leading r1 spaced.leading a1) a1,
      (
        part_span t (opening_brackets h.is_array) r2 brackets (header_open h.is_array) c1 a1 a2,
        (part_span t h.opening r3 before BeforeKey c2 a2 a3, both_spans t (path_events key h.path) ends keys last),
      ),
    )

-- a newline, or the end of the text
ending_ascii : (end rest : Text) → IsEnding end rest → StartsAscii (end ++ rest)
ending_ascii end rest (inl newline) = ascii_newline end rest newline
ending_ascii end rest (inr (nothing, ended)) = rw (nothing, ended) (omega arith)

pub statement_spans : (t rest : Text) (at : ℕ) (s : Statement) → EndsAt rest s → Cut t at (statement_text s ++ rest)
    → AreSpans t (statement_events at s)
statement_spans t rest at (key_line f v end) (frame, value, ending) c =
    line_spans t (end ++ rest) at f v frame value (ending_ascii end rest ending) (cut_as t (statement_text (key_line f v end)
    ++ rest) (f.leading ++ behind_trivia f (value_text v ++ (f.trailing ++ (end ++ rest)))) at at
    (statement_then (key_line f v end) rest) refl c)
statement_spans t rest at (header h end) (is, ending) c =
    header_spans t (end ++ rest) at h is (ending_ascii end rest ending) (cut_as t (statement_text (header h end)
    ++ rest) (leading_of (header h end) ++ statement_tail (header h end) rest) at at (statement_then (header h end) rest) refl c)

pub final_spans : (t final : Text) (n : ℕ) → StartsAscii final → Cut t n final → AreSpans t (event Final n final ∷ [])
final_spans t final n ascii c =
    let stop : length t ≡ n + length final = omega (arith, ap length c.parts, length-append c.before final, c.len) in
    (record { start = at_cut t final n c ascii; end = subst (IsCharBoundary t) stop (IsCharBoundary-end t); order = omega arith }, tt)
