-- Where the reading of statements stops at a bracket that is one too many.
use Rattle.std.proofs.Common.{◌≡◌, ℕ, ◌+◌, ◌-◌, ◌*◌, ◌==◌, List, ◌++◌, length, IsUtf8, Option, refl, sym, subst, inl, inr, arith}
use Rattle.toml_edit_model.specs.Text.{Text}
use Rattle.toml_edit_model.specs.Trivia.{is_blank, IsWholeTrivia}
use Rattle.toml_edit_model.specs.Syntax.{Frame, Value, key_line}
use Rattle.toml_edit_syntax.specs.declared.event.Event.{Event}
use Rattle.toml_edit_laws.specs.reading.Runs.{first, split_while}
use Rattle.toml_edit_syntax.specs.Scanning.{opening_at}
use Rattle.toml_edit_syntax.specs.ValueEvents.{frame_events, value_at_byte}
use Rattle.toml_edit_syntax.specs.ValueReading.{Reading, deep, follow, changed, reading, path_at, frame_at, value_from}
use Rattle.toml_edit_syntax.specs.Reading.{end_at, key_line_at, header_end_at, header_at, statement_at}
use Rattle.toml_edit_laws.proofs.reading.Steps.{chosen}
use Rattle.toml_edit_syntax.proofs.PathLaws.{behind_trivia, FrameTook, frame_takes, frame_parts}
use Rattle.toml_edit_syntax.proofs.ValueTakes.{followed_by}
use Rattle.toml_edit_syntax.proofs.SpanLaws.{Cut, cut_as, value_cut, frame_spans}
use Rattle.toml_edit_syntax.proofs.DeepLaws.{follow_deep, changed_deep, behind_deep, reading_deep, frame_deep, frame_place, DeepIn}
use Rattle.toml_edit_syntax.proofs.DeepLaws.{deep_later, value_stops_in}

-- ---- a statement

pub value_then_deep : {A B C : Type 0} (r : Reading A) (f : A → B → C) (g : Text → Option (B × Text)) (es : List Event)
    → follow r (λ a rest. changed (f a) (reading (g rest))) ≡ deep es → r ≡ deep es
value_then_deep r f g es e =
    elim (follow_deep r (λ a rest. changed (f a) (reading (g rest))) es e) [
      | inl h ↦ h
      | inr (a, rest, found, h) ↦ absurd (reading_deep (g rest) es (changed_deep (f a) (reading (g rest)) es h))
    ]

frame_stops : (whole leading text u : Text) (at n start : ℕ) (f : Frame) (es : List Event) → IsUtf8 whole → Cut whole at (leading ++ text)
    → FrameTook leading text f u → leading ++ text ≡ f.leading ++ behind_trivia f u
    → start ≡ value_at_byte at f → (ms : List Event) → value_from n 0 start u ≡ deep ms → frame_events at f ++ ms ≡ es → DeepIn whole es
frame_stops whole leading text u at n start f es utf8 c frame parts place ms read joined =
    let c0 = cut_as whole (leading ++ text) (f.leading ++ behind_trivia f u) at at parts refl c in
    let c1 = cut_as whole u u (value_at_byte at f) start refl (sym place) (value_cut whole u at f c0) in
    let (ascii, is) = value_stops_in n whole u 0 start utf8 (omega arith) c1 ms read in
    subst (DeepIn whole) joined (deep_later whole (frame_events at f) ms (frame_spans IsWholeTrivia whole u at f frame.is ascii c0) is)

key_line_stops_in : (whole leading text : Text) (at : ℕ) (es : List Event) → IsUtf8 whole → IsWholeTrivia leading
    → Cut whole at (leading ++ text) → key_line_at 0 at leading text ≡ deep es → DeepIn whole es
unfolding key_line_at
key_line_stops_in whole leading text at es utf8 trivia c e =
    elim (follow_deep (frame_at leading text) _ es e) [
      | inl h ↦ absurd (frame_deep leading text es h)
      | inr (f, u, framed, g) ↦
          let start = at + (length text + length leading) - length u in
          let frame = frame_takes leading text u f trivia framed in
          let (ms, read, joined) = behind_deep (frame_events at f) _ es g in
          let made = λ (v : Value) (e : Text × Text). key_line (followed_by f e.0) v e.1 in
          frame_stops whole leading text u at (2 * length u + 2) start f es utf8 c frame (frame_parts leading text u f framed)
          (frame_place at leading text u f frame) ms (value_then_deep (value_from (2 * length u + 2) 0 start u) made end_at ms read)
          joined
    ]

-- a header has no such bracket
pub header_deep : (leading t : Text) (es : List Event) → header_at leading t ≡ deep es → ⊥
unfolding header_at
header_deep leading t es e =
    let brackets = opening_at t in
    let white = split_while is_blank brackets.1 in
    elim (follow_deep (reading (path_at white.1)) _ es e) [
      | inl h ↦ reading_deep (path_at white.1) es h
      | inr (p, rest, found, h) ↦
          reading_deep (header_end_at brackets.0 rest) es (changed_deep _ (reading (header_end_at brackets.0 rest)) es h)
    ]

pub statement_stops_in : (whole leading text : Text) (at : ℕ) (es : List Event) → IsUtf8 whole → IsWholeTrivia leading
    → Cut whole at (leading ++ text) → statement_at 0 at leading text ≡ deep es → DeepIn whole es
unfolding statement_at
statement_stops_in whole leading text at es utf8 trivia c e =
    elim (chosen (first text == 0x5B) (header_at leading text) (key_line_at 0 at leading text) (deep es) e) [
      | inl (here, h) ↦ absurd (header_deep leading text es h)
      | inr (other, h) ↦ key_line_stops_in whole leading text at es utf8 trivia c h
    ]
