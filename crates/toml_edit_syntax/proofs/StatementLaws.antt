-- What reads as a statement is one, and a statement is read again, up to a bracket that is one too many.
use Rattle.std.proofs.Common.{◌≡◌, ℕ, ◌+◌, ◌-◌, ◌*◌, ◌<◌, Bool, true, false, ◌==◌, List, [], ◌∷◌, ◌++◌, length, Option, refl, sym, ap}
use Rattle.std.proofs.Common.{subst, ◌∙◌, inl, inr, arith, append_assoc, append-nil}
use Rattle.std.proofs.lemmas.Bool.Decides.{nat_tests}
use Rattle.std.proofs.lemmas.List.{length-append}
use Rattle.toml_edit_model.specs.Text.{Text}
use Rattle.toml_edit_model.specs.Trivia.{is_blank, IsWholeTrivia, IsLineEnd}
use Rattle.toml_edit_model.specs.Syntax.{Frame, Value, Header, Statement, key_line, header, path_text, frame_text, value_text}
use Rattle.toml_edit_model.specs.Syntax.{opening_brackets, closing_brackets, brackets_text, statement_text, IsFrame, IsValue, IsStatement}
use Rattle.toml_edit_model.specs.Syntax.{depth}
use Rattle.toml_edit_syntax.specs.declared.event.EventKind.TheVariants.{Leading, BeforeKey, AfterKey, HeaderClose, LineEnd}
use Rattle.toml_edit_syntax.specs.declared.event.Event.{Event}
use Rattle.toml_edit_laws.specs.reading.Runs.{first}
use Rattle.toml_edit_syntax.specs.ValueEvents.{event, path_events, frame_events, value_at_byte, value_events, shortened}
use Rattle.toml_edit_syntax.specs.ValueReading.{Reading, got, follow, changed, behind, reading, frame_at, value_from}
use Rattle.toml_edit_syntax.specs.Events.{line_events, header_open, header_events, statement_events}
use Rattle.toml_edit_syntax.specs.Reading.{end_at, key_line_at, header_at, statement_at}
use Rattle.toml_edit_laws.proofs.reading.Steps.{chosen}
use Rattle.toml_edit_laws.proofs.reading.Begins.{begins_not}
use Rattle.toml_edit_laws.proofs.one_cut.Statements.{ending_ends, line_end_ends, opening_opens, leading_of, statement_tail, IsEnding}
use Rattle.toml_edit_laws.proofs.one_cut.Statements.{EndsAt}
use Rattle.toml_edit_syntax.proofs.ReadingSteps.{follow_got, changed_got, behind_got, reading_got}
use Rattle.toml_edit_syntax.proofs.PathLaws.{head_text, behind_trivia, FrameTook, frame_takes, frame_again, path_begins}
use Rattle.toml_edit_syntax.proofs.ShortenedLaws.{Stays, Stops, stays_then, stops_first, stops_then, stays_path, stays_frame, value_stays}
use Rattle.toml_edit_syntax.proofs.ShortenedLaws.{value_stops, Fits, Exceeds}
use Rattle.toml_edit_syntax.proofs.ValueTakes.{ValueTook, value_takes, followed_by}
use Rattle.toml_edit_syntax.proofs.Outcomes.{ValueBegins, value_begins, value_begins_not, outcome, has_room, has_room_true, no_room}
use Rattle.toml_edit_syntax.proofs.Outcomes.{behind_outcome, follow_outcome}
use Rattle.toml_edit_syntax.proofs.ValueAgain.{outcome_same, value_place, value_reads}
use Rattle.toml_edit_syntax.proofs.HeaderLaws.{EndTook, end_takes, end_again, Entry, header_then, header_takes, header_again}

-- ---- what is read

regroup : (a b c d v e f rest : Text) → (a ++ (b ++ (c ++ (61 ∷ d)))) ++ (v ++ (e ++ (f ++ rest)))
    ≡ ((a ++ (b ++ (c ++ (61 ∷ (d ++ (v ++ e)))))) ++ f) ++ rest
regroup a b c d v e f rest = simp append_assoc

key_line_made : (leading text u after rest : Text) (f : Frame) (v : Value) (e : Text × Text) → FrameTook leading text f u
    → ValueTook 0 u v after → EndTook after e rest
    → Entry (leading ++ text) (key_line (followed_by f e.0) v e.1) rest
key_line_made leading text u after rest f v e took here ending =
    let (spaced, path) = took.is in (
      (
        (
          record {
            leading = spaced.leading;
            segments = spaced.segments;
            before_equals = spaced.before_equals;
            after_equals =
                spaced.after_equals;
            trailing = ending.ends;
          },
          path,
        ),
        here.is,
        ending.newline,
      ),
      took.parts ∙ ap (λ (x : Text). head_text f ++ x) (here.parts ∙ ap (λ (x : Text). value_text v ++ x) ending.parts)
          ∙ regroup f.leading (path_text f.path) f.before_equals f.after_equals (value_text v) e.0 e.1 rest,
    )

key_line_takes : (at : ℕ) (leading text rest : Text) (s : Statement) → IsWholeTrivia leading → key_line_at 0 at leading text ≡ got s rest
    → Entry (leading ++ text) s rest
unfolding key_line_at
key_line_takes at leading text rest s whole h =
    let (f, u, framed, h1) = follow_got (frame_at leading text) _ s rest h in
    let start = at + (length text + length leading) - length u in
    let (v, after, found, h2) =
    follow_got (value_from (2 * length u + 2) 0 start u) _ s rest (behind_got (frame_events at f) _ s rest h1) in
    let (e, ended, same) = changed_got (λ (e : Text × Text). key_line (followed_by f e.0) v e.1) (reading (end_at after)) s rest h2 in
    subst (λ (y : Statement). Entry (leading ++ text) y rest) same
    (key_line_made leading text u after rest f v e (frame_takes leading text u f whole framed) (value_takes (2 * length u
    + 2) 0 start u v after (omega arith) found)
    (end_takes after rest e (reading_got (end_at after) e rest ended)))

pub statement_takes : (at : ℕ) (leading text rest : Text) (s : Statement) → IsWholeTrivia leading → statement_at 0 at leading text
    ≡ got s rest → Entry (leading ++ text) s rest
unfolding statement_at
statement_takes at leading text rest s whole h =
    elim (chosen (first text == 0x5B) (header_at leading text) (key_line_at 0 at leading text) (got s rest) h) [
      | inl (here, g) ↦ header_takes leading text rest s whole here g
      | inr (other, g) ↦ key_line_takes at leading text rest s whole g
    ]

-- ---- the parts of a statement

regroup_line : (a b c d v e f rest : Text) → (a ++ (b ++ (c ++ (61 ∷ (d ++ (v ++ e))))) ++ f) ++ rest ≡ a
    ++ (b ++ (c ++ (61 ∷ (d ++ (v ++ (e ++ (f ++ rest)))))))
regroup_line a b c d v e f rest = simp append_assoc

pub statement_then : (s : Statement) (rest : Text) → statement_text s ++ rest ≡ leading_of s ++ statement_tail s rest
statement_then (key_line f v end) rest =
    regroup_line f.leading (path_text f.path) f.before_equals f.after_equals (value_text v) f.trailing end rest
statement_then (header h end) rest = sym (header_then h end rest)

pub tail_begins : (s : Statement) (rest : Text) → EndsAt rest s → ValueBegins (statement_tail s rest)
tail_begins (key_line f v end) rest (frame, value, ending) =
    let after = f.before_equals ++ (61 ∷ (f.after_equals ++ (value_text v ++ (f.trailing ++ (end ++ rest))))) in
    let (c, cs, e, opening) = path_begins f.path frame.1 in
    (c, cs ++ after, ap (λ (x : Text). x ++ after) e, rw opening refl)
tail_begins (header h end) rest (is, ending) =
    opening_opens h.is_array (h.opening ++ (path_text h.path
    ++ (h.closing ++ (closing_brackets h.is_array ++ (h.trailing ++ (end ++ rest))))))

-- a statement is not empty
pub some_statement : (MayEnd : Text → Type 0) (s : Statement) → IsStatement MayEnd s → 0 < length (statement_text s)
some_statement MayEnd (key_line f v end) (frame, value, ends) =
    let (c, cs, e, opening) = path_begins f.path frame.1 in
    omega (
      arith,
      ap length e,
      length-append (frame_text f (value_text v)) end,
      length-append f.leading (path_text f.path ++ (f.before_equals ++ (61 ∷ (f.after_equals ++ (value_text v ++ f.trailing))))),
      length-append (path_text f.path) (f.before_equals ++ (61 ∷ (f.after_equals ++ (value_text v ++ f.trailing)))),
    )
some_statement MayEnd (header h end) (is, ends) =
    let inside = h.opening ++ (path_text h.path ++ (h.closing ++ closing_brackets h.is_array)) in
    omega (
      arith,
      some_brackets h.is_array,
      length-append h.leading (brackets_text h ++ (h.trailing ++ end)),
      length-append (brackets_text h) (h.trailing ++ end),
      length-append (opening_brackets h.is_array) inside,
    )
  where
    some_brackets : (is_array : Bool) → 0 < length (opening_brackets is_array)
    some_brackets true = omega arith
    some_brackets false = omega arith

-- ---- where the events of a statement are cut

-- how many brackets its value has open at most
abbrev pub depth_of : Statement → ℕ
depth_of (key_line f v end) = depth v
depth_of (header h end) = 0

pub line_stays : (level at : ℕ) (f : Frame) (v : Value) → Fits level (depth v) → Stays level (line_events at f v)
line_stays level at f v fits =
    let value = value_at_byte at f in
    let last = event LineEnd (value + length (value_text v)) f.trailing ∷ [] in
    stays_then level (frame_events at f) (value_events value v
    ++ last) (stays_frame level at f) (stays_then level (value_events value v) last (value_stays v level value fits) (λ more. refl))

-- a line with a bracket that is one too many
pub line_stops : (level at : ℕ) (f : Frame) (v : Value) (later : List Event) → Exceeds level (depth v)
    → shortened level (line_events at f v ++ later) ≡ frame_events at f ++ shortened level (value_events (value_at_byte at f) v)
line_stops level at f v later big =
    let value = value_at_byte at f in
    let vs = value_events value v in
    let last = event LineEnd (value + length (value_text v)) f.trailing ∷ [] in
    let stops = value_stops v level value big.0 big.1 in
    stops_then level (frame_events at f) (vs ++ last) (stays_frame level at f) (stops_first level vs last stops) later
    ∙ stays_frame level at f (vs ++ last) ∙ ap (λ (x : List Event). frame_events at f ++ x) (stops last)

-- the brackets of a header don't count
plain_opening : (level at : ℕ) (is_array : Bool) (t : Text) (es : List Event) → shortened level (event (header_open is_array) at t ∷ es)
    ≡ event (header_open is_array) at t ∷ shortened level es
plain_opening level at true t es = refl
plain_opening level at false t es = refl

header_stays : (level at : ℕ) (h : Header) → Stays level (header_events at h)
header_stays level at h more =
    let brackets = at + length h.leading in
    let before = brackets + length (opening_brackets h.is_array) in
    let key = before + length h.opening in
    let after = key + length (path_text h.path) in
    let close = after + length h.closing in
    let ends = event AfterKey after h.closing ∷ event HeaderClose close (closing_brackets h.is_array)
    ∷ event LineEnd (close + length (closing_brackets h.is_array)) h.trailing ∷ [] in
    let inner = stays_then level (path_events key h.path) ends (stays_path level key h.path) (λ m. refl) more in
    ap (λ (x : List Event). event Leading at h.leading ∷ x)
    (plain_opening level brackets h.is_array (opening_brackets h.is_array) (event BeforeKey before h.opening
    ∷ ((path_events key h.path ++ ends) ++ more))
    ∙ ap (λ (x : List Event). event (header_open h.is_array) brackets (opening_brackets h.is_array) ∷ event BeforeKey before h.opening
    ∷ x) inner)

pub statement_stays : (level at : ℕ) (s : Statement) → Fits level (depth_of s) → Stays level (statement_events at s)
statement_stays level at (key_line f v end) fits = line_stays level at f v fits
statement_stays level at (header h end) fits = header_stays level at h

pub statement_stops : (level at : ℕ) (s : Statement) → Exceeds level (depth_of s) → Stops level (statement_events at s)
statement_stops level at (key_line f v end) big = λ more. line_stops level at f v more big ∙ sym (line_stops level at f v [] big)
    ∙ ap (shortened level) (append-nil (line_events at f v))
statement_stops level at (header h end) big = absurd (omega (arith, big.0, big.1))

-- ---- a statement is read again

abbrev line_then : Frame → Value → Text → Reading Statement
line_then f v after = changed (λ e. key_line (followed_by f e.0) v e.1) (reading (end_at after))

key_line_open : (level at : ℕ) (f : Frame) (v : Value) (more : Text) → IsFrame IsLineEnd f → IsValue v
    → key_line_at level at f.leading (behind_trivia f (value_text v ++ more))
    ≡ behind (frame_events at f) (follow (value_from (2 * length (value_text v ++ more) + 2) level (at
    + (length (behind_trivia f (value_text v ++ more)) + length f.leading) - length (value_text v ++ more)) (value_text v ++ more))
    (line_then f))
unfolding key_line_at
key_line_open level at f v more frame value =
    let past_space = value_begins_not is_blank (value_text v) more (λ c h. grind (arith, nat_tests)) (value_begins v value) in
    rw (frame_again IsLineEnd f (value_text v ++ more) frame past_space) refl

key_line_reads : (level at : ℕ) (f : Frame) (v : Value) (end rest : Text) → IsFrame IsLineEnd f → IsValue v → IsEnding end rest
    → key_line_at level at f.leading (behind_trivia f (value_text v ++ (f.trailing ++ (end ++ rest))))
    ≡ outcome (has_room level (depth v)) (key_line f v end) rest (shortened level (line_events at f v))
key_line_reads level at f v end rest frame value ending =
    let more = f.trailing ++ (end ++ rest) in
    let t = value_text v ++ more in
    let start = value_at_byte at f in
    let fits = has_room level (depth v) in
    let vs = shortened level (value_events start v) in
    let past_value = line_end_ends f.trailing (end ++ rest) frame.0.trailing (ending_ends end rest ending) in
    let read = value_reads (2 * length t + 2) v level start more value past_value (omega arith) in
    let last : line_then f v more ≡ got (key_line f v end) rest =
    ap (λ (o : Option ((Text × Text) × Text)). changed (λ e. key_line (followed_by f e.0) v e.1) (reading o))
    (end_again f.trailing end rest frame.0.trailing ending) in
    key_line_open level at f v more frame value
    ∙ ap (λ (n : ℕ). behind (frame_events at f) (follow (value_from (2 * length t + 2) level n t) (line_then f))) (value_place at f t)
    ∙ ap (λ (r : Reading Value). behind (frame_events at f) (follow r (line_then f))) read
    ∙ ap (behind (frame_events at f)) (follow_outcome (line_then f) fits v more vs (key_line f v end) rest last)
    ∙ behind_outcome (frame_events at f) fits (key_line f v end) rest vs
    ∙ outcome_same fits (key_line f v end) rest (frame_events at f ++ vs) (shortened level (line_events at f v))
    (λ none. sym (ap (shortened level) (sym (append-nil (line_events at f v))) ∙ line_stops level at f v [] (no_room level (depth v) none)))

header_first : (is_array : Bool) (rest : Text) → (first (opening_brackets is_array ++ rest) == 0x5B) ≡ true
header_first true rest = refl
header_first false rest = refl

pub statement_reads : (level at : ℕ) (s : Statement) (rest : Text) → EndsAt rest s
    → statement_at level at (leading_of s) (statement_tail s rest)
    ≡ outcome (has_room level (depth_of s)) s rest (shortened level (statement_events at s))
unfolding statement_at
statement_reads level at (key_line f v end) rest (frame, value, ending) =
    let after = f.before_equals ++ (61 ∷ (f.after_equals ++ (value_text v ++ (f.trailing ++ (end ++ rest))))) in
    let no_bracket = begins_not (λ c. c == 0x5B) (path_text f.path) after (λ c h. grind (arith, nat_tests)) (path_begins f.path frame.1) in
    rw no_bracket (key_line_reads level at f v end rest frame value ending)
statement_reads level at (header h end) rest (is, ending) =
    let inside = h.opening ++ (path_text h.path ++ (h.closing ++ (closing_brackets h.is_array ++ (h.trailing ++ (end ++ rest))))) in
    rw (header_first h.is_array inside)
    (header_again h end rest is ending ∙ ap (λ (b : Bool). outcome b (header h end) rest (shortened level (header_events at h)))
    (sym (has_room_true level 0 (λ below. omega arith))))
