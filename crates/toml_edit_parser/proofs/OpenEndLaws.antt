-- The newline of the last statement of a text, by the last two of the text's events.
use Rattle.std.proofs.Common.{◌≡◌, ℕ, ◌+◌, ◌-◌, ◌<◌, ◌≤◌, Bool, false, nat_eq, List, [], ◌∷◌, ◌++◌, length, map, get_or, codes, refl, sym}
use Rattle.std.proofs.Common.{ap, ap₂, subst₂, ◌∙◌, append_assoc, append-nil, arith}
use Rattle.std.proofs.lemmas.Bool.{eq-eqb, ne_eqb}
use Rattle.std.proofs.lemmas.List.{length-append, get_or-append-add}
use Rattle.toml_edit_model.specs.Text.{Text, joined, is_empty}
use Rattle.toml_edit_model.specs.Syntax.{Statement, key_line, header, path_text, value_text, frame_text, brackets_text, opening_brackets}
use Rattle.toml_edit_model.specs.Syntax.{closing_brackets, statement_text, newline_after}
use Rattle.toml_edit_model.specs.Normal.{has_open_end}
use Rattle.toml_edit_syntax.specs.declared.event.Event.{Event}
use Rattle.toml_edit_syntax.specs.declared.event.EventKind.TheVariants.{Leading, BeforeKey, AfterKey, HeaderClose, LineEnd}
use Rattle.toml_edit_syntax.specs.Events.{statement_events, events_from, header_open}
use Rattle.toml_edit_syntax.specs.ValueEvents.{event, path_events, frame_events, value_at_byte, value_events}

-- These events have a last one, which ends at this byte exactly where the end is open.
record End (es : List Event) (byte : ℕ) (is_open : Bool) : Type 0 where
  pub before : List Event
  pub last : Event
  pub parts : es ≡ before ++ (last ∷ [])
  pub told : nat_eq last.span.end byte ≡ is_open

-- a newline takes up bytes
nothing-between : (newline : Text) (place byte : ℕ) → byte ≡ place + length newline → nat_eq place byte ≡ is_empty newline
nothing-between [] place byte e = eq-eqb place byte (omega (arith, e))
nothing-between (c ∷ t) place byte e = ne_eqb place byte (λ same. omega (arith, e, same))

statement-end : (start : ℕ) (s : Statement) → End (statement_events start s) (start
    + length (statement_text s)) (is_empty (newline_after s))
statement-end start (key_line f v end) =
    let value = value_at_byte start f in
    let last = event LineEnd (value + length (value_text v)) f.trailing in
    let behind : Text = f.after_equals ++ (value_text v ++ f.trailing) in
    let whole = length-append (frame_text f (value_text v)) end in
    let leading = length-append f.leading (path_text f.path ++ (f.before_equals ++ (codes "=" ++ behind))) in
    let path = length-append (path_text f.path) (f.before_equals ++ (codes "=" ++ behind)) in
    let equals = length-append f.before_equals (codes "=" ++ behind) in
    let spaces = length-append f.after_equals (value_text v ++ f.trailing) in
    let trailing = length-append (value_text v) f.trailing in
    record {
      before = frame_events start f ++ value_events value v;
      last = last;
      parts = sym (append_assoc (frame_events start f) (value_events value v) (last ∷ []));
      told = nothing-between end _ _ (omega (arith, whole, leading, path, equals, spaces, trailing));
    }
statement-end start (header h end) =
    let brackets = start + length h.leading in
    let before = brackets + length (opening_brackets h.is_array) in
    let key = before + length h.opening in
    let after = key + length (path_text h.path) in
    let close = after + length h.closing in
    let first = event Leading start h.leading ∷ event (header_open h.is_array) brackets (opening_brackets h.is_array)
    ∷ event BeforeKey before h.opening ∷ path_events key h.path in
    let closing = event AfterKey after h.closing ∷ event HeaderClose close (closing_brackets h.is_array) ∷ [] in
    let last = event LineEnd (close + length (closing_brackets h.is_array)) h.trailing in
    let behind : Text = h.closing ++ closing_brackets h.is_array in
    let whole = length-append h.leading (brackets_text h ++ (h.trailing ++ end)) in
    let inside = length-append (brackets_text h) (h.trailing ++ end) in
    let opened = length-append (opening_brackets h.is_array) (h.opening ++ (path_text h.path ++ behind)) in
    let spaces = length-append h.opening (path_text h.path ++ behind) in
    let path = length-append (path_text h.path) behind in
    let closed = length-append h.closing (closing_brackets h.is_array) in
    let trailing = length-append h.trailing end in
    record {
      before = first ++ closing;
      last = last;
      parts = sym (append_assoc first closing (last ∷ []));
      told = nothing-between end _ _ (omega (arith, whole, inside, opened, spaces, path, closed, trailing));
    }

end-of : (start : ℕ) (s : Statement) (rest : List Statement)
    → End (events_from start (s ∷ rest)) (start + length (joined (map statement_text (s ∷ rest)))) (has_open_end (s ∷ rest))
end-of start s [] =
    subst₂ (λ (es : List Event) (t : Text). End es (start + length t) (is_empty (newline_after s)))
    (sym (append-nil (statement_events start s)))
    (sym (append-nil (statement_text s))) (statement-end start s)
end-of start s (r ∷ rest) =
    let events = statement_events start s in
    let text : Text = joined (map statement_text (r ∷ rest)) in
    let later = end-of (start + length (statement_text s)) r rest in
    let both = length-append (statement_text s) text in
    let byte : start + length (statement_text s ++ text) ≡ start + length (statement_text s) + length text = omega (arith, both) in
    record {
      before = events ++ later.before;
      last = later.last;
      parts = ap (λ (es : List Event). events ++ es) later.parts ∙ sym (append_assoc events later.before (later.last ∷ []));
      told = ap (nat_eq later.last.span.end) byte ∙ later.told;
    }

-- ---- the last two events

last-two : (before es : List Event) (a b other : Event) → es ≡ before ++ (a ∷ b ∷ []) → (get_or es (length es - 2) other ≡ a)
    × (get_or es (length es - 1) other ≡ b)
last-two before es a b other parts =
    let two : List Event = a ∷ b ∷ [] in
    let size = ap (λ (x : List Event). length x) parts ∙ length-append before two in
    let first : length es - 2 ≡ length before + 0 = omega (arith, size) in
    let second : length es - 1 ≡ length before + 1 = omega (arith, size) in (
      ap₂ (λ (x : List Event) (k : ℕ). get_or x k other) parts first ∙ get_or-append-add before two 0 other,
      ap₂ (λ (x : List Event) (k : ℕ). get_or x k other) parts second ∙ get_or-append-add before two 1 other,
    )

-- what two events tell
pub open-by : (start : ℕ) (ss : List Statement) (es : List Event) (final other : Event) → es ≡ events_from start ss ++ (final ∷ [])
    → final.span.start ≡ start + length (joined (map statement_text ss)) → 2 ≤ length es
    → nat_eq (get_or es (length es - 2) other).span.end (get_or es (length es - 1) other).span.start ≡ has_open_end ss
open-by start [] es final other is place some = let one = ap (λ (x : List Event). length x) is in absurd (omega (arith, one, some))
open-by start (s ∷ rest) es final other is place some =
    let end = end-of start s rest in
    let parts = is ∙ ap (λ (x : List Event). x ++ (final ∷ [])) end.parts ∙ append_assoc end.before (end.last ∷ []) (final ∷ []) in
    let two = last-two end.before es end.last final other parts in
    ap₂ (λ (x y : Event). nat_eq x.span.end y.span.start) two.0 two.1 ∙ ap (nat_eq end.last.span.end) place ∙ end.told

-- one alone is of a text without statements
pub none-by : (start : ℕ) (ss : List Statement) (es : List Event) (final : Event) → es ≡ events_from start ss ++ (final ∷ [])
    → length es < 2 → false ≡ has_open_end ss
none-by start [] es final is few = refl
none-by start (s ∷ rest) es final is few =
    let end = end-of start s rest in
    let parts = is ∙ ap (λ (x : List Event). x ++ (final ∷ [])) end.parts ∙ append_assoc end.before (end.last ∷ []) (final ∷ []) in
    let size = ap (λ (x : List Event). length x) parts ∙ length-append end.before (end.last ∷ final ∷ []) in
    absurd (omega (arith, few, size))

-- ---- the statements of the last batch

open-behind : (earlier : List Statement) (s : Statement) (here : List Statement) → has_open_end (s ∷ here)
    ≡ has_open_end (earlier ++ (s ∷ here))
open-behind [] s here = refl
open-behind (a ∷ []) s here = refl
open-behind (a ∷ b ∷ earlier) s here = open-behind (b ∷ earlier) s here

-- the last statements tell of all
pub open-later : (earlier here : List Statement) → (here ≡ [] → earlier ≡ []) → has_open_end here ≡ has_open_end (earlier ++ here)
open-later [] here some = refl
open-later (a ∷ earlier) [] some = absurd (let e = some refl in cc)
open-later (a ∷ earlier) (s ∷ here) some = open-behind (a ∷ earlier) s here
