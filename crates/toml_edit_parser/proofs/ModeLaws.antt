-- Where the mode in which a text is read makes a difference, and where it makes none.
use Rattle.std.proofs.Common.{◌≡◌, ◌⊎◌, inl, inr, ℕ, ◌+◌, ◌==◌, Bool, true, false, if◌then◌else◌, List, [], ◌∷◌, ◌++◌, length, codes}
use Rattle.std.proofs.Common.{get_or, append-nil, refl, sym, ap, ◌∙◌, subst, arith}
use Rattle.std.specs.Prelude.{MatchBool}
use Rattle.std.proofs.Math.Seq.{get_or_at}
use Rattle.std.proofs.lemmas.List.{get_or_past, length-append}
use Rattle.toml_edit_model.specs.Text.{Text, carriage_return, line_feed}
use Rattle.toml_edit_model.specs.Trivia.{lf, crlf, IsNewline}
use Rattle.toml_edit_model.specs.Mode.{Mode, plain, exact, but_last, with_return}
use Rattle.toml_edit_model.specs.Syntax.{Frame, Value, scalar, array, inline_table, Elements, no_elements, element, Pairs, no_pairs, pair}
use Rattle.toml_edit_model.specs.Syntax.{Header, key_line, header, path_text, value_text, frame_text, statement_text, brackets_text}
use Rattle.toml_edit_model.specs.Paths.{at_key, Mention, line_mentions}
use Rattle.toml_edit_model.specs.Roles.{ends_path}
use Rattle.toml_edit_model.specs.TableMentions.{under, kept}
use Rattle.toml_edit_model.specs.Tree.{Node, nothing, leaf, list, inline, table, tables, Items, no_items, item, Slots, no_slots, slot}
use Rattle.toml_edit_model.specs.TreeOf.{spanned_form, spanned_in, Entry, entry_of, entries, IsValueNode, AreElementNodes, AreEntrySlots}
use Rattle.toml_edit_laws.specs.Standing.{Stands}
use Rattle.toml_edit_laws.proofs.common.StandingLaws.{stands-right}
use Rattle.toml_edit_syntax.specs.declared.event.Span.{Span}
use Rattle.toml_edit_syntax.specs.ValueEvents.{value_at_byte}
use Rattle.toml_edit_parser.specs.StatementParts.{IsEnded, suffix_span}
use Rattle.toml_edit_parser.specs.ValueRead.{span_at}

-- ---- the item of a value is the same in each mode

by_role : {A B C D : Type 0} (b : Bool) → (A → C) → (B → D) → MatchBool b A B → MatchBool b C D
by_role true f g h = f h
by_role false f g h = g h

module _ (mode : Mode) where
  entries-same : (ps : Pairs) (i : ℕ) → entries spanned_form ps i ≡ entries (spanned_in mode) ps i
  entries-same no_pairs i = refl
  entries-same (pair f v ps) i =
      ap (λ ms. line_mentions (entry_of spanned_form i f v) (i + length f.leading) [] f.path
      ++ ms) (entries-same ps (i + length (frame_text f (value_text v)) + 1))

  mutual
    pub value-in-mode : (v : Value) (i : ℕ) (before after : Text) (n : Node) → IsValueNode spanned_form v i before after n
        → IsValueNode (spanned_in mode) v i before after n
    value-in-mode (scalar s t) i before after (leaf r spelling d) h = h
    value-in-mode (array es comma t) i before after (list f xs) h = (h.0, elements-in-mode es (i + length before + 1) xs h.1)
    value-in-mode (inline_table ps comma t) i before after (inline f ss) h =
        let at = i + length before + 1 in (
          h.0,
          subst (λ ms. AreEntrySlots (spanned_in mode) ms (kept ms) ss) (entries-same ps at)
              (slots-in-mode (entries spanned_form ps at) (kept (entries spanned_form ps at)) ss h.1),
        )
    value-in-mode v i before after n h = absurd h

    elements-in-mode : (es : Elements) (i : ℕ) (xs : Items) → AreElementNodes spanned_form es i xs
        → AreElementNodes (spanned_in mode) es i xs
    elements-in-mode no_elements i no_items h = tt
    elements-in-mode (element a v es) i (item n xs) h = (
      value-in-mode v i a.before a.after n h.0,
      elements-in-mode es (i + length a.before + length (value_text v) + length a.after
          + 1) xs h.1,
    )
    elements-in-mode es i xs h = absurd h

    slots-in-mode : (ms ks : List (Mention Entry)) (ss : Slots) → AreEntrySlots spanned_form ms ks ss
        → AreEntrySlots (spanned_in mode) ms ks ss
    slots-in-mode ms [] no_slots h = tt
    slots-in-mode ms (m ∷ rest) (slot k (inline f us) ss) h = (
      h.0,
      by_role (ends_path m.role) (value-in-mode m.source.value m.source.start m.source.before m.source.after (inline f us))
          (λ g. (g.0, slots-in-mode (under (at_key m.segment.key) ms) (kept (under (at_key m.segment.key) ms)) us g.1)) h.1,
      slots-in-mode ms rest ss h.2,
    )
    slots-in-mode ms (m ∷ rest) (slot k nothing ss) h = (
      h.0,
      by_role (ends_path m.role) (value-in-mode m.source.value m.source.start m.source.before m.source.after nothing) (λ g. g) h.1,
      slots-in-mode ms rest ss h.2,
    )
    slots-in-mode ms (m ∷ rest) (slot k (leaf s r d) ss) h = (
      h.0,
      by_role (ends_path m.role) (value-in-mode m.source.value m.source.start m.source.before m.source.after (leaf s r d)) (λ g. g)
          h.1,
      slots-in-mode ms rest ss h.2,
    )
    slots-in-mode ms (m ∷ rest) (slot k (list f xs) ss) h = (
      h.0,
      by_role (ends_path m.role) (value-in-mode m.source.value m.source.start m.source.before m.source.after (list f xs)) (λ g. g)
          h.1,
      slots-in-mode ms rest ss h.2,
    )
    slots-in-mode ms (m ∷ rest) (slot k (table f us) ss) h = (
      h.0,
      by_role (ends_path m.role) (value-in-mode m.source.value m.source.start m.source.before m.source.after (table f us)) (λ g. g)
          h.1,
      slots-in-mode ms rest ss h.2,
    )
    slots-in-mode ms (m ∷ rest) (slot k (tables e xs) ss) h = (
      h.0,
      by_role (ends_path m.role) (value-in-mode m.source.value m.source.start m.source.before m.source.after (tables e xs)) (λ g. g)
          h.1,
      slots-in-mode ms rest ss h.2,
    )
    slots-in-mode ms ks ss h = absurd h

-- ---- the suffix of a statement

-- the first byte of a text that stands there
byte-there : (source : Text) (at : ℕ) (c : ℕ) (more : Text) → Stands source at (c ∷ more) → get_or source at 0 ≡ c
byte-there source at c more here =
    ap (λ x. get_or x at 0) here.text ∙ get_or_at here.before c (more ++ here.after) 0 at (sym here.place)

-- the span that is made where such a byte stands
suffix-by : (source : Text) (s : Span) (c : ℕ) → get_or source s.end 0 ≡ c
    → suffix_span exact source s ≡ (if c == carriage_return then record { start = s.start; end = s.end + 1 } else s)
suffix-by source s c e = ap (λ x. if x == carriage_return then record { start = s.start; end = s.end + 1 } else s) e

-- The newline comes after the text that begins at this byte, whose span is lengthened by what the mode counts to it.
suffix-is : (mode : Mode) (source : Text) (at : ℕ) (t end : Text) → Stands source (at + length t) end → IsNewline end
    ⊎ ((end ≡ []) × (length source ≡ at + length t))
    → suffix_span mode source (span_at at t) ≡ span_at at (with_return mode t end)
suffix-is plain source at t end stands ends = refl
suffix-is exact source at t end stands (inl (lf, e)) =
    let behind = byte-there source (at + length t) line_feed [] (subst (Stands source (at + length t)) e stands) in
    suffix-by source (span_at at t) line_feed behind ∙ ap (span_at at) (sym (append-nil t)) ∙ ap (λ x. span_at at (t ++ but_last x)) (sym e)
suffix-is exact source at t end stands (inl (crlf, e)) =
    let behind = byte-there source (at + length t) carriage_return (line_feed ∷ []) (subst (Stands source (at + length t)) e stands) in
    let longer : at + length t + 1 ≡ at + length (t ++ carriage_return ∷ []) = let more = length-append t (carriage_return ∷ []) in
    omega (arith, more) in
    suffix-by source (span_at at t) carriage_return behind
    ∙ ap (λ (i : ℕ). record { start = at; end = i }) longer
    ∙ ap (λ x. span_at at (t ++ but_last x)) (sym e)
suffix-is exact source at t end stands (inr (e, whole)) =
    let past = get_or_past source (at + length t) 0 (omega (arith, whole)) in
    suffix-by source (span_at at t) 0 past ∙ ap (span_at at) (sym (append-nil t)) ∙ ap (λ x. span_at at (t ++ but_last x)) (sym e)

-- where the text after a value ends
frame-end : (start : ℕ) (f : Frame) (t : Text) → start + length (frame_text f t) ≡ value_at_byte start f + length t + length f.trailing
frame-end start f t =
    let behind : Text = t ++ f.trailing in
    let value : Text = f.after_equals ++ behind in
    let signs : Text = codes "=" ++ value in
    let one = length-append f.leading (path_text f.path ++ (f.before_equals ++ signs)) in
    let two = length-append (path_text f.path) (f.before_equals ++ signs) in
    let three = length-append f.before_equals signs in
    let four = length-append f.after_equals behind in
    let five = length-append t f.trailing in
    omega (arith, one, two, three, four, five)

-- the suffix of a key line
pub line-suffix : (mode : Mode) (source : Text) (start : ℕ) (f : Frame) (v : Value) (end : Text)
    → Stands source start (statement_text (key_line f v end))
    → IsEnded source start (key_line f v end)
    → suffix_span mode source (span_at (value_at_byte start f + length (value_text v)) f.trailing)
    ≡ span_at (value_at_byte start f + length (value_text v)) (with_return mode f.trailing end)
line-suffix mode source start f v end stands ends =
    let frame = frame_text f (value_text v) in
    let at = value_at_byte start f + length (value_text v) in
    let there = frame-end start f (value_text v) in
    suffix-is mode source at f.trailing end (subst (λ i. Stands source i end) there (stands-right source start frame end stands))
    (by_end ends)
  where
    by_end : IsEnded source start (key_line f v end) → IsNewline end
        ⊎ ((end ≡ []) × (length source ≡ value_at_byte start f + length (value_text v) + length f.trailing))
    by_end (inl is) = inl is
    by_end (inr (none, whole)) =
        let size = length-append (frame_text f (value_text v)) end in
        let empty : length end ≡ 0 = ap (λ (x : Text). length x) none in
        let there = frame-end start f (value_text v) in
        inr (none, omega (arith, size, empty, there, whole))

-- the suffix of a header
pub header-suffix : (mode : Mode) (source : Text) (start : ℕ) (h : Header) (end : Text)
    → Stands source start (statement_text (header h end))
    → IsEnded source start (header h end)
    → suffix_span mode source (span_at (start + length h.leading + length (brackets_text h)) h.trailing)
    ≡ span_at (start + length h.leading + length (brackets_text h)) (with_return mode h.trailing end)
header-suffix mode source start h end stands ends =
    let at = start + length h.leading + length (brackets_text h) in
    let brackets = stands-right source start h.leading (brackets_text h ++ (h.trailing ++ end)) stands in
    let behind = stands-right source (start + length h.leading) (brackets_text h) (h.trailing ++ end) brackets in
    suffix-is mode source at h.trailing end (stands-right source at h.trailing end behind) (by_end ends)
  where
    by_end : IsEnded source start (header h end) → IsNewline end
        ⊎ ((end ≡ []) × (length source ≡ start + length h.leading + length (brackets_text h) + length h.trailing))
    by_end (inl is) = inl is
    by_end (inr (none, whole)) =
        let behind : Text = h.trailing ++ end in
        let one = length-append h.leading (brackets_text h ++ behind) in
        let two = length-append (brackets_text h) behind in
        let three = length-append h.trailing end in
        let empty : length end ≡ 0 = ap (λ (x : Text). length x) none in
        inr (none, omega (arith, one, two, three, empty, whole))
