-- Where the statements of a document in UTF-8 begin and end, and their parts, the text may be cut.
use Rattle.std.proofs.Common.{◌≡◌, ◌⊎◌, refl, sym, ◌∙◌, ap, subst, ℕ, ◌+◌, ◌-◌, ◌<◌, arith, inl, inr, true, false, Bool, List, [], ◌∷◌}
use Rattle.std.proofs.Common.{◌++◌, length, map}
use Rattle.std.specs.Prelude.{flat_map}
use Rattle.std.specs.List.{AllByRecursion}
use lib.Utf8.{encode}
use Rattle.std.specs.Str.{IsUtf8, IsCharBoundary}
use Rattle.std.proofs.lemmas.List.{length-append}
use Rattle.std.proofs.lemmas.Str.{IsCharBoundary-start, IsCharBoundary-end, IsCharBoundary-past_char}
use Rattle.toml_edit_model.specs.Mode.{Mode, with_return}
use Rattle.toml_edit_model.specs.Text.{Text, joined}
use Rattle.toml_edit_model.specs.Trivia.{IsNewline, lf, crlf}
use Rattle.toml_edit_model.specs.Syntax.{Segment, Frame, Header, Value, Statement, key_line, header, Document, IsSpacedSegment, IsFrame}
use Rattle.toml_edit_model.specs.Syntax.{IsHeader, IsValue, IsStatement, AreStatements, IsDocument, value_text, path_text, frame_text}
use Rattle.toml_edit_model.specs.Syntax.{statement_text, brackets_text, opening_brackets, closing_brackets, mark_text, document_text}
use Rattle.toml_edit_model.specs.Paths.{Path, to_key, Mention, Source, Placed, Context, header_mentions, next_start, elements_at, in_last}
use Rattle.toml_edit_model.specs.Paths.{header_role_of, path_start, source_of, mentions_of, context_after, placed_from, start_context}
use Rattle.toml_edit_model.specs.Paths.{all_mentions}
use Rattle.toml_edit_model.specs.TreeOf.{spanned_in, value_start, frame_leaf, header_leaf, headed_by, bracket_end}
use Rattle.toml_edit_laws.specs.Standing.{Stands}
use Rattle.toml_edit_laws.proofs.common.StandingLaws.{stands-left, stands-right}
use Rattle.toml_edit_laws.proofs.common.LineEnds.{IsEnd}
use Rattle.toml_edit_laws.proofs.common.Returns.{after-return, return-split, returned-frame, frame-split, header-returned, parts-start}
use Rattle.toml_edit_laws.proofs.common.Returns.{returned-starts, rest-starts}
use Rattle.toml_edit_laws.proofs.common.Members.{Among, among-cases}
use Rattle.toml_edit_laws.proofs.mentions.KeyMentions.{line-source}
use Rattle.toml_edit_laws.proofs.values.ValueOwned.{stands-at}
use Rattle.toml_edit_laws.proofs.values.ValueFits.{AroundFits, line_value_fits}
use Rattle.toml_edit_laws.proofs.common.Edges.{edge-before, edge-after, StartsAscii, EndsAscii, start-edge, end-edge, white-starts}
use Rattle.toml_edit_laws.proofs.common.Edges.{white-ends, trivia-ends}
use Rattle.toml_edit_laws.proofs.read_trees.MentionsStand.{Holds, statements-stand}
use Rattle.toml_edit_laws.proofs.values.TextsLie.{frame-fits, SegmentFits, Lies, lies-at, raw-fits, edge-at, segment-fits, first-fits}
use Rattle.toml_edit_laws.proofs.values.TextsLie.{line-fits}
use Rattle.toml_edit_laws.proofs.mentions.Placed.{header-source, after-start}
use Rattle.toml_edit_model.specs.Roles.{Role}
use Rattle.toml_edit_model.specs.OwnedForm.{DecorFits}

-- ---- segments

headers-fit : {S : Type 0} (text : Text) (source : S) (before : List Path) (role : Role) (i : ℕ) (p : Path) (ss : List Segment)
    → IsUtf8 text
    → Stands text i (path_text ss) → AllByRecursion IsSpacedSegment ss → IsCharBoundary text i
    → IsCharBoundary text (i + length (path_text ss))
    → (m : Mention S) → Among m (header_mentions source before role i p ss) → SegmentFits text m.start m.segment
headers-fit text source before role i p [] utf8 h spaced first last m a = elim a [ ]
headers-fit text source before role i p (s ∷ []) utf8 h spaced first last m (inl g) =
    subst (λ (k : Mention _). SegmentFits text k.start k.segment) (sym g) (segment-fits text i s utf8 h spaced.0 first last)
headers-fit text source before role i p (s ∷ []) utf8 h spaced first last m (inr a) = elim a [ ]
headers-fit text source before role i p (s ∷ r ∷ rest) utf8 h spaced first last m (inl g) =
    let fits = first-fits text i s r rest utf8 h spaced.0 first last in
    subst (λ (k : Mention _). SegmentFits text k.start k.segment) (sym g) fits.first
headers-fit text source before role i p (s ∷ r ∷ rest) utf8 h spaced first last m (inr a) =
    let fits = first-fits text i s r rest utf8 h spaced.0 first last in
    let here : Path = to_key p s.key in
    headers-fit text source before role (next_start i s) (in_last (elements_at before here) here) (r
    ∷ rest) utf8 fits.others spaced.1 fits.start fits.end m a

opening-ends : (b : Bool) → EndsAscii (opening_brackets b)
opening-ends true = inr (91 ∷ [], 91, refl, (let small : 91 < 128 = omega arith in small))
opening-ends false = inr ([], 91, refl, (let small : 91 < 128 = omega arith in small))

closing-ends : (b : Bool) → EndsAscii (closing_brackets b)
closing-ends true = inr (93 ∷ [], 93, refl, (let small : 93 < 128 = omega arith in small))
closing-ends false = inr ([], 93, refl, (let small : 93 < 128 = omega arith in small))

-- before brackets the text may be cut
closing-edge : (text : Text) (i : ℕ) (b : Bool) → Stands text i (closing_brackets b) → IsCharBoundary text i
closing-edge text i true h = edge-before text i 93 (93 ∷ []) h (omega arith)
closing-edge text i false h = edge-before text i 93 [] h (omega arith)

newline-edge : (text : Text) (i : ℕ) (t : Text) → IsUtf8 text → Stands text i t → IsNewline t → IsCharBoundary text (i + length t)
newline-edge text i t utf8 h (lf, e) =
    edge-at text (i + 1) (i + length t) (edge-after text i 10 [] utf8 (subst (Stands text i) e h) (omega arith)) (omega (
      arith,
      ap length e,
    ))
newline-edge text i t utf8 h (crlf, e) =
    let last = stands-right text i (13 ∷ []) (10 ∷ []) (subst (Stands text i) e h) in
    edge-at text (i + 1 + 1) (i + length t) (edge-after text (i + 1) 10 [] utf8 last (omega arith)) (omega (arith, ap length e))

statement-edge : (text : Text) (i : ℕ) (s : Statement) → IsUtf8 text → Stands text i (statement_text s) → IsStatement IsNewline s
    → IsCharBoundary text (i + length (statement_text s))
statement-edge text i (key_line f v end) utf8 h is =
    let frame = frame_text f (value_text v) in
    edge-at text (i + length frame + length end) (i + length (statement_text (key_line f v end)))
    (newline-edge text (i + length frame) end utf8 (stands-right text i frame end h) is.2) (omega (arith, length-append frame end))
statement-edge text i (header h end) utf8 g is =
    let from_trailing = h.trailing ++ end in
    let at_end = stands-right text (i + length h.leading + length (brackets_text h)) h.trailing end
    (stands-right text (i + length h.leading) (brackets_text h) from_trailing (stands-right text i h.leading (brackets_text h
    ++ from_trailing) g)) in
    edge-at text (i + length h.leading + length (brackets_text h) + length h.trailing + length end) (i
    + length (statement_text (header h end)))
    (newline-edge text (i + length h.leading + length (brackets_text h) + length h.trailing) end utf8 at_end is.1)
    (omega (
      arith,
      length-append h.leading (brackets_text h ++ from_trailing),
      length-append (brackets_text h) from_trailing,
      length-append h.trailing end,
    ))

-- how the last statement may end
abbrev MayEndLast : Text → Text → Type 0
MayEndLast final end = IsNewline end ⊎ ((end ≡ []) × (final ≡ []))

line-starts : (s : Statement) → IsStatement IsNewline s → IsStatement IsEnd s
line-starts (key_line f v end) h = (h.0, h.1, inl h.2)
line-starts (header g end) h = (h.0, inl h.1)

last-starts : (final : Text) (s : Statement) → IsStatement (MayEndLast final) s → IsStatement IsEnd s
last-starts final (key_line f v end) h = (h.0, h.1, elim h.2 [ inl e ↦ inl e | inr e ↦ inr e.0 ])
last-starts final (header g end) h = (h.0, elim h.1 [ inl e ↦ inl e | inr e ↦ inr e.0 ])

last-way : (final : Text) (s : Statement) → IsStatement (MayEndLast final) s → IsStatement IsNewline s ⊎ (final ≡ [])
last-way final (key_line f v end) h = elim h.2 [ inl e ↦ inl (h.0, h.1, e) | inr e ↦ inr e.1 ]
last-way final (header g end) h = elim h.1 [ inl e ↦ inl (h.0, e) | inr e ↦ inr e.1 ]

-- after the mark the text may be cut
mark-edge : (b : Bool) (rest text : Text) → text ≡ mark_text b ++ rest → IsUtf8 text → IsCharBoundary text (length (mark_text b))
unfolding encode
mark-edge false rest text e utf8 = IsCharBoundary-start text utf8
mark-edge true rest text e utf8 = IsCharBoundary-past_char text rest 0 0xFEFF (omega arith) utf8 e

module _ (mode : Mode) where
  -- ---- key lines

  -- where its parts stand, and the edges of its value
  pub record LineFits (text : Text) (i : ℕ) (f : Frame) (v : Value) : Type 0 where
    pub leaf : DecorFits text (frame_leaf (spanned_in mode) i f)
    pub path : Lies text (i + length f.leading) (path_text f.path)
    pub path_stands : Stands text (i + length f.leading) (path_text f.path)
    pub stands : Stands text (i + value_start (spanned_in mode) f) (f.after_equals ++ (value_text v ++ f.trailing))
    pub value : AroundFits text (i + value_start (spanned_in mode) f) f.after_equals (value_text v) f.trailing

  key-line-fits : (text : Text) (i : ℕ) (f : Frame) (v : Value) → IsUtf8 text → Stands text i (frame_text f (value_text v))
      → IsFrame StartsAscii f
      → IsCharBoundary text i → IsCharBoundary text (i + length (frame_text f (value_text v))) → LineFits text i f v
  key-line-fits text i f v utf8 h frame first last =
      let fits = frame-fits mode text i f v StartsAscii utf8 h frame first last in
      record {
        leaf = fits.leaf;
        path = fits.path;
        path_stands = fits.path_stands;
        stands = fits.stands;
        value =
            line_value_fits text v (i + value_start (spanned_in mode) f) f.after_equals f.trailing utf8 fits.stands frame.0.after_equals
            frame.0.trailing fits.first fits.last;
      }

  -- ---- headers

  pub record HeaderFits (text : Text) (s : Source) (h : Header) (end : Text) : Type 0 where
    pub leaf : DecorFits text (header_leaf (spanned_in mode) (s.start + path_start (header h []) - length h.opening) h)
    pub decor : DecorFits text (headed_by (spanned_in mode) s h end).decor
    pub path : Lies text (s.start + path_start (header h [])) (path_text h.path)
    pub path_stands : Stands text (s.start + path_start (header h [])) (path_text h.path)

  header-fits : (text : Text) (s : Source) (h : Header) (end : Text) → IsUtf8 text → Stands text s.start (statement_text (header h end))
      → IsHeader h → IsEnd end
      → IsCharBoundary text s.start → IsCharBoundary text (s.start + length (statement_text (header h end))) → HeaderFits text s h end
  header-fits text s h end utf8 g is ends first last =
      let i = s.start in
      let from_closing = h.closing ++ closing_brackets h.is_array in
      let from_path = path_text h.path ++ from_closing in
      let from_opening = h.opening ++ from_path in
      let from_trailing = h.trailing ++ end in
      let at_brackets = stands-right text i h.leading (brackets_text h ++ from_trailing) g in
      let brackets = stands-left text (i + length h.leading) (brackets_text h) from_trailing at_brackets in
      let kept = with_return mode h.trailing end in
      let rest = after-return mode end in
      let from_kept = kept ++ rest in
      let at_trailing = stands-right text (i + length h.leading) (brackets_text h) from_kept
      (stands-right text i h.leading (brackets_text h ++ from_kept) (header-returned mode text i h end g)) in
      let bracket_at = i + length h.leading in
      let at_opening = stands-right text bracket_at (opening_brackets h.is_array) from_opening brackets in
      let inner = bracket_at + length (opening_brackets h.is_array) in
      let at_path = stands-right text inner h.opening from_path at_opening in
      let path = inner + length h.opening in
      let at_closing = stands-right text path (path_text h.path) from_closing at_path in
      let close = path + length (path_text h.path) in
      let at_close = stands-right text close h.closing (closing_brackets h.is_array) at_closing in
      let edge_open : IsCharBoundary text bracket_at =
      end-edge text i h.leading utf8 (stands-left text i h.leading (brackets_text h ++ from_trailing) g)
      (trivia-ends h.leading is.0.leading) first in
      let edge_inner : IsCharBoundary text inner =
      end-edge text bracket_at (opening_brackets h.is_array) utf8
      (stands-left text bracket_at (opening_brackets h.is_array) from_opening brackets) (opening-ends h.is_array) edge_open in
      let edge_path : IsCharBoundary text path =
      end-edge text inner h.opening utf8 (stands-left text inner h.opening from_path at_opening) (white-ends h.opening is.0.opening)
      edge_inner in
      let edge_end : IsCharBoundary text (close + length h.closing) = closing-edge text (close + length h.closing) h.is_array at_close in
      let edge_close : IsCharBoundary text close =
      start-edge text close h.closing (stands-left text close h.closing (closing_brackets h.is_array) at_closing)
      (white-starts h.closing is.0.closing) edge_end in
      let after = close + length h.closing + length (closing_brackets h.is_array) in
      let edge_after : IsCharBoundary text after =
      end-edge text (close + length h.closing) (closing_brackets h.is_array) utf8 at_close (closing-ends h.is_array) edge_end in
      let size : length (brackets_text h) ≡ length (opening_brackets h.is_array) + length h.opening + length (path_text h.path)
      + length h.closing + length (closing_brackets h.is_array) =
      omega (
        arith,
        length-append (opening_brackets h.is_array) from_opening,
        length-append h.opening from_path,
        length-append (path_text h.path) from_closing,
        length-append h.closing (closing_brackets h.is_array),
      ) in
      let bracket : after ≡ bracket_end (spanned_in mode) s h = omega arith in
      let edge_bracket = edge-at text _ _ edge_after bracket in
      let tail : i + length (statement_text (header h end)) ≡ bracket_end (spanned_in mode) s h + length kept + length rest =
      omega (
        arith,
        length-append h.leading (brackets_text h ++ from_trailing),
        length-append (brackets_text h) from_trailing,
        ap length (return-split mode h.trailing end),
        length-append kept rest,
      ) in
      let at_end = stands-right text (i + length h.leading + length (brackets_text h)) kept rest at_trailing in
      let edge_trailing : IsCharBoundary text (bracket_end (spanned_in mode) s h + length kept) =
      start-edge text (bracket_end (spanned_in mode) s h
      + length kept) rest at_end (rest-starts mode end (parts-start mode end ends)) (edge-at text _ _ last tail) in
      let path_at : path ≡ i + path_start (header h []) = omega arith in
      let inner_at : inner ≡ i + path_start (header h []) - length h.opening = omega arith in
      let close_at : close ≡ (i + path_start (header h []) - length h.opening) + length h.opening + length (path_text h.path) =
      omega arith in
      record {
        leaf = (
          raw-fits text _ h.opening (lies-at text inner _ h.opening (record { start = edge_inner; end = edge_path }) inner_at),
          raw-fits text _ h.closing (lies-at text close _ h.closing (record { start = edge_close; end = edge_end }) close_at),
        );
        decor = (
          raw-fits text i h.leading (record { start = first; end = edge_open }),
          raw-fits text (bracket_end (spanned_in mode) s h) kept (record { start = edge_bracket; end = edge_trailing }),
        );
        path = lies-at text path _ (path_text h.path) (record { start = edge_path; end = edge_close }) path_at;
        path_stands = stands-at text path _ (path_text h.path) (stands-left text path (path_text h.path) from_closing at_path) path_at;
      }

  -- ---- statements

  -- a statement of this source
  abbrev pub StatementFits : Text → Source → Statement → Type 0
  StatementFits text s (key_line f v end) = IsValue v × LineFits text s.start (returned-frame mode f end) v
  StatementFits text s (header h end) = HeaderFits text s h end

  pub record MentionFits (text : Text) (i : ℕ) (s : Segment) (source : Source) : Type 0 where
    pub segment : SegmentFits text i s
    pub statement : StatementFits text source source.statement

  statement-fits : (text : Text) (c : Context) (s : Statement) → IsUtf8 text → Stands text c.start (statement_text s) → IsStatement IsEnd s
      → IsCharBoundary text c.start → IsCharBoundary text (c.start + length (statement_text s)) → Holds (MentionFits text) (mentions_of c s)
  statement-fits text c (key_line f v end) utf8 h is first last m a =
      let source = source_of c (key_line f v end) in
      let kept = returned-frame mode f end in
      let rest = after-return mode end in
      let frame = frame_text kept (value_text v) in
      let whole = frame-split mode f (value_text v) end in
      let stands = subst (Stands text c.start) whole h in
      let at_end = stands-right text c.start frame rest stands in
      let size : c.start + length (statement_text (key_line f v end)) ≡ c.start + length frame + length rest =
      omega (arith, ap length whole, length-append frame rest) in
      let parts = parts-start mode end is.2 in
      let end_edge = start-edge text (c.start + length frame) rest at_end (rest-starts mode end parts) (edge-at text _ _ last size) in
      let spaced : IsFrame StartsAscii kept = (
        record {
          leading = is.0.0.leading;
          segments = is.0.0.segments;
          before_equals = is.0.0.before_equals;
          after_equals = is.0.0.after_equals;
          trailing = returned-starts mode f.trailing end is.0.0.trailing parts;
        },
        is.0.1,
      ) in
      let fits = key-line-fits text c.start kept v utf8 (stands-left text c.start frame rest stands) spaced first end_edge in
      record {
        segment = line-fits text source (c.start + path_start (key_line f v end)) c.block f.path utf8 fits.path_stands is.0.0.segments
            fits.path.start fits.path.end m a;
        statement =
            subst (λ (x : Source). StatementFits text x x.statement)
            (sym (line-source source (c.start + path_start (key_line f v end)) c.block f.path m a)) (is.1, fits);
      }
  statement-fits text c (header h end) utf8 g is first last m a =
      let source = source_of c (header h end) in
      let fits = header-fits text source h end utf8 g is.0 is.1 first last in
      record {
        segment =
            headers-fit text source c.arrays (header_role_of h) (c.start
            + path_start (header h end)) [] h.path utf8 fits.path_stands is.0.0.segments fits.path.start fits.path.end m a;
        statement =
            subst (λ (x : Source). StatementFits text x x.statement)
            (sym (header-source source c.arrays (header_role_of h) (c.start + path_start (header h end)) [] h.path m a)) fits;
      }

  -- ---- from one statement to the next

  -- the statements from one on fit, and the text may be cut after them
  record PlacesFit (text : Text) (c : Context) (ss : List Statement) : Type 0 where
    each : Holds (MentionFits text) (flat_map (λ (p : Placed). p.mentions) (placed_from c ss))
    end : IsCharBoundary text (c.start + length (joined (map statement_text ss)))

  -- one statement, and those after it
  next-fit : (text : Text) (c : Context) (s : Statement) (ss : List Statement) → Holds (MentionFits text) (mentions_of c s)
      → PlacesFit text (context_after c s) ss
      → PlacesFit text c (s ∷ ss)
  next-fit text c s ss h next =
      let size : (context_after c s).start + length (joined (map statement_text ss)) ≡ c.start
      + length (joined (map statement_text (s ∷ ss))) =
      ap (λ i. i + length (joined (map statement_text ss))) (after-start c s)
      ∙ (let sum : c.start + length (statement_text s) + length (joined (map statement_text ss)) ≡ c.start
      + length (statement_text s ++ joined (map statement_text ss)) =
      omega (arith, length-append (statement_text s) (joined (map statement_text ss))) in sum) in
      record {
        each = λ m a.
            elim (among-cases m (mentions_of c s) (flat_map (λ (p : Placed). p.mentions) (placed_from (context_after c s) ss)) a) [
              | inl b ↦ h m b
              | inr b ↦ next.each m b
            ];
        end = edge-at text _ _ next.end size;
      }

  places-fit : (text final : Text) (c : Context) (ss : List Statement) → IsUtf8 text → Stands text c.start (joined (map statement_text ss))
      → AreStatements final ss → (final ≡ [] → c.start + length (joined (map statement_text ss)) ≡ length text)
      → IsCharBoundary text c.start
      → PlacesFit text c ss
  places-fit text final c [] utf8 h is whole first =
      record { each = λ m a. elim a [ ]; end = edge-at text _ _ first (let same : c.start ≡ c.start + 0 = omega arith in same) }
  places-fit text final c (s ∷ []) utf8 h is whole first =
      let stands = stands-left text c.start (statement_text s) [] h in
      let size : c.start + length (statement_text s ++ []) ≡ c.start + length (statement_text s) =
      omega (arith, length-append (statement_text s) []) in
      let last : IsCharBoundary text (c.start + length (statement_text s)) =
      elim (last-way final s is) [
        | inl e ↦ statement-edge text c.start s utf8 stands e
        | inr e ↦ edge-at text (length text) (c.start + length (statement_text s)) (IsCharBoundary-end text) (sym (whole e) ∙ size)
      ] in
      next-fit text c s [] (statement-fits text c s utf8 stands (last-starts final s is) first last)
      (record {
        each = λ m a. elim a [ ];
        end = edge-at text _ _ last (sym (after-start c s)
            ∙ (let same : (context_after c s).start ≡ (context_after c s).start + 0 = omega arith in same));
      })
  places-fit text final c (s ∷ r ∷ rest) utf8 h is whole first =
      let others = joined (map statement_text (r ∷ rest)) in
      let stands = stands-left text c.start (statement_text s) others h in
      let last = statement-edge text c.start s utf8 stands is.0 in
      let after = sym (after-start c s) in
      next-fit text c s (r ∷ rest) (statement-fits text c s utf8 stands (line-starts s is.0) first last)
      (places-fit text final (context_after c s) (r ∷ rest) utf8
      (stands-at text _ _ others (stands-right text c.start (statement_text s) others h) after) is.1
      (λ e.
      ap (λ i. i + length others) (sym after)
      ∙ (let sum : c.start + length (statement_text s) + length others ≡ c.start + length (statement_text s ++ others) =
      omega (arith, length-append (statement_text s) others) in sum)
      ∙ whole e)
      (edge-at text _ _ last after))

  -- ---- documents

  -- The mentions of a document in UTF-8 fit, and so does its final trivia.
  pub record DocumentFits (d : Document) : Type 0 where
    pub mentions : Holds (MentionFits (document_text d)) (all_mentions d)
    pub final : Lies (document_text d) (length (document_text d) - length d.final) d.final

  pub document-fits : (d : Document) → IsDocument d → IsUtf8 (document_text d) → DocumentFits d
  document-fits d is utf8 =
      let text = document_text d in
      let body = joined (map statement_text d.statements) in
      let size : length text ≡ length (mark_text d.has_mark) + length body + length d.final =
      omega (arith, length-append (mark_text d.has_mark) (body ++ d.final), length-append body d.final) in
      let fit =
      places-fit text d.final (start_context d) d.statements utf8
      (stands-left text (length (mark_text d.has_mark)) body d.final (statements-stand d)) is.0
      (λ e. let whole : length (mark_text d.has_mark) + length body ≡ length text = omega (arith, size, ap length e) in whole)
      (mark-edge d.has_mark (body ++ d.final) text refl utf8) in
      let start : length (mark_text d.has_mark) + length body ≡ length text - length d.final = omega arith in
      let end : length text ≡ length text - length d.final + length d.final = omega arith in
      record {
        mentions = fit.each;
        final = record { start = edge-at text _ _ fit.end start; end = edge-at text _ _ (IsCharBoundary-end text) end };
      }
