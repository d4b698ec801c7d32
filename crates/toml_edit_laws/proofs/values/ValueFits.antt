-- The spans of a value's node lie in a source in UTF-8 on the boundaries of characters, and what they cut makes a node that is well made.
use Rattle.std.proofs.Common.{◌≡◌, ℕ, ◌+◌, ◌-◌, ◌<◌, refl, sym, ap, subst, arith, inl, inr, true, false, Bool, List, [], ◌∷◌, ◌++◌, length}
use Rattle.std.proofs.Common.{codes, Some}
use Rattle.std.specs.Prelude.{if◌then◌else◌}
use Rattle.std.specs.Str.{IsUtf8, IsCharBoundary}
use Rattle.std.proofs.lemmas.List.{length-append}
use Rattle.toml_edit_model.specs.Mode.{Mode}
use Rattle.toml_edit_model.specs.Text.{Text}
use Rattle.toml_edit_model.specs.Trivia.{IsWhiteSpace, IsWholeTrivia}
use Rattle.toml_edit_model.specs.Syntax.{Frame, Value, scalar, array, inline_table, Elements, no_elements, element, Pairs, no_pairs, pair}
use Rattle.toml_edit_model.specs.Syntax.{IsFrame, IsValue, AreElements, ArePairs, value_text, elements_text, pairs_text}
use Rattle.toml_edit_model.specs.Syntax.{frame_text, path_text, comma_text}
use Rattle.toml_edit_model.specs.Paths.{at_key, Mention, line_mentions}
use Rattle.toml_edit_model.specs.Tree.{Decor, unset, Node, nothing, leaf, list, inline, table, tables, Items, no_items, item, Slots}
use Rattle.toml_edit_model.specs.Tree.{no_slots, slot}
use Rattle.toml_edit_model.specs.TreeOf.{spanned_in, span_of, Entry, entry_of, entries, value_start, key_of, IsValueNode, AreElementNodes}
use Rattle.toml_edit_model.specs.TreeOf.{AreEntrySlots}
use Rattle.toml_edit_laws.specs.Standing.{Stands}
use Rattle.toml_edit_laws.proofs.common.StandingLaws.{stands-left, stands-right}
use Rattle.toml_edit_laws.proofs.common.Members.{Among, among-cases}
use Rattle.toml_edit_laws.proofs.mentions.KeyMentions.{line-source}
use Rattle.toml_edit_laws.proofs.mentions.KeptMentions.{under-is, kept-is}
use Rattle.toml_edit_laws.proofs.inline_tables.SlotsOfEntries.{IsMadeByKey, slot-key, slot-node, slot-rest, either-way}
use Rattle.toml_edit_laws.proofs.values.ValueOwned.{ValueStands, pair-stands, first-stands, later-stand, around-stands, element-stands}
use Rattle.toml_edit_laws.proofs.values.ValueOwned.{elements-after}
use Rattle.toml_edit_laws.proofs.common.Edges.{edge-before, edge-after, StartsAscii, EndsAscii, start-edge, end-edge, white-ends}
use Rattle.toml_edit_laws.proofs.common.Edges.{trivia-starts, trivia-ends}
use Rattle.toml_edit_laws.proofs.common.Trivia.{close-trivia}
use Rattle.toml_edit_laws.proofs.values.TextsLie.{frame-fits, SegmentFits, Lies, lies-at, raw-fits, line-fits}
use Rattle.toml_edit_laws.proofs.values.ValueKinds.{not-value}
use Rattle.toml_edit_model.specs.Roles.{ends_path}
use Rattle.toml_edit_model.specs.TableMentions.{under, kept}
use Rattle.toml_edit_model.specs.OwnedForm.{RawFits, OptionFits, DecorFits, KeyFits, NodeFits, ItemsFit, SlotsFit}

-- at both ends of a value and of the texts around it
pub record AroundFits (source : Text) (i : ℕ) (before value after : Text) : Type 0 where
  pub before_lies : Lies source i before
  pub after_lies : Lies source (i + length before + length value) after

-- between ASCII bytes
around-fits : (source : Text) (i : ℕ) (before value after : Text) → IsUtf8 source → Stands source i (before ++ (value ++ after))
    → EndsAscii before → StartsAscii after
    → IsCharBoundary source i → IsCharBoundary source (i + length (before ++ (value ++ after))) → AroundFits source i before value after
around-fits source i before value after utf8 h ends starts first last =
    let at = around-stands source i before value after h in
    let end = subst (IsCharBoundary source)
    (let same : i + length (before ++ (value ++ after)) ≡ i + length before + length value + length after =
    omega (arith, length-append before (value ++ after), length-append value after) in same)
    last in
    record {
      before_lies = record { start = first; end = end-edge source i before utf8 at.before_at ends first };
      after_lies = record { start = start-edge source (i + length before + length value) after at.after_at starts end; end = end };
    }

-- ---- pairs

-- a pair's value, in the grammar, and where it and the decor of its key lie
record EntryFits (source : Text) (e : Entry) : Type 0 where
  leaf : DecorFits source e.leaf
  stands : ValueStands source e
  grammar : IsValue e.value
  value : AroundFits source e.start e.before (value_text e.value) e.after

record MentionFits (source : Text) (m : Mention Entry) : Type 0 where
  segment : SegmentFits source m.start m.segment
  entry : EntryFits source m.source

abbrev AllFit : Text → List (Mention Entry) → Type 0
AllFit source ms = (m : Mention Entry) → Among m ms → MentionFits source m

under-fit : (source : Text) (k : Text) (ms : List (Mention Entry)) → AllFit source ms → AllFit source (under (at_key k) ms)
under-fit source k ms h m a =
    let up = under-is (at_key k) m ms a in
    let fits = h up.mention up.among in
    subst (MentionFits source) (sym up.same) (record { segment = fits.segment; entry = fits.entry })

comma-starts : (comma : Bool) → StartsAscii (comma_text comma)
comma-starts true = let small : 44 < 128 = omega arith in small
comma-starts false = let none : 0 < 128 = omega arith in none

-- what lies in brackets, and the trivia before the closing one
record InnerFits (source : Text) (j size : ℕ) (body trailing : Text) : Type 0 where
  body_at : Stands source (j + 1) body
  body_lies : Lies source (j + 1) body
  trailing_lies : Lies source (j + size - 1 - length trailing) trailing

inner-fits : (source : Text) (j o : ℕ) (body : Text) (comma : Bool) (trailing : Text) (c : ℕ) → IsUtf8 source → o < 128 → c < 128
    → IsWholeTrivia trailing
    → Stands source j (o ∷ (body ++ (comma_text comma ++ (trailing ++ (c ∷ [])))))
    → InnerFits source j (length (o ∷ (body ++ (comma_text comma ++ (trailing ++ (c ∷ [])))))) body trailing
inner-fits source j o body comma trailing c utf8 low high is h =
    let from_trailing = trailing ++ (c ∷ []) in
    let from_comma = comma_text comma ++ from_trailing in
    let at_body = stands-right source j (o ∷ []) (body ++ from_comma) h in
    let at_comma = stands-right source (j + 1) body from_comma at_body in
    let at_trailing = stands-right source (j + 1 + length body) (comma_text comma) from_trailing at_comma in
    let place = j + 1 + length body + length (comma_text comma) in
    let at_close = stands-right source place trailing (c ∷ []) at_trailing in
    let close : IsCharBoundary source (place + length trailing) = edge-before source (place + length trailing) c [] at_close high in
    let trail : IsCharBoundary source place =
    start-edge source place trailing (stands-left source place trailing (c ∷ []) at_trailing) (trivia-starts trailing is) close in
    let same : place ≡ j + length (o ∷ (body ++ from_comma)) - 1 - length trailing =
    omega (arith, length-append body from_comma, length-append (comma_text comma) from_trailing, length-append trailing (c ∷ [])) in
    record {
      body_at = stands-left source (j + 1) body from_comma at_body;
      body_lies =
          record {
            start = edge-after source j o (body ++ from_comma) utf8 h low;
            end = start-edge source (j + 1 + length body) (comma_text comma) (stands-left source (j + 1
                + length body) (comma_text comma) from_trailing at_comma) (comma-starts comma) trail;
          };
      trailing_lies = lies-at source place _ trailing (record { start = trail; end = close }) same;
    }

-- A value and the texts around it lie in the source where these begin and end with ASCII bytes and the source may be cut at both ends.
pub line_value_fits : (source : Text) (v : Value) (i : ℕ) (before after : Text) → IsUtf8 source
    → Stands source i (before ++ (value_text v ++ after))
    → IsWhiteSpace before → StartsAscii after → IsCharBoundary source i
    → IsCharBoundary source (i + length (before ++ (value_text v ++ after)))
    → AroundFits source i before (value_text v) after
line_value_fits source v i before after utf8 h white end first last =
    around-fits source i before (value_text v) after utf8 h (white-ends before white) end first last

module _ (mode : Mode) where
  record PairFits (source : Text) (i : ℕ) (f : Frame) (v : Value) : Type 0 where
    entry : EntryFits source (entry_of (spanned_in mode) i f v)
    path : Lies source (i + length f.leading) (path_text f.path)

  pair-fits : (source : Text) (i : ℕ) (f : Frame) (v : Value) → IsUtf8 source → Stands source i (frame_text f (value_text v))
      → IsFrame IsWholeTrivia f → IsValue v
      → IsCharBoundary source i → IsCharBoundary source (i + length (frame_text f (value_text v))) → PairFits source i f v
  pair-fits source i f v utf8 h frame is first last =
      let fits = frame-fits mode source i f v IsWholeTrivia utf8 h frame first last in
      record {
        entry =
            record {
              leaf = fits.leaf;
              stands = fits.stands;
              grammar = is;
              value =
                  around-fits source (i + value_start (spanned_in mode) f) f.after_equals (value_text v) f.trailing utf8 fits.stands
                  (white-ends f.after_equals frame.0.after_equals) (trivia-starts f.trailing frame.0.trailing) fits.first fits.last;
            };
        path = fits.path;
      }

  one-fits : (source : Text) (i : ℕ) (f : Frame) (v : Value) → IsUtf8 source → Stands source i (frame_text f (value_text v))
      → IsFrame IsWholeTrivia f → IsValue v
      → IsCharBoundary source i → IsCharBoundary source (i + length (frame_text f (value_text v)))
      → AllFit source (line_mentions (entry_of (spanned_in mode) i f v) (i + length f.leading) [] f.path)
  one-fits source i f v utf8 h frame is first last m a =
      let fits = pair-fits source i f v utf8 h frame is first last in
      let stand = pair-stands mode source i f v h in
      record {
        segment = line-fits source (entry_of (spanned_in mode) i f v) (i
            + length f.leading) [] f.path utf8 stand.path frame.0.segments fits.path.start fits.path.end m a;
        entry = subst (EntryFits source) (sym (line-source (entry_of (spanned_in mode) i f v) (i + length f.leading) [] f.path m a))
            fits.entry;
      }

  pairs-fit : (source : Text) (ps : Pairs) (i : ℕ) → IsUtf8 source → Stands source i (pairs_text ps) → ArePairs ps → IsCharBoundary source i
      → IsCharBoundary source (i + length (pairs_text ps)) → AllFit source (entries (spanned_in mode) ps i)
  pairs-fit source no_pairs i utf8 h is first last m a = elim a [ ]
  pairs-fit source (pair f v no_pairs) i utf8 h is first last m a =
      elim (among-cases m (line_mentions (entry_of (spanned_in mode) i f v) (i + length f.leading) [] f.path) [] a) [
        | inl b ↦ one-fits source i f v utf8 h is.0 is.1 first last m b
        | inr b ↦ elim b [ ]
      ]
  pairs-fit source (pair f v (pair g w ps)) i utf8 h is first last m a =
      let others = pairs_text (pair g w ps) in
      let next = i + length (frame_text f (value_text v)) in
      let comma = stands-right source i (frame_text f (value_text v)) (codes "," ++ others) h in
      elim (among-cases m (line_mentions (entry_of (spanned_in mode) i f v) (i + length f.leading) [] f.path)
      (entries (spanned_in mode) (pair g w ps) (next + 1)) a) [
        | inl b ↦
            one-fits source i f v utf8 (first-stands source i f v (pair g w ps) h) is.0 is.1 first
            (edge-before source next 44 others comma (omega arith)) m b
        | inr b ↦
            pairs-fit source (pair g w ps) (next + 1) utf8 (later-stand source i f v g w ps h) is.2
            (edge-after source next 44 others utf8 comma (omega arith))
            (subst (IsCharBoundary source)
            (let same : i + length (pairs_text (pair f v (pair g w ps))) ≡ next + 1 + length others =
            omega (arith, length-append (frame_text f (value_text v)) (codes "," ++ others)) in same)
            last)
            m b
      ]

  -- ---- nodes

  module _ (source : Text) (utf8 : IsUtf8 source) where
    decor-fits : (i : ℕ) (before value after : Text) (d : Decor) → AroundFits source i before value after
        → d ≡ record { prefix = Some (span_of i before); suffix = Some (span_of (i + length before + length value) after) }
        → DecorFits source d
    decor-fits i before value after d h e =
        subst (DecorFits source) (sym e) (
          raw-fits source i before h.before_lies,
          raw-fits source (i + length before + length value) after h.after_lies,
        )

    key-fits : (m : Mention Entry) → MentionFits source m → KeyFits source (key_of (spanned_in mode) m.source.leaf m)
    key-fits m h = (
      raw-fits source m.start m.segment.spelled h.segment.spelled,
      by_test (ends_path m.role),
      (
        raw-fits source (m.start - length m.segment.before) m.segment.before h.segment.before,
        raw-fits source (m.start + length m.segment.spelled) m.segment.after h.segment.after,
      ),
    )
      where
        by_test : (b : Bool) → DecorFits source (if b then m.source.leaf else unset)
        by_test true = h.entry.leaf
        by_test false = (tt, tt)

    mutual
      node-fits : (n : Node) (v : Value) (i : ℕ) (before after : Text) → IsValue v → Stands source i (before ++ (value_text v ++ after))
          → AroundFits source i before (value_text v) after → IsValueNode (spanned_in mode) v i before after n → NodeFits source n
      node-fits (leaf s r d) (scalar x t) i before after g h fits is = (
        subst (OptionFits source) (sym is.1) (raw-fits source (i
            + length before) t (record { start = fits.before_lies.end; end = fits.after_lies.start })),
        decor-fits i before t after d fits is.2,
      )
      node-fits (list f xs) (array es comma t) i before after g h fits is =
          let at = around-stands source i before (value_text (array es comma t)) after h in
          let inner = inner-fits source (i + length before) 91 (elements_text es) comma t 93 utf8 (omega arith) (omega arith)
          (close-trivia _ comma t g.0) at.value_at in (
            decor-fits i before (value_text (array es comma t)) after f.decor fits (ap (λ x. x.decor) is.0),
            subst (RawFits source) (sym (ap (λ x. x.trailing) is.0)) (raw-fits source (i + length before
                + length (value_text (array es comma t)) - 1 - length t) t inner.trailing_lies),
            items-fit xs es (i + length before + 1) g.1 inner.body_at inner.body_lies.start inner.body_lies.end is.1,
          )
      node-fits (inline f ss) (inline_table ps comma t) i before after g h fits is =
          let at = around-stands source i before (value_text (inline_table ps comma t)) after h in
          let inner = inner-fits source (i + length before) 123 (pairs_text ps) comma t 125 utf8 (omega arith) (omega arith)
          (close-trivia _ comma t g.0) at.value_at in
          let ms = entries (spanned_in mode) ps (i + length before + 1) in
          let fit = pairs-fit source ps (i + length before + 1) utf8 inner.body_at g.1 inner.body_lies.start inner.body_lies.end in (
            decor-fits i before (value_text (inline_table ps comma t)) after f.decor fits (ap (λ x. x.decor) is.0),
            subst (RawFits source) (sym (ap (λ x. x.trailing) is.0)) (raw-fits source (i + length before
                + length (value_text (inline_table ps comma t)) - 1 - length t) t inner.trailing_lies),
            slots-fit ss ms (kept ms) fit (λ m a. fit m (kept-is [] m ms a).among) is.1,
          )
      node-fits (leaf s r d) (array es comma t) i before after g h fits is = elim is [ ]
      node-fits (leaf s r d) (inline_table ps comma t) i before after g h fits is = elim is [ ]
      node-fits (list f xs) (scalar t u) i before after g h fits is = elim is [ ]
      node-fits (list f xs) (inline_table ps comma t) i before after g h fits is = elim is [ ]
      node-fits (inline f ss) (scalar t u) i before after g h fits is = elim is [ ]
      node-fits (inline f ss) (array es comma t) i before after g h fits is = elim is [ ]
      node-fits (table f ss) v i before after g h fits is = absurd (not-value (spanned_in mode) (table f ss) v i before after refl is)
      node-fits (tables e xs) v i before after g h fits is = absurd (not-value (spanned_in mode) (tables e xs) v i before after refl is)
      node-fits nothing v i before after g h fits is = absurd (not-value (spanned_in mode) nothing v i before after refl is)

      items-fit : (xs : Items) (es : Elements) (i : ℕ) → AreElements es → Stands source i (elements_text es) → IsCharBoundary source i
          → IsCharBoundary source (i + length (elements_text es)) → AreElementNodes (spanned_in mode) es i xs → ItemsFit source xs
      items-fit no_items no_elements i g h first last is = tt
      items-fit (item n no_items) (element a v no_elements) i g h first last is = (
        node-fits n v i a.before a.after g.2 h
            (around-fits source i a.before (value_text v) a.after utf8 h (trivia-ends a.before g.0) (trivia-starts a.after g.1) first last)
            is.0,
        tt,
      )
      items-fit (item n (item o xs)) (element a v (element b w es)) i g h first last is =
          let others = elements_text (element b w es) in
          let here = i + length a.before + length (value_text v) + length a.after in
          let one = element-stands source i a v (element b w es) h in
          let size : here ≡ i + length (a.before ++ (value_text v ++ a.after)) =
          omega (arith, length-append a.before (value_text v ++ a.after), length-append (value_text v) a.after) in
          let comma = stands-right source (i + length a.before + length (value_text v)) a.after (codes "," ++ others)
          (stands-right source (i + length a.before) (value_text v) (a.after
          ++ (codes "," ++ others)) (stands-right source i a.before (value_text v ++ (a.after ++ (codes "," ++ others))) h)) in
          let edge : IsCharBoundary source here = edge-before source here 44 others comma (omega arith) in
          let end : i + length (elements_text (element a v (element b w es))) ≡ here + 1 + length others =
          omega (
            arith,
            length-append a.before (value_text v ++ (a.after ++ (codes "," ++ others))),
            length-append (value_text v) (a.after ++ (codes "," ++ others)),
            length-append a.after (codes "," ++ others),
          ) in (
            node-fits n v i a.before a.after g.2 one
                (around-fits source i a.before (value_text v) a.after utf8 one (trivia-ends a.before g.0) (trivia-starts a.after g.1) first
                (subst (IsCharBoundary source) size edge)) is.0,
            items-fit (item o xs) (element b w es) (here + 1) g.3 (elements-after source i a v b w es h)
                (edge-after source here 44 others utf8 comma (omega arith)) (subst (IsCharBoundary source) end last) is.1,
          )
      items-fit no_items (element a v es) i g h first last is = elim is [ ]
      items-fit (item n xs) no_elements i g h first last is = elim is [ ]
      items-fit (item n no_items) (element a v (element b w es)) i g h first last is = elim is.1 [ ]
      items-fit (item n (item o xs)) (element a v no_elements) i g h first last is = elim is.1 [ ]

      made-fits : (n : Node) (m : Mention Entry) (ns : List (Mention Entry)) → AllFit source ns → IsMadeByKey (spanned_in mode) m ns n
          → NodeFits source n
      made-fits (inline f ss) m ns fit is = (
        subst (DecorFits source) (sym (ap (λ x. x.decor) is.0)) (tt, tt),
        subst (RawFits source) (sym (ap (λ x. x.trailing) is.0)) tt,
        slots-fit ss ns (kept ns) fit (λ k a. fit k (kept-is [] k ns a).among) is.1,
      )
      made-fits (leaf s r x) m ns fit is = elim is [ ]
      made-fits (list f xs) m ns fit is = elim is [ ]
      made-fits (table f ss) m ns fit is = elim is [ ]
      made-fits (tables e xs) m ns fit is = elim is [ ]
      made-fits nothing m ns fit is = elim is [ ]

      slots-fit : (ss : Slots) (ms ks : List (Mention Entry)) → AllFit source ms → AllFit source ks
          → AreEntrySlots (spanned_in mode) ms ks ss → SlotsFit source ss
      slots-fit no_slots ms [] fit each is = tt
      slots-fit (slot key n ss) ms (k ∷ ks) fit each is =
          let at = each k (inl refl) in (
            subst (KeyFits source) (sym (slot-key (spanned_in mode) ms k ks key n ss is)) (key-fits k at),
            either-way (ends_path k.role) _ _ _
                (λ x. node-fits n k.source.value k.source.start k.source.before k.source.after at.entry.grammar at.entry.stands
                at.entry.value x)
                (λ x. made-fits n k (under (at_key k.segment.key) ms) (under-fit source k.segment.key ms fit) x)
                (slot-node (spanned_in mode) ms k ks key n ss is),
            slots-fit ss ms ks fit (λ m a. each m (inr a)) (slot-rest (spanned_in mode) ms k ks key n ss is),
          )
      slots-fit no_slots ms (k ∷ ks) fit each is = elim is [ ]
      slots-fit (slot key n ss) ms [] fit each is = elim is [ ]

  -- ---- the laws

  -- The spans of the node lie in the source, on the boundaries of characters.
  pub value_fits : (source : Text) (v : Value) (i : ℕ) (before after : Text) (n : Node) → IsUtf8 source → IsValue v
      → IsValueNode (spanned_in mode) v i before after n → Stands source i (before ++ (value_text v ++ after))
      → AroundFits source i before (value_text v) after
      → NodeFits source n
  value_fits source v i before after n utf8 grammar is h fits = node-fits source utf8 n v i before after grammar h fits is
