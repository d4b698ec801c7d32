-- A value's node with spans becomes the node with owned texts, by what the spans cut from the source.
use Rattle.std.proofs.Common.{◌≡◌, ℕ, ◌+◌, ◌-◌, refl, sym, ap, subst, ◌∙◌, arith, inl, inr, true, false, Bool, List, [], ◌∷◌, ◌++◌}
use Rattle.std.proofs.Common.{append_assoc, map, length, codes, Some, None, option_map}
use Rattle.std.specs.Prelude.{if◌then◌else◌}
use Rattle.std.proofs.lemmas.List.{length-append, map-append}
use Rattle.toml_edit_model.specs.Mode.{Mode}
use Rattle.toml_edit_model.specs.Text.{Text}
use Rattle.toml_edit_model.specs.Syntax.{Segment, Frame, Value, scalar, array, inline_table, Elements, no_elements, element, Pairs}
use Rattle.toml_edit_model.specs.Syntax.{no_pairs, pair, value_text, elements_text, pairs_text, frame_text, path_text, segment_text}
use Rattle.toml_edit_model.specs.Syntax.{comma_text}
use Rattle.toml_edit_model.specs.Paths.{at_key, Path, to_key, Mention, line_mentions, mention_of, next_start}
use Rattle.toml_edit_model.specs.Tree.{ArrayFields, InlineFields, unset, Node, nothing, leaf, list, inline, table, tables, Items, no_items}
use Rattle.toml_edit_model.specs.Tree.{item, Slots, no_slots, slot}
use Rattle.toml_edit_model.specs.TreeOf.{spanned_in, owned_in, Entry, entry_of, entries, value_start, decor_at, key_of, IsValueNode}
use Rattle.toml_edit_model.specs.TreeOf.{AreElementNodes, AreEntrySlots}
use Rattle.toml_edit_laws.specs.Standing.{Stands}
use Rattle.toml_edit_laws.proofs.common.StandingLaws.{stands-left, stands-right, cut-is}
use Rattle.toml_edit_laws.proofs.common.Members.{Among, among-cases}
use Rattle.toml_edit_laws.proofs.mentions.KeyMentions.{line-source}
use Rattle.toml_edit_laws.proofs.mentions.KeptMentions.{under-is, kept-is}
use Rattle.toml_edit_laws.proofs.inline_tables.SlotsOfEntries.{IsMadeByKey, slot-key, slot-node, slot-rest, slot-all, each-way}
use Rattle.toml_edit_laws.proofs.mentions.TurnedMentions.{turned, under-turned, kept-turned}
use Rattle.toml_edit_laws.proofs.values.ValueKinds.{not-value}
use Rattle.toml_edit_model.specs.Roles.{dotted_role, ends_path}
use Rattle.toml_edit_model.specs.TableMentions.{under, kept}
use Rattle.toml_edit_model.specs.OwnedForm.{owned_raw, owned_decor, owned_key, owned_node, owned_items, owned_slots}

-- the text stands from another byte, which is the same
pub stands-at : (source : Text) (i j : ℕ) (t : Text) → Stands source i t → i ≡ j → Stands source j t
stands-at source i j t h e = subst (λ k. Stands source k t) e h

-- ---- where the parts of a pair stand

-- the segment that is spelled from this byte on
pub record SegmentStands (source : Text) (i : ℕ) (s : Segment) : Type 0 where
  pub before : Stands source (i - length s.before) s.before
  pub spelled : Stands source i s.spelled
  pub after : Stands source (i + length s.spelled) s.after

-- a pair's value, with the texts around it
abbrev pub ValueStands : Text → Entry → Type 0
ValueStands source e = Stands source e.start (e.before ++ (value_text e.value ++ e.after))

-- the mention's segment, and its pair's value
pub record MentionStands (source : Text) (m : Mention Entry) : Type 0 where
  pub segment : SegmentStands source m.start m.segment
  pub value : ValueStands source m.source

pub segment-stands : (source : Text) (i : ℕ) (s : Segment) → Stands source i (segment_text s) → SegmentStands source (i + length s.before) s
segment-stands source i s h =
    let rest = stands-right source i s.before (s.spelled ++ s.after) h in
    record {
      before = stands-at source i _ s.before (stands-left source i s.before (s.spelled ++ s.after) h) (omega arith);
      spelled = stands-left source _ s.spelled s.after rest;
      after = stands-right source _ s.spelled s.after rest;
    }

-- the entry with the texts of its key's decor
abbrev pub owned_entry : Text → Entry → Entry
owned_entry source e = record e { leaf = owned_decor source e.leaf }

-- the first pair, and those after it
pub first-stands : (source : Text) (i : ℕ) (f : Frame) (v : Value) (ps : Pairs) → Stands source i (pairs_text (pair f v ps))
    → Stands source i (frame_text f (value_text v))
first-stands source i f v no_pairs h = h
first-stands source i f v (pair g w ps) h = stands-left source i (frame_text f (value_text v)) (codes "," ++ pairs_text (pair g w ps)) h

pub later-stand : (source : Text) (i : ℕ) (f : Frame) (v : Value) (g : Frame) (w : Value) (ps : Pairs)
    → Stands source i (pairs_text (pair f v (pair g w ps)))
    → Stands source (i + length (frame_text f (value_text v)) + 1) (pairs_text (pair g w ps))
later-stand source i f v g w ps h =
    stands-right source (i + length (frame_text f (value_text v))) (codes ",") (pairs_text (pair g w ps))
    (stands-right source i (frame_text f (value_text v)) (codes "," ++ pairs_text (pair g w ps)) h)

-- the mentions of pairs with the texts of their keys' decor
abbrev pub owned_mention : Text → Mention Entry → Mention Entry
owned_mention source = turned (λ i. i) (owned_entry source)

line-owned : (source : Text) (e : Entry) (i : ℕ) (p : Path) (ss : List Segment)
    → line_mentions (owned_entry source e) i p ss ≡ map (owned_mention source) (line_mentions e i p ss)
line-owned source e i p [] = refl
line-owned source e i p (s ∷ []) = refl
line-owned source e i p (s ∷ r ∷ rest) =
    ap (λ ms. mention_of (owned_entry source e) i (to_key p s.key) dotted_role s
    ∷ ms) (line-owned source e (next_start i s) (to_key p s.key) (r ∷ rest))

pub path-stands : {S : Type 0} (text : Text) (source : S) (i : ℕ) (p : Path) (ss : List Segment) → Stands text i (path_text ss)
    → (m : Mention S)
    → Among m (line_mentions source i p ss) → SegmentStands text m.start m.segment
path-stands text source i p [] h m a = elim a [ ]
path-stands text source i p (s ∷ []) h m (inl g) = subst (λ k. SegmentStands text k.start k.segment) (sym g) (segment-stands text i s h)
path-stands text source i p (s ∷ []) h m (inr a) = elim a [ ]
path-stands text source i p (s ∷ r ∷ rest) h m (inl g) =
    subst (λ k. SegmentStands text k.start k.segment) (sym g)
    (segment-stands text i s (stands-left text i (segment_text s) (codes "." ++ path_text (r ∷ rest)) h))
path-stands text source i p (s ∷ r ∷ rest) h m (inr a) =
    path-stands text source (next_start i s) (to_key p s.key) (r ∷ rest)
    (stands-right text (i + length (segment_text s)) (codes ".") (path_text (r ∷ rest)) (stands-right text i (segment_text s) (codes "."
    ++ path_text (r ∷ rest)) h))
    m a

pub record InnerStands (source : Text) (j size : ℕ) (body trailing : Text) : Type 0 where
  pub body_at : Stands source (j + 1) body
  pub trailing_at : Stands source (j + size - 1 - length trailing) trailing

pub inner-stands : (source : Text) (j : ℕ) (opening body comma trailing closing : Text) → length opening ≡ 1 → length closing ≡ 1
    → Stands source j (opening ++ (body ++ (comma ++ (trailing ++ closing))))
    → InnerStands source j (length (opening ++ (body ++ (comma ++ (trailing ++ closing))))) body trailing
inner-stands source j opening body comma trailing closing one last h =
    let from_comma = comma ++ (trailing ++ closing) in
    let at_body = stands-right source j opening (body ++ from_comma) h in
    let at_comma = stands-right source _ body from_comma at_body in
    let at_trailing = stands-right source _ comma (trailing ++ closing) at_comma in
    let place : j + length opening + length body + length comma ≡ j
    + length (opening ++ (body ++ (comma ++ (trailing ++ closing)))) - 1 - length trailing =
    omega (
      arith,
      length-append opening (body ++ (comma ++ (trailing ++ closing))),
      length-append body (comma ++ (trailing ++ closing)),
      length-append comma (trailing ++ closing),
      length-append trailing closing,
    ) in
    record {
      body_at = stands-at source _ (j + 1) body (stands-left source _ body from_comma at_body) (omega arith);
      trailing_at = stands-at source _ _ trailing (stands-left source _ trailing closing at_trailing) place;
    }

-- the texts around a value, and the value
pub record AroundStands (source : Text) (i : ℕ) (before value after : Text) : Type 0 where
  pub before_at : Stands source i before
  pub value_at : Stands source (i + length before) value
  pub after_at : Stands source (i + length before + length value) after

pub around-stands : (source : Text) (i : ℕ) (before value after : Text) → Stands source i (before ++ (value ++ after))
    → AroundStands source i before value after
around-stands source i before value after h =
    let rest = stands-right source i before (value ++ after) h in
    record {
      before_at = stands-left source i before (value ++ after) h;
      value_at = stands-left source _ value after rest;
      after_at = stands-right source _ value after rest;
    }

-- the first element, and those after it
pub element-stands : (source : Text) (i : ℕ) (a : _) (v : Value) (es : Elements) → Stands source i (elements_text (element a v es))
    → Stands source i (a.before ++ (value_text v ++ a.after))
element-stands source i a v no_elements h = h
element-stands source i a v (element b w es) h =
    stands-left source i (a.before ++ (value_text v ++ a.after)) (codes "," ++ elements_text (element b w es))
    (subst (Stands source i) (regroup a.before (value_text v) a.after (codes "," ++ elements_text (element b w es))) h)
  where
    regroup : (x y z r : Text) → x ++ (y ++ (z ++ r)) ≡ (x ++ (y ++ z)) ++ r
    regroup x y z r = simp append_assoc

pub elements-after : (source : Text) (i : ℕ) (a : _) (v : Value) (b : _) (w : Value) (es : Elements)
    → Stands source i (elements_text (element a v (element b w es)))
    → Stands source (i + length a.before + length (value_text v) + length a.after + 1) (elements_text (element b w es))
elements-after source i a v b w es h =
    let last = elements_text (element b w es) in
    let at_value = stands-right source i a.before (value_text v ++ (a.after ++ (codes "," ++ last))) h in
    let at_after = stands-right source _ (value_text v) (a.after ++ (codes "," ++ last)) at_value in
    stands-right source _ (codes ",") last (stands-right source _ a.after (codes "," ++ last) at_after)

-- the fields of an array, and of an inline table, with the texts that their spans cut
abbrev pub owned_array : Text → ArrayFields → ArrayFields
owned_array source g = record g { decor = owned_decor source g.decor; trailing = owned_raw source g.trailing; extent = None }

abbrev pub owned_inline : Text → InlineFields → InlineFields
owned_inline source g = record g { decor = owned_decor source g.decor; trailing = owned_raw source g.trailing; extent = None }

module _ (mode : Mode) where
  -- what stands before and after becomes what it cuts
  pub decor-cut : (source : Text) (i j : ℕ) (before after : Text) → Stands source i before → Stands source j after
      → owned_decor source (decor_at (spanned_in mode) i before j after) ≡ decor_at (owned_in mode) i before j after
  decor-cut source i j before after h g =
      let first = cut-is source i before h in
      let last = cut-is source j after g in
      cc

  pub record PairStands (source : Text) (i : ℕ) (f : Frame) (v : Value) : Type 0 where
    pub entry : entry_of (owned_in mode) i f v ≡ owned_entry source (entry_of (spanned_in mode) i f v)
    pub path : Stands source (i + length f.leading) (path_text f.path)
    pub value : Stands source (i + value_start (spanned_in mode) f) (f.after_equals ++ (value_text v ++ f.trailing))

  pub pair-stands : (source : Text) (i : ℕ) (f : Frame) (v : Value) → Stands source i (frame_text f (value_text v))
      → PairStands source i f v
  pair-stands source i f v h =
      let from_value = f.after_equals ++ (value_text v ++ f.trailing) in
      let from_equals = codes "=" ++ from_value in
      let from_space = f.before_equals ++ from_equals in
      let from_path = path_text f.path ++ from_space in
      let at_path = stands-right source i f.leading from_path h in
      let at_space = stands-right source _ (path_text f.path) from_space at_path in
      let at_equals = stands-right source _ f.before_equals from_equals at_space in
      let at_value = stands-right source _ (codes "=") from_value at_equals in
      let decor = decor-cut source i (i + length f.leading + length (path_text f.path)) f.leading f.before_equals
      (stands-left source i f.leading from_path h) (stands-left source _ f.before_equals from_equals at_space) in
      record {
        entry = ap (λ d. record (entry_of (owned_in mode) i f v) { leaf = d }) (sym decor);
        path = stands-left source _ (path_text f.path) from_space at_path;
        value = stands-at source _ (i + value_start (spanned_in mode) f) from_value at_value (omega arith);
      }

  -- The mentions of pairs that stand in the source stand there, and become those of the owned form.
  pub record PairsStand (source : Text) (ps : Pairs) (i : ℕ) : Type 0 where
    pub each : (m : Mention Entry) → Among m (entries (spanned_in mode) ps i) → MentionStands source m
    pub all : entries (owned_in mode) ps i ≡ map (owned_mention source) (entries (spanned_in mode) ps i)

  one-stands : (source : Text) (i : ℕ) (f : Frame) (v : Value) → PairStands source i f v → (m : Mention Entry)
      → Among m (line_mentions (entry_of (spanned_in mode) i f v) (i + length f.leading) [] f.path) → MentionStands source m
  one-stands source i f v h m a =
      record {
        segment = path-stands source (entry_of (spanned_in mode) i f v) (i + length f.leading) [] f.path h.path m a;
        value = subst (ValueStands source) (sym (line-source (entry_of (spanned_in mode) i f v) (i + length f.leading) [] f.path m a))
            h.value;
      }

  more-stand : (source : Text) (i j : ℕ) (f : Frame) (v : Value) (ps : Pairs) → j ≡ i + length (frame_text f (value_text v)) + 1
      → PairStands source i f v
      → PairsStand source ps j → PairsStand source (pair f v ps) i
  more-stand source i j f v ps next h others =
      let own = line_mentions (entry_of (spanned_in mode) i f v) (i + length f.leading) [] f.path in
      let rest = subst (PairsStand source ps) next others in
      record {
        each =
            λ m a. elim (among-cases m own (entries (spanned_in mode) ps (i + length (frame_text f (value_text v)) + 1)) a) [
              | inl b ↦ one-stands source i f v h m b
              | inr b ↦ rest.each m b
            ];
        all =
            ap (λ e. line_mentions e (i + length f.leading) [] f.path
            ++ entries (owned_in mode) ps (i + length (frame_text f (value_text v)) + 1)) h.entry
            ∙ ap (λ ms. ms ++ entries (owned_in mode) ps (i + length (frame_text f (value_text v)) + 1))
            (line-owned source (entry_of (spanned_in mode) i f v) (i + length f.leading) [] f.path)
            ∙ ap (λ ms. map (owned_mention source) own ++ ms) rest.all
            ∙ sym (map-append (owned_mention source) own (entries (spanned_in mode) ps (i + length (frame_text f (value_text v)) + 1)));
      }

  pub pairs-stand : (source : Text) (ps : Pairs) (i : ℕ) → Stands source i (pairs_text ps) → PairsStand source ps i
  pairs-stand source no_pairs i h = record { each = λ m a. elim a [ ]; all = refl }
  pairs-stand source (pair f v no_pairs) i h =
      more-stand source i _ f v no_pairs refl (pair-stands source i f v (first-stands source i f v no_pairs h)) (record {
        each =
            λ m a. elim a [ ];
        all = refl;
      })
  pairs-stand source (pair f v (pair g w ps)) i h =
      more-stand source i _ f v (pair g w ps) refl (pair-stands source i f v (first-stands source i f v (pair g w ps) h))
      (pairs-stand source (pair g w ps) (i + length (frame_text f (value_text v)) + 1) (later-stand source i f v g w ps h))

  -- ---- nodes

  module _ (source : Text) where
    abbrev all-stand : List (Mention Entry) → Type 0
    all-stand ms = (m : Mention Entry) → Among m ms → MentionStands source m

    under-stand : (k : Text) (ms : List (Mention Entry)) → all-stand ms → all-stand (under (at_key k) ms)
    under-stand k ms h m a =
        let up = under-is (at_key k) m ms a in
        let at = h up.mention up.among in
        subst (MentionStands source) (sym up.same) (record { segment = at.segment; value = at.value })

    key-owned : (m : Mention Entry) → MentionStands source m
        → owned_key source (key_of (spanned_in mode) m.source.leaf m)
        ≡ key_of (owned_in mode) (owned_decor source m.source.leaf) (owned_mention source m)
    key-owned m h =
        let spelled = cut-is source m.start m.segment.spelled h.segment.spelled in
        let dots = decor-cut source (m.start - length m.segment.before) (m.start
        + length m.segment.spelled) m.segment.before m.segment.after h.segment.before h.segment.after in
        let leaf = by_test (ends_path m.role) in
        cc
      where
        by_test : (b : Bool) → owned_decor source (if b then m.source.leaf else unset)
            ≡ (if b then owned_decor source m.source.leaf else unset)
        by_test true = refl
        by_test false = refl

    mutual
      node-owned : (n : Node) (v : Value) (i : ℕ) (before after : Text) → Stands source i (before ++ (value_text v ++ after))
          → IsValueNode (spanned_in mode) v i before after n → IsValueNode (owned_in mode) v i before after (owned_node source n)
      node-owned (leaf s r d) (scalar t u) i before after h is =
          let at = around-stands source i before u after h in (
            is.0,
            ap (option_map (owned_raw source)) is.1 ∙ ap Some (cut-is source (i + length before) u at.value_at),
            ap (owned_decor source) is.2 ∙ decor-cut source i (i + length before + length u) before after at.before_at at.after_at,
          )
      node-owned (list f xs) (array es comma t) i before after h is =
          let at = around-stands source i before (value_text (array es comma t)) after h in
          let inner = inner-stands source (i + length before) (codes "[") (elements_text es) (comma_text comma) t (codes "]") refl refl
          at.value_at in
          let decor = decor-cut source i (i + length before + length (value_text (array es comma t))) before after at.before_at
          at.after_at in
          let trailing = cut-is source (i + length before + length (value_text (array es comma t)) - 1 - length t) t inner.trailing_at in (
            ap (owned_array source) is.0 ∙ cc,
            items-owned xs es (i + length before + 1) inner.body_at is.1,
          )
      node-owned (inline f ss) (inline_table ps comma t) i before after h is =
          let at = around-stands source i before (value_text (inline_table ps comma t)) after h in
          let inner = inner-stands source (i + length before) (codes "{") (pairs_text ps) (comma_text comma) t (codes "}") refl refl
          at.value_at in
          let decor = decor-cut source i (i + length before + length (value_text (inline_table ps comma t))) before after at.before_at
          at.after_at in
          let trailing = cut-is source (i + length before + length (value_text (inline_table ps comma t)) - 1 - length t) t
          inner.trailing_at in
          let stand = pairs-stand source ps (i + length before + 1) inner.body_at in
          let ms = entries (spanned_in mode) ps (i + length before + 1) in (
            ap (owned_inline source) is.0 ∙ cc,
            subst (λ ns. AreEntrySlots (owned_in mode) ns (kept ns) (owned_slots source ss)) (sym stand.all)
                (subst (λ ns. AreEntrySlots (owned_in mode) (map (owned_mention source) ms) ns (owned_slots source ss))
                (sym (kept-turned (λ i. i) (owned_entry source) ms))
                (slots-owned ss ms (kept ms) stand.each (λ m a. stand.each m (kept-is [] m ms a).among) is.1)),
          )
      node-owned (leaf s r d) (array es comma t) i before after h is = elim is [ ]
      node-owned (leaf s r d) (inline_table ps comma t) i before after h is = elim is [ ]
      node-owned (list g xs) (scalar t u) i before after h is = elim is [ ]
      node-owned (list g xs) (inline_table ps comma t) i before after h is = elim is [ ]
      node-owned (inline g ss) (scalar t u) i before after h is = elim is [ ]
      node-owned (inline g ss) (array es comma t) i before after h is = elim is [ ]
      node-owned (table g ss) v i before after h is = absurd (not-value (spanned_in mode) (table g ss) v i before after refl is)
      node-owned (tables e xs) v i before after h is = absurd (not-value (spanned_in mode) (tables e xs) v i before after refl is)
      node-owned nothing v i before after h is = absurd (not-value (spanned_in mode) nothing v i before after refl is)

      items-owned : (xs : Items) (es : Elements) (i : ℕ) → Stands source i (elements_text es) → AreElementNodes (spanned_in mode) es i xs
          → AreElementNodes (owned_in mode) es i (owned_items source xs)
      items-owned no_items no_elements i h is = tt
      items-owned (item n no_items) (element a v no_elements) i h is =
          (node-owned n v i a.before a.after (element-stands source i a v no_elements h) is.0, tt)
      items-owned (item n (item o xs)) (element a v (element b w es)) i h is = (
        node-owned n v i a.before a.after (element-stands source i a v (element b w es) h) is.0,
        items-owned (item o xs) (element b w es) (i + length a.before + length (value_text v) + length a.after
            + 1) (elements-after source i a v b w es h) is.1,
      )
      items-owned no_items (element a v es) i h is = elim is [ ]
      items-owned (item n xs) no_elements i h is = elim is [ ]
      items-owned (item n no_items) (element a v (element b w es)) i h is = elim is.1 [ ]
      items-owned (item n (item o xs)) (element a v no_elements) i h is = elim is.1 [ ]

      made-owned : (n : Node) (m : Mention Entry) (ns : List (Mention Entry)) → all-stand ns → IsMadeByKey (spanned_in mode) m ns n
          → IsMadeByKey (owned_in mode) (owned_mention source m) (map (owned_mention source) ns) (owned_node source n)
      made-owned (inline f ss) m ns h is = (
        ap (owned_inline source) is.0,
        subst (λ ks. AreEntrySlots (owned_in mode) (map (owned_mention source) ns) ks (owned_slots source ss))
            (sym (kept-turned (λ i. i) (owned_entry source) ns))
            (slots-owned ss ns (kept ns) h (λ k a. h k (kept-is [] k ns a).among) is.1),
      )
      made-owned (leaf s r x) m ns h is = elim is [ ]
      made-owned (list g xs) m ns h is = elim is [ ]
      made-owned (table g ss) m ns h is = elim is [ ]
      made-owned (tables e xs) m ns h is = elim is [ ]
      made-owned nothing m ns h is = elim is [ ]

      slots-owned : (ss : Slots) (ms ks : List (Mention Entry)) → all-stand ms → all-stand ks → AreEntrySlots (spanned_in mode) ms ks ss
          → AreEntrySlots (owned_in mode) (map (owned_mention source) ms) (map (owned_mention source) ks) (owned_slots source ss)
      slots-owned no_slots ms [] h g is = tt
      slots-owned (slot key n ss) ms (k ∷ ks) h g is =
          let at = g k (inl refl) in
          slot-all (owned_in mode) (map (owned_mention source) ms) (owned_mention source k) (map (owned_mention source) ks)
          (owned_key source key) (owned_node source n) (owned_slots source ss)
          (ap (owned_key source) (slot-key (spanned_in mode) ms k ks key n ss is) ∙ key-owned k at)
          (each-way (ends_path k.role) _ _ _ _
          (λ x. node-owned n k.source.value k.source.start k.source.before k.source.after at.value x)
          (λ x. subst (λ ns. IsMadeByKey (owned_in mode) (owned_mention source k) ns (owned_node source n))
          (sym (under-turned (λ i. i) (owned_entry source) (at_key k.segment.key) ms))
          (made-owned n k (under (at_key k.segment.key) ms) (under-stand k.segment.key ms h) x))
          (slot-node (spanned_in mode) ms k ks key n ss is))
          (slots-owned ss ms ks h (λ m a. g m (inr a)) (slot-rest (spanned_in mode) ms k ks key n ss is))
      slots-owned no_slots ms (k ∷ ks) h g is = elim is [ ]
      slots-owned (slot key n ss) ms [] h g is = elim is [ ]

  -- The node with spans of a value that stands in the source becomes, by what they cut, the node with owned texts.
  pub value_owned : (source : Text) (v : Value) (i : ℕ) (before after : Text) (n : Node) → IsValueNode (spanned_in mode) v i before after n
      → Stands source i (before ++ (value_text v ++ after)) → IsValueNode (owned_in mode) v i before after (owned_node source n)
  value_owned source v i before after n is h = node-owned source n v i before after h is
