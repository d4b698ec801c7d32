-- The decors of the tree of a cut, with spans, suit their places: none of them is a text of its own. So it fits where its owned form does.
use Rattle.std.proofs.Common.{◌≡◌, refl, sym, ◌∙◌, ap, subst, ℕ, suc, ◌+◌, Bool, true, false, List, [], ◌∷◌, ◌++◌, length, Option, Some}
use Rattle.std.proofs.Common.{None, inl, inr}
use Rattle.std.specs.Prelude.{not, pos, MatchBool, if◌then◌else◌}
use Rattle.std.specs.List.{AllByRecursion}
use Rattle.std.proofs.lemmas.Bool.{cases_Bool, MatchBool-at_true, MatchBool-at_false}
use Rattle.toml_edit_model.specs.Mode.{Mode, shown_text, with_return}
use Rattle.toml_edit_model.specs.Text.{Text, one}
use Rattle.toml_edit_model.specs.Trivia.{IsWhiteSpace, IsWholeTrivia, IsFinalTrivia}
use Rattle.toml_edit_model.specs.Syntax.{Segment, Value, scalar, array, inline_table, Elements, no_elements, element, Pairs, no_pairs, pair}
use Rattle.toml_edit_model.specs.Syntax.{Statement, key_line, header, Document, value_text, frame_text, path_text}
use Rattle.toml_edit_model.specs.Paths.{at_key, at_element, Path, to_key, to_element, Mention, next_start, line_mentions, Source}
use Rattle.toml_edit_model.specs.Paths.{all_mentions}
use Rattle.toml_edit_model.specs.Tree.{Raw, owned, span, ArrayFields, InlineFields, TableFields, Decor, unset, Key, Node, nothing, leaf}
use Rattle.toml_edit_model.specs.Tree.{list, inline, table, tables, Items, no_items, item, Slots, no_slots, slot, Tree, shown_side}
use Rattle.toml_edit_model.specs.Tree.{shown_prefix, shown_suffix, shown_raw, node_decor, is_value_node}
use Rattle.toml_edit_model.specs.TreeOf.{spanned_in, span_of, decor_at, Entry, entry_of, entries, key_of, key_at, statement_leaf, fields_of}
use Rattle.toml_edit_model.specs.TreeOf.{header_fields, IsValueNode, IsLineNode, AreElementNodes, AreEntrySlots, IsNodeOf, AreElementsOf}
use Rattle.toml_edit_model.specs.TreeOf.{AreSlotsOf, IsTreeOf}
use Rattle.toml_edit_model.specs.HeaderOrder.{visit_of, node_walk, items_walk, slots_walk, walk, places_from, comes_before, in_header_order}
use Rattle.toml_edit_model.specs.Print.{one_space, Line, last_leaf, is_line_node, table_lines, dotted_lines, line_of, value_of}
use Rattle.toml_edit_model.specs.Fits.{LineSuits, ElementSuits, Suits, ItemsSuit, InsideSuits, NodeSuitsInside, EndsLine, PrintedLineSuits}
use Rattle.toml_edit_model.specs.Fits.{TableSuits, DecorsSuit, FitsIn}
use Rattle.toml_edit_laws.specs.TextsFit.{SpansFit}
use Rattle.toml_edit_laws.proofs.common.OrderLaws.{all-sorted}
use Rattle.toml_edit_laws.proofs.mentions.KeptPaths.{last-key}
use Rattle.toml_edit_laws.proofs.values.ValueItems.{value-decor, value-line, value-item}
use Rattle.toml_edit_laws.proofs.adding.HeaderReady.{all-under}
use Rattle.toml_edit_laws.proofs.inline_tables.SlotsOfEntries.{IsMadeByKey, IsSlotNode, slot-node}
use Rattle.toml_edit_laws.proofs.common.WhiteSpace.{shown-none}
use Rattle.toml_edit_laws.proofs.normal_texts.DecorsSuit.{IsSpacedKey, AreSpacedKeys, line-suits, keys-append, on-true, on-false}
use Rattle.toml_edit_laws.proofs.normal_texts.TreeDecors.{empty-ends, IsInner, VisitSuits, AllSuit, AllVisits, header-suits, places-suit}
use Rattle.toml_edit_laws.proofs.normal_texts.TreeDecors.{table-suits, one-line}
use Rattle.toml_edit_laws.proofs.normal_texts.SpansWalk.{ordered-owned, undotted-owned}
use Rattle.toml_edit_laws.proofs.normal_texts.SpansLimits.{limits-owned}
use Rattle.toml_edit_laws.proofs.mentions.KeptOrder.{kept-all}
use Rattle.toml_edit_laws.proofs.common.Trivia.{empty-trivia}
use Rattle.toml_edit_laws.proofs.common.Each.{all-append, all-map}
use Rattle.toml_edit_model.specs.Roles.{Role, dotted_role, implied_role, header_role, array_role, value_role, continued_role, ends_path}
use Rattle.toml_edit_model.specs.TableMentions.{under, array_headers, kept}
use Rattle.toml_edit_model.specs.OwnedForm.{owned_tree}

-- ---- sides that are no texts of their own

abbrev IsBareSide : Option Raw → Type 0
IsBareSide None = Unit {0}
IsBareSide (Some (owned t)) = t ≡ []
IsBareSide (Some (span i j)) = Unit {0}

abbrev IsBare : Decor → Type 0
IsBare d = IsBareSide d.prefix × IsBareSide d.suffix

span-bare : (i : ℕ) (t : Text) → IsBareSide (Some (span_of i t))
span-bare i [] = refl
span-bare i (c ∷ t) = tt

unset-bare : IsBare unset
unset-bare = (tt, tt)

abbrev IsBareMention : Mention Entry → Type 0
IsBareMention m = IsBare m.source.leaf

line-bare : (e : Entry) (start : ℕ) (p : Path) (ss : List Segment) → IsBare e.leaf
    → AllByRecursion IsBareMention (line_mentions e start p ss)
line-bare e start p [] h = tt
line-bare e start p (s ∷ []) h = (h, tt)
line-bare e start p (s ∷ r ∷ rest) h = (h, line-bare e (next_start start s) (to_key p s.key) (r ∷ rest) h)

empty-final : IsFinalTrivia []
empty-final = ([], [], empty-trivia, inl refl, refl)

-- read in one mode, and printed in another
module _ (read mode : Mode) where
  bare-shown : (P : Text → Type 0) (default : Text) (o : Option Raw) → IsBareSide o → P default → P [] → P (shown_side mode default o)
  bare-shown P default None h d e = d
  bare-shown P default (Some (owned t)) h d e = subst P (sym (ap (shown_text mode) h ∙ shown-none mode)) e
  bare-shown P default (Some (span i j)) h d e = d

  decor-bare : (i j : ℕ) (before after : Text) → IsBare (decor_at (spanned_in read) i before j after)
  decor-bare i j before after = (span-bare i before, span-bare j after)

  key-bare : {S : Type 0} (own : Decor) (m : Mention S) → IsSpacedKey mode (key_of (spanned_in read) own m)
  key-bare own m =
      let d : Decor = (key_of (spanned_in read) own m).dotted in
      let bare : IsBare d = decor-bare _ _ m.segment.before m.segment.after in
      (bare-shown IsWhiteSpace [] d.prefix bare.0 refl refl, bare-shown IsWhiteSpace [] d.suffix bare.1 refl refl)

  leaf-bare : {S : Type 0} (own : Decor) (m : Mention S) → IsBare own → IsBare (key_of (spanned_in read) own m).leaf
  leaf-bare own m h = by_role (ends_path m.role)
    where
      by_role : (b : Bool) → IsBare (if b then own else unset)
      by_role true = h
      by_role false = unset-bare

  bare-line : (MayFollow : Text → Type 0) → MayFollow [] → (ks : List Key) (k : Key) (n : Node) → AreSpacedKeys mode (ks ++ one k)
      → IsBare k.leaf → IsBare (node_decor n) → LineSuits mode MayFollow (ks ++ one k) n
  bare-line MayFollow none ks k n s h g =
      line-suits mode MayFollow ks k n s (bare-shown IsWholeTrivia [] k.leaf.prefix h.0 empty-trivia empty-trivia)
      (bare-shown IsWhiteSpace one_space k.leaf.suffix h.1 refl refl)
      (bare-shown IsWhiteSpace one_space (node_decor n).prefix g.0 refl refl) (bare-shown MayFollow [] (node_decor n).suffix g.1 none none)

  raw-trivia : (i : ℕ) (t : Text) → IsWholeTrivia (shown_raw mode (span_of i t))
  raw-trivia i t = bare-shown IsWholeTrivia [] (Some (span_of i t)) (span-bare i t) empty-trivia empty-trivia

  value-bare : (v : Value) (i : ℕ) (before after : Text) (n : Node) → IsValueNode (spanned_in read) v i before after n
      → IsBare (node_decor n)
  value-bare v i before after n h =
      subst IsBare (sym (value-decor (spanned_in read) v i before after n h)) (decor-bare i (i + length before
      + length (value_text v)) before after)

  -- ---- values

  entries-bare : (ps : Pairs) (i : ℕ) → AllByRecursion IsBareMention (entries (spanned_in read) ps i)
  entries-bare no_pairs i = tt
  entries-bare (pair f v ps) i =
      all-append IsBareMention (line_mentions (entry_of (spanned_in read) i f v) (i + length f.leading) [] f.path)
      (entries (spanned_in read) ps (i + length (frame_text f (value_text v)) + 1))
      (line-bare (entry_of (spanned_in read) i f v) (i + length f.leading) [] f.path (decor-bare i (i + length f.leading
      + length (path_text f.path)) f.leading f.before_equals))
      (entries-bare ps (i + length (frame_text f (value_text v)) + 1))

  slot-suits : (n : Node) → ((v : Value) (i : ℕ) (before after : Text) → IsValueNode (spanned_in read) v i before after n → Suits mode n)
      → ((m : Mention Entry) (ns : List (Mention Entry)) (js : List Key) → AllByRecursion IsBareMention ns → AreSpacedKeys mode js
      → IsMadeByKey (spanned_in read) m ns n
      → MatchBool (is_line_node n) (LineSuits mode IsWholeTrivia js n × Suits mode n) (NodeSuitsInside mode n js))
      → (k : Key) (ms : List (Mention Entry)) (m : Mention Entry) (js : List Key) → AllByRecursion IsBareMention ms → IsBareMention m
      → AreSpacedKeys mode js
      → k ≡ key_of (spanned_in read) m.source.leaf m → IsSlotNode (spanned_in read) ms m n
      → MatchBool (is_line_node n) (LineSuits mode IsWholeTrivia (js ++ one k) n × Suits mode n) (NodeSuitsInside mode n (js ++ one k))
  slot-suits n value made k ms m js h f s key_is g =
      let v : Value = m.source.value in
      let here : AreSpacedKeys mode (js ++ one k) =
      keys-append mode js k s (subst (IsSpacedKey mode) (sym key_is) (key-bare m.source.leaf m)) in
      elim (cases_Bool (ends_path m.role)) [
        | inl e ↦
            let is : IsValueNode (spanned_in read) v m.source.start m.source.before m.source.after n = MatchBool-at_true _ _ e g in
            on-true (is_line_node n) (LineSuits mode IsWholeTrivia (js ++ one k) n × Suits mode n) (NodeSuitsInside mode n (js ++ one k))
            (value-line (spanned_in read) v m.source.start m.source.before m.source.after n is) (
              bare-line IsWholeTrivia empty-trivia js k n here (subst (λ (j : Key). IsBare j.leaf) (sym key_is)
                  (leaf-bare m.source.leaf m f))
                  (value-bare v m.source.start m.source.before m.source.after n is),
              value v m.source.start m.source.before m.source.after is,
            )
        | inr e ↦
            made m (under (at_key m.segment.key) ms) (js ++ one k) (all-under IsBareMention (λ i t p x a. a) (at_key m.segment.key) ms h)
            here (MatchBool-at_false _ _ e g)
      ]

  mutual
    node-suits : (n : Node) (v : Value) (i : ℕ) (before after : Text) → IsValueNode (spanned_in read) v i before after n → Suits mode n
    node-suits (leaf s r d) v i before after g = tt
    node-suits (table f ss) v i before after g = tt
    node-suits (tables e xs) v i before after g = tt
    node-suits nothing v i before after g = tt
    node-suits (list f xs) (scalar s t) i before after g = absurd g
    node-suits (list f xs) (inline_table ps comma t) i before after g = absurd g
    node-suits (list f xs) (array es comma t) i before after g = (
      subst (λ r. IsWholeTrivia (shown_raw mode r)) (sym (ap (λ (a : ArrayFields). a.trailing) g.0)) (raw-trivia _ t),
      items-suit xs es (i + length before + 1) g.1,
    )
    node-suits (inline f ss) (scalar s t) i before after g = absurd g
    node-suits (inline f ss) (array es comma t) i before after g = absurd g
    node-suits (inline f ss) (inline_table ps comma t) i before after g =
        let ms : List (Mention Entry) = entries (spanned_in read) ps (i + length before + 1) in
        let bare = entries-bare ps (i + length before + 1) in (
          subst (λ r. IsWholeTrivia (shown_raw mode r)) (sym (ap (λ (a : InlineFields). a.trailing) g.0)) (raw-trivia _ t),
          inside-suits ss ms (kept ms) [] bare (kept-all IsBareMention [] ms bare) tt g.1,
        )

    items-suit : (xs : Items) (es : Elements) (i : ℕ) → AreElementNodes (spanned_in read) es i xs → ItemsSuit mode xs
    items-suit no_items es i g = tt
    items-suit (item n xs) no_elements i g = absurd g
    items-suit (item n xs) (element a v es) i g =
        let bare = value-bare v i a.before a.after n g.0 in (
          on-true (is_value_node n) (ElementSuits mode n × Suits mode n) (Unit {0})
              (value-item (spanned_in read) v i a.before a.after n g.0) (
                (
                  bare-shown IsWholeTrivia [] (node_decor n).prefix bare.0 empty-trivia empty-trivia,
                  bare-shown IsWholeTrivia [] (node_decor n).suffix bare.1 empty-trivia empty-trivia,
                ),
                node-suits n v i a.before a.after g.0,
              ),
          items-suit xs es (i + length a.before + length (value_text v) + length a.after + 1) g.1,
        )

    inside-suits : (ss : Slots) (ms ks : List (Mention Entry)) (js : List Key) → AllByRecursion IsBareMention ms
        → AllByRecursion IsBareMention ks → AreSpacedKeys mode js
        → AreEntrySlots (spanned_in read) ms ks ss → InsideSuits mode ss js
    inside-suits no_slots ms ks js h f s g = tt
    inside-suits (slot k n ss) ms [] js h f s g = absurd g
    inside-suits (slot k n ss) ms (m ∷ ks) js h f s g = (
      slot-suits n (λ v i before after b. node-suits n v i before after b) (λ i ns us a b c. made-suits n i ns us a b c) k ms m js h f.0 s
          g.0 (slot-node (spanned_in read) ms m ks k n ss g),
      inside-suits ss ms ks js h f.1 s g.2,
    )

    made-suits : (n : Node) (m : Mention Entry) (ns : List (Mention Entry)) (js : List Key) → AllByRecursion IsBareMention ns
        → AreSpacedKeys mode js → IsMadeByKey (spanned_in read) m ns n
        → MatchBool (is_line_node n) (LineSuits mode IsWholeTrivia js n × Suits mode n) (NodeSuitsInside mode n js)
    made-suits (inline f us) m ns js h s g =
        on-false (not f.is_dotted) (LineSuits mode IsWholeTrivia js (inline f us)
        × Suits mode (inline f us)) (InsideSuits mode us js) (ap (λ (a : InlineFields). not a.is_dotted) g.0)
        (inside-suits us ns (kept ns) js h (kept-all IsBareMention [] ns h) s g.1)
    made-suits (leaf c r d) m ns js h s g = absurd g
    made-suits (list f xs) m ns js h s g = absurd g
    made-suits (table f us) m ns js h s g = absurd g
    made-suits (tables e xs) m ns js h s g = absurd g
    made-suits nothing m ns js h s g = absurd g

  -- ---- lines

  statement-bare : (source : Source) (s : Statement) → IsBare (statement_leaf (spanned_in read) source s)
  statement-bare source (key_line f v end) = decor-bare _ _ f.leading f.before_equals
  statement-bare source (header h end) = (span-bare _ h.opening, span-bare _ h.closing)

  key-at-bare : (k : Key) (m : Mention Source) → k ≡ key_at (spanned_in read) m → IsBare k.leaf
  key-at-bare k m e = subst (λ (j : Key). IsBare j.leaf) (sym e)
      (leaf-bare (statement_leaf (spanned_in read) m.source m.source.statement) m (statement-bare m.source m.source.statement))

  value-slot : (k : Key) (m : Mention Source) (n : Node) (js : List Key) → k ≡ key_at (spanned_in read) m → AreSpacedKeys mode (js ++ one k)
      → (s : Statement)
      → IsLineNode (spanned_in read) m.source s n → (is_line_node n ≡ true) × LineSuits mode (EndsLine mode) (js ++ one k) n × Suits mode n
  value-slot k m n js e spaced (header i end) g = absurd g
  value-slot k m n js e spaced (key_line f v end) g = (
    value-line (spanned_in read) v _ f.after_equals (with_return read f.trailing end) n g,
    bare-line (EndsLine mode) (empty-ends mode) js k n spaced (key-at-bare k m e)
        (value-bare v _ f.after_equals (with_return read f.trailing end) n g),
    node-suits n v _ f.after_equals (with_return read f.trailing end) g,
  )

  mutual
    lines-suit : (ss : Slots) (ms ks : List (Mention Source)) (js : List Key) → AreSpacedKeys mode js
        → AreSlotsOf (spanned_in read) ms ks ss → AllSuit mode (table_lines mode ss js)
    lines-suit no_slots ms ks js s g = tt
    lines-suit (slot k n ss) ms [] js s g = absurd g
    lines-suit (slot k n ss) ms (m ∷ ks) js s g =
        slot-lines n k (under (at_key m.segment.key) ms) m js (table_lines mode ss js)
        (keys-append mode js k s (subst (IsSpacedKey mode) (sym g.0)
        (key-bare (statement_leaf (spanned_in read) m.source m.source.statement) m))) g.0 g.1
        (lines-suit ss ms ks js s g.2)

    slot-lines : (n : Node) (k : Key) (ns : List (Mention Source)) (m : Mention Source) (js : List Key) (rest : List Line)
        → AreSpacedKeys mode (js ++ one k)
        → k ≡ key_at (spanned_in read) m → IsNodeOf (spanned_in read) ns m n → AllSuit mode rest
        → AllSuit mode ((elim (is_line_node n) [
          | true ↦ line_of (js ++ one k) n (value_of mode n)
          | false ↦
              dotted_lines mode n (js ++ one k)
        ]) ++ rest)
    slot-lines nothing k ns m js rest s e g r = absurd g
    slot-lines (leaf c p d) k ns m js rest s e g r = (let v = value-slot k m (leaf c p d) js e s m.source.statement g.1 in ((v.1, v.2), r))
    slot-lines (list i xs) k ns m js rest s e g r = (let v = value-slot k m (list i xs) js e s m.source.statement g.1 in ((v.1, v.2), r))
    slot-lines (inline i us) k ns m js rest s e g r =
        let v = value-slot k m (inline i us) js e s m.source.statement g.1 in
        one-line mode (is_line_node (inline i us)) (js ++ one k) (inline i us) rest v.0 (v.1, v.2) r
    slot-lines (table i us) k ns m js rest s e g r =
        let inner : AllSuit mode (table_lines mode us (js ++ one k)) = lines-suit us ns (kept ns) (js ++ one k) s g.2 in
        elim (cases_Bool i.is_dotted) [
          | inl d ↦ subst (λ b. AllSuit mode ((if b then table_lines mode us (js ++ one k) else []) ++ rest)) (sym d)
              (all-append (PrintedLineSuits mode) (table_lines mode us (js ++ one k)) rest inner r)
          | inr d ↦ subst (λ b. AllSuit mode ((if b then table_lines mode us (js ++ one k) else []) ++ rest)) (sym d) r
        ]
    slot-lines (tables i xs) k ns m js rest s e g r = r

  -- ---- headers

  fields-bare : (source : Source) (s : Statement) → IsBare (header_fields (spanned_in read) source s).decor
  fields-bare source (key_line f v end) = unset-bare
  fields-bare source (header h end) = decor-bare _ _ h.leading (with_return read h.trailing end)

  role-bare : (us : List (Mention Source)) (m : Mention Source) (r : Role) → IsBare (fields_of (spanned_in read) us m r).decor
  role-bare us m header_role = fields-bare m.source m.source.statement
  role-bare us m dotted_role = unset-bare
  role-bare us m implied_role = unset-bare
  role-bare us m array_role = unset-bare
  role-bare us m value_role = unset-bare
  role-bare us m continued_role = unset-bare

  inner-bare : (d : Decor) → IsBare d → IsInner mode d
  inner-bare d h = (bare-shown IsWhiteSpace [] d.prefix h.0 refl refl, bare-shown IsWhiteSpace [] d.suffix h.1 refl refl)

  visit-suits : (p : Path) (js : List Key) (b : Bool) (f : TableFields) (ss : Slots) (us : List (Mention Source)) → AreSpacedKeys mode js
      → IsBare (last_leaf js) → IsBare f.decor
      → AreSlotsOf (spanned_in read) us (kept us) ss → VisitSuits mode (visit_of p js b f ss)
  visit-suits p js b f ss us s l h g = (
    header-suits mode (visit_of p js b f ss) s (inner-bare (last_leaf js) l)
        (bare-shown IsWholeTrivia [] f.decor.prefix h.0 empty-trivia empty-trivia)
        (bare-shown (EndsLine mode) [] f.decor.suffix h.1 (empty-ends mode) (empty-ends mode)),
    lines-suit ss us (kept us) [] tt g,
  )

  mutual
    node-visits : (n : Node) (us : List (Mention Source)) (m : Mention Source) (p : Path) (js : List Key) → AreSpacedKeys mode js
        → IsBare (last_leaf js)
        → IsNodeOf (spanned_in read) us m n → AllVisits mode (node_walk n p js false)
    node-visits nothing us m p js s l g = tt
    node-visits (leaf c r d) us m p js s l g = tt
    node-visits (list i xs) us m p js s l g = tt
    node-visits (inline i ss) us m p js s l g = tt
    node-visits (table i ss) us m p js s l g = (
      visit-suits p js false i ss us s l (subst (λ (o : TableFields). IsBare o.decor) (sym g.1) (role-bare us m m.role)) g.2,
      slots-visits ss us (kept us) p js s g.2,
    )
    node-visits (tables x xs) us m p js s l g = items-visits xs us (array_headers us) 0 p js 0 s l g.2

    items-visits : (xs : Items) (us hs : List (Mention Source)) (i : ℕ) (p : Path) (js : List Key) (n : ℕ) → AreSpacedKeys mode js
        → IsBare (last_leaf js)
        → AreElementsOf (spanned_in read) us i hs xs → AllVisits mode (items_walk xs p js n)
    items-visits no_items us hs i p js n s l g = tt
    items-visits (item x xs) us [] i p js n s l g = absurd g
    items-visits (item nothing xs) us (a ∷ hs) i p js n s l g = absurd g
    items-visits (item (leaf c r d) xs) us (a ∷ hs) i p js n s l g = absurd g
    items-visits (item (list o ys) xs) us (a ∷ hs) i p js n s l g = absurd g
    items-visits (item (inline o ss) xs) us (a ∷ hs) i p js n s l g = absurd g
    items-visits (item (tables o ys) xs) us (a ∷ hs) i p js n s l g = absurd g
    items-visits (item (table o ss) xs) us (a ∷ hs) i p js n s l g =
        let vs : List (Mention Source) = under (at_element i) us in
        all-append (VisitSuits mode) (visit_of (to_element p n) js true o ss
        ∷ slots_walk ss (to_element p n) js) (items_walk xs p js (suc n)) (
          visit-suits (to_element p n) js true o ss vs s l (subst (λ (q : TableFields). IsBare q.decor) (sym g.0)
              (fields-bare a.source a.source.statement)) g.1,
          slots-visits ss vs (kept vs) (to_element p n) js s g.1,
        )
        (items-visits xs us hs (suc i) p js (suc n) s l g.2)

    slots-visits : (ss : Slots) (ms ks : List (Mention Source)) (p : Path) (js : List Key) → AreSpacedKeys mode js
        → AreSlotsOf (spanned_in read) ms ks ss → AllVisits mode (slots_walk ss p js)
    slots-visits no_slots ms ks p js s g = tt
    slots-visits (slot k n ss) ms [] p js s g = absurd g
    slots-visits (slot k n ss) ms (m ∷ ks) p js s g =
        all-append (VisitSuits mode) (node_walk n (to_key p k.name) (js ++ one k) false) (slots_walk ss p js)
        (node-visits n (under (at_key m.segment.key) ms) m (to_key p k.name) (js ++ one k)
        (keys-append mode js k s (subst (IsSpacedKey mode) (sym g.0)
        (key-bare (statement_leaf (spanned_in read) m.source m.source.statement) m)))
        (subst IsBare (sym (last-key js k)) (key-at-bare k m g.0)) g.1)
        (slots-visits ss ms ks p js s g.2)

  -- ---- trees

  spans-suit : (d : Document) (t : Tree) → IsTreeOf (spanned_in read) d t → DecorsSuit mode t
  spans-suit d t is =
      let ms : List (Mention Source) = all_mentions d in
      let root : VisitSuits mode (visit_of [] [] false t.root t.slots) =
      visit-suits [] [] false t.root t.slots ms tt unset-bare (subst (λ (o : TableFields). IsBare o.decor) (sym is.root) unset-bare)
      is.slots in
      let visits : AllVisits mode (walk t) = (root, slots-visits t.slots ms (kept ms) [] [] tt is.slots) in
      record {
        tables =
            all-map (λ g. VisitSuits mode g.1) (TableSuits mode) (in_header_order t) (table-suits mode)
            (all-sorted (λ g. VisitSuits mode g.1) comes_before (places_from (pos 0) (walk t)) (places-suit mode (pos 0) (walk t) visits));
        root_prefix = subst (λ (o : TableFields). IsWholeTrivia (shown_prefix mode [] o.decor)) (sym is.root) empty-trivia;
        root_suffix = subst (λ (o : TableFields). IsWholeTrivia (shown_suffix mode [] o.decor)) (sym is.root) empty-trivia;
        trailing = subst (λ r. IsFinalTrivia (shown_raw mode r)) (sym is.trailing)
            (bare-shown IsFinalTrivia [] (Some (span_of _ d.final)) (span-bare _ d.final) empty-final empty-final);
      }

  -- A tree with spans fits where its owned form does.
  spans-fit : (source : Text) (d : Document) (t : Tree) → IsTreeOf (spanned_in read) d t → FitsIn mode (owned_tree source t) → FitsIn mode t
  spans-fit source d t is h =
      record {
        decors = spans-suit d t is;
        undotted = sym (undotted-owned mode source t) ∙ h.undotted;
        ordered = sym (ordered-owned mode source t) ∙ h.ordered;
        limits = sym (limits-owned mode source t) ∙ h.limits;
      }

-- A tree that fits does so with any trailing text that suits.
fits-with : (mode : Mode) (t : Tree) (r : Raw) → IsFinalTrivia (shown_raw mode r) → FitsIn mode t → FitsIn mode (record t { trailing = r })
fits-with mode t r e h =
    record {
      decors = record { tables = h.decors.tables; root_prefix = h.decors.root_prefix; root_suffix = h.decors.root_suffix; trailing = e };
      undotted = h.undotted;
      ordered = h.ordered;
      limits = h.limits;
    }

-- Both, for a root taken from the tree as it is.
pub spans_fit : (mode : Mode) → SpansFit mode
spans_fit mode read text d t is h =
    let fits = spans-fit read mode text d t is h in
    (fits, fits-with mode t (owned []) (subst IsFinalTrivia (sym (shown-none mode)) empty-final) fits)
