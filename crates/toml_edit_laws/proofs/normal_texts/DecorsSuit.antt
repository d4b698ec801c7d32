-- The decors of the tree of a cut, in owned form, suit their places.
use Rattle.std.proofs.Common.{◌≡◌, refl, sym, ◌∙◌, ap, subst, ℕ, ◌+◌, Bool, true, false, List, [], ◌∷◌, ◌++◌, length, Some, inl, inr}
use Rattle.std.specs.Prelude.{not, MatchBool, if◌then◌else◌}
use Rattle.std.specs.List.{AllByRecursion}
use Rattle.std.proofs.lemmas.Bool.{cases_Bool, MatchBool-at_true, MatchBool-at_false}
use Rattle.toml_edit_model.specs.Mode.{Mode, shown_text}
use Rattle.toml_edit_model.specs.Text.{Text, one}
use Rattle.toml_edit_model.specs.Trivia.{IsWhiteSpace, IsWholeTrivia}
use Rattle.toml_edit_model.specs.Syntax.{Segment, Value, scalar, array, inline_table, Elements, no_elements, element, Pairs, no_pairs, pair}
use Rattle.toml_edit_model.specs.Syntax.{value_text, frame_text, IsSpacedSegment, has_elements, has_pairs, IsValue, AreElements, ArePairs}
use Rattle.toml_edit_model.specs.Paths.{at_key, Path, to_key, Mention, next_start, line_mentions}
use Rattle.toml_edit_model.specs.Tree.{owned, ArrayFields, InlineFields, Decor, unset, Key, Node, nothing, leaf, list, inline, table}
use Rattle.toml_edit_model.specs.Tree.{tables, Items, no_items, item, Slots, no_slots, slot, shown_prefix, shown_suffix, shown_raw}
use Rattle.toml_edit_model.specs.Tree.{node_decor, is_value_node}
use Rattle.toml_edit_model.specs.TreeOf.{owned_in, Entry, entry_of, entries, key_of, IsValueNode, AreElementNodes, AreEntrySlots}
use Rattle.toml_edit_model.specs.Print.{one_space, dot_prefix, dot_suffix, segments_after, segments, is_line_node}
use Rattle.toml_edit_model.specs.Fits.{LineSuits, ElementSuits, Suits, ItemsSuit, InsideSuits, NodeSuitsInside}
use Rattle.toml_edit_laws.proofs.common.WhiteSpace.{white-shown}
use Rattle.toml_edit_laws.proofs.mentions.KeptPaths.{last-key}
use Rattle.toml_edit_laws.proofs.values.ValueItems.{owned-decor, value-line, value-item}
use Rattle.toml_edit_laws.proofs.inline_tables.SlotsOfEntries.{IsMadeByKey, IsSlotNode, slot-node}
use Rattle.toml_edit_laws.proofs.adding.HeaderReady.{all-under}
use Rattle.toml_edit_laws.proofs.normal_texts.Lean.{lean-trivia}
use Rattle.toml_edit_laws.proofs.mentions.KeptOrder.{kept-all}
use Rattle.toml_edit_laws.proofs.common.Trivia.{close-trivia}
use Rattle.toml_edit_laws.proofs.common.Each.{all-append}
use Rattle.toml_edit_model.specs.TableMentions.{under, kept}
use Rattle.toml_edit_model.specs.Roles.{ends_path}

pub on-true : (b : Bool) (P Q : Type 0) → b ≡ true → P → MatchBool b P Q
on-true b P Q e p = subst (λ c. MatchBool c P Q) (sym e) p

pub on-false : (b : Bool) (P Q : Type 0) → b ≡ false → Q → MatchBool b P Q
on-false b P Q e q = subst (λ c. MatchBool c P Q) (sym e) q

module _ (mode : Mode) where
  -- ---- keys

  abbrev pub IsSpacedKey : Key → Type 0
  IsSpacedKey k = IsWhiteSpace (dot_prefix mode k) × IsWhiteSpace (dot_suffix mode k)

  abbrev pub AreSpacedKeys : List Key → Type 0
  AreSpacedKeys ks = AllByRecursion IsSpacedKey ks

  after-spaced : (ks : List Key) → AreSpacedKeys ks → AllByRecursion IsSpacedSegment (segments_after mode ks)
  after-spaced [] h = tt
  after-spaced (k ∷ []) h = ((h.0.0, refl), tt)
  after-spaced (k ∷ l ∷ rest) h = (h.0, after-spaced (l ∷ rest) h.1)

  pub segments-spaced : (ks : List Key) → AreSpacedKeys ks → AllByRecursion IsSpacedSegment (segments mode ks)
  segments-spaced [] h = tt
  segments-spaced (k ∷ []) h = ((refl, refl), tt)
  segments-spaced (k ∷ l ∷ rest) h = ((refl, h.0.1), after-spaced (l ∷ rest) h.1)

  pub lean-white : (t : Text) → IsWhiteSpace t → IsWhiteSpace (shown_text mode t)
  lean-white t h = subst IsWhiteSpace (sym (white-shown mode t h)) h

  pub key-spaced : {S : Type 0} (own : Decor) (m : Mention S) → IsSpacedSegment m.segment → IsSpacedKey (key_of (owned_in mode) own m)
  key-spaced own m h = (lean-white m.segment.before h.0, lean-white m.segment.after h.1)

  -- a line with its last key
  pub line-suits : (MayFollow : Text → Type 0) (ks : List Key) (k : Key) (n : Node) → AreSpacedKeys (ks ++ one k)
      → IsWholeTrivia (shown_prefix mode [] k.leaf) → IsWhiteSpace (shown_suffix mode one_space k.leaf)
      → IsWhiteSpace (shown_prefix mode one_space (node_decor n)) → MayFollow (shown_suffix mode [] (node_decor n))
      → LineSuits mode MayFollow (ks ++ one k) n
  line-suits MayFollow ks k n h a b c d =
      record {
        leading = subst (λ o. IsWholeTrivia (shown_prefix mode [] o)) (sym (last-key ks k)) a;
        segments = segments-spaced (ks ++ one k) h;
        before_equals = subst (λ o. IsWhiteSpace (shown_suffix mode one_space o)) (sym (last-key ks k)) b;
        after_equals = c;
        trailing = d;
      }

  pub keys-append : (ks : List Key) (k : Key) → AreSpacedKeys ks → IsSpacedKey k → AreSpacedKeys (ks ++ one k)
  keys-append ks k h g = all-append IsSpacedKey ks (one k) h (g, tt)

  -- ---- entries of inline tables

  -- a pair in the grammar, as an entry
  record IsFitEntry (e : Entry) : Type 0 where
    pub leading : IsWholeTrivia (shown_prefix mode [] e.leaf)
    pub equals : IsWhiteSpace (shown_suffix mode one_space e.leaf)
    pub value : IsValue e.value
    pub before : IsWhiteSpace e.before
    pub after : IsWholeTrivia e.after

  abbrev IsFitMention : Mention Entry → Type 0
  IsFitMention m = IsSpacedSegment m.segment × IsFitEntry m.source

  line-fit : (e : Entry) (start : ℕ) (p : Path) (ss : List Segment) → AllByRecursion IsSpacedSegment ss → IsFitEntry e
      → AllByRecursion IsFitMention (line_mentions e start p ss)
  line-fit e start p [] h g = tt
  line-fit e start p (s ∷ []) h g = ((h.0, g), tt)
  line-fit e start p (s ∷ r ∷ rest) h g = ((h.0, g), line-fit e (next_start start s) (to_key p s.key) (r ∷ rest) h.1 g)

  entries-fit : (ps : Pairs) (i : ℕ) → ArePairs ps → AllByRecursion IsFitMention (entries (owned_in mode) ps i)
  entries-fit no_pairs i h = tt
  entries-fit (pair f v ps) i h =
      all-append IsFitMention (line_mentions (entry_of (owned_in mode) i f v) (i + length f.leading) [] f.path)
      (entries (owned_in mode) ps (i + length (frame_text f (value_text v)) + 1))
      (line-fit (entry_of (owned_in mode) i f v) (i + length f.leading) [] f.path h.0.0.segments
      record {
        leading = lean-trivia mode f.leading h.0.0.leading;
        equals = lean-white f.before_equals h.0.0.before_equals;
        value = h.1;
        before = h.0.0.after_equals;
        after = h.0.0.trailing;
      })
      (entries-fit ps (i + length (frame_text f (value_text v)) + 1) h.2)

  -- the item of a slot, where its own suit
  slot-suits : (n : Node) → ((v : Value) (i : ℕ) (before after : Text) → IsValue v → IsValueNode (owned_in mode) v i before after n
      → Suits mode n)
      → ((m : Mention Entry) (ns : List (Mention Entry)) (js : List Key) → AllByRecursion IsFitMention ns → AreSpacedKeys js
      → IsMadeByKey (owned_in mode) m ns n
      → MatchBool (is_line_node n) (LineSuits mode IsWholeTrivia js n × Suits mode n) (NodeSuitsInside mode n js))
      → (k : Key) (ms : List (Mention Entry)) (m : Mention Entry) (js : List Key) → AllByRecursion IsFitMention ms → IsFitMention m
      → AreSpacedKeys js
      → k ≡ key_of (owned_in mode) m.source.leaf m → IsSlotNode (owned_in mode) ms m n
      → MatchBool (is_line_node n) (LineSuits mode IsWholeTrivia (js ++ one k) n × Suits mode n) (NodeSuitsInside mode n (js ++ one k))
  slot-suits n value made k ms m js h f s key_is g =
      let v : Value = m.source.value in
      let here : AreSpacedKeys (js ++ one k) = keys-append js k s (subst IsSpacedKey (sym key_is) (key-spaced m.source.leaf m f.0)) in
      elim (cases_Bool (ends_path m.role)) [
        | inl e ↦
            let is : IsValueNode (owned_in mode) v m.source.start m.source.before m.source.after n = MatchBool-at_true _ _ e g in
            let leaf_is : k.leaf ≡ m.source.leaf = ap (λ (j : Key). j.leaf) key_is ∙ ap (λ b. if b then m.source.leaf else unset) e in
            let decor : node_decor n ≡ record { prefix = Some (owned m.source.before); suffix = Some (owned m.source.after) } =
            owned-decor mode v m.source.start 0 0 m.source.before m.source.after n is in
            on-true (is_line_node n) (LineSuits mode IsWholeTrivia (js ++ one k) n × Suits mode n) (NodeSuitsInside mode n (js ++ one k))
            (value-line (owned_in mode) v m.source.start m.source.before m.source.after n is) (
              line-suits IsWholeTrivia js k n here (subst (λ (d : Decor). IsWholeTrivia (shown_prefix mode [] d)) (sym leaf_is) f.1.leading)
                  (subst (λ (d : Decor). IsWhiteSpace (shown_suffix mode one_space d)) (sym leaf_is) f.1.equals)
                  (subst (λ (d : Decor). IsWhiteSpace (shown_prefix mode one_space d)) (sym decor) (lean-white m.source.before f.1.before))
                  (subst (λ (d : Decor). IsWholeTrivia (shown_suffix mode [] d)) (sym decor) (lean-trivia mode m.source.after f.1.after)),
              value v m.source.start m.source.before m.source.after f.1.value is,
            )
        | inr e ↦
            made m (under (at_key m.segment.key) ms) (js ++ one k)
            (all-under IsFitMention (λ i t p x a. a) (at_key m.segment.key) ms h) here (MatchBool-at_false _ _ e g)
      ]

  mutual
    pub node-suits : (n : Node) (v : Value) (i : ℕ) (before after : Text) → IsValue v → IsValueNode (owned_in mode) v i before after n
        → Suits mode n
    node-suits (leaf s r d) v i before after h g = tt
    node-suits (table f ss) v i before after h g = tt
    node-suits (tables e xs) v i before after h g = tt
    node-suits nothing v i before after h g = tt
    node-suits (list f xs) (scalar s t) i before after h g = absurd g
    node-suits (list f xs) (inline_table ps comma t) i before after h g = absurd g
    node-suits (list f xs) (array es comma t) i before after h g = (
      subst (λ r. IsWholeTrivia (shown_raw mode r)) (sym (ap (λ (a : ArrayFields). a.trailing) g.0))
          (lean-trivia mode t (close-trivia (has_elements es) comma t h.0)),
      items-suit xs es (i + length before + 1) h.1 g.1,
    )
    node-suits (inline f ss) (scalar s t) i before after h g = absurd g
    node-suits (inline f ss) (array es comma t) i before after h g = absurd g
    node-suits (inline f ss) (inline_table ps comma t) i before after h g =
        let ms : List (Mention Entry) = entries (owned_in mode) ps (i + length before + 1) in
        let fit = entries-fit ps (i + length before + 1) h.1 in (
          subst (λ r. IsWholeTrivia (shown_raw mode r)) (sym (ap (λ (a : InlineFields). a.trailing) g.0))
              (lean-trivia mode t (close-trivia (has_pairs ps) comma t h.0)),
          inside-suits ss ms (kept ms) [] fit (kept-all IsFitMention [] ms fit) tt g.1,
        )

    items-suit : (xs : Items) (es : Elements) (i : ℕ) → AreElements es → AreElementNodes (owned_in mode) es i xs → ItemsSuit mode xs
    items-suit no_items es i h g = tt
    items-suit (item n xs) no_elements i h g = absurd g
    items-suit (item n xs) (element a v es) i h g =
        let decor : node_decor n ≡ record { prefix = Some (owned a.before); suffix = Some (owned a.after) } =
        owned-decor mode v i 0 0 a.before a.after n g.0 in (
          on-true (is_value_node n) (ElementSuits mode n × Suits mode n) (Unit {0})
              (value-item (owned_in mode) v i a.before a.after n g.0) (
                subst (λ (d : Decor). IsWholeTrivia (shown_prefix mode [] d)
                    × IsWholeTrivia (shown_suffix mode [] d)) (sym decor) (lean-trivia mode a.before h.0, lean-trivia mode a.after h.1),
                node-suits n v i a.before a.after h.2 g.0,
              ),
          items-suit xs es (i + length a.before + length (value_text v) + length a.after + 1) h.3 g.1,
        )

    inside-suits : (ss : Slots) (ms ks : List (Mention Entry)) (js : List Key) → AllByRecursion IsFitMention ms
        → AllByRecursion IsFitMention ks → AreSpacedKeys js
        → AreEntrySlots (owned_in mode) ms ks ss → InsideSuits mode ss js
    inside-suits no_slots ms ks js h f s g = tt
    inside-suits (slot k n ss) ms [] js h f s g = absurd g
    inside-suits (slot k n ss) ms (m ∷ ks) js h f s g = (
      slot-suits n (λ v i before after a b. node-suits n v i before after a b) (λ i ns us a b c. made-suits n i ns us a b c) k ms m js h f.0
          s g.0 (slot-node (owned_in mode) ms m ks k n ss g),
      inside-suits ss ms ks js h f.1 s g.2,
    )

    made-suits : (n : Node) (m : Mention Entry) (ns : List (Mention Entry)) (js : List Key) → AllByRecursion IsFitMention ns
        → AreSpacedKeys js → IsMadeByKey (owned_in mode) m ns n
        → MatchBool (is_line_node n) (LineSuits mode IsWholeTrivia js n × Suits mode n) (NodeSuitsInside mode n js)
    made-suits (inline f us) m ns js h s g =
        on-false (not f.is_dotted) (LineSuits mode IsWholeTrivia js (inline f us)
        × Suits mode (inline f us)) (InsideSuits mode us js) (ap (λ (a : InlineFields). not a.is_dotted) g.0)
        (inside-suits us ns (kept ns) js h (kept-all IsFitMention [] ns h) s g.1)
    made-suits (leaf c r d) m ns js h s g = absurd g
    made-suits (list f xs) m ns js h s g = absurd g
    made-suits (table f us) m ns js h s g = absurd g
    made-suits (tables e xs) m ns js h s g = absurd g
    made-suits nothing m ns js h s g = absurd g
