-- The item of a value, in owned form, is printed as the value's normal form.
use Rattle.std.proofs.Common.{◌≡◌, refl, sym, ◌∙◌, ap, subst, ℕ, suc, ◌+◌, Bool, true, false, List, [], ◌∷◌, length, Some, inl, inr}
use Rattle.std.specs.Prelude.{map, flat_map}
use Rattle.std.specs.List.{AllByRecursion}
use Rattle.std.proofs.lemmas.Bool.{cases_Bool}
use Rattle.std.proofs.lemmas.List.Folds.{flat_map-map}
use Rattle.toml_edit_model.specs.Mode.{Mode, shown_text}
use Rattle.toml_edit_model.specs.Text.{Text, is_empty}
use Rattle.toml_edit_model.specs.Trivia.{IsWholeTrivia}
use Rattle.toml_edit_model.specs.Syntax.{Segment, Around, Frame, Value, scalar, array, inline_table, Elements, no_elements, element, Pairs}
use Rattle.toml_edit_model.specs.Syntax.{no_pairs, pair, value_text, frame_text, IsFrame, IsClose, has_pairs, IsValue, AreElements}
use Rattle.toml_edit_model.specs.Syntax.{ArePairs}
use Rattle.toml_edit_model.specs.Paths.{Path, Mention, PairSource, line_mentions, pair_mentions}
use Rattle.toml_edit_model.specs.Accepted.{all_agree, has_agreeing_pairs, elements_have_agreeing_pairs, pairs_have_agreeing_pairs}
use Rattle.toml_edit_model.specs.Normal.{Pair, pairs_of, pair_before, kept_pair, some_of, ordered_pairs, shown_frame, shown_around}
use Rattle.toml_edit_model.specs.Normal.{normal_value, normal_elements, normal_pairs}
use Rattle.toml_edit_model.specs.Tree.{Decor, shown_prefix, shown_suffix, shown_raw, scalar_text, Node, leaf, list, inline, Items, no_items}
use Rattle.toml_edit_model.specs.Tree.{item, Slots, node_decor, is_value_node}
use Rattle.toml_edit_model.specs.TreeOf.{owned_in, decor_at, Entry, entries, IsValueNode, AreElementNodes, AreEntrySlots}
use Rattle.toml_edit_model.specs.Print.{one_space, Line, frame_of, segments, close_array, close_inline, around_of, pairs_of_lines, value_of}
use Rattle.toml_edit_model.specs.Print.{elements_of, inside_lines}
use Rattle.toml_edit_laws.proofs.common.Tests.{and_left, and_right}
use Rattle.toml_edit_laws.proofs.common.WhiteSpace.{white-shown}
use Rattle.toml_edit_laws.proofs.common.OrderLaws.{all-sorted}
use Rattle.toml_edit_laws.proofs.mentions.GatheredLines.{keys_before, AllFilled}
use Rattle.toml_edit_laws.proofs.mentions.MentionGroups.{lower, flat_lines}
use Rattle.toml_edit_laws.proofs.mentions.KeptPaths.{kept_below, kept_in, lines-kept, own-kept, lines-ranked}
use Rattle.toml_edit_laws.proofs.inline_tables.PairLines.{sorted-mentions, lower-lines}
use Rattle.toml_edit_laws.proofs.inline_tables.InlineLines.{AreLines, PrintsPair, IsLevel, lines-inside}
use Rattle.toml_edit_laws.proofs.values.ValueItems.{owned-decor, value-line, value-item}
use Rattle.toml_edit_laws.proofs.values.ClosingLaws.{close-elements, close-pairs, has-normal}
use Rattle.toml_edit_laws.proofs.inline_tables.PairPlaces.{PairAt, pairs_at, pair_path, pair_entry, entry_start, normal_source}
use Rattle.toml_edit_laws.proofs.inline_tables.PairPlaces.{normal_start, normal_line, entries-are, mentions-are, pairs-filled, pairs-spaced}
use Rattle.toml_edit_laws.proofs.inline_tables.PairPlaces.{pairs-part}
use Rattle.toml_edit_laws.proofs.common.Each.{all-map}
use Rattle.toml_edit_model.specs.Order.{insert_by, sorted_by}
use Rattle.toml_edit_model.specs.Roles.{may_meet_inline}
use Rattle.toml_edit_model.specs.Kept.{stands_before, rank, kept_path, kept_segment, unspaced_ends}
use Rattle.toml_edit_model.specs.TableMentions.{kept}

kept-pair : (all : List (Mention PairSource)) (source : PairSource) (start : ℕ) (p : Path) (ss : List Segment) → is_empty ss ≡ false
    → kept_pair all (line_mentions source start p ss) ≡ Some (
      record source.frame {
        path =
            kept_path all (line_mentions source start p ss);
      },
      source.value,
    )
kept-pair all source start p [] h = absurd cc
kept-pair all source start p (s ∷ []) h = refl
kept-pair all source start p (s ∷ r ∷ rest) h = refl

-- there are ordered pairs where there are pairs
has-inserted : {A : Type 0} (f : A → Pair) (before : A → A → Bool) (a : A) (xs : List A)
    → has_pairs (pairs_of (map f (insert_by before a xs))) ≡ true
has-inserted f before a [] = refl
has-inserted f before a (x ∷ xs) = elim (cases_Bool (before a x)) [ inl e ↦ rw e refl | inr e ↦ rw e refl ]

module _ (mode : Mode) where
  -- ---- printed pairs

  -- a frame of the decors of its last key and its value
  abbrev framed : Text → Text → Decor → List Segment → Decor → Frame
  framed key_default suffix_default key path value =
      record {
        leading = shown_prefix mode key_default key;
        path = path;
        before_equals = shown_suffix mode one_space key;
        after_equals = shown_prefix mode one_space value;
        trailing = shown_suffix mode suffix_default value;
      }

  -- the kept segments of the pair's path
  abbrev kept_of : List (Mention PairSource) → PairAt → List Segment
  kept_of all x = map (kept_segment all) (normal_line mode x)

  abbrev pub normal_pair : List (Mention PairSource) → PairAt → Pair
  normal_pair all x = (record (shown_frame mode x.frame) { path = kept_path all (normal_line mode x) }, normal_value mode x.value)

  -- the line is printed as the normal pair, whatever the defaults
  abbrev PrintsNormal : List (Mention PairSource) → Line → PairAt → Type 0
  PrintsNormal all l x = (l.value ≡ (normal_pair all x).1) × ((a b : Text) → frame_of mode a b l ≡ (normal_pair all x).0)

  -- the pair is in the grammar, and its value's item is printed as its normal form
  abbrev pub IsNormalPair : PairAt → Type 0
  IsNormalPair x =
      IsFrame IsWholeTrivia x.frame
      × ((i : ℕ) (before after : Text) (n : Node) → IsValueNode (owned_in mode) x.value i before after n → value_of mode n
      ≡ normal_value mode x.value)

  prints-normal : (all : List (Mention PairSource)) (x : PairAt) → IsNormalPair x
      → PrintsPair mode (pair_entry mode) (kept_of all) (PrintsNormal all) x
  prints-normal all x h n ks is leaf_is path_is =
      let e : Entry = pair_entry mode x in
      let f : Frame = x.frame in
      let decor_is : node_decor n ≡ decor_at (owned_in mode) 0 f.after_equals 0 f.trailing =
      owned-decor mode x.value e.start 0 0 e.before e.after n is in (
        value-line (owned_in mode) x.value e.start e.before e.after n is,
        (
          h.1 e.start e.before e.after n is,
          λ a b.
              ap (λ d. framed a b d (segments mode ks) (node_decor n)) leaf_is
              ∙ ap (λ p. framed a b e.leaf p (node_decor n)) path_is
              ∙ ap (λ d. framed a b e.leaf (unspaced_ends (kept_of all x)) d) decor_is
              ∙ ap (λ t. record (shown_frame mode f) {
                path = unspaced_ends (kept_of all x);
                before_equals = t;
                after_equals =
                    shown_text mode f.after_equals;
              })
              (white-shown mode f.before_equals h.0.0.before_equals)
              ∙ ap (λ t. record (shown_frame mode f) { path = unspaced_ends (kept_of all x); after_equals = t })
              (white-shown mode f.after_equals h.0.0.after_equals),
        ),
      )

  printed-pairs : (all : List (Mention PairSource)) (ls : List Line) (xs : List PairAt) → AreLines (PrintsNormal all) ls xs
      → pairs_of_lines mode ls ≡ pairs_of (map (normal_pair all) xs)
  printed-pairs all [] [] h = refl
  printed-pairs all [] (x ∷ xs) h = absurd h
  printed-pairs all (l ∷ ls) [] h = absurd h
  printed-pairs all (l ∷ []) (x ∷ []) h = ap (λ f. pair f l.value no_pairs) (h.0.1 one_space one_space)
      ∙ ap (λ v. pair (normal_pair all x).0 v no_pairs) h.0.0
  printed-pairs all (l ∷ []) (x ∷ y ∷ xs) h = absurd h.1
  printed-pairs all (l ∷ m ∷ ls) (x ∷ xs) h =
      ap (λ f. pair f l.value (pairs_of_lines mode (m ∷ ls))) (h.0.1 one_space [])
      ∙ ap (λ v. pair (normal_pair all x).0 v (pairs_of_lines mode (m ∷ ls))) h.0.0
      ∙ ap (pair (normal_pair all x).0 (normal_pair all x).1) (printed-pairs all (m ∷ ls) xs h.1)

  -- ---- ordered pairs

  kept-pairs : (all : List (Mention PairSource)) (xs : List PairAt) → AllFilled pair_path xs
      → some_of (map (kept_pair all) (map (normal_line mode) xs)) ≡ map (normal_pair all) xs
  kept-pairs all [] h = refl
  kept-pairs all (x ∷ xs) h =
      ap (λ o. some_of (o ∷ map (kept_pair all) (map (normal_line mode) xs)))
      (kept-pair all (normal_source mode x) (normal_start mode x) [] (pair_path x) h.0)
      ∙ ap (λ ys. normal_pair all x ∷ ys) (kept-pairs all xs h.1)

  -- the ranks and kept segments of the normal pairs
  abbrev ranks : List PairAt → Path → ℕ
  ranks xs = rank (map (normal_line mode) xs)

  abbrev flat_normal : List PairAt → List (Mention PairSource)
  flat_normal xs = flat_lines (normal_source mode) (normal_start mode) pair_path xs

  abbrev sorted_pairs : List PairAt → List PairAt
  sorted_pairs xs = sorted_by (λ x y. keys_before (ranks xs) [] (pair_path x) (pair_path y)) xs

  ordered-are : (ps : Pairs) (i : ℕ) → ArePairs ps
      → ordered_pairs (normal_pairs mode ps) ≡ pairs_of (map (normal_pair (flat_normal (pairs_at mode ps i 0 0)))
      (sorted_pairs (pairs_at mode ps i 0 0)))
  ordered-are ps i h =
      let xs : List PairAt = pairs_at mode ps i 0 0 in
      ap (λ mss. pairs_of (some_of (map (kept_pair (flat_map (λ ms. ms) mss)) (sorted_by (pair_before mss) mss))))
      (mentions-are mode ps i 0 0)
      ∙ ap (λ all. pairs_of (some_of (map (kept_pair all) (sorted_by (stands_before (ranks xs)) (map (normal_line mode) xs)))))
      (flat_map-map (λ ms. ms) (normal_line mode) xs)
      ∙ ap (λ mss. pairs_of (some_of (map (kept_pair (flat_normal xs)) mss)))
      (sorted-mentions (ranks xs) (normal_source mode) (normal_start mode) [] pair_path xs)
      ∙ ap pairs_of (kept-pairs (flat_normal xs) (sorted_pairs xs)
      (all-sorted (λ x. is_empty (pair_path x) ≡ false) (λ x y. keys_before (ranks xs) [] (pair_path x) (pair_path y)) xs
      (pairs-filled mode ps i 0 0 h)))

  has-ordered : (ps : Pairs) (i : ℕ) (f : PairAt → Pair) (before : PairAt → PairAt → Bool)
      → has_pairs (pairs_of (map f (sorted_by before (pairs_at mode ps i 0 0)))) ≡ has_pairs ps
  has-ordered no_pairs i f before = refl
  has-ordered (pair e v ps) i f before =
      has-inserted f before (record { frame = e; value = v; place = i; number = 0; start = 0 })
      (sorted_by before (pairs_at mode ps (i + length (frame_text e (value_text v)) + 1) (0
      + length (frame_text (shown_frame mode e) (value_text (normal_value mode v))) + 1) 1))

  -- The lines inside an inline table are printed as its ordered normal pairs.
  inside-normal : (ps : Pairs) (i : ℕ) (ss : Slots) → ArePairs ps → all_agree may_meet_inline (pair_mentions 0 ps) ≡ true
      → AllByRecursion IsNormalPair (pairs_at mode ps i 0 0)
      → AreEntrySlots (owned_in mode) (entries (owned_in mode) ps i) (kept (entries (owned_in mode) ps i)) ss
      → pairs_of_lines mode (inside_lines mode ss []) ≡ ordered_pairs (normal_pairs mode ps)
  inside-normal ps i ss h agrees normals is =
      let xs : List PairAt = pairs_at mode ps i 0 0 in
      let all : List (Mention PairSource) = flat_normal xs in
      let level : IsLevel mode (pair_entry mode) (ranks xs) (kept_in all) (kept_of all) (PrintsNormal all) [] pair_path entry_start [] xs
      (entries (owned_in mode) ps i) =
      record {
        filled = pairs-filled mode ps i 0 0 h;
        part = pairs-part mode ps i 0 0 0 0 h agrees;
        spaced = pairs-spaced mode ps i 0 0 h;
        ranked = lines-ranked (normal_source mode) (normal_start mode) pair_path xs (pairs-filled mode ps i 0 0 h);
        kept = lines-kept (normal_source mode) (normal_start mode) pair_path xs;
        mentioned = ap lower (entries-are mode ps i 0 0) ∙ lower-lines (pair_entry mode) entry_start pair_path xs;
        spelled = all-map IsNormalPair (λ x. kept_of all x ≡ kept_below (kept_in all) [] (pair_path x)) xs
            (λ x g. own-kept all (normal_source mode x) (normal_start mode x) [] (pair_path x)) normals;
        printed = all-map IsNormalPair (PrintsPair mode (pair_entry mode) (kept_of all) (PrintsNormal all)) xs
            (λ x g. prints-normal all x g) normals;
      } in
      printed-pairs all (inside_lines mode ss []) (sorted_pairs xs)
      (lines-inside mode (pair_entry mode) (ranks xs) (kept_in all) (kept_of all) (PrintsNormal all) ss [] pair_path entry_start [] xs
      (entries (owned_in mode) ps i) level is)
      ∙ sym (ordered-are ps i h)

  -- ---- values

  -- an element with the item of its value
  element-around : (a : Around) (v : Value) (i : ℕ) (n : Node) (is_first : Bool) → IsValueNode (owned_in mode) v i a.before a.after n
      → around_of mode is_first (node_decor n) ≡ shown_around mode a
  element-around a v i n is_first h = ap (around_of mode is_first) (owned-decor mode v i 0 0 a.before a.after n h)

  element-first : (n : Node) (xs : Items) (is_first : Bool) → is_value_node n ≡ true
      → elements_of mode (item n xs) is_first ≡ element (around_of mode is_first (node_decor n)) (value_of mode n)
      (elements_of mode xs false)
  element-first n xs is_first h = by_test (is_value_node n) h
    where
      by_test : (b : Bool) → b ≡ true
          → (elim b [
            | true ↦ element (around_of mode is_first (node_decor n)) (value_of mode n) (elements_of mode xs false)
            | false ↦
                elements_of mode xs is_first
          ])
          ≡ element (around_of mode is_first (node_decor n)) (value_of mode n) (elements_of mode xs false)
      by_test true e = refl
      by_test false e = cc

  mutual
    -- The item of a value in owned form is printed as the value's normal form.
    pub value_normal : (v : Value) (i : ℕ) (before after : Text) (n : Node) → IsValue v → has_agreeing_pairs v ≡ true
        → IsValueNode (owned_in mode) v i before after n → value_of mode n ≡ normal_value mode v
    value_normal (scalar s t) i before after (leaf r spelling d) is agrees h =
        ap (λ o. scalar r (scalar_text r o)) h.1 ∙ ap (λ x. scalar x t) h.0
    value_normal (array es comma t) i before after (list f xs) is agrees h =
        ap (λ g. close_array g.comma (shown_raw mode g.trailing) (elements_of mode xs true)) h.0
        ∙ ap (close_array comma (shown_text mode t)) (elements_normal es (i + length before + 1) xs true is.1 agrees h.1)
        ∙ close-elements mode (normal_elements mode es) comma t (subst (λ b. IsClose b comma t) (sym (has-normal mode es)) is.0)
    value_normal (inline_table ps comma t) i before after (inline f ss) is agrees h =
        let test : Bool = all_agree may_meet_inline (pair_mentions 0 ps) in
        let at : ℕ = i + length before + 1 in
        let xs : List PairAt = pairs_at mode ps at 0 0 in
        let has : has_pairs (ordered_pairs (normal_pairs mode ps)) ≡ has_pairs ps =
        ap has_pairs (ordered-are ps at is.1)
        ∙ has-ordered ps at (normal_pair (flat_normal xs)) (λ x y. keys_before (ranks xs) [] (pair_path x) (pair_path y)) in
        ap (λ g. close_inline g.comma (shown_raw mode g.trailing) (pairs_of_lines mode (inside_lines mode ss []))) h.0
        ∙ ap (close_inline comma (shown_text mode t))
        (inside-normal ps at ss is.1 (and_left test (pairs_have_agreeing_pairs ps) agrees)
        (pairs_normal ps at 0 0 is.1 (and_right test (pairs_have_agreeing_pairs ps) agrees)) h.1)
        ∙ close-pairs mode (ordered_pairs (normal_pairs mode ps)) comma t (subst (λ b. IsClose b comma t) (sym has) is.0)
    value_normal v i before after n is agrees h = absurd h

    pub elements_normal : (es : Elements) (i : ℕ) (xs : Items) (is_first : Bool) → AreElements es → elements_have_agreeing_pairs es ≡ true
        → AreElementNodes (owned_in mode) es i xs → elements_of mode xs is_first ≡ normal_elements mode es
    elements_normal no_elements i no_items is_first is agrees h = refl
    elements_normal (element a v es) i (item n xs) is_first is agrees h =
        element-first n xs is_first (value-item (owned_in mode) v i a.before a.after n h.0)
        ∙ ap (λ b. element b (value_of mode n) (elements_of mode xs false)) (element-around a v i n is_first h.0)
        ∙ ap (λ w. element (shown_around mode a) w (elements_of mode xs false))
        (value_normal v i a.before a.after n is.2 (and_left (has_agreeing_pairs v) (elements_have_agreeing_pairs es) agrees) h.0)
        ∙ ap (element (shown_around mode a) (normal_value mode v))
        (elements_normal es (i + length a.before + length (value_text v) + length a.after + 1) xs false is.3
        (and_right (has_agreeing_pairs v) (elements_have_agreeing_pairs es) agrees) h.1)
    elements_normal es i xs is_first is agrees h = absurd h

    pairs_normal : (ps : Pairs) (i start number : ℕ) → ArePairs ps → pairs_have_agreeing_pairs ps ≡ true
        → AllByRecursion IsNormalPair (pairs_at mode ps i start number)
    pairs_normal no_pairs i start number is agrees = tt
    pairs_normal (pair f v ps) i start number is agrees = (
      (
        is.0,
        λ j before after n h. value_normal v j before after n is.1
            (and_left (has_agreeing_pairs v) (pairs_have_agreeing_pairs ps) agrees) h,
      ),
      pairs_normal ps (i + length (frame_text f (value_text v)) + 1) (start
          + length (frame_text (shown_frame mode f) (value_text (normal_value mode v))) + 1) (suc number)
          is.2 (and_right (has_agreeing_pairs v) (pairs_have_agreeing_pairs ps) agrees),
    )
