-- The lines inside an inline table in owned form: those of its pairs in their order, with their kept keys.
use Rattle.std.proofs.Common.{◌≡◌, refl, sym, ◌∙◌, ap, subst, ℕ, Bool, true, false, List, [], ◌∷◌, ◌++◌, append_assoc, Option, Some}
use Rattle.std.specs.Prelude.{not, map, flat_map, unwrap_or}
use Rattle.std.specs.List.{AllByRecursion}
use Rattle.std.proofs.lemmas.List.{map-append}
use Rattle.toml_edit_model.specs.Mode.{Mode}
use Rattle.toml_edit_model.specs.Text.{one, is_empty}
use Rattle.toml_edit_model.specs.Syntax.{Segment, IsSpacedSegment}
use Rattle.toml_edit_model.specs.Paths.{at_key, Path, to_key, Mention, mention_of}
use Rattle.toml_edit_model.specs.Tree.{Key, Node, nothing, leaf, list, inline, table, tables, Slots, no_slots, slot}
use Rattle.toml_edit_model.specs.TreeOf.{owned_in, Entry, IsValueNode, AreEntrySlots}
use Rattle.toml_edit_model.specs.Print.{Line, segments, last_leaf, is_line_node, value_of, inside_lines, lines_inside, line_of}
use Rattle.toml_edit_laws.proofs.common.Tests.{same_text-is}
use Rattle.toml_edit_laws.proofs.mentions.GatheredLines.{first_key, rest_of, has_first, keys_before, group, group-part, group-sorted, rests}
use Rattle.toml_edit_laws.proofs.mentions.GatheredLines.{alone, go_on, AllFilled, AllPart}
use Rattle.toml_edit_laws.proofs.mentions.Leaders.{group-ranked, leaders, leading, AreRanked, Leads, gathered}
use Rattle.toml_edit_laws.proofs.mentions.MentionGroups.{lower, first_mention, below_start, flat_lines, under-lower, below-lines}
use Rattle.toml_edit_laws.proofs.mentions.MentionGroups.{kept-lower, kept-lines}
use Rattle.toml_edit_laws.proofs.mentions.KeptPaths.{AreKept, kept_below, group-kept, kept-here, key_segment, segments-bare, last-key}
use Rattle.toml_edit_laws.proofs.mentions.KeptPaths.{key-shown}
use Rattle.toml_edit_laws.proofs.common.Each.{all-filter, all_pass, all-map}
use Rattle.toml_edit_model.specs.Order.{sorted_by}
use Rattle.toml_edit_model.specs.Roles.{value_role, dotted_role}
use Rattle.toml_edit_model.specs.Kept.{unspaced_ends}
use Rattle.toml_edit_model.specs.TableMentions.{under, kept}

-- each line is of the element at its place
abbrev pub AreLines : {X : Type 0} → (Line → X → Type 0) → List Line → List X → Type 0
AreLines Is [] [] = Unit {0}
AreLines Is [] (x ∷ xs) = ⊥
AreLines Is (l ∷ ls) [] = ⊥
AreLines Is (l ∷ ls) (x ∷ xs) = Is l x × AreLines Is ls xs

pub lines-append : {X : Type 0} (Is : Line → X → Type 0) (ls : List Line) (xs : List X) (ms : List Line) (ys : List X)
    → AreLines Is ls xs → AreLines Is ms ys → AreLines Is (ls ++ ms) (xs ++ ys)
lines-append Is [] [] ms ys h g = g
lines-append Is [] (x ∷ xs) ms ys h g = absurd h
lines-append Is (l ∷ ls) [] ms ys h g = absurd h
lines-append Is (l ∷ ls) (x ∷ xs) ms ys h g = (h.0, lines-append Is ls xs ms ys h.1 g)

-- what holds of each line of a table holds of one that leads
leader-has : {X : Type 0} (P : X → Type 0) (path_of : X → List Segment) (xs : List X) (x : X) → AllByRecursion P xs → Leads path_of xs x
    → P x
leader-has P path_of xs x h leads =
    (subst (AllByRecursion P) leads.1 (all-filter P (λ y. has_first (first_key (path_of x)) (path_of y)) xs h)).0

rest-spaced : (ss : List Segment) → AllByRecursion IsSpacedSegment ss → AllByRecursion IsSpacedSegment (rest_of ss)
rest-spaced [] h = tt
rest-spaced (s ∷ ss) h = h.1

module _ (mode : Mode) where
  -- the slots inside a dotted inline table are those of these mentions
  abbrev AreInside : List (Mention Entry) → Node → Type 0
  AreInside ms (inline f ss) = AreEntrySlots (owned_in mode) ms (kept ms) ss
  AreInside ms _ = ⊥

  -- what the slot of a key says that ends no path
  made-inside : (source : Entry) (start : ℕ) (p : Path) (s : Segment) (ms rest : List (Mention Entry)) (k : Key) (n : Node) (ss : Slots)
      → AreEntrySlots (owned_in mode) ms (mention_of source start p dotted_role s ∷ rest) (slot k n ss)
      → (is_line_node n ≡ false) × AreInside (under (at_key s.key) ms) n
  made-inside source start p s ms rest k (inline f us) ss h = (ap (λ g. not g.is_dotted) h.1.0, h.1.1)
  made-inside source start p s ms rest k nothing ss h = absurd h.1
  made-inside source start p s ms rest k (leaf c r d) ss h = absurd h.1
  made-inside source start p s ms rest k (list f xs) ss h = absurd h.1
  made-inside source start p s ms rest k (table f us) ss h = absurd h.1
  made-inside source start p s ms rest k (tables e xs) ss h = absurd h.1

  -- one key further down, where that key is kept and printed so
  pub keys-down : (kept_at : Path → Option Segment) (p : Path) (ks : List Key) (k : Key) (s : Segment) (ss : List Segment)
      → kept_at (to_key p s.key) ≡ Some s → key_segment mode k ≡ s → has_first s.key ss ≡ true
      → map (key_segment mode) ks ++ kept_below kept_at p ss ≡ map (key_segment mode) (ks ++ one k)
      ++ kept_below kept_at (to_key p s.key) (rest_of ss)
  keys-down kept_at p ks k s [] here shown h = absurd cc
  keys-down kept_at p ks k s (t ∷ ts) here shown h =
      ap (λ key. map (key_segment mode) ks ++ (unwrap_or (kept_at (to_key p key)) t ∷ kept_below kept_at (to_key p key) ts))
      (sym (same_text-is s.key t.key h))
      ∙ ap (λ o. map (key_segment mode) ks ++ (unwrap_or o t ∷ kept_below kept_at (to_key p s.key) ts)) here
      ∙ ap (λ r. map (key_segment mode) ks ++ (r ∷ kept_below kept_at (to_key p s.key) ts)) (sym shown)
      ∙ sym (append_assoc (map (key_segment mode) ks) (one (key_segment mode k)) (kept_below kept_at (to_key p s.key) ts))
      ∙ ap (λ ys. ys ++ kept_below kept_at (to_key p s.key) ts) (sym (map-append (key_segment mode) ks (one k)))

  -- the lines of a slot, by whether its item is a line of its own
  abbrev slot_lines : Bool → List Key → Node → List Line
  slot_lines b ks n = elim b [ true ↦ line_of ks n (value_of mode n) | false ↦ lines_inside mode n ks ]

  -- Pairs are printed by a relation between lines and pairs, where it holds of every line whose item is the pair's value and
  -- whose keys spell the pair's path.
  abbrev pub PrintsPair : {X : Type 0} → (X → Entry) → (X → List Segment) → (Line → X → Type 0) → X → Type 0
  PrintsPair entry full Prints x =
      (n : Node) (ks : List Key)
      → IsValueNode (owned_in mode) (entry x).value (entry x).start (entry x).before (entry x).after n
      → last_leaf ks ≡ (entry x).leaf → segments mode ks ≡ unspaced_ends (full x)
      → (is_line_node n ≡ true) × Prints (record { keys = ks; item = n; value = value_of mode n }) x

  module _ {X : Type 0} (entry : X → Entry) (rank_of : Path → ℕ) (kept_at : Path → Option Segment) (full : X → List Segment) (Prints : Line
      → X → Type 0) where
    -- Pairs whose keys pass through this path: their segments from there on and where these begin, the keys down to the path, and
    -- the mentions.
    pub record IsLevel (p : Path) (path_of : X → List Segment) (start : X
        → ℕ) (ks : List Key) (xs : List X) (ms : List (Mention Entry)) : Type 0 where
      pub filled : AllFilled path_of xs
      pub part : AllPart path_of xs
      pub spaced : AllByRecursion (λ x. AllByRecursion IsSpacedSegment (path_of x)) xs
      pub ranked : AreRanked rank_of p path_of xs
      pub kept : AreKept kept_at p path_of xs
      pub mentioned : lower ms ≡ flat_lines entry start path_of xs
      pub spelled : AllByRecursion (λ x. full x ≡ map (key_segment mode) ks ++ kept_below kept_at p (path_of x)) xs
      pub printed : AllByRecursion (PrintsPair entry full Prints) xs

    abbrev before : Path → (X → List Segment) → X → X → Bool
    before p path_of x y = keys_before rank_of p (path_of x) (path_of y)

    abbrev IsInside : Node → Type 0
    IsInside n =
        (p : Path) (path_of : X → List Segment) (start : X → ℕ) (ks : List Key) (xs : List X) (ms : List (Mention Entry))
        → IsLevel p path_of start ks xs ms → AreInside ms n → AreLines Prints (lines_inside mode n ks) (sorted_by (before p path_of) xs)

    -- the pairs of a group, where their first key was kept as k
    level-below : (p : Path) (path_of : X → List Segment) (start : X → ℕ) (ks : List Key) (xs : List X) (ms : List (Mention Entry))
        (x : X) (s r : Segment) (rest : List Segment) (k : Key)
        → IsLevel p path_of start ks xs ms → Leads path_of xs x → path_of x ≡ s ∷ r ∷ rest → key_segment mode k ≡ s
        → IsLevel (to_key p s.key) (rests path_of) (λ y. below_start (start y) (path_of y)) (ks
        ++ one k) (group s.key path_of xs) (under (at_key s.key) ms)
    level-below p path_of start ks xs ms x s r rest k h leads is shown =
        let lead : group s.key path_of xs ≡ x ∷ leads.0 = subst (λ ss. group (first_key ss) path_of xs ≡ x ∷ leads.0) is leads.1 in
        let parts : AllPart (rests path_of) (group s.key path_of xs) = group-part s.key path_of xs h.part in
        record {
          filled =
              subst (AllFilled (rests path_of)) (sym lead)
              (go_on (rests path_of) x leads.0 (subst (AllPart (rests path_of)) lead parts) (ap (λ ss. is_empty (rest_of ss)) is));
          part = parts;
          spaced =
              all-map (λ y. AllByRecursion IsSpacedSegment (path_of y)) (λ y. AllByRecursion IsSpacedSegment (rests path_of y))
              (group s.key path_of xs)
              (λ y g. rest-spaced (path_of y) g) (all-filter (λ y. AllByRecursion IsSpacedSegment (path_of y))
              (λ y. has_first s.key (path_of y)) xs h.spaced);
          ranked = group-ranked rank_of p path_of xs s.key h.ranked;
          kept = group-kept kept_at p path_of xs s.key h.kept;
          mentioned = ap lower (under-lower (at_key s.key) ms ∙ ap (under (at_key s.key)) h.mentioned)
              ∙ below-lines entry start path_of s.key xs;
          spelled =
              all-map (λ y. (full y ≡ map (key_segment mode) ks ++ kept_below kept_at p (path_of y)) × (has_first s.key (path_of y) ≡ true))
              (λ y. full y ≡ map (key_segment mode) (ks ++ one k)
              ++ kept_below kept_at (to_key p s.key) (rests path_of y)) (group s.key path_of xs)
              (λ y g. g.0 ∙ keys-down kept_at p ks k s (path_of y) (kept-here kept_at p path_of xs x s (r ∷ rest) h.kept is leads) shown
              g.1)
              (all_pass (λ y. full y ≡ map (key_segment mode) ks
              ++ kept_below kept_at p (path_of y)) (λ y. has_first s.key (path_of y)) xs h.spelled);
          printed = all-filter (PrintsPair entry full Prints) (λ y. has_first s.key (path_of y)) xs h.printed;
        }

    -- the line of a slot whose key ends a path
    value-slot : (p : Path) (path_of : X → List Segment) (start : X → ℕ) (ks : List Key) (xs : List X) (ms rest : List (Mention Entry))
        (x : X) (s : Segment) (k : Key) (n : Node) (ss : Slots)
        → IsLevel p path_of start ks xs ms → Leads path_of xs x → path_of x ≡ one s
        → AreEntrySlots (owned_in mode) ms (mention_of (entry x) (start x) (one (at_key s.key)) value_role s ∷ rest) (slot k n ss)
        → AreLines Prints (slot_lines (is_line_node n) (ks ++ one k) n) (sorted_by (before p path_of) (group s.key path_of xs))
    value-slot p path_of start ks xs ms rest x s k n ss h leads is slot_is =
        let lead : group s.key path_of xs ≡ x ∷ leads.0 = subst (λ ts. group (first_key ts) path_of xs ≡ x ∷ leads.0) is leads.1 in
        let others : leads.0 ≡ [] =
        alone (rests path_of) x leads.0 (subst (AllPart (rests path_of)) lead (group-part s.key path_of xs h.part)) (ap rest_of is) in
        let spaced = subst (AllByRecursion IsSpacedSegment) is
        (leader-has (λ y. AllByRecursion IsSpacedSegment (path_of y)) path_of xs x h.spaced leads) in
        let shown : key_segment mode k ≡ s =
        ap (key_segment mode) slot_is.0 ∙ key-shown mode (entry x).leaf (mention_of (entry x) (start x) (one (at_key s.key)) value_role s)
        spaced.0 in
        let full_is : full x ≡ map (key_segment mode) ks ++ one s =
        leader-has (λ y. full y ≡ map (key_segment mode) ks ++ kept_below kept_at p (path_of y)) path_of xs x h.spelled leads
        ∙ ap (λ ts. map (key_segment mode) ks ++ kept_below kept_at p ts) is
        ∙ ap (λ o. map (key_segment mode) ks ++ one (unwrap_or o s)) (kept-here kept_at p path_of xs x s [] h.kept is leads) in
        let spelled : segments mode (ks ++ one k) ≡ unspaced_ends (full x) =
        segments-bare mode (ks ++ one k)
        ∙ ap unspaced_ends (map-append (key_segment mode) ks (one k) ∙ ap (λ t. map (key_segment mode) ks ++ one t) shown ∙ sym full_is) in
        let leaf_is : last_leaf (ks ++ one k) ≡ (entry x).leaf = last-key ks k ∙ ap (λ j. j.leaf) slot_is.0 in
        let printed = leader-has (PrintsPair entry full Prints) path_of xs x h.printed leads n (ks ++ one k) slot_is.1 leaf_is spelled in
        subst (λ ys. AreLines Prints (slot_lines (is_line_node n) (ks ++ one k) n) (sorted_by (before p path_of) ys)) (sym (lead
        ∙ ap (λ ys. x ∷ ys) others))
        (subst (λ b. AreLines Prints (slot_lines b (ks ++ one k) n) (one x)) (sym printed.0) (printed.1, tt))

    -- the lines of a slot whose key ends no path
    path-slot : (p : Path) (path_of : X → List Segment) (start : X → ℕ) (ks : List Key) (xs : List X) (ms rest : List (Mention Entry))
        (x : X) (s r : Segment) (more : List Segment) (k : Key) (n : Node) (ss : Slots)
        → IsLevel p path_of start ks xs ms → Leads path_of xs x → path_of x ≡ s ∷ r ∷ more
        → AreEntrySlots (owned_in mode) ms (mention_of (entry x) (start x) (one (at_key s.key)) dotted_role s ∷ rest) (slot k n ss)
        → IsInside n
        → AreLines Prints (slot_lines (is_line_node n) (ks ++ one k) n) (sorted_by (before p path_of) (group s.key path_of xs))
    path-slot p path_of start ks xs ms rest x s r more k n ss h leads is slot_is inside =
        let made = made-inside (entry x) (start x) (one (at_key s.key)) s ms rest k n ss slot_is in
        let spaced = subst (AllByRecursion IsSpacedSegment) is
        (leader-has (λ y. AllByRecursion IsSpacedSegment (path_of y)) path_of xs x h.spaced leads) in
        let shown : key_segment mode k ≡ s =
        ap (key_segment mode) slot_is.0 ∙ key-shown mode (entry x).leaf (mention_of (entry x) (start x) (one (at_key s.key)) dotted_role s)
        spaced.0 in
        let lines = inside (to_key p s.key) (rests path_of) (λ y. below_start (start y) (path_of y)) (ks
        ++ one k) (group s.key path_of xs) (under (at_key s.key) ms)
        (level-below p path_of start ks xs ms x s r more k h leads is shown) made.1 in
        subst (λ ys. AreLines Prints (slot_lines (is_line_node n) (ks ++ one k) n) ys) (sym (group-sorted rank_of p s.key path_of xs))
        (subst (λ b. AreLines Prints (slot_lines b (ks ++ one k) n)
        (sorted_by (before (to_key p s.key) (rests path_of)) (group s.key path_of xs))) (sym made.0) lines)

    -- the lines of the slots of these leaders
    abbrev AreSlots : Slots → Type 0
    AreSlots ss =
        (p : Path) (path_of : X → List Segment) (start : X → ℕ) (ks : List Key) (xs : List X) (ms : List (Mention Entry)) (ls : List X)
        → IsLevel p path_of start ks xs ms → AllByRecursion (λ x. (is_empty (path_of x) ≡ false) × Leads path_of xs x) ls
        → AreEntrySlots (owned_in mode) ms (flat_map (λ x. first_mention (entry x) (start x) (path_of x)) ls) ss
        → AreLines Prints (inside_lines mode ss ks) (flat_map (λ x. sorted_by (before p path_of) (group (first_key (path_of x)) path_of xs))
        ls)

    one-slot : (k : Key) (n : Node) (ss : Slots) (p : Path) (path_of : X → List Segment) (start : X → ℕ) (ks : List Key) (xs : List X)
        (ms : List (Mention Entry)) (x : X) (ls : List X) (ts : List Segment) → path_of x ≡ ts → is_empty ts ≡ false
        → IsInside n
        → (AreEntrySlots (owned_in mode) ms (flat_map (λ y. first_mention (entry y) (start y) (path_of y)) ls) ss
        → AreLines Prints (inside_lines mode ss ks) (flat_map (λ y. sorted_by (before p path_of) (group (first_key (path_of y)) path_of xs))
        ls))
        → IsLevel p path_of start ks xs ms → Leads path_of xs x
        → AreEntrySlots (owned_in mode) ms (first_mention (entry x) (start x) ts
        ++ flat_map (λ y. first_mention (entry y) (start y) (path_of y)) ls) (slot k n ss)
        → AreLines Prints (inside_lines mode (slot k n ss) ks)
        (sorted_by (before p path_of) (group (first_key ts) path_of xs)
        ++ flat_map (λ y. sorted_by (before p path_of) (group (first_key (path_of y)) path_of xs)) ls)
    one-slot k n ss p path_of start ks xs ms x ls [] is e inside others h leads slot_is = absurd cc
    one-slot k n ss p path_of start ks xs ms x ls (s ∷ []) is e inside others h leads slot_is =
        lines-append Prints (slot_lines (is_line_node n) (ks ++ one k) n) (sorted_by (before p path_of) (group s.key path_of xs))
        (inside_lines mode ss ks) (flat_map (λ y. sorted_by (before p path_of) (group (first_key (path_of y)) path_of xs)) ls)
        (value-slot p path_of start ks xs ms (flat_map (λ y. first_mention (entry y) (start y) (path_of y)) ls) x s k n ss h leads is
        slot_is)
        (others slot_is.2)
    one-slot k n ss p path_of start ks xs ms x ls (s ∷ r ∷ more) is e inside others h leads slot_is =
        lines-append Prints (slot_lines (is_line_node n) (ks ++ one k) n) (sorted_by (before p path_of) (group s.key path_of xs))
        (inside_lines mode ss ks) (flat_map (λ y. sorted_by (before p path_of) (group (first_key (path_of y)) path_of xs)) ls)
        (path-slot p path_of start ks xs ms (flat_map (λ y. first_mention (entry y) (start y) (path_of y)) ls) x s r more k n ss h leads is
        slot_is inside)
        (others slot_is.2)

    no-slot : (ms : List (Mention Entry)) (source : Entry) (start : ℕ) (ts : List Segment) (rest : List (Mention Entry)) → is_empty ts
        ≡ false
        → AreEntrySlots (owned_in mode) ms (first_mention source start ts ++ rest) no_slots → ⊥
    no-slot ms source start [] rest e h = cc
    no-slot ms source start (s ∷ ts) rest e h = h

    from-slots : (p : Path) (path_of : X → List Segment) (start : X
        → ℕ) (ks : List Key) (xs : List X) (ms : List (Mention Entry)) (ss : Slots)
        → IsLevel p path_of start ks xs ms → AreEntrySlots (owned_in mode) ms (kept ms) ss → AreSlots ss
        → AreLines Prints (inside_lines mode ss ks) (sorted_by (before p path_of) xs)
    from-slots p path_of start ks xs ms ss h is slots =
        let kept_is : kept ms ≡ flat_map (λ x. first_mention (entry x) (start x) (path_of x)) (leaders [] path_of xs) =
        kept-lower ms ∙ ap kept h.mentioned ∙ kept-lines entry start path_of xs h.filled in
        subst (AreLines Prints (inside_lines mode ss ks)) (sym (gathered rank_of p path_of xs h.filled h.ranked))
        (slots p path_of start ks xs ms (leaders [] path_of xs) h (leading path_of xs h.filled)
        (subst (λ ns. AreEntrySlots (owned_in mode) ms ns ss) kept_is is))

    mutual
      slots-inside : (ss : Slots) → AreSlots ss
      slots-inside no_slots p path_of start ks xs ms [] h leads is = tt
      slots-inside no_slots p path_of start ks xs ms (x ∷ ls) h leads is =
          absurd (no-slot ms (entry x) (start x) (path_of x) (flat_map (λ y. first_mention (entry y) (start y) (path_of y)) ls) leads.0.0
          is)
      slots-inside (slot k n ss) p path_of start ks xs ms [] h leads is = absurd is
      slots-inside (slot k n ss) p path_of start ks xs ms (x ∷ ls) h leads is =
          one-slot k n ss p path_of start ks xs ms x ls (path_of x) refl leads.0.0 (node-inside n)
          (slots-inside ss p path_of start ks xs ms ls h leads.1) h leads.0.1 is

      node-inside : (n : Node) → IsInside n
      node-inside (inline f ss) p path_of start ks xs ms h is = from-slots p path_of start ks xs ms ss h is (slots-inside ss)
      node-inside nothing p path_of start ks xs ms h is = absurd is
      node-inside (leaf s r d) p path_of start ks xs ms h is = absurd is
      node-inside (list f us) p path_of start ks xs ms h is = absurd is
      node-inside (table f ss) p path_of start ks xs ms h is = absurd is
      node-inside (tables e us) p path_of start ks xs ms h is = absurd is

    -- The lines inside are those of the pairs in their order.
    pub lines-inside : (ss : Slots) (p : Path) (path_of : X → List Segment) (start : X
        → ℕ) (ks : List Key) (xs : List X) (ms : List (Mention Entry))
        → IsLevel p path_of start ks xs ms → AreEntrySlots (owned_in mode) ms (kept ms) ss
        → AreLines Prints (inside_lines mode ss ks) (sorted_by (before p path_of) xs)
    lines-inside ss p path_of start ks xs ms h is = from-slots p path_of start ks xs ms ss h is (slots-inside ss)
