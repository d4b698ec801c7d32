-- The lines of a table in owned form: those of its block in their order, with their kept keys, whatever other statements say of the
-- tables below it.
use Rattle.std.proofs.Common.{◌≡◌, refl, sym, ◌∙◌, ap, subst, ℕ, Bool, true, false, List, [], ◌∷◌, ◌++◌, append_assoc, Some, inl, inr}
use Rattle.std.specs.Prelude.{◌⊎◌, ◌&&◌, ◌||◌, not, map, filter, flat_map, option_map, unwrap_or, if◌then◌else◌}
use Rattle.std.specs.List.{AllByRecursion}
use Rattle.std.proofs.lemmas.List.{map-append}
use Rattle.std.proofs.lemmas.List.Folds.{flat_map-map}
use Rattle.toml_edit_model.specs.Mode.{Mode}
use Rattle.toml_edit_model.specs.Text.{Text, one, is_empty}
use Rattle.toml_edit_model.specs.Syntax.{Segment, IsSpacedSegment}
use Rattle.toml_edit_model.specs.Paths.{at_key, Path, same_path, to_key, Mention, Source, mention_of, line_mentions}
use Rattle.toml_edit_model.specs.Tree.{unset, Key, TableFields, Node, nothing, leaf, list, inline, table, tables, Slots, no_slots, slot}
use Rattle.toml_edit_model.specs.TreeOf.{owned_in, key_at, statement_leaf, IsLineNode, IsNodeOf, AreSlotsOf}
use Rattle.toml_edit_model.specs.Print.{Line, segments, last_leaf, is_line_node, value_of, table_lines, dotted_lines, line_of}
use Rattle.toml_edit_laws.proofs.common.Tests.{true-false, false-by, same_text-is, same_text-refl}
use Rattle.toml_edit_laws.proofs.common.OrderLaws.{none-left}
use Rattle.toml_edit_laws.proofs.mentions.GatherLaws.{first_of_key}
use Rattle.toml_edit_laws.proofs.common.PathLaws.{same_path-is}
use Rattle.toml_edit_laws.proofs.common.Members.{Among, all-among, all-of-among, among-filtered}
use Rattle.toml_edit_laws.proofs.mentions.KeptMentions.{moved, under-is, kept-is}
use Rattle.toml_edit_laws.proofs.mentions.KeptOrder.{HaveOneHeader, under-header, IsPlain, kept-in-order}
use Rattle.toml_edit_laws.proofs.mentions.KeptOfPaths.{under-kept, kept-mentions}
use Rattle.toml_edit_laws.proofs.mentions.KeptPaths.{kept_below, kept_in, key_segment, segments-bare, last-key, key-shown}
use Rattle.toml_edit_laws.proofs.mentions.RankLaws.{RanksFollow, under-follow}
use Rattle.toml_edit_laws.proofs.adding.TableMentions.{kept-some, one_slot}
use Rattle.toml_edit_laws.proofs.clashes.ClashMentions.{AreOfStatements, statements-under, kinds-apart}
use Rattle.toml_edit_laws.proofs.mentions.GatheredLines.{first_key, rest_of, has_first, keys_before, group, group_pass, group-part}
use Rattle.toml_edit_laws.proofs.mentions.GatheredLines.{group-sorted, gathered-by, rests, first-is, AllFilled, AllPart, IsKeyed}
use Rattle.toml_edit_laws.proofs.mentions.MentionGroups.{first_role, lower, below_start, flat_lines, under-lower, below-lines}
use Rattle.toml_edit_laws.proofs.inline_tables.InlineLines.{AreLines, lines-append, keys-down}
use Rattle.toml_edit_laws.proofs.clashes.ClashRoles.{standing}
use Rattle.toml_edit_laws.proofs.print_of_read.LevelFacts.{among-filter, among-map, map-among, all-under, under-filter, distinct-found}
use Rattle.toml_edit_laws.proofs.print_of_read.LevelFacts.{among-found, line-first, first-line, alone-group}
use Rattle.toml_edit_laws.proofs.mentions.SomeAt.{among-test}
use Rattle.toml_edit_laws.proofs.common.Each.{all-filter}
use Rattle.toml_edit_laws.proofs.mentions.Named.{EndsIn, single-named}
use Rattle.toml_edit_model.specs.Order.{sorted_by}
use Rattle.toml_edit_model.specs.Roles.{Role, value_role, dotted_role, is_header_role, is_value_role, any_role, is_dotted_role, ends_path}
use Rattle.toml_edit_model.specs.Kept.{kept_mention, unspaced_ends}
use Rattle.toml_edit_model.specs.TableMentions.{under, kept, some_at}

-- a mention that a test finds at a path
pub member-at : {S : Type 0} (test : Role → Bool) (p : Path) (ms : List (Mention S)) → some_at test p ms ≡ true
    → (m : Mention S) × Among m ms × (m.path ≡ p) × (test m.role ≡ true)
member-at test p [] h = absurd cc
member-at {S = S} test p (m ∷ ms) h = by_tests (same_path m.path p) (test m.role) refl refl h (member-at test p ms)
  where
    by_tests : (a b : Bool) → same_path m.path p ≡ a → test m.role ≡ b → ((a && b) || some_at test p ms) ≡ true
        → (some_at test p ms ≡ true → (n : Mention S) × Among n ms × (n.path ≡ p) × (test n.role ≡ true))
        → (n : Mention S) × Among n (m ∷ ms) × (n.path ≡ p) × (test n.role ≡ true)
    by_tests true true e f g ih = (m, inl refl, same_path-is m.path p e, f)
    by_tests true false e f g ih = let found = ih g in (found.0, inr found.1, found.2, found.3)
    by_tests false b e f g ih = let found = ih g in (found.0, inr found.1, found.2, found.3)

last-role : (rest : List Segment) → first_role rest ≡ value_role → rest ≡ []
last-role [] h = refl
last-role (s ∷ rest) h = absurd (no h)
  where
    no : dotted_role ≡ value_role → ⊥
    no e = cc

some-any : {S : Type 0} (test : Role → Bool) (k : Text) (ms : List (Mention S)) → some_at test (one (at_key k)) ms ≡ true
    → some_at any_role (one (at_key k)) ms ≡ true
some-any test k ms h =
    let found = member-at test (one (at_key k)) ms h in
    subst (λ p. some_at any_role p ms ≡ true) found.2 (among-test any_role found.0 ms found.1 refl)

-- the slot's mention: at its key, the kept one of its path, and the first of the slots' mentions that has its key
abbrev pub IsSlot : List (Mention Source) → Mention Source → Type 0
IsSlot ms m =
    Among m ms × (m.path ≡ one (at_key m.segment.key)) × (kept_mention ms m.path ≡ Some m) × (first_of_key m.segment.key (kept ms) ≡ Some m)

pub kept-slots : (ms : List (Mention Source)) → AreOfStatements ms → HaveOneHeader ms → AllByRecursion (IsSlot ms) (kept ms)
kept-slots ms are one_header =
    all-of-among (IsSlot ms) (kept ms) (λ m a.
    let is = kept-is [] m ms a in (
      is.among,
      single-named m.path m.segment.key (all-among (λ (n : Mention Source). EndsIn n.segment.key n.path) m ms are.named is.among) is.single,
      all-among (λ (n : Mention Source). kept_mention ms n.path ≡ Some n) m (kept ms) (kept-mentions ms one_header) a,
      all-among (λ (n : Mention Source). first_of_key n.segment.key (kept ms)
          ≡ Some n) m (kept ms) (distinct-found (kept ms) (one_slot ms are.named one_header)) a,
    ))

-- The block's lines are told by a test of statements, and the paths of its dotted tables by a condition: a value whose key stands in such a
-- table is of a line of the block.
pub record IsWay (all : List (Mention Source)) (mine : Source → Bool) (Way : Path → Type 0) : Type 0 where
  pub down : (p : Path) (k : Text) → Way p → some_at is_dotted_role (to_key p k) all ≡ true → Way (to_key p k)
  pub owns : (p : Path) (k : Text) (m : Mention Source) → Way p → Among m all → m.role ≡ value_role → m.path ≡ to_key p k → mine m.source
      ≡ true

module _ (mode : Mode) where
  -- Lines are printed by a relation between lines and what they are of, where it holds of every line whose item is the value of the
  -- statement and whose keys spell its path.
  abbrev pub PrintsLine : {X : Type 0} → (X → Source) → (X → List Segment) → (Line → X → Type 0) → X → Type 0
  PrintsLine source full Prints x =
      (n : Node) (ks : List Key)
      → IsLineNode (owned_in mode) (source x) (source x).statement n
      → last_leaf ks ≡ statement_leaf (owned_in mode) (source x) (source x).statement → segments mode ks ≡ unspaced_ends (full x)
      → (is_line_node n ≡ true) × Prints (record { keys = ks; item = n; value = value_of mode n }) x

  -- the lines of a slot, by whether its item is a line of its own
  abbrev slot_lines : Bool → List Key → Node → List Line
  slot_lines b ks n = elim b [ true ↦ line_of ks n (value_of mode n) | false ↦ dotted_lines mode n ks ]

  -- the item is a dotted table, whose slots are those of these mentions
  abbrev pub AreInside : List (Mention Source) → Node → Type 0
  AreInside ms (table f ss) = (f.is_dotted ≡ true) × AreSlotsOf (owned_in mode) ms (kept ms) ss
  AreInside ms _ = ⊥

  module _ {X : Type 0} (all : List (Mention Source)) (mine : Source → Bool) (Way : Path → Type 0) (source : X → Source) (rank_of : Path
      → ℕ)
      (full : X → List Segment) (Prints : Line → X → Type 0) where
    -- Lines whose keys pass through this path: their segments from there on and where these begin, the keys down to the path, and the
    -- mentions.
    pub record IsLevel (p : Path) (path_of : X → List Segment) (start : X
        → ℕ) (ks : List Key) (xs : List X) (ms : List (Mention Source)) : Type 0 where
      pub filled : AllFilled path_of xs
      pub part : AllPart path_of xs
      pub mentioned : lower (filter (λ m. mine m.source) ms) ≡ flat_lines source start path_of xs
      pub spelled : AllByRecursion (λ x. full x ≡ map (key_segment mode) ks ++ kept_below (kept_in all) p (path_of x)) xs
      pub printed : AllByRecursion (PrintsLine source full Prints) xs
      pub follow : RanksFollow rank_of p ms
      pub are : AreOfStatements ms
      pub one_header : HaveOneHeader ms
      pub spaced : AllByRecursion (λ m. IsSpacedSegment m.segment) ms
      pub kept_same : (q : Path) → kept_in ms q ≡ kept_in all (p ++ q)
      pub lifted : (m : Mention Source) → Among m ms → Among (moved m (p ++ m.path)) all
      pub way : Way p

    abbrev before : Path → (X → List Segment) → X → X → Bool
    before p path_of x y = keys_before rank_of p (path_of x) (path_of y)

    -- the first mention of a line is among them
    first-here : (p : Path) (path_of : X → List Segment) (start : X → ℕ) (ks : List Key) (xs : List X) (ms : List (Mention Source))
        → IsLevel p path_of start ks xs ms → (x : X) → Among x xs → (s : Segment) (rest : List Segment) → path_of x ≡ s ∷ rest
        → Among (mention_of (source x) (start x) (one (at_key s.key)) (first_role rest) s) ms
    first-here p path_of start ks xs ms h x a s rest is =
        let m : Mention Source = mention_of (source x) (start x) (one (at_key s.key)) (first_role rest) s in
        let line : Among m (line_mentions (source x) (start x) [] (path_of x)) =
        subst (λ ss. Among m (line_mentions (source x) (start x) [] ss)) (sym is) (first-line (source x) (start x) s rest) in
        let lines : Among m (lower (filter (λ (n : Mention Source). mine n.source) ms)) =
        subst (Among m) (sym h.mentioned) (map-among (λ y. line_mentions (source y) (start y) [] (path_of y)) m x xs a line) in
        (among-filter (λ (n : Mention Source). mine n.source) m ms
        (among-filter (λ (n : Mention Source). not (is_empty n.path)) m (filter (λ (n : Mention Source). mine n.source) ms) lines).0).0

    -- the first key of a line stands in a dotted key or before a value
    first-stands : (p : Path) (path_of : X → List Segment) (start : X → ℕ) (ks : List Key) (xs : List X) (ms : List (Mention Source))
        → IsLevel p path_of start ks xs ms → (x : X) → Among x xs → (k : Text) → has_first k (path_of x) ≡ true
        → ((some_at is_value_role (one (at_key k)) ms ≡ true) × (rest_of (path_of x) ≡ []))
        ⊎ ((some_at is_dotted_role (one (at_key k)) ms ≡ true) × (is_empty (rest_of (path_of x)) ≡ false))
    first-stands p path_of start ks xs ms h x a k first = by_path (path_of x) refl first
      where
        by_path : (ss : List Segment) → path_of x ≡ ss → has_first k ss ≡ true
            → ((some_at is_value_role (one (at_key k)) ms ≡ true) × (rest_of ss ≡ []))
            ⊎ ((some_at is_dotted_role (one (at_key k)) ms ≡ true) × (is_empty (rest_of ss) ≡ false))
        by_path [] e g = absurd cc
        by_path (s ∷ []) e g =
            inl (
              subst (λ l. some_at is_value_role (one (at_key l)) ms ≡ true) (sym (same_text-is k s.key g))
                  (among-test is_value_role (mention_of (source x) (start x) (one (at_key s.key)) value_role s) ms
                  (first-here p path_of start ks xs ms h x a s [] e) refl),
              refl,
            )
        by_path (s ∷ r ∷ rest) e g =
            inr (
              subst (λ l. some_at is_dotted_role (one (at_key l)) ms ≡ true) (sym (same_text-is k s.key g))
                  (among-test is_dotted_role (mention_of (source x) (start x) (one (at_key s.key)) dotted_role s) ms
                  (first-here p path_of start ks xs ms h x a s (r ∷ rest) e) refl),
              refl,
            )

    -- a key at which no value and no dotted key stands has no lines
    none-here : (p : Path) (path_of : X → List Segment) (start : X → ℕ) (ks : List Key) (xs : List X) (ms : List (Mention Source))
        → IsLevel p path_of start ks xs ms → (k : Text) → some_at is_value_role (one (at_key k)) ms ≡ false
        → some_at is_dotted_role (one (at_key k)) ms ≡ false
        → group k path_of xs ≡ []
    none-here p path_of start ks xs ms h k no_value no_dot =
        none-left (λ x. has_first k (path_of x)) xs
        (all-of-among (λ x. has_first k (path_of x) ≡ false) xs (λ x a.
        false-by (has_first k (path_of x)) (λ e.
        elim (first-stands p path_of start ks xs ms h x a k e) [
          | inl v ↦ true-false (some_at is_value_role (one (at_key k)) ms) v.0 no_value
          | inr d ↦ true-false (some_at is_dotted_role (one (at_key k)) ms) d.0 no_dot
        ])))

    -- the kept segment of a slot's key
    kept-slot : (p : Path) (path_of : X → List Segment) (start : X → ℕ) (ks : List Key) (xs : List X) (ms : List (Mention Source))
        → IsLevel p path_of start ks xs ms → (m : Mention Source) → IsSlot ms m → kept_in all (to_key p m.segment.key) ≡ Some m.segment
    kept-slot p path_of start ks xs ms h m is =
        sym (h.kept_same (one (at_key m.segment.key)))
        ∙ ap (kept_in ms) (sym is.1)
        ∙ ap (option_map (λ (n : Mention Source). n.segment)) is.2

    -- and how it is printed
    slot-shown : (p : Path) (path_of : X → List Segment) (start : X → ℕ) (ks : List Key) (xs : List X) (ms : List (Mention Source))
        → IsLevel p path_of start ks xs ms → (m : Mention Source) → IsSlot ms m → (k : Key) → k ≡ key_at (owned_in mode) m
        → key_segment mode k ≡ m.segment
    slot-shown p path_of start ks xs ms h m is k key_is =
        ap (key_segment mode) key_is
        ∙ key-shown mode (statement_leaf (owned_in mode) m.source m.source.statement) m
        (all-among (λ (n : Mention Source). IsSpacedSegment n.segment) m ms h.spaced is.0)

    -- the lines of a slot whose key ends a path
    value-slot : (p : Path) (path_of : X → List Segment) (start : X → ℕ) (ks : List Key) (xs : List X) (ms : List (Mention Source))
        → IsWay all mine Way → IsLevel p path_of start ks xs ms → (m : Mention Source) → IsSlot ms m → (k : Key) (n : Node) → k
        ≡ key_at (owned_in mode) m
        → m.role ≡ value_role → IsLineNode (owned_in mode) m.source m.source.statement n
        → AreLines Prints (slot_lines (is_line_node n) (ks ++ one k) n) (sorted_by (before p path_of) (group m.segment.key path_of xs))
    value-slot p path_of start ks xs ms ways h m is k n key_is role line_is =
        let own : mine m.source ≡ true =
        ways.owns p m.segment.key (moved m (p ++ m.path)) h.way (h.lifted m is.0) role (ap (λ q. p ++ q) is.1) in
        let there : Among m (flat_lines source start path_of xs) =
        subst (Among m) h.mentioned
        (among-filtered (λ (o : Mention Source). not (is_empty o.path)) m (filter (λ (o : Mention Source). mine o.source) ms)
        (among-filtered (λ (o : Mention Source). mine o.source) m ms is.0 own) (ap (λ q. not (is_empty q)) is.1)) in
        let found = among-map (λ y. line_mentions (source y) (start y) [] (path_of y)) m xs there in
        let x : X = found.0 in
        let first = line-first (source x) (start x) m.segment.key (path_of x) m found.2 is.1 in
        let none : first.rest ≡ [] = last-role first.rest (sym (ap (λ (o : Mention Source). o.role) first.same) ∙ role) in
        let segment_is : first.segment ≡ m.segment = sym (ap (λ (o : Mention Source). o.segment) first.same) in
        let source_is : source x ≡ m.source = sym (ap (λ (o : Mention Source). o.source) first.same) in
        let path_is : path_of x ≡ one m.segment = first.is ∙ ap (λ r. first.segment ∷ r) none ∙ ap one segment_is in
        let shown : key_segment mode k ≡ m.segment = slot-shown p path_of start ks xs ms h m is k key_is in
        let full_is : full x ≡ map (key_segment mode) ks ++ one m.segment =
        all-among (λ y. full y ≡ map (key_segment mode) ks ++ kept_below (kept_in all) p (path_of y)) x xs h.spelled found.1
        ∙ ap (λ ts. map (key_segment mode) ks ++ kept_below (kept_in all) p ts) path_is
        ∙ ap (λ o. map (key_segment mode) ks ++ one (unwrap_or o m.segment)) (kept-slot p path_of start ks xs ms h m is) in
        let spelled : segments mode (ks ++ one k) ≡ unspaced_ends (full x) =
        segments-bare mode (ks ++ one k)
        ∙ ap unspaced_ends (map-append (key_segment mode) ks (one k) ∙ ap (λ t. map (key_segment mode) ks ++ one t) shown ∙ sym full_is) in
        let leaf_is : last_leaf (ks ++ one k) ≡ statement_leaf (owned_in mode) (source x) (source x).statement =
        last-key ks k ∙ ap (λ (j : Key). j.leaf) key_is
        ∙ ap (λ r. if ends_path r then statement_leaf (owned_in mode) m.source m.source.statement else unset) role
        ∙ ap (λ s. statement_leaf (owned_in mode) s s.statement) (sym source_is) in
        let printed =
        all-among (PrintsLine source full Prints) x xs h.printed found.1 n (ks ++ one k)
        (subst (λ s. IsLineNode (owned_in mode) s s.statement n) (sym source_is) line_is) leaf_is spelled in
        let alone : group m.segment.key path_of xs ≡ one x = alone-group path_of x m.segment xs h.part found.1 path_is in
        subst (λ ys. AreLines Prints (slot_lines (is_line_node n) (ks ++ one k) n) (sorted_by (before p path_of) ys)) (sym alone)
        (subst (λ b. AreLines Prints (slot_lines b (ks ++ one k) n) (one x)) (sym printed.0) (printed.1, tt))

    -- the lines one key down, where a dotted table stands
    level-below : (p : Path) (path_of : X → List Segment) (start : X → ℕ) (ks : List Key) (xs : List X) (ms : List (Mention Source))
        → IsWay all mine Way → IsLevel p path_of start ks xs ms → (m : Mention Source) → IsSlot ms m → (k : Key) → k
        ≡ key_at (owned_in mode) m
        → some_at is_value_role (one (at_key m.segment.key)) ms ≡ false → some_at is_dotted_role (one (at_key m.segment.key)) ms ≡ true
        → IsLevel (to_key p m.segment.key) (rests path_of) (λ y. below_start (start y) (path_of y)) (ks
        ++ one k) (group m.segment.key path_of xs) (under (at_key m.segment.key) ms)
    level-below p path_of start ks xs ms ways h m is k key_is no_value dot =
        let l : Text = m.segment.key in
        let passes = group_pass l path_of xs in
        let shown : key_segment mode k ≡ m.segment = slot-shown p path_of start ks xs ms h m is k key_is in
        let here = kept-slot p path_of start ks xs ms h m is in
        let dotted = member-at is_dotted_role (one (at_key l)) ms dot in
        record {
          filled =
              all-of-among (λ y. is_empty (rests path_of y) ≡ false) (group l path_of xs) (λ y a.
              let up = among-filter (λ z. has_first l (path_of z)) y xs a in
              false-by (is_empty (rests path_of y)) (λ e. no_end y up.0 up.1 e));
          part = group-part l path_of xs h.part;
          mentioned =
              ap lower (under-filter mine (at_key l) ms ∙ under-lower (at_key l) (filter (λ (o : Mention Source). mine o.source) ms)
              ∙ ap (under (at_key l)) h.mentioned)
              ∙ below-lines source start path_of l xs;
          spelled =
              all-of-among (λ y. full y ≡ map (key_segment mode) (ks ++ one k)
              ++ kept_below (kept_in all) (to_key p l) (rests path_of y)) (group l path_of xs) (λ y a.
              let up = among-filter (λ z. has_first l (path_of z)) y xs a in
              all-among (λ z. full z ≡ map (key_segment mode) ks ++ kept_below (kept_in all) p (path_of z)) y xs h.spelled up.0
              ∙ keys-down mode (kept_in all) p ks k m.segment (path_of y) here shown up.1);
          printed = all-filter (PrintsLine source full Prints) (λ y. has_first l (path_of y)) xs h.printed;
          follow = under-follow rank_of p (at_key l) ms h.follow;
          are = statements-under (at_key l) ms h.are;
          one_header = under-header (at_key l) ms h.one_header;
          spaced = all-under (λ (o : Mention Source). IsSpacedSegment o.segment) (λ o q g. g) (at_key l) ms h.spaced;
          kept_same = λ q. under-kept (at_key l) q ms ∙ h.kept_same (at_key l ∷ q)
              ∙ ap (kept_in all) (sym (append_assoc p (one (at_key l)) q));
          lifted = λ o a.
              let up = under-is (at_key l) o ms a in
              subst (λ (j : Mention Source). Among j all)
              (ap (λ q. moved up.mention q) (ap (λ q. p ++ q) up.path ∙ sym (append_assoc p (one (at_key l)) o.path))
              ∙ ap (λ (j : Mention Source). moved j (to_key p l ++ o.path)) (sym up.same))
              (h.lifted up.mention up.among);
          way =
              ways.down p l h.way
              (subst (λ q. some_at is_dotted_role q all ≡ true) (ap (λ q. p ++ q) dotted.2)
              (among-test is_dotted_role (moved dotted.0 (p ++ dotted.0.path)) all (h.lifted dotted.0 dotted.1) dotted.3));
        }
      where
        -- a line that ends here would be of a value
        no_end : (y : X) → Among y xs → has_first m.segment.key (path_of y) ≡ true → is_empty (rests path_of y) ≡ true → ⊥
        no_end y a first e =
            elim (first-stands p path_of start ks xs ms h y a m.segment.key first) [
              | inl v ↦ true-false (some_at is_value_role (one (at_key m.segment.key)) ms) v.0 no_value
              | inr d ↦ true-false (is_empty (rest_of (path_of y))) e d.1
            ]

    abbrev IsInside : Node → Type 0
    IsInside n =
        (p : Path) (path_of : X → List Segment) (start : X → ℕ) (ks : List Key) (xs : List X) (ms : List (Mention Source))
        → IsLevel p path_of start ks xs ms → AreInside ms n → AreLines Prints (dotted_lines mode n ks) (sorted_by (before p path_of) xs)

    abbrev AreSlots : Slots → Type 0
    AreSlots ss =
        (p : Path) (path_of : X → List Segment) (start : X → ℕ) (ks : List Key) (xs : List X) (ms ls : List (Mention Source))
        → IsLevel p path_of start ks xs ms → AllByRecursion (IsSlot ms) ls → AreSlotsOf (owned_in mode) ms ls ss
        → AreLines Prints (table_lines mode ss ks) (flat_map (λ m. sorted_by (before p path_of) (group m.segment.key path_of xs)) ls)

    -- the lines of a slot whose key ends no path: those of a dotted table, else none
    table-slot : (p : Path) (path_of : X → List Segment) (start : X → ℕ) (ks : List Key) (xs : List X) (ms : List (Mention Source))
        → IsWay all mine Way → IsLevel p path_of start ks xs ms → (m : Mention Source) → IsSlot ms m
        → (k : Key) (f : TableFields) (ss : Slots) → k ≡ key_at (owned_in mode) m
        → IsNodeOf (owned_in mode) (under (at_key m.segment.key) ms) m (table f ss) → IsInside (table f ss)
        → AreLines Prints (dotted_lines mode (table f ss) (ks ++ one k)) (sorted_by (before p path_of) (group m.segment.key path_of xs))
    table-slot p path_of start ks xs ms ways h m is k f ss key_is node inside = by_dot f.is_dotted refl
      where
        l : Text
        l = m.segment.key

        no_value : some_at is_value_role (one (at_key m.segment.key)) ms ≡ false
        no_value = (standing (owned_in mode) m.segment.key ms m (table f ss) h.are is.3 node).roles.value

        dots : some_at is_dotted_role (one (at_key m.segment.key)) ms ≡ f.is_dotted
        dots = (standing (owned_in mode) m.segment.key ms m (table f ss) h.are is.3 node).roles.dotted

        by_dot : (b : Bool) → f.is_dotted ≡ b → AreLines Prints (if b then table_lines mode ss (ks ++ one k)
            else []) (sorted_by (before p path_of) (group m.segment.key path_of xs))
        by_dot true e =
            subst (λ b. AreLines Prints (if b then table_lines mode ss (ks ++ one k)
            else []) (sorted_by (before p path_of) (group m.segment.key path_of xs))) e
            (subst (AreLines Prints (dotted_lines mode (table f ss) (ks ++ one k))) (sym (group-sorted rank_of p l path_of xs))
            (inside (to_key p l) (rests path_of) (λ y. below_start (start y) (path_of y)) (ks
            ++ one k) (group l path_of xs) (under (at_key l) ms)
            (level-below p path_of start ks xs ms ways h m is k key_is no_value (dots ∙ e)) (e, node.2)))
        by_dot false e =
            subst (λ ys. AreLines Prints [] (sorted_by (before p path_of) ys))
            (sym (none-here p path_of start ks xs ms h l no_value (dots ∙ e))) tt

    slot-lines : (p : Path) (path_of : X → List Segment) (start : X → ℕ) (ks : List Key) (xs : List X) (ms : List (Mention Source))
        → IsWay all mine Way → IsLevel p path_of start ks xs ms → (m : Mention Source) → IsSlot ms m → (k : Key) (n : Node) → k
        ≡ key_at (owned_in mode) m
        → IsNodeOf (owned_in mode) (under (at_key m.segment.key) ms) m n → IsInside n
        → AreLines Prints (slot_lines (is_line_node n) (ks ++ one k) n) (sorted_by (before p path_of) (group m.segment.key path_of xs))
    slot-lines p path_of start ks xs ms ways h m is k nothing key_is node inside = absurd node
    slot-lines p path_of start ks xs ms ways h m is k (leaf s r d) key_is node inside =
        value-slot p path_of start ks xs ms ways h m is k (leaf s r d) key_is node.0 node.1
    slot-lines p path_of start ks xs ms ways h m is k (list f us) key_is node inside =
        value-slot p path_of start ks xs ms ways h m is k (list f us) key_is node.0 node.1
    slot-lines p path_of start ks xs ms ways h m is k (inline f us) key_is node inside =
        value-slot p path_of start ks xs ms ways h m is k (inline f us) key_is node.0 node.1
    slot-lines p path_of start ks xs ms ways h m is k (table f us) key_is node inside =
        table-slot p path_of start ks xs ms ways h m is k f us key_is node inside
    slot-lines p path_of start ks xs ms ways h m is k (tables e us) key_is node inside =
        let stands = standing (owned_in mode) m.segment.key ms m (tables e us) h.are is.3 node in
        subst (λ ys. AreLines Prints [] (sorted_by (before p path_of) ys))
        (sym (none-here p path_of start ks xs ms h m.segment.key stands.roles.value stands.roles.dotted)) tt

    -- the first key of a line has a slot, and no header
    line-keyed : (p : Path) (path_of : X → List Segment) (start : X → ℕ) (ks : List Key) (xs : List X) (ms : List (Mention Source))
        → IsLevel p path_of start ks xs ms → (x : X) → Among x xs → IsKeyed (IsPlain ms) (map (λ m. m.segment.key) (kept ms)) path_of x
    line-keyed p path_of start ks xs ms h x a =
        let full_x : is_empty (path_of x) ≡ false = all-among (λ y. is_empty (path_of y) ≡ false) x xs h.filled a in
        let k : Text = first_key (path_of x) in
        let own : has_first k (path_of x) ≡ true = first-is k (path_of x) full_x ∙ same_text-refl k in
        let stands = first-stands p path_of start ks xs ms h x a k own in (
          full_x,
          among-found k (kept ms) ∙ kept-some k ms h.are.named
              ∙ elim stands [
                | inl v ↦ some-any is_value_role k ms v.0
                | inr d ↦ some-any is_dotted_role k ms d.0
              ],
          elim stands [
            | inl v ↦ kinds-apart is_value_role is_header_role (one (at_key k)) ms refl h.are.meeting v.0
            | inr d ↦ kinds-apart is_dotted_role is_header_role (one (at_key k)) ms refl h.are.meeting d.0
          ],
        )

    from-slots : (p : Path) (path_of : X → List Segment) (start : X
        → ℕ) (ks : List Key) (xs : List X) (ms : List (Mention Source)) (ss : Slots)
        → IsLevel p path_of start ks xs ms → AreSlotsOf (owned_in mode) ms (kept ms) ss → AreSlots ss
        → AreLines Prints (table_lines mode ss ks) (sorted_by (before p path_of) xs)
    from-slots p path_of start ks xs ms ss h is slots =
        let keys : List Text = map (λ (m : Mention Source). m.segment.key) (kept ms) in
        let sorted_is : sorted_by (before p path_of) xs ≡ flat_map (λ m. sorted_by (before p path_of) (group m.segment.key path_of xs))
        (kept ms) =
        gathered-by (IsPlain ms) rank_of p path_of keys xs (kept-in-order rank_of p ms h.follow h.are.named h.one_header)
        (all-of-among (IsKeyed (IsPlain ms) keys path_of) xs (line-keyed p path_of start ks xs ms h))
        ∙ flat_map-map (λ k. sorted_by (before p path_of) (group k path_of xs)) (λ (m : Mention Source). m.segment.key) (kept ms) in
        subst (AreLines Prints (table_lines mode ss ks)) (sym sorted_is)
        (slots p path_of start ks xs ms (kept ms) h (kept-slots ms h.are h.one_header) is)

    mutual
      slots-inside : IsWay all mine Way → (ss : Slots) → AreSlots ss
      slots-inside ways no_slots p path_of start ks xs ms [] h slots is = tt
      slots-inside ways no_slots p path_of start ks xs ms (m ∷ ls) h slots is = absurd is
      slots-inside ways (slot k n ss) p path_of start ks xs ms [] h slots is = absurd is
      slots-inside ways (slot k n ss) p path_of start ks xs ms (m ∷ ls) h slots is =
          lines-append Prints (slot_lines (is_line_node n) (ks ++ one k) n) (sorted_by (before p path_of) (group m.segment.key path_of xs))
          (table_lines mode ss ks) (flat_map (λ o. sorted_by (before p path_of) (group o.segment.key path_of xs)) ls)
          (slot-lines p path_of start ks xs ms ways h m slots.0 k n is.0 is.1 (node-inside ways n))
          (slots-inside ways ss p path_of start ks xs ms ls h slots.1 is.2)

      node-inside : IsWay all mine Way → (n : Node) → IsInside n
      node-inside ways (table f ss) p path_of start ks xs ms h is =
          subst (λ b. AreLines Prints (if b then table_lines mode ss ks else []) (sorted_by (before p path_of) xs)) (sym is.0)
          (from-slots p path_of start ks xs ms ss h is.1 (slots-inside ways ss))
      node-inside ways (inline f ss) p path_of start ks xs ms h is = absurd is
      node-inside ways nothing p path_of start ks xs ms h is = absurd is
      node-inside ways (leaf s r d) p path_of start ks xs ms h is = absurd is
      node-inside ways (list f us) p path_of start ks xs ms h is = absurd is
      node-inside ways (tables e us) p path_of start ks xs ms h is = absurd is

    -- The lines of a table are those of its block in their order.
    pub block-lines : IsWay all mine Way → (ss : Slots) (p : Path) (path_of : X → List Segment) (start : X
        → ℕ) (ks : List Key) (xs : List X) (ms : List (Mention Source))
        → IsLevel p path_of start ks xs ms → AreSlotsOf (owned_in mode) ms (kept ms) ss
        → AreLines Prints (table_lines mode ss ks) (sorted_by (before p path_of) xs)
    block-lines ways ss p path_of start ks xs ms h is = from-slots p path_of start ks xs ms ss h is (slots-inside ways ss)
