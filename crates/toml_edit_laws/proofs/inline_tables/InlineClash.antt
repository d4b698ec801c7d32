-- A pair can be added to the slots of the pairs before it exactly where it agrees with them; else both clash at one mention.
use Rattle.std.proofs.Common.{◌≡◌, refl, sym, ◌∙◌, ap, subst, ℕ, Bool, true, false, List, [], ◌∷◌, Option, Some, None}
use Rattle.std.specs.Prelude.{◌&&◌, ◌||◌, not, MatchBool, if◌then◌else◌, find, is_some, option_map}
use Rattle.std.proofs.lemmas.Bool.{MatchBool-at_true, MatchBool-at_false}
use Rattle.toml_edit_model.specs.Text.{Text, is_empty}
use Rattle.toml_edit_model.specs.Syntax.{Segment, Value}
use Rattle.toml_edit_model.specs.Paths.{Step, at_key, Path, same_path, to_key, Mention, mention_of, line_mentions, next_start}
use Rattle.toml_edit_model.specs.Accepted.{agree}
use Rattle.toml_edit_model.specs.Faults.{clash, first_clash}
use Rattle.toml_edit_model.specs.Tree.{InlineFields, Node, nothing, leaf, list, inline, table, tables, Slots, no_slots}
use Rattle.toml_edit_model.specs.TreeOf.{Form, Entry, key_of, key_extent, IsValueNode, AreEntrySlots}
use Rattle.toml_edit_laws.specs.FlatTree.{with_slot}
use Rattle.toml_edit_laws.specs.InlineTree.{node_at, with_node, path_fields, change_below, add_last, add_entry, clash_below, entry_clash}
use Rattle.toml_edit_laws.proofs.common.Tests.{or-left, or-right, false-by, true-false}
use Rattle.toml_edit_laws.proofs.mentions.GatherLaws.{deeper, all_deeper, some_at-first, kept-find, first_of_key, first_of_key-is, first_at}
use Rattle.toml_edit_laws.proofs.inline_tables.AgreeLaws.{agree-clash, clash-none, both_deeper, clash-deeper, clash-at, clash-free, role-at}
use Rattle.toml_edit_laws.proofs.inline_tables.PairMentions.{lines-deeper}
use Rattle.toml_edit_laws.proofs.inline_tables.AgreeingPairs.{AreAgreeing, is_other_role, agreeing-under}
use Rattle.toml_edit_laws.proofs.inline_tables.EntrySlots.{IsEntryNode, slots-find, IsFound, not-value, node-dotted}
use Rattle.toml_edit_laws.proofs.inline_tables.InlineBuild.{path_of, under-new}
use Rattle.toml_edit_laws.proofs.common.OptionSteps.{is_some-map, is_none}
use Rattle.toml_edit_laws.proofs.mentions.SomeAt.{any-test}
use Rattle.toml_edit_model.specs.Roles.{Role, dotted_role, implied_role, header_role, array_role, value_role, continued_role}
use Rattle.toml_edit_model.specs.Roles.{may_meet_inline, is_value_role, is_dotted_role, ends_path}
use Rattle.toml_edit_model.specs.TableMentions.{under, kept, some_at}

-- ---- one pair goes on where nothing stands in its way

clash-empty : (ms : List (Mention Entry)) → entry_clash ms no_slots ≡ None
clash-empty [] = refl
clash-empty (m ∷ []) = refl
clash-empty (m ∷ r ∷ rest) = refl

abbrev pub in_way : Mention Entry → Node → Mention Entry × Node
in_way m n = (m, n)

add-clash : (form : Form) (m : Mention Entry) (rest : List (Mention Entry)) (n : Node) (ss : Slots)
    → is_some (add_entry form (m ∷ rest) n ss) ≡ is_none (entry_clash (m ∷ rest) ss)
add-clash form m [] n ss = by_node (node_at m.segment.key ss)
  where
    by_node : (o : Option Node) → is_some (add_last ss (key_of form m.source.leaf m) n o) ≡ is_none (option_map (in_way m) o)
    by_node None = refl
    by_node (Some x) = refl
add-clash form m (r ∷ rest) n ss = by_node (node_at m.segment.key ss) (add-clash form r rest n)
  where
    by_node : (o : Option Node) → ((us : Slots) → is_some (add_entry form (r ∷ rest) n us) ≡ is_none (entry_clash (r ∷ rest) us))
        → is_some (change_below (key_of form m.source.leaf m) (path_fields (key_extent form m)) (add_entry form (r ∷ rest) n) ss o)
        ≡ is_none (clash_below m (entry_clash (r ∷ rest)) o)
    by_node None ih =
        is_some-map (λ (inner : Slots). with_slot ss (key_of form m.source.leaf m) (inline (path_fields (key_extent form m)) inner))
        (add_entry form (r ∷ rest) n no_slots)
        ∙ ih no_slots ∙ ap is_none (clash-empty (r ∷ rest))
    by_node (Some nothing) ih = refl
    by_node (Some (leaf s x d)) ih = refl
    by_node (Some (list f xs)) ih = refl
    by_node (Some (table f us)) ih = refl
    by_node (Some (tables x xs)) ih = refl
    by_node (Some (inline f inner)) ih = by_dotted f.is_dotted
      where
        by_dotted : (b : Bool)
            → is_some (if b then option_map (λ (changed : Slots). with_node m.segment.key (inline f changed) ss) (add_entry form (r
            ∷ rest) n inner) else None)
            ≡ is_none (if b then entry_clash (r ∷ rest) inner else Some (in_way m (inline f inner)))
        by_dotted true = is_some-map (λ (changed : Slots). with_node m.segment.key (inline f changed) ss) (add_entry form (r
            ∷ rest) n inner) ∙ ih inner
        by_dotted false = refl

-- an item is added, or clashes
pub entry_or_clash : (form : Form) (source : Entry) (start : ℕ) (segments : List Segment) (n : Node) (ss : Slots) → is_empty segments
    ≡ false
    → is_some (add_entry form (line_mentions source start [] segments) n ss)
    ≡ is_none (entry_clash (line_mentions source start [] segments) ss)
entry_or_clash form source start [] n ss keyed = absurd cc
entry_or_clash form source start (g ∷ []) n ss keyed = add-clash form (mention_of source start (to_key [] g.key) value_role g) [] n ss
entry_or_clash form source start (g ∷ h ∷ rest) n ss keyed =
    add-clash form (mention_of source start (to_key [] g.key) dotted_role g) (line_mentions source (next_start start g) (to_key [] g.key) (h
    ∷ rest)) n ss

-- ---- one step further down

abbrev deeper_way : Step → Mention Entry × Node → Mention Entry × Node
deeper_way s c = (deeper s c.0, c.1)

-- the same path, further down
way-deeper : (s : Step) (ms : List (Mention Entry)) (ss : Slots) → entry_clash (all_deeper s ms) ss
    ≡ option_map (deeper_way s) (entry_clash ms ss)
way-deeper s [] ss = refl
way-deeper s (m ∷ []) ss = by_node (node_at m.segment.key ss)
  where
    by_node : (o : Option Node) → option_map (in_way (deeper s m)) o ≡ option_map (deeper_way s) (option_map (in_way m) o)
    by_node None = refl
    by_node (Some x) = refl
way-deeper s (m ∷ r ∷ rest) ss = by_node (node_at m.segment.key ss) (way-deeper s (r ∷ rest))
  where
    by_node : (o : Option Node) → ((us : Slots) → entry_clash (all_deeper s (r ∷ rest)) us
        ≡ option_map (deeper_way s) (entry_clash (r ∷ rest) us))
        → clash_below (deeper s m) (entry_clash (all_deeper s (r ∷ rest))) o
        ≡ option_map (deeper_way s) (clash_below m (entry_clash (r ∷ rest)) o)
    by_node None ih = refl
    by_node (Some nothing) ih = refl
    by_node (Some (leaf x y d)) ih = refl
    by_node (Some (list f xs)) ih = refl
    by_node (Some (table f us)) ih = refl
    by_node (Some (tables x xs)) ih = refl
    by_node (Some (inline f inner)) ih = by_dotted f.is_dotted
      where
        by_dotted : (b : Bool)
            → (if b then entry_clash (all_deeper s (r ∷ rest)) inner else Some (in_way (deeper s m) (inline f inner)))
            ≡ option_map (deeper_way s) (if b then entry_clash (r ∷ rest) inner else Some (in_way m (inline f inner)))
        by_dotted true = ih inner
        by_dotted false = refl

path-below : (m : Mention Entry) (source : Entry) (start : ℕ) (p : Path) (h : Segment) (rest : List Segment) (ss : Slots)
    → entry_clash (m ∷ line_mentions source start p (h ∷ rest)) ss
    ≡ clash_below m (entry_clash (line_mentions source start p (h ∷ rest))) (node_at m.segment.key ss)
path-below m source start p h [] ss = refl
path-below m source start p h (g ∷ rest) ss = refl

-- ---- roles that stand in the way

refused-dotted : (r : Role) → not (may_meet_inline r dotted_role) ≡ (is_value_role r || is_other_role r)
refused-dotted dotted_role = refl
refused-dotted implied_role = refl
refused-dotted header_role = refl
refused-dotted array_role = refl
refused-dotted value_role = refl
refused-dotted continued_role = refl

refused-value : (r : Role) → may_meet_inline r value_role ≡ false
refused-value dotted_role = refl
refused-value implied_role = refl
refused-value header_role = refl
refused-value array_role = refl
refused-value value_role = refl
refused-value continued_role = refl

value-refuses : (r : Role) → is_value_role r ≡ true → may_meet_inline r dotted_role ≡ false
value-refuses value_role h = refl
value-refuses dotted_role h = absurd cc
value-refuses implied_role h = refl
value-refuses header_role h = refl
value-refuses array_role h = refl
value-refuses continued_role h = refl

dotted-else : (r : Role) → is_value_role r ≡ false → is_other_role r ≡ false → is_dotted_role r ≡ true
dotted-else dotted_role h g = refl
dotted-else value_role h g = absurd cc
dotted-else implied_role h g = absurd cc
dotted-else header_role h g = absurd cc
dotted-else array_role h g = absurd cc
dotted-else continued_role h g = absurd cc

none-refused : (p : Path) (ms : List (Mention Entry)) → some_at is_value_role p ms ≡ false → some_at is_other_role p ms ≡ false
    → some_at (λ r. not (may_meet_inline r dotted_role)) p ms ≡ false
none-refused p [] h g = refl
none-refused p (m ∷ ms) h g =
    ap (λ b. (same_path m.path p && b) || some_at (λ r. not (may_meet_inline r dotted_role)) p ms) (refused-dotted m.role)
    ∙ by_test (same_path m.path p) (is_value_role m.role) (is_other_role m.role)
    (or-left (same_path m.path p && is_value_role m.role) (some_at is_value_role p ms) h)
    (or-left (same_path m.path p && is_other_role m.role) (some_at is_other_role p ms) g)
    (none-refused p ms (or-right (same_path m.path p && is_value_role m.role) (some_at is_value_role p ms) h)
    (or-right (same_path m.path p && is_other_role m.role) (some_at is_other_role p ms) g))
  where
    by_test : (a b c : Bool) → (a && b) ≡ false → (a && c) ≡ false → some_at (λ r. not (may_meet_inline r dotted_role)) p ms ≡ false
        → ((a && (b || c)) || some_at (λ r. not (may_meet_inline r dotted_role)) p ms) ≡ false
    by_test true true c h g ih = absurd cc
    by_test true false true h g ih = absurd cc
    by_test true false false h g ih = ih
    by_test false b c h g ih = ih

-- what the first mention at a path says of the role
role-first : (test : Role → Bool) (p : Path) (ms : List (Mention Entry)) (j : Mention Entry) → first_at p ms ≡ Some j → some_at test p ms
    ≡ false → test j.role ≡ false
role-first test p ms j h g = false-by (test j.role) (λ e. true-false (some_at test p ms) (role-at test p ms j h e) g)

module _ (form : Form) where
  abbrev pub IsDotted : Node → Type 0
  IsDotted (inline f ss) = f.is_dotted ≡ true
  IsDotted _ = ⊥

  -- The item that an earlier mention gives: its value, or the dotted inline table of its key.
  abbrev pub IsInTheWay : Mention Entry → Node → Type 0
  IsInTheWay e n =
      MatchBool (is_value_role e.role) (IsValueNode form e.source.value e.source.start e.source.before e.source.after n) (IsDotted n)

  -- The clash with slots and the clash with the mentions that they are of are at one mention.
  abbrev pub IsSameClash : Option (Mention Entry × Node) → Option (Mention Entry × Mention Entry) → Type 0
  IsSameClash None None = Unit {0}
  IsSameClash (Some c) (Some d) = (c.0 ≡ d.0) × IsInTheWay d.1 c.1
  IsSameClash _ _ = ⊥

  by_role : (r : Role) (A B C : Type 0) → is_other_role r ≡ false → (B → C) → MatchBool (ends_path r) A B → MatchBool (is_value_role r) A C
  by_role value_role A B C o f h = h
  by_role dotted_role A B C o f h = f h
  by_role implied_role A B C o f h = absurd cc
  by_role header_role A B C o f h = absurd cc
  by_role array_role A B C o f h = absurd cc
  by_role continued_role A B C o f h = absurd cc

  entry-way : (ms : List (Mention Entry)) (j : Mention Entry) (n : Node) → is_other_role j.role ≡ false → IsEntryNode form ms j n
      → IsInTheWay j n
  entry-way ms j nothing o h =
      by_role j.role (IsValueNode form j.source.value j.source.start j.source.before j.source.after nothing) ⊥ ⊥ o (λ x. x) h.1
  entry-way ms j (leaf s r d) o h =
      by_role j.role (IsValueNode form j.source.value j.source.start j.source.before j.source.after (leaf s r d)) ⊥ ⊥ o (λ x. x) h.1
  entry-way ms j (list f xs) o h =
      by_role j.role (IsValueNode form j.source.value j.source.start j.source.before j.source.after (list f xs)) ⊥ ⊥ o (λ x. x) h.1
  entry-way ms j (table f ss) o h =
      by_role j.role (IsValueNode form j.source.value j.source.start j.source.before j.source.after (table f ss)) ⊥ ⊥ o (λ x. x) h.1
  entry-way ms j (tables x xs) o h =
      by_role j.role (IsValueNode form j.source.value j.source.start j.source.before j.source.after (tables x xs)) ⊥ ⊥ o (λ x. x) h.1
  entry-way ms j (inline f ss) o h =
      by_role j.role (IsValueNode form j.source.value j.source.start j.source.before j.source.after (inline f ss))
      ((f ≡ path_fields (key_extent form j)) × AreEntrySlots form (under (at_key j.segment.key) ms) (kept (under (at_key j.segment.key) ms))
      ss)
      (f.is_dotted ≡ true) o (λ x. ap (λ (y : InlineFields). y.is_dotted) x.0) h.1

  same-deeper : (s : Step) (o : Option (Mention Entry × Node)) (c : Option (Mention Entry × Mention Entry)) → IsSameClash o c
      → IsSameClash (option_map (deeper_way s) o) (option_map (both_deeper s) c)
  same-deeper s None None h = tt
  same-deeper s None (Some d) h = h
  same-deeper s (Some c) None h = h
  same-deeper s (Some c) (Some d) h = (ap (deeper s) h.0, h.1)

  -- ---- the last key

  last-clash : (source : Entry) (start : ℕ) (g : Segment) (ms : List (Mention Entry)) → AreAgreeing ms
      → (o : Option Node) (first : Option (Mention Entry)) → first_at (at_key g.key ∷ []) ms ≡ first → IsFound form ms first o
      → IsSameClash (option_map (in_way (mention_of source start (to_key [] g.key) value_role g)) o)
      (first_clash may_meet_inline ms (line_mentions source start [] (g ∷ [])))
  last-clash source start g ms are None None e h =
      let m = mention_of source start (to_key [] g.key) value_role g in
      let free : find (clash may_meet_inline m) ms ≡ None =
      clash-free may_meet_inline m ms (any-test (λ r. not (may_meet_inline r value_role)) (at_key g.key
      ∷ []) ms (some_at-first (at_key g.key ∷ []) ms ∙ ap is_some e)) in
      rw free tt
  last-clash source start g ms are None (Some j) e h = absurd h
  last-clash source start g ms are (Some n) None e h = absurd h
  last-clash source start g ms are (Some n) (Some j) e h =
      let m = mention_of source start (to_key [] g.key) value_role g in
      let found : find (clash may_meet_inline m) ms ≡ Some j = clash-at may_meet_inline m j ms e (refused-value j.role) in
      rw found (refl, entry-way ms j n (role-first is_other_role (at_key g.key ∷ []) ms j e (are.plain (at_key g.key ∷ []))) h)

  -- ---- a dotted key

  -- the rest of the path clashes alike, among these mentions with these slots
  abbrev ClashesAlike : (Slots → Option (Mention Entry × Node)) → List (Mention Entry) → Type 0
  ClashesAlike further below =
      (xs : List (Mention Entry)) (ss : Slots) → AreAgreeing xs → AreEntrySlots form xs (kept xs) ss
      → IsSameClash (further ss) (first_clash may_meet_inline xs below)

  value-way : (m : Mention Entry) (further : Slots → Option (Mention Entry × Node)) (v : Value) (i : ℕ) (before after : Text) (n : Node)
      → IsValueNode form v i before after n → clash_below m further (Some n) ≡ Some (in_way m n)
  value-way m further v i before after nothing h = refl
  value-way m further v i before after (leaf s r d) h = refl
  value-way m further v i before after (list f xs) h = refl
  value-way m further v i before after (table f ss) h = refl
  value-way m further v i before after (tables x xs) h = refl
  value-way m further v i before after (inline f ss) h = by_dotted f.is_dotted (not-value form v i before after f ss) h
    where
      by_dotted : (b : Bool) → (b ≡ true → IsValueNode form v i before after (inline f ss) → ⊥)
          → IsValueNode form v i before after (inline f ss)
          → (if b then further ss else Some (in_way m (inline f ss))) ≡ Some (in_way m (inline f ss))
      by_dotted true g h = absurd (g refl h)
      by_dotted false g h = refl

  dotted-clash : (source : Entry) (start : ℕ) (g : Segment) (below : List (Mention Entry)) (further : Slots
      → Option (Mention Entry × Node)) (ms : List (Mention Entry))
      → AreAgreeing ms → ((ss : Slots) → further ss ≡ option_map (deeper_way (at_key g.key)) (entry_clash below ss))
      → ClashesAlike (entry_clash below) below
      → (o : Option Node) (first : Option (Mention Entry)) → first_of_key g.key (kept ms) ≡ first → IsFound form ms first o
      → IsSameClash (clash_below (mention_of source start (to_key [] g.key) dotted_role g) further o)
      (first_clash may_meet_inline ms (path_of source start dotted_role g below))
  dotted-clash source start g below further ms are deep alike None None e h =
      let m = mention_of source start (to_key [] g.key) dotted_role g in
      let away = sym (kept-find g.key ms are.pairs.named are.pairs.headless) ∙ e in
      let free : find (clash may_meet_inline m) ms ≡ None =
      clash-free may_meet_inline m ms (any-test (λ r. not (may_meet_inline r dotted_role)) (at_key g.key
      ∷ []) ms (some_at-first (at_key g.key ∷ []) ms ∙ ap is_some away)) in
      let none : first_clash may_meet_inline ms (all_deeper (at_key g.key) below) ≡ None =
      clash-deeper may_meet_inline (at_key g.key) ms below
      ∙ ap (λ us. option_map (both_deeper (at_key g.key)) (first_clash may_meet_inline us below)) (under-new g.key ms are.pairs e)
      ∙ ap (option_map (both_deeper (at_key g.key))) (clash-none may_meet_inline below) in
      rw free (rw none tt)
  dotted-clash source start g below further ms are deep alike None (Some j) e h = absurd h
  dotted-clash source start g below further ms are deep alike (Some n) None e h = absurd h
  dotted-clash source start g below further ms are deep alike (Some n) (Some j) e h = by_value (is_value_role j.role) refl
    where
      k : Path
      k = at_key g.key ∷ []

      m : Mention Entry
      m = mention_of source start (to_key [] g.key) dotted_role g

      at : first_at k ms ≡ Some j
      at = sym (kept-find g.key ms are.pairs.named are.pairs.headless) ∙ e

      other : is_other_role j.role ≡ false
      other = role-first is_other_role k ms j at (are.plain k)

      by_dotted : (n : Node) → IsDotted n → is_value_role j.role ≡ false → IsEntryNode form ms j n
          → IsSameClash (clash_below m further (Some n)) (first_clash may_meet_inline ms (path_of source start dotted_role g below))
      by_dotted nothing d v h = absurd d
      by_dotted (leaf s r x) d v h = absurd d
      by_dotted (list f xs) d v h = absurd d
      by_dotted (table f ss) d v h = absurd d
      by_dotted (tables x xs) d v h = absurd d
      by_dotted (inline f inner) d v h =
          let seen : some_at is_dotted_role k ms ≡ true = role-at is_dotted_role k ms j at (dotted-else j.role v other) in
          let no_value : some_at is_value_role k ms ≡ false =
          false-by (some_at is_value_role k ms) (λ x. true-false (some_at is_dotted_role k ms) seen (are.unmixed k x)) in
          let free : find (clash may_meet_inline m) ms ≡ None =
          clash-free may_meet_inline m ms (none-refused k ms no_value (are.plain k)) in
          let (ends, fields, inside) = node-dotted form ms j f inner d h in
          let slots = subst (λ x. AreEntrySlots form (under (at_key x) ms) (kept (under (at_key x) ms)) inner)
          (sym (first_of_key-is g.key (kept ms) j e)) inside in
          let rest : IsSameClash (further inner) (first_clash may_meet_inline ms (all_deeper (at_key g.key) below)) =
          subst (λ o. IsSameClash o (first_clash may_meet_inline ms (all_deeper (at_key g.key) below))) (sym (deep inner))
          (subst (IsSameClash (option_map (deeper_way (at_key g.key)) (entry_clash below inner)))
          (sym (clash-deeper may_meet_inline (at_key g.key) ms below))
          (same-deeper (at_key g.key) (entry_clash below inner) (first_clash may_meet_inline (under (at_key g.key) ms) below)
          (alike (under (at_key g.key) ms) inner (agreeing-under (at_key g.key) ms are) slots))) in
          subst (λ b. IsSameClash (if b then further inner else Some (in_way m (inline f inner)))
          (first_clash may_meet_inline ms (path_of source start dotted_role g below)))
          (sym d) (rw free rest)

      by_value : (b : Bool) → is_value_role j.role ≡ b → IsSameClash (clash_below m further (Some n))
          (first_clash may_meet_inline ms (path_of source start dotted_role g below))
      by_value true v =
          let found : find (clash may_meet_inline m) ms ≡ Some j = clash-at may_meet_inline m j ms at (value-refuses j.role v) in
          let way = entry-way ms j n other h in
          let value = MatchBool-at_true (IsValueNode form j.source.value j.source.start j.source.before j.source.after n) (IsDotted n) v
          way in
          subst (λ o. IsSameClash o (first_clash may_meet_inline ms (path_of source start dotted_role g below)))
          (sym (value-way m further j.source.value j.source.start j.source.before j.source.after n value)) (rw found (refl, way))
      by_value false v =
          by_dotted n (MatchBool-at_false (IsValueNode form j.source.value j.source.start j.source.before j.source.after n) (IsDotted n) v
          (entry-way ms j n other h)) v h

  -- ---- a whole path

  -- A pair clashes with the slots of agreeing pairs where it clashes with these, and at the same mention.
  pub entry_clashes : (source : Entry) (start : ℕ) (segments : List Segment) (ms : List (Mention Entry)) (ss : Slots) → AreAgreeing ms
      → AreEntrySlots form ms (kept ms) ss
      → IsSameClash (entry_clash (line_mentions source start [] segments) ss)
      (first_clash may_meet_inline ms (line_mentions source start [] segments))
  entry_clashes source start [] ms ss are h = tt
  entry_clashes source start (g ∷ []) ms ss are h =
      last-clash source start g ms are (node_at g.key ss) (first_of_key g.key (kept ms))
      (sym (kept-find g.key ms are.pairs.named are.pairs.headless))
      (slots-find form ms (kept ms) g.key ss h)
  entry_clashes source start (g ∷ x ∷ rest) ms ss are h =
      let m = mention_of source start (to_key [] g.key) dotted_role g in
      let below = line_mentions source (next_start start g) [] (x ∷ rest) in
      let lines = lines-deeper source (next_start start g) (at_key g.key) [] (x ∷ rest) in
      subst (λ o. IsSameClash o (first_clash may_meet_inline ms (line_mentions source start [] (g ∷ x ∷ rest))))
      (sym (path-below m source (next_start start g) (to_key [] g.key) x rest ss))
      (subst (λ us. IsSameClash (clash_below m (entry_clash (line_mentions source (next_start start g) (to_key [] g.key) (x ∷ rest)))
      (node_at g.key ss)) (first_clash may_meet_inline ms (m ∷ us)))
      (sym lines)
      (dotted-clash source start g below (entry_clash (line_mentions source (next_start start g) (to_key [] g.key) (x ∷ rest))) ms are
      (λ us. ap (λ ps. entry_clash ps us) lines ∙ way-deeper (at_key g.key) below us)
      (λ xs us. entry_clashes source (next_start start g) (x ∷ rest) xs us)
      (node_at g.key ss) (first_of_key g.key (kept ms)) refl (slots-find form ms (kept ms) g.key ss h)))

  -- ---- a pair

  pub same-none : (o : Option (Mention Entry × Node)) (c : Option (Mention Entry × Mention Entry)) → IsSameClash o c → is_none o ≡ is_none c
  same-none None None h = refl
  same-none None (Some d) h = absurd h
  same-none (Some c) None h = absurd h
  same-none (Some c) (Some d) h = refl

  -- It can be added exactly where it agrees with them.
  pub entry_goes : (source : Entry) (start : ℕ) (segments : List Segment) (ms : List (Mention Entry)) (n : Node) (ss : Slots)
      → is_empty segments ≡ false
      → AreAgreeing ms → AreEntrySlots form ms (kept ms) ss
      → is_some (add_entry form (line_mentions source start [] segments) n ss)
      ≡ agree may_meet_inline ms (line_mentions source start [] segments)
  entry_goes source start segments ms n ss keyed are h =
      let path = line_mentions source start [] segments in
      entry_or_clash form source start segments n ss keyed
      ∙ same-none (entry_clash path ss) (first_clash may_meet_inline ms path) (entry_clashes source start segments ms ss are h)
      ∙ sym (agree-clash may_meet_inline ms path)
