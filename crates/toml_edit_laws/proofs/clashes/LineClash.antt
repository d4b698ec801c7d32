-- A key line can be added to the slots of its block's table exactly where it agrees with the statements before it; else both clash at
-- one mention.
use Rattle.std.proofs.Common.{◌≡◌, refl, sym, ◌∙◌, ap, subst, ℕ, Bool, true, false, List, [], ◌∷◌, Option, Some, None}
use Rattle.std.specs.Prelude.{not, ◌||◌, if◌then◌else◌, is_some, option_map}
use Rattle.toml_edit_model.specs.Mode.{Mode}
use Rattle.toml_edit_model.specs.Text.{is_empty}
use Rattle.toml_edit_model.specs.Syntax.{Segment}
use Rattle.toml_edit_model.specs.Paths.{Step, at_key, Path, to_key, Mention, Source, mention_of, line_mentions, next_start}
use Rattle.toml_edit_model.specs.Accepted.{agree}
use Rattle.toml_edit_model.specs.Faults.{first_clash}
use Rattle.toml_edit_model.specs.Tree.{Node, nothing, leaf, list, inline, table, tables, Slots, no_slots}
use Rattle.toml_edit_model.specs.TreeOf.{spanned_in, key_at, key_extent, made_by_path, AreSlotsOf}
use Rattle.toml_edit_laws.specs.FlatTree.{with_slot}
use Rattle.toml_edit_laws.specs.InlineTree.{node_at, with_node, add_last}
use Rattle.toml_edit_laws.specs.TableTree.{extend_below, add_line}
use Rattle.toml_edit_laws.specs.TableClash.{extend_clash, line_clash}
use Rattle.toml_edit_laws.proofs.mentions.GatherLaws.{deeper, all_deeper, first_of_key, first_of_key-is}
use Rattle.toml_edit_laws.proofs.inline_tables.AgreeLaws.{agree-clash}
use Rattle.toml_edit_laws.proofs.inline_tables.PairMentions.{lines-deeper}
use Rattle.toml_edit_laws.proofs.inline_tables.InlineBuild.{path_of}
use Rattle.toml_edit_laws.proofs.clashes.ClashMentions.{AreOfStatements, statements-under}
use Rattle.toml_edit_laws.proofs.clashes.ClashKept.{kept-free}
use Rattle.toml_edit_laws.proofs.clashes.ClashRoles.{IsSlotNode, IsFound, node-found, standing}
use Rattle.toml_edit_laws.proofs.clashes.TableClash.{blocks, way_of, in_way, IsSameClash, same-none, clash_here, clash_later, deeper_way}
use Rattle.toml_edit_laws.proofs.clashes.TableClash.{same-deeper, clash_new}
use Rattle.toml_edit_laws.proofs.common.OptionSteps.{is_some-map, is_none}
use Rattle.toml_edit_model.specs.Roles.{dotted_role, value_role, may_meet}
use Rattle.toml_edit_model.specs.TableMentions.{under, kept}

-- ---- a line goes on where nothing stands in its way

clash-empty : (ms : List (Mention Source)) → line_clash ms no_slots ≡ None
clash-empty [] = refl
clash-empty (m ∷ []) = refl
clash-empty (m ∷ r ∷ rest) = refl

-- the same path, further down
line-deeper : (s : Step) (ms : List (Mention Source)) (ss : Slots) → line_clash (all_deeper s ms) ss
    ≡ option_map (deeper_way s) (line_clash ms ss)
line-deeper s [] ss = refl
line-deeper s (m ∷ []) ss = by_node (node_at m.segment.key ss)
  where
    by_node : (o : Option Node) → option_map (in_way (deeper s m)) o ≡ option_map (deeper_way s) (option_map (in_way m) o)
    by_node None = refl
    by_node (Some x) = refl
line-deeper s (m ∷ r ∷ rest) ss = by_node (node_at m.segment.key ss) (line-deeper s (r ∷ rest))
  where
    by_node : (o : Option Node) → ((us : Slots) → line_clash (all_deeper s (r ∷ rest)) us
        ≡ option_map (deeper_way s) (line_clash (r ∷ rest) us))
        → extend_clash (deeper s m) (line_clash (all_deeper s (r ∷ rest))) o
        ≡ option_map (deeper_way s) (extend_clash m (line_clash (r ∷ rest)) o)
    by_node None ih = refl
    by_node (Some nothing) ih = refl
    by_node (Some (leaf x y d)) ih = refl
    by_node (Some (list f xs)) ih = refl
    by_node (Some (inline f us)) ih = refl
    by_node (Some (tables x xs)) ih = refl
    by_node (Some (table f inner)) ih = by_implicit f.is_implicit
      where
        by_implicit : (b : Bool)
            → (if b then line_clash (all_deeper s (r ∷ rest)) inner else Some (in_way (deeper s m) (table f inner)))
            ≡ option_map (deeper_way s) (if b then line_clash (r ∷ rest) inner else Some (in_way m (table f inner)))
        by_implicit true = ih inner
        by_implicit false = refl

pub line-below : (m : Mention Source) (source : Source) (start : ℕ) (p : Path) (h : Segment) (rest : List Segment) (ss : Slots)
    → line_clash (m ∷ line_mentions source start p (h ∷ rest)) ss
    ≡ extend_clash m (line_clash (line_mentions source start p (h ∷ rest))) (node_at m.segment.key ss)
line-below m source start p h [] ss = refl
line-below m source start p h (g ∷ rest) ss = refl

module _ (mode : Mode) where
  add-clash : (m : Mention Source) (rest : List (Mention Source)) (n : Node) (ss : Slots)
      → is_some (add_line mode (m ∷ rest) n ss) ≡ is_none (line_clash (m ∷ rest) ss)
  add-clash m [] n ss = by_node (node_at m.segment.key ss)
    where
      by_node : (o : Option Node) → is_some (add_last ss (key_at (spanned_in mode) m) n o) ≡ is_none (option_map (in_way m) o)
      by_node None = refl
      by_node (Some x) = refl
  add-clash m (r ∷ rest) n ss = by_node (node_at m.segment.key ss) (add-clash r rest n)
    where
      by_node : (o : Option Node) → ((us : Slots) → is_some (add_line mode (r ∷ rest) n us) ≡ is_none (line_clash (r ∷ rest) us))
          → is_some (extend_below mode m (add_line mode (r ∷ rest) n) ss o) ≡ is_none (extend_clash m (line_clash (r ∷ rest)) o)
      by_node None ih =
          is_some-map
          (λ (inner : Slots). with_slot ss (key_at (spanned_in mode) m)
          (table (made_by_path (spanned_in mode) true (key_extent (spanned_in mode) m)) inner))
          (add_line mode (r ∷ rest) n no_slots)
          ∙ ih no_slots ∙ ap is_none (clash-empty (r ∷ rest))
      by_node (Some nothing) ih = refl
      by_node (Some (leaf s x d)) ih = refl
      by_node (Some (list f xs)) ih = refl
      by_node (Some (inline f us)) ih = refl
      by_node (Some (tables x xs)) ih = refl
      by_node (Some (table f inner)) ih = by_implicit f.is_implicit
        where
          by_implicit : (b : Bool)
              → is_some (if b then option_map (λ (changed : Slots). with_node m.segment.key (table (record f { is_dotted = true }) changed)
              ss) (add_line mode (r ∷ rest) n inner) else None)
              ≡ is_none (if b then line_clash (r ∷ rest) inner else Some (in_way m (table f inner)))
          by_implicit true =
              is_some-map (λ (changed : Slots). with_node m.segment.key (table (record f { is_dotted = true }) changed) ss)
              (add_line mode (r ∷ rest) n inner) ∙ ih inner
          by_implicit false = refl

  -- A line is added, or clashes.
  pub line_or_clash : (source : Source) (start : ℕ) (segments : List Segment) (n : Node) (ss : Slots) → is_empty segments ≡ false
      → is_some (add_line mode (line_mentions source start [] segments) n ss)
      ≡ is_none (line_clash (line_mentions source start [] segments) ss)
  line_or_clash source start [] n ss keyed = absurd cc
  line_or_clash source start (g ∷ []) n ss keyed = add-clash (mention_of source start (to_key [] g.key) value_role g) [] n ss
  line_or_clash source start (g ∷ h ∷ rest) n ss keyed =
      add-clash (mention_of source start (to_key [] g.key) dotted_role g) (line_mentions source (next_start start g) (to_key [] g.key) (h
      ∷ rest)) n ss

  -- ---- the last key

  last-clash : (source : Source) (start : ℕ) (g : Segment) (ms : List (Mention Source)) → AreOfStatements ms
      → (o : Option Node) (first : Option (Mention Source)) → first_of_key g.key (kept ms) ≡ first → IsFound mode ms first o
      → IsSameClash mode (option_map (in_way (mention_of source start (to_key [] g.key) value_role g)) o)
      (first_clash may_meet ms (line_mentions source start [] (g ∷ [])))
  last-clash source start g ms are None None e h =
      clash_new mode g.key (mention_of source start (to_key [] g.key) value_role g) [] ms refl are (kept-free g.key ms are.named e)
  last-clash source start g ms are None (Some j) e h = absurd h
  last-clash source start g ms are (Some n) None e h = absurd h
  last-clash source start g ms are (Some n) (Some j) e h =
      clash_here mode m [] ms n (way_of mode m ms n (standing (spanned_in mode) g.key ms j n are e h)) (by_node n h)
    where
      m : Mention Source
      m = mention_of source start (to_key [] g.key) value_role g

      by_node : (n : Node) → IsSlotNode mode ms j n → blocks value_role n ≡ true
      by_node nothing h = absurd h
      by_node (leaf s x d) h = refl
      by_node (list f xs) h = refl
      by_node (inline f us) h = refl
      by_node (tables x xs) h = refl
      by_node (table f us) h = refl

  -- ---- a dotted key

  -- the rest of the path clashes alike, among these mentions with these slots
  abbrev ClashesAlike : (Slots → Option (Mention Source × Node)) → List (Mention Source) → Type 0
  ClashesAlike further below =
      (xs : List (Mention Source)) (ss : Slots) → AreOfStatements xs → AreSlotsOf (spanned_in mode) xs (kept xs) ss
      → IsSameClash mode (further ss) (first_clash may_meet xs below)

  dotted-clash : (source : Source) (start : ℕ) (g : Segment) (below : List (Mention Source)) (further : Slots
      → Option (Mention Source × Node)) (ms : List (Mention Source))
      → AreOfStatements ms → ((ss : Slots) → further ss ≡ option_map (deeper_way (at_key g.key)) (line_clash below ss))
      → ClashesAlike (line_clash below) below
      → (o : Option Node) (first : Option (Mention Source)) → first_of_key g.key (kept ms) ≡ first → IsFound mode ms first o
      → IsSameClash mode (extend_clash (mention_of source start (to_key [] g.key) dotted_role g) further o)
      (first_clash may_meet ms (path_of source start dotted_role g below))
  dotted-clash source start g below further ms are deep alike None None e h =
      clash_new mode g.key (mention_of source start (to_key [] g.key) dotted_role g) below ms refl are (kept-free g.key ms are.named e)
  dotted-clash source start g below further ms are deep alike None (Some j) e h = absurd h
  dotted-clash source start g below further ms are deep alike (Some n) None e h = absurd h
  dotted-clash source start g below further ms are deep alike (Some n) (Some j) e h = by_node n h
    where
      m : Mention Source
      m = mention_of source start (to_key [] g.key) dotted_role g

      blocked : (n : Node) → IsSlotNode mode ms j n → blocks dotted_role n ≡ true
          → IsSameClash mode (Some (in_way m n)) (first_clash may_meet ms (path_of source start dotted_role g below))
      blocked n h b = clash_here mode m (all_deeper (at_key g.key) below) ms n
          (way_of mode m ms n (standing (spanned_in mode) g.key ms j n are e h)) b

      by_node : (n : Node) → IsSlotNode mode ms j n → IsSameClash mode (extend_clash m further (Some n))
          (first_clash may_meet ms (path_of source start dotted_role g below))
      by_node nothing h = absurd h
      by_node (leaf s x d) h = blocked (leaf s x d) h refl
      by_node (list f xs) h = blocked (list f xs) h refl
      by_node (inline f us) h = blocked (inline f us) h refl
      by_node (tables x xs) h = blocked (tables x xs) h refl
      by_node (table f inner) h = by_implicit f.is_implicit refl
        where
          by_implicit : (b : Bool) → f.is_implicit ≡ b
              → IsSameClash mode (if b then further inner else Some (in_way m (table f inner)))
              (first_clash may_meet ms (path_of source start dotted_role g below))
          by_implicit false i = blocked (table f inner) h (ap (λ b. not b || false) i)
          by_implicit true i =
              let slots = subst (λ k. AreSlotsOf (spanned_in mode) (under (at_key k) ms) (kept (under (at_key k) ms)) inner)
              (sym (first_of_key-is g.key (kept ms) j e)) h.2 in
              clash_later mode m (all_deeper (at_key g.key) below) ms (table f inner) (further inner)
              (way_of mode m ms (table f inner) (standing (spanned_in mode) g.key ms j (table f inner) are e h))
              (ap (λ b. not b || false) i)
              (subst (λ o. IsSameClash mode o (first_clash may_meet ms (all_deeper (at_key g.key) below))) (sym (deep inner))
              (same-deeper mode (at_key g.key) (line_clash below inner) ms below
              (alike (under (at_key g.key) ms) inner (statements-under (at_key g.key) ms are) slots)))

  -- ---- a whole path

  -- A key line clashes with the slots of right statements where it clashes with these, and at the same mention.
  pub line_clashes : (source : Source) (start : ℕ) (segments : List Segment) (ms : List (Mention Source)) (ss : Slots) → AreOfStatements ms
      → AreSlotsOf (spanned_in mode) ms (kept ms) ss
      → IsSameClash mode (line_clash (line_mentions source start [] segments) ss)
      (first_clash may_meet ms (line_mentions source start [] segments))
  line_clashes source start [] ms ss are h = tt
  line_clashes source start (g ∷ []) ms ss are h =
      last-clash source start g ms are (node_at g.key ss) (first_of_key g.key (kept ms)) refl (node-found mode ms (kept ms) g.key ss h)
  line_clashes source start (g ∷ x ∷ rest) ms ss are h =
      let m = mention_of source start (to_key [] g.key) dotted_role g in
      let below = line_mentions source (next_start start g) [] (x ∷ rest) in
      let lines = lines-deeper source (next_start start g) (at_key g.key) [] (x ∷ rest) in
      subst (λ o. IsSameClash mode o (first_clash may_meet ms (line_mentions source start [] (g ∷ x ∷ rest))))
      (sym (line-below m source (next_start start g) (to_key [] g.key) x rest ss))
      (subst (λ us. IsSameClash mode (extend_clash m (line_clash (line_mentions source (next_start start g) (to_key [] g.key) (x ∷ rest)))
      (node_at g.key ss)) (first_clash may_meet ms (m ∷ us)))
      (sym lines)
      (dotted-clash source start g below (line_clash (line_mentions source (next_start start g) (to_key [] g.key) (x ∷ rest))) ms are
      (λ us. ap (λ ps. line_clash ps us) lines ∙ line-deeper (at_key g.key) below us)
      (λ xs us. line_clashes source (next_start start g) (x ∷ rest) xs us)
      (node_at g.key ss) (first_of_key g.key (kept ms)) refl (node-found mode ms (kept ms) g.key ss h)))

  -- It can be added exactly where it agrees with them.
  pub line_agrees : (source : Source) (start : ℕ) (segments : List Segment) (ms : List (Mention Source)) (ss : Slots) → AreOfStatements ms
      → AreSlotsOf (spanned_in mode) ms (kept ms) ss
      → agree may_meet ms (line_mentions source start [] segments) ≡ is_none (line_clash (line_mentions source start [] segments) ss)
  line_agrees source start segments ms ss are h =
      let path = line_mentions source start [] segments in
      agree-clash may_meet ms path
      ∙ sym (same-none mode (line_clash path ss) (first_clash may_meet ms path) (line_clashes source start segments ms ss are h))

  pub line_goes : (source : Source) (start : ℕ) (segments : List Segment) (ms : List (Mention Source)) (n : Node) (ss : Slots)
      → is_empty segments ≡ false
      → AreOfStatements ms → AreSlotsOf (spanned_in mode) ms (kept ms) ss
      → is_some (add_line mode (line_mentions source start [] segments) n ss) ≡ agree may_meet ms (line_mentions source start [] segments)
  line_goes source start segments ms n ss keyed are h =
      line_or_clash source start segments n ss keyed ∙ sym (line_agrees source start segments ms ss are h)
