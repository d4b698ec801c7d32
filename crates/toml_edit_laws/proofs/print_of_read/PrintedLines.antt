-- The lines of a block are printed as its normal lines.
use Rattle.std.proofs.Common.{◌≡◌, refl, sym, ◌∙◌, ap, subst, ℕ, ◌+◌, true, false, List, [], ◌∷◌, ◌++◌, append_assoc, inl, inr}
use Rattle.std.specs.Prelude.{◌⊎◌, ◌&&◌, ◌||◌, not, map, filter}
use Rattle.std.specs.List.{AllByRecursion, list_all}
use Rattle.toml_edit_laws.proofs.common.LineEnds.{ended}
use Rattle.toml_edit_model.specs.Mode.{Mode, shown_text, line_end, line_newline, with_return}
use Rattle.toml_edit_model.specs.Text.{is_empty, Text}
use Rattle.toml_edit_model.specs.Syntax.{Segment, Frame, Statement, key_line, header, Value}
use Rattle.toml_edit_model.specs.Paths.{Path, same_path, to_key, Mention, Source, Placed, Context, next_start, line_mentions, mentions_of}
use Rattle.toml_edit_model.specs.Paths.{context_after, placed_from}
use Rattle.toml_edit_model.specs.Accepted.{agree}
use Rattle.toml_edit_model.specs.Normal.{normal_statement, normal_end}
use Rattle.toml_edit_model.specs.Tree.{Decor, Key, Node, Slots, shown_prefix, shown_suffix, node_decor}
use Rattle.toml_edit_model.specs.TreeOf.{owned_in, decor_at, value_start, statement_leaf, IsLineNode, AreSlotsOf}
use Rattle.toml_edit_model.specs.Print.{one_space, Line, segments, last_leaf, is_line_node, value_of, table_lines, line_statement}
use Rattle.toml_edit_laws.proofs.common.Tests.{and_left, and_right, append-nil}
use Rattle.toml_edit_laws.proofs.common.OrderLaws.{sorted-alike}
use Rattle.toml_edit_laws.proofs.common.WhiteSpace.{white-shown}
use Rattle.toml_edit_laws.proofs.values.ValueItems.{owned-decor, value-line}
use Rattle.toml_edit_laws.proofs.values.ValueNormal.{value_normal}
use Rattle.toml_edit_laws.proofs.mentions.GatherLaws.{under-deeper}
use Rattle.toml_edit_laws.proofs.mentions.GatheredLines.{part_ways, keys_before, AllPart}
use Rattle.toml_edit_laws.proofs.mentions.MentionGroups.{lower, flat_lines}
use Rattle.toml_edit_laws.proofs.mentions.KeptPaths.{kept_below, kept_in, own-kept}
use Rattle.toml_edit_laws.proofs.inline_tables.PairLines.{stands-comes, agree-parts, lower-lines}
use Rattle.toml_edit_laws.proofs.inline_tables.InlineLines.{AreLines}
use Rattle.toml_edit_laws.proofs.mentions.RankLaws.{RanksFollow}
use Rattle.toml_edit_laws.proofs.clashes.ClashContext.{HasKey}
use Rattle.toml_edit_laws.proofs.clashes.ClashMentions.{AreOfStatements}
use Rattle.toml_edit_laws.proofs.mentions.KeptOrder.{HaveOneHeader}
use Rattle.toml_edit_laws.proofs.adding.DeeperMentions.{below, line-block}
use Rattle.toml_edit_laws.proofs.print_of_read.BlockLines.{PrintsLine, IsLevel, block-lines}
use Rattle.toml_edit_laws.proofs.print_of_read.Blocks.{IsBlock, HaveLines, IsDown, is_of, block-way}
use Rattle.toml_edit_laws.proofs.print_of_read.Chunks.{place_path, place_start, Chunk, lead_lines, chunks, lines_before}
use Rattle.toml_edit_laws.proofs.print_of_read.ChunkFacts.{IsLineIn, lead-facts, AgreeAfter}
use Rattle.toml_edit_laws.proofs.print_of_read.DocumentFacts.{IsRightStatement}
use Rattle.toml_edit_laws.proofs.print_of_read.UnderPaths.{path-filter, path-append}
use Rattle.toml_edit_laws.proofs.print_of_read.WalkFacts.{seat-level}
use Rattle.toml_edit_laws.proofs.mentions.Placed.{mentions_in, placed_at}
use Rattle.toml_edit_laws.proofs.common.Agreement.{agree-append}
use Rattle.toml_edit_laws.proofs.common.Each.{all-map}
use Rattle.toml_edit_laws.proofs.print_of_read.Seats.{IsSeat}
use Rattle.toml_edit_model.specs.Order.{sorted_by}
use Rattle.toml_edit_laws.specs.KeptKeys.{under_path}
use Rattle.toml_edit_model.specs.Roles.{Role, dotted_role, value_role, may_meet, may_meet_inline}
use Rattle.toml_edit_model.specs.Kept.{stands_before, rank, unspaced_ends, kept_segment}
use Rattle.toml_edit_model.specs.TableMentions.{kept}

-- ---- one line

-- the kept segments of a place's path
abbrev pub kept_of : List (Mention Source) → Placed → List Segment
kept_of all s = map (kept_segment all) s.mentions

under-below : {S : Type 0} (p : Path) (ns : List (Mention S)) → under_path p (below p ns) ≡ ns
under-below [] ns = refl
under-below (s ∷ p) ns = ap (under_path p) (under-deeper s (below p ns)) ∙ under-below p ns

lines-below : (b : Path) (j : ℕ) (xs : List Placed) → AllByRecursion (IsLineIn b j) xs
    → under_path b (mentions_in xs) ≡ flat_lines (λ s. s.source) place_start place_path xs
lines-below b j [] h = nothing b
  where
    nothing : (p : Path) → under_path {S = Source} p [] ≡ []
    nothing [] = refl
    nothing (s ∷ p) = nothing p
lines-below b j (x ∷ xs) h =
    path-append b x.mentions (mentions_in xs)
    ∙ ap (λ ms. ms ++ under_path b (mentions_in xs))
    (ap (under_path b) (h.0.mentions ∙ line-block x.source (place_start x) b (place_path x))
    ∙ under-below b (line_mentions x.source (place_start x) [] (place_path x)))
    ∙ ap (λ ms. line_mentions x.source (place_start x) [] (place_path x) ++ ms) (lines-below b j xs h.1)

-- lines of a block stand in the order of their keys
block-sorted : (mss : List (List (Mention Source))) (b : Path) (j : ℕ) (xs : List Placed) → AllByRecursion (IsLineIn b j) xs
    → sorted_by (lines_before mss) xs ≡ sorted_by (λ x y. keys_before (rank mss) b (place_path x) (place_path y)) xs
block-sorted mss b j xs h =
    sorted-alike (IsLineIn b j) (lines_before mss) (λ x y. keys_before (rank mss) b (place_path x) (place_path y))
    (λ x y p q.
    ap (λ ms. stands_before (rank mss) ms y.mentions) p.mentions
    ∙ ap (stands_before (rank mss) (line_mentions x.source (place_start x) b (place_path x))) q.mentions
    ∙ stands-comes (rank mss) x.source y.source (place_start x) (place_start y) b (place_path x) (place_path y)) xs h

module _ (mode : Mode) where
  -- the line is printed as the normal one
  abbrev pub PrintsNormal : List (Mention Source) → Line → Placed → Type 0
  PrintsNormal all l s = line_statement mode l ≡ normal_statement mode all s s.source.statement

  -- a frame of the decors of its last key and its value
  abbrev framed : Decor → List Segment → Decor → Frame
  framed key path value =
      record {
        leading = shown_prefix mode [] key;
        path = path;
        before_equals = shown_suffix mode one_space key;
        after_equals = shown_prefix mode one_space value;
        trailing = line_end mode (shown_suffix mode [] value);
      }

  abbrev framed_line : Decor → List Segment → Decor → Value → Statement
  framed_line key path value v = key_line (framed key path value) v (line_newline mode (shown_suffix mode [] value))

  statement-printed : (all : List (Mention Source)) (s : Placed) (t : Statement) → IsRightStatement t → (n : Node) (ks : List Key)
      → IsLineNode (owned_in mode) s.source t n
      → last_leaf ks ≡ statement_leaf (owned_in mode) s.source t → segments mode ks ≡ unspaced_ends (kept_of all s)
      → (is_line_node n ≡ true) × (line_statement mode (record { keys = ks; item = n; value = value_of mode n })
      ≡ normal_statement mode all s t)
  statement-printed all s (header h end) right n ks is leaf_is path_is = absurd is
  statement-printed all s (key_line f v end) right n ks is leaf_is path_is =
      let i : ℕ = s.source.start + value_start (owned_in mode) f in
      let after : Text = with_return mode f.trailing end in
      let leaf : Decor = statement_leaf (owned_in mode) s.source (key_line f v end) in
      let ends = ended mode f.trailing end right.0.0.trailing right.3 in
      let decor_is : node_decor n ≡ decor_at (owned_in mode) 0 f.after_equals 0 after =
      owned-decor mode v i 0 0 f.after_equals after n is in (
        value-line (owned_in mode) v i f.after_equals after n is,
        ap (λ d. framed_line d (segments mode ks) (node_decor n) (value_of mode n)) leaf_is
            ∙ ap (λ p. framed_line leaf p (node_decor n) (value_of mode n)) path_is
            ∙ ap (λ d. framed_line leaf (unspaced_ends (kept_of all s)) d (value_of mode n)) decor_is
            ∙ ap (λ t. with_parts f t (shown_text mode f.after_equals) (line_end mode (shown_text mode after)) (value_of mode n)
            (line_newline mode (shown_text mode after))) (white-shown mode f.before_equals right.0.0.before_equals)
            ∙ ap (λ t. with_parts f f.before_equals t (line_end mode (shown_text mode after)) (value_of mode n)
            (line_newline mode (shown_text mode after))) (white-shown mode f.after_equals right.0.0.after_equals)
            ∙ ap (λ t. with_parts f f.before_equals f.after_equals t (value_of mode n) (line_newline mode (shown_text mode after)))
            ends.trailing
            ∙ ap (λ t. with_parts f f.before_equals f.after_equals (shown_text mode f.trailing) (value_of mode n) t) ends.newline
            ∙ ap (λ w. with_parts f f.before_equals f.after_equals (shown_text mode f.trailing) w (normal_end mode end))
            (value_normal mode v i f.after_equals after n right.1 right.2 is),
      )
    where
      with_parts : Frame → Text → Text → Text → Value → Text → Statement
      with_parts g b a t w e =
          key_line (record {
            leading = shown_text mode g.leading;
            path = unspaced_ends (kept_of all s);
            before_equals = b;
            after_equals =
                a;
            trailing = t;
          }) w e

  prints-normal : (all : List (Mention Source)) (s : Placed) → IsRightStatement s.source.statement
      → PrintsLine mode (λ (x : Placed). x.source) (kept_of all) (PrintsNormal all) s
  prints-normal all s right n ks is leaf_is path_is = statement-printed all s s.source.statement right n ks is leaf_is path_is

  lines-same : (all : List (Mention Source)) (ls : List Line) (xs : List Placed) → AreLines (PrintsNormal all) ls xs
      → map (line_statement mode) ls ≡ map (λ s. normal_statement mode all s s.source.statement) xs
  lines-same all [] [] h = refl
  lines-same all [] (x ∷ xs) h = absurd h
  lines-same all (l ∷ ls) [] h = absurd h
  lines-same all (l ∷ ls) (x ∷ xs) h = ap (λ t. t ∷ map (line_statement mode) ls) h.0
      ∙ ap (λ ts. normal_statement mode all x x.source.statement ∷ ts) (lines-same all ls xs h.1)

  -- ---- the lines of a block

  -- The lines of a table that has these slots are the normal lines of its block, in their order.
  pub lines-printed : (all : List (Mention Source)) (mss : List (List (Mention Source))) (b : Path) (j : ℕ) (xs : List Placed)
      (ms : List (Mention Source)) (ss : Slots)
      → IsSeat all b ms → RanksFollow (rank mss) [] all → AreOfStatements all → HaveOneHeader all → HaveLines all → IsBlock all b j
      → AllByRecursion (IsLineIn b j) xs → AllPart place_path xs → AllByRecursion (λ s. IsRightStatement s.source.statement) xs
      → filter (λ m. is_of j m.source) all ≡ mentions_in xs → AreSlotsOf (owned_in mode) ms (kept ms) ss
      → map (line_statement mode) (table_lines mode ss [])
      ≡ map (λ s. normal_statement mode all s s.source.statement) (sorted_by (lines_before mss) xs)
  lines-printed all mss b j xs ms ss seat follow are one_header lines block in_block part right own slots =
      let source : Placed → Source = λ s. s.source in
      let mentioned : lower (filter (λ (m : Mention Source). is_of j m.source) ms) ≡ flat_lines source place_start place_path xs =
      ap lower
      (ap (filter (λ (m : Mention Source). is_of j m.source)) seat.is
      ∙ path-filter (is_of j) b all
      ∙ ap (under_path b) own
      ∙ lines-below b j xs in_block)
      ∙ lower-lines source place_start place_path xs in
      let level : IsLevel mode all (is_of j) (IsDown all b) source (rank mss) (kept_of all) (PrintsNormal all) b place_path place_start []
      xs ms =
      seat-level mode all (is_of j) (IsDown all b) source (rank mss) (kept_of all) (PrintsNormal all) b place_path place_start [] xs ms seat
      follow
      ([], sym (append-nil b), tt)
      (all-map (IsLineIn b j) (λ s. is_empty (place_path s) ≡ false) xs (λ s h. h.filled) in_block) part mentioned
      (all-map (IsLineIn b j) (λ s. kept_of all s ≡ kept_below (kept_in all) b (place_path s)) xs
      (λ s h. ap (map (kept_segment all)) h.mentions ∙ own-kept all s.source (place_start s) b (place_path s)) in_block)
      (all-map (λ (s : Placed). IsRightStatement s.source.statement) (PrintsLine mode source (kept_of all) (PrintsNormal all)) xs
      (λ s h. prints-normal all s h) right) in
      lines-same all (table_lines mode ss []) (sorted_by (λ x y. keys_before (rank mss) b (place_path x) (place_path y)) xs)
      (block-lines mode all (is_of j) (IsDown all b) source (rank mss) (kept_of all) (PrintsNormal all)
      (block-way all b j are one_header lines block) ss b place_path place_start [] xs ms level slots)
      ∙ ap (map (λ (s : Placed). normal_statement mode all s s.source.statement)) (sym (block-sorted mss b j xs in_block))

-- ---- lines that agree part ways

abbrev IsLineRole : Role → Type 0
IsLineRole r = (r ≡ dotted_role) ⊎ (r ≡ value_role)

line-kinds : {S : Type 0} (source : S) (start : ℕ) (p : Path) (ss : List Segment)
    → AllByRecursion (λ m. IsLineRole m.role) (line_mentions source start p ss)
line-kinds source start p [] = tt
line-kinds source start p (s ∷ []) = (inr refl, tt)
line-kinds source start p (s ∷ r ∷ rest) = (inl refl, line-kinds source (next_start start s) (to_key p s.key) (r ∷ rest))

meet-alike : (r q : Role) → IsLineRole r → IsLineRole q → may_meet r q ≡ may_meet_inline r q
meet-alike r q (inl e) (inl g) = ap (λ x. may_meet x q) e ∙ ap (may_meet dotted_role) g
    ∙ sym (ap (λ x. may_meet_inline x q) e ∙ ap (may_meet_inline dotted_role) g)
meet-alike r q (inl e) (inr g) = ap (λ x. may_meet x q) e ∙ ap (may_meet dotted_role) g
    ∙ sym (ap (λ x. may_meet_inline x q) e ∙ ap (may_meet_inline dotted_role) g)
meet-alike r q (inr e) (inl g) = ap (λ x. may_meet x q) e ∙ ap (may_meet value_role) g
    ∙ sym (ap (λ x. may_meet_inline x q) e ∙ ap (may_meet_inline value_role) g)
meet-alike r q (inr e) (inr g) = ap (λ x. may_meet x q) e ∙ ap (may_meet value_role) g
    ∙ sym (ap (λ x. may_meet_inline x q) e ∙ ap (may_meet_inline value_role) g)

one-alike : {S : Type 0} (m : Mention S) (ns : List (Mention S)) → IsLineRole m.role → AllByRecursion (λ n. IsLineRole n.role) ns
    → list_all (λ n. not (same_path m.path n.path) || may_meet m.role n.role) ns
    ≡ list_all (λ n. not (same_path m.path n.path) || may_meet_inline m.role n.role) ns
one-alike m [] h g = refl
one-alike m (n ∷ ns) h g =
    ap (λ b. (not (same_path m.path n.path) || b) && list_all (λ x. not (same_path m.path x.path) || may_meet m.role x.role) ns)
    (meet-alike m.role n.role h g.0)
    ∙ ap (λ b. (not (same_path m.path n.path) || may_meet_inline m.role n.role) && b) (one-alike m ns h g.1)

agree-alike : {S : Type 0} (ms ns : List (Mention S)) → AllByRecursion (λ m. IsLineRole m.role) ms
    → AllByRecursion (λ n. IsLineRole n.role) ns
    → agree may_meet ms ns ≡ agree may_meet_inline ms ns
agree-alike [] ns h g = refl
agree-alike (m ∷ ms) ns h g =
    ap (λ b. b && agree may_meet ms ns) (one-alike m ns h.0 g)
    ∙ ap (λ b. list_all (λ n. not (same_path m.path n.path) || may_meet_inline m.role n.role) ns && b) (agree-alike ms ns h.1 g)

lines-part : (b : Path) (i j : ℕ) (x y : Placed) → IsLineIn b i x → IsLineIn b j y → agree may_meet x.mentions y.mentions ≡ true
    → part_ways (place_path x) (place_path y) ≡ true
lines-part b i j x y h g e =
    let xs : List (Mention Source) = line_mentions x.source (place_start x) b (place_path x) in
    let ys : List (Mention Source) = line_mentions y.source (place_start y) b (place_path y) in
    agree-parts x.source y.source (place_start x) (place_start y) b (place_path x) (place_path y) h.filled g.filled
    (sym (agree-alike xs ys (line-kinds x.source (place_start x) b (place_path x)) (line-kinds y.source (place_start y) b (place_path y)))
    ∙ ap (λ ms. agree may_meet ms ys) (sym h.mentions) ∙ ap (agree may_meet x.mentions) (sym g.mentions) ∙ e)

-- what is among the mentions before agrees with the lines that follow
lead-agree : (c : Context) (ss : List Statement) (us ms vs : List (Mention Source)) → AgreeAfter (us ++ (ms ++ vs)) (placed_from c ss)
    → AllByRecursion (λ s. agree may_meet ms s.mentions ≡ true) (lead_lines c ss)
lead-agree c [] us ms vs h = tt
lead-agree c (header hd end ∷ ss) us ms vs h = tt
lead-agree c (key_line f v end ∷ ss) us ms vs h =
    let ns : List (Mention Source) = mentions_of c (key_line f v end) in
    let inner : agree may_meet (ms ++ vs) ns ≡ true =
    and_right (agree may_meet us ns) (agree may_meet (ms ++ vs) ns) (sym (agree-append may_meet us (ms ++ vs) ns) ∙ h.0) in (
      and_left (agree may_meet ms ns) (agree may_meet vs ns) (sym (agree-append may_meet ms vs ns) ∙ inner),
      lead-agree (context_after c (key_line f v end)) ss us ms (vs ++ ns)
          (subst (λ xs. AgreeAfter xs (placed_from (context_after c (key_line f v end)) ss)) (append_assoc us (ms ++ vs) ns
          ∙ ap (λ xs. us ++ xs) (append_assoc ms vs ns)) h.1),
    )

pub lead-part : (c : Context) (ss : List Statement) (before : List (Mention Source))
    → AllByRecursion (IsLineIn c.block c.headers) (lead_lines c ss)
    → AgreeAfter before (placed_from c ss) → AllPart place_path (lead_lines c ss)
lead-part c [] before h g = tt
lead-part c (header hd end ∷ ss) before h g = tt
lead-part c (key_line f v end ∷ ss) before h g =
    let d : Context = context_after c (key_line f v end) in
    let x : Placed = placed_at c (key_line f v end) in
    let later : AllByRecursion (λ s. agree may_meet x.mentions s.mentions ≡ true) (lead_lines d ss) =
    lead-agree d ss before x.mentions [] (subst (λ ms. AgreeAfter (before ++ ms) (placed_from d ss)) (sym (append-nil x.mentions)) g.1) in
    (each x (lead_lines d ss) h.0 h.1 later, lead-part d ss (before ++ x.mentions) h.1 g.1)
  where
    each : (x : Placed) (ys : List Placed) → IsLineIn c.block c.headers x → AllByRecursion (IsLineIn c.block c.headers) ys
        → AllByRecursion (λ s. agree may_meet x.mentions s.mentions ≡ true) ys
        → AllByRecursion (λ y. part_ways (place_path x) (place_path y) ≡ true) ys
    each x [] p q r = tt
    each x (y ∷ ys) p q r = (lines-part c.block c.headers c.headers x y p q.0 r.0, each x ys p q.1 r.1)

pub chunk-parts : (c : Context) (ss : List Statement) (before : List (Mention Source)) → AllByRecursion HasKey ss
    → AgreeAfter before (placed_from c ss)
    → AllByRecursion (λ (ch : Chunk). AllPart place_path ch.lines) (chunks c ss)
chunk-parts c [] before keyed g = tt
chunk-parts c (key_line f v end ∷ ss) before keyed g =
    chunk-parts (context_after c (key_line f v end)) ss (before ++ mentions_of c (key_line f v end)) keyed.1 g.1
chunk-parts c (header hd end ∷ ss) before keyed g =
    let d : Context = context_after c (header hd end) in
    let after : List (Mention Source) = before ++ mentions_of c (header hd end) in
    (lead-part d ss after (lead-facts d ss keyed.1) g.1, chunk-parts d ss after keyed.1 g.1)
