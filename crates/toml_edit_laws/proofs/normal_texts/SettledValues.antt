-- The normal form of a value is settled.
use Rattle.std.proofs.Common.{◌≡◌, refl, sym, ◌∙◌, ap, subst, ℕ, ◌+◌, Bool, true, false, List, [], ◌∷◌, ◌++◌, length, inr}
use Rattle.std.specs.Prelude.{◌&&◌, ◌||◌, not, nat_lt, map, flat_map, if◌then◌else◌}
use Rattle.std.specs.List.{AllByRecursion, list_any, list_all, position_or_len}
use Rattle.toml_edit_model.specs.Mode.{Mode, shown_text}
use Rattle.toml_edit_model.specs.Text.{Text, same_text}
use Rattle.toml_edit_model.specs.Trivia.{IsWholeTrivia}
use Rattle.toml_edit_model.specs.Syntax.{ends_unspaced, Segment, Frame, Value, scalar, array, inline_table, Elements, no_elements, element}
use Rattle.toml_edit_model.specs.Syntax.{Pairs, no_pairs, pair, begins_unspaced, IsFrame, IsValue, AreElements, ArePairs, is_short}
use Rattle.toml_edit_model.specs.Syntax.{has_short_keys, elements_have_short_keys, pairs_have_short_keys, keeps_ranges}
use Rattle.toml_edit_model.specs.Syntax.{elements_keep_ranges, pairs_keep_ranges}
use Rattle.toml_edit_model.specs.Paths.{at_key, Path, same_path, to_key, Mention, PairSource, line_mentions, pair_mentions}
use Rattle.toml_edit_model.specs.Accepted.{agree, all_agree, has_agreeing_pairs, elements_have_agreeing_pairs, pairs_have_agreeing_pairs}
use Rattle.toml_edit_model.specs.Normal.{pair_before, ordered_pairs, shown_frame, normal_value, normal_elements, normal_pairs}
use Rattle.toml_edit_laws.proofs.common.Tests.{and_left, and_right, and_both, same_text-refl}
use Rattle.toml_edit_laws.proofs.common.PathLaws.{is_front}
use Rattle.toml_edit_laws.proofs.mentions.RankLaws.{line-along}
use Rattle.toml_edit_laws.proofs.inline_tables.PairLines.{agree-parts}
use Rattle.toml_edit_laws.proofs.mentions.GatheredLines.{part_ways}
use Rattle.toml_edit_laws.proofs.common.Members.{Among, passes-among}
use Rattle.toml_edit_laws.proofs.normal_texts.SettledStays.{own-line}
use Rattle.toml_edit_laws.proofs.normal_texts.Lean.{no-return}
use Rattle.toml_edit_laws.proofs.normal_texts.Agreeing.{of-line, all_agree-pairs}
use Rattle.toml_edit_laws.proofs.normal_texts.OrderedPairs.{EachPair, IsMentionOf, source_at, mentions-of, ordered-each, AreSpelled}
use Rattle.toml_edit_laws.proofs.normal_texts.OrderedPairs.{ordered-spelled}
use Rattle.toml_edit_laws.proofs.normal_texts.RightValues.{normal-agree, normal-pairs-right}
use Rattle.toml_edit_laws.proofs.normal_texts.LinePaths.{line_paths, names, part_keys, stands}
use Rattle.toml_edit_laws.proofs.normal_texts.LineOrder.{lines_ordered, ranked, Follows, IsLined, IsAlong, Shares, IsText, IsTest}
use Rattle.toml_edit_laws.proofs.normal_texts.LineOrder.{AreStepped, in-order, sorted-anew}
use Rattle.toml_edit_laws.proofs.normal_texts.Trims.{line-whole, own-trimmed}
use Rattle.toml_edit_laws.proofs.normal_texts.KeptAnew.{AreAnew, Stays, Precedes, IsSpaced, anew-all}
use Rattle.toml_edit_laws.proofs.mentions.Placed.{filled-path}
use Rattle.toml_edit_laws.proofs.common.Cores.{Core, cores, keys_of_segments}
use Rattle.toml_edit_laws.proofs.common.Pairs.{AllPairs, pairs-of}
use Rattle.toml_edit_laws.proofs.common.Each.{all-map, all-image}
use Rattle.toml_edit_model.specs.Order.{insert_by, sorted_by, is_sorted_by}
use Rattle.toml_edit_model.specs.Roles.{Role, dotted_role, value_role, implied_role, header_role, array_role, continued_role, ends_path}
use Rattle.toml_edit_model.specs.Roles.{may_meet_inline}
use Rattle.toml_edit_model.specs.Kept.{rank, stands_before, kept_path}
use Rattle.toml_edit_model.specs.Settled.{own_path, same_segment, same_segments, is_kept, are_settled_pairs, is_shown_text, is_shown_frame}
use Rattle.toml_edit_model.specs.Settled.{is_settled_value, are_settled_elements, have_settled_values}

-- ---- ranks by paths

abbrev pub paths : {S : Type 0} → List (Mention S) → List Path
paths ms = map (λ m. m.path) ms

abbrev pub place_of : List (List Path) → Path → ℕ
place_of pss q = position_or_len (names q) pss

names-is : {S : Type 0} (q : Path) (ms : List (Mention S)) → list_any (λ m. same_path q m.path) ms ≡ names q (paths ms)
names-is q [] = refl
names-is q (m ∷ ms) = ap (λ b. same_path q m.path || b) (names-is q ms)

pub rank-is : {S : Type 0} (mss : List (List (Mention S))) (q : Path) → rank mss q ≡ place_of (map paths mss) q
rank-is [] q = refl
rank-is (ms ∷ mss) q =
    ap (λ n. if not (list_any (λ m. same_path q m.path) ms) then 1 + n else 0) (rank-is mss q)
    ∙ ap (λ b. if not b then 1 + place_of (map paths mss) q else 0) (names-is q ms)

pub stands-is : {S : Type 0} (r u : Path → ℕ) → ((q : Path) → r q ≡ u q) → (ms ns : List (Mention S)) → stands_before r ms ns
    ≡ stands u (paths ms) (paths ns)
stands-is r u h [] ns = refl
stands-is r u h (m ∷ ms) [] = refl
stands-is r u h (m ∷ ms) (n ∷ ns) =
    ap (λ b. if same_path m.path n.path then b else nat_lt (r m.path) (r n.path)) (stands-is r u h ms ns)
    ∙ ap (λ a. if same_path m.path n.path then stands u (paths ms) (paths ns) else nat_lt a (r n.path)) (h m.path)
    ∙ ap (λ a. if same_path m.path n.path then stands u (paths ms) (paths ns) else nat_lt (u m.path) a) (h n.path)

pub sorted-map : {A B : Type 0} (f : A → B) (before : A → A → Bool) (test : B → B → Bool) → ((x y : A) → before x y ≡ test (f x) (f y))
    → (xs : List A)
    → is_sorted_by before xs ≡ is_sorted_by test (map f xs)
sorted-map f before test h [] = refl
sorted-map f before test h (x ∷ []) = refl
sorted-map f before test h (x ∷ y ∷ xs) =
    ap (λ b. b && is_sorted_by before (y ∷ xs)) (h x y) ∙ ap (λ b. test (f x) (f y) && b) (sorted-map f before test h (y ∷ xs))

pub map-self : {A : Type 0} (xs : List A) → map (λ x. x) xs ≡ xs
map-self [] = refl
map-self (x ∷ xs) = ap (λ ys. x ∷ ys) (map-self xs)

pub paths-of-line : {S : Type 0} (source : S) (start : ℕ) (p : Path) (ss : List Segment) → paths (line_mentions source start p ss)
    ≡ line_paths p (keys_of_segments ss)
paths-of-line source start p [] = refl
paths-of-line source start p (s ∷ []) = refl
paths-of-line source start p (s ∷ r ∷ rest) =
    ap (λ ps. to_key p s.key ∷ ps) (paths-of-line source (start + length (s.before ++ (s.spelled ++ s.after)) + 1) (to_key p s.key) (r
    ∷ rest))

pub part-keys : (ss rs : List Segment) → part_ways ss rs ≡ part_keys (keys_of_segments ss) (keys_of_segments rs)
part-keys [] rs = refl
part-keys (s ∷ ss) [] = refl
part-keys (s ∷ ss) (r ∷ rs) = ap (λ b. if same_text s.key r.key then b else true) (part-keys ss rs)

pub same-segments : (ss : List Segment) → same_segments ss ss ≡ true
same-segments [] = refl
same-segments (s ∷ ss) =
    and_both (same_segment s s) (same_segments ss ss)
    (and_both (same_text s.before s.before && same_text s.after s.after) (same_text s.key s.key && same_text s.spelled s.spelled)
    (and_both (same_text s.before s.before) (same_text s.after s.after) (same_text-refl s.before) (same_text-refl s.after))
    (and_both (same_text s.key s.key) (same_text s.spelled s.spelled) (same_text-refl s.key) (same_text-refl s.spelled)))
    (same-segments ss)

-- ---- mentions that agree

pub agree-at : {S : Type 0} (may : Role → Role → Bool) (ms ns : List (Mention S)) (m n : Mention S) → agree may ms ns ≡ true → Among m ms
    → Among n ns → same_path m.path n.path ≡ true
    → may m.role n.role ≡ true
agree-at {S = S} may ms ns m n h a b e =
    by_test (same_path m.path n.path) e
    (passes-among (λ (k : Mention S). not (same_path m.path k.path) || may m.role k.role) n ns
    (passes-among (λ (j : Mention S). list_all (λ k. not (same_path j.path k.path) || may j.role k.role) ns) m ms h a) b)
  where
    by_test : (c : Bool) → c ≡ true → (not c || may m.role n.role) ≡ true → may m.role n.role ≡ true
    by_test true e h = h
    by_test false e h = absurd cc

pub inline-ends : (r q : Role) → may_meet_inline r q ≡ true → (ends_path r ≡ false) × (ends_path q ≡ false)
inline-ends dotted_role dotted_role h = (refl, refl)
inline-ends dotted_role implied_role h = absurd cc
inline-ends dotted_role header_role h = absurd cc
inline-ends dotted_role array_role h = absurd cc
inline-ends dotted_role value_role h = absurd cc
inline-ends dotted_role continued_role h = absurd cc
inline-ends implied_role q h = absurd cc
inline-ends header_role q h = absurd cc
inline-ends array_role q h = absurd cc
inline-ends value_role q h = absurd cc
inline-ends continued_role q h = absurd cc

-- ---- pairs as lines of one block

abbrev pub Told : Type 0
Told = List (Mention PairSource)

abbrev pub a_line : Told → Bool
a_line m = true

abbrev pub one_block : Told → ℕ
one_block m = 0

abbrev pub no_base : Told → Path
no_base m = []

abbrev itself : Told → Told
itself m = m

abbrev pub keys_in : Told → List Text
keys_in m = keys_of_segments (own_path m)

abbrev pub Framed : Frame → Value → Type 0
Framed f v = IsFrame IsWholeTrivia f

pub each-framed : (ps : Pairs) → ArePairs ps → EachPair Framed ps
each-framed no_pairs h = tt
each-framed (pair f v ps) h = (h.0, each-framed ps h.2)

pub sorted-lines : (test : Told → Told → Bool) (xs : List Told) → sorted_by test xs ≡ lines_ordered a_line test xs
sorted-lines test [] = refl
sorted-lines test (x ∷ xs) = ap (insert_by test x) (sorted-lines test xs)

lined : (m : Told) → IsMentionOf Framed m → IsLined a_line one_block paths no_base keys_in m
lined m (f, v, n, start, is, b, q) e =
    ap paths is ∙ paths-of-line (source_at n f v) start [] f.path
    ∙ ap (λ ss. line_paths [] (keys_of_segments ss)) (sym (own-line (source_at n f v) start [] f.path) ∙ ap own_path (sym is))

along : (m : Told) → IsMentionOf Framed m → IsAlong a_line one_block paths no_base keys_in m
along m (f, v, n, start, is, b, q) =
    let p = [] ++ map (λ (s : Segment). at_key s.key) f.path in (
      p,
      subst (λ ms. AllByRecursion (λ q. is_front q p ≡ true) (paths ms)) (sym is)
          (all-image (λ (k : Mention PairSource). k.path) (λ q. is_front q p
          ≡ true) (line_mentions (source_at n f v) start [] f.path) (line-along (source_at n f v) start [] f.path)),
    )

shares : (m n : Told) → IsMentionOf Framed m → IsMentionOf Framed n → agree may_meet_inline m n ≡ true
    → Shares a_line one_block paths no_base keys_in m n
shares m n (f, v, i, start, is, b, q) (g, w, j, next, are, c, o) h x y z = (
  refl,
  ap (λ ss. part_keys (keys_of_segments ss) (keys_in n)) (ap own_path is ∙ own-line (source_at i f v) start [] f.path)
      ∙ ap (λ ss. part_keys (keys_of_segments f.path) (keys_of_segments ss)) (ap own_path are ∙ own-line (source_at j g w) next [] g.path)
      ∙ sym (part-keys f.path g.path)
      ∙ agree-parts (source_at i f v) (source_at j g w) start next [] f.path g.path (filled-path f.path b) (filled-path g.path c)
      (ap (λ k. agree may_meet_inline k (line_mentions (source_at j g w) next [] g.path)) (sym is) ∙ ap (agree may_meet_inline m) (sym are)
      ∙ h),
)

spaced : (m : Told) → IsMentionOf Framed m → IsSpaced a_line one_block no_base itself m
spaced m (f, v, n, start, is, b, q) =
    let own : Told = line_mentions (source_at n f v) start [] f.path in
    let path_is : own_path own ≡ f.path = own-line (source_at n f v) start [] f.path in
    subst (IsSpaced a_line one_block no_base itself) (sym is)
    record {
      whole = line-whole (source_at n f v) start [] f.path;
      own =
          own-trimmed [] own (line-whole (source_at n f v) start [] f.path) (ap begins_unspaced path_is ∙ q.1.begins)
          (ap ends_unspaced path_is ∙ q.1.ends);
      header_base = λ e. absurd cc;
      roles = λ e. of-line (source_at n f v) start [] f.path;
    }

stays : (m n : Told) → agree may_meet_inline m n ≡ true → Stays a_line one_block no_base itself m n
stays m n h = (
  inr (refl, refl),
  λ x y e. refl,
  λ x y j k a b e. inline-ends j.role k.role (agree-at may_meet_inline m n j k h a b e),
)

pub text-of : (mss : List Told) → AllByRecursion (IsMentionOf Framed) mss → AllPairs (λ m n. agree may_meet_inline m n ≡ true) mss
    → IsText a_line one_block paths no_base keys_in mss
text-of mss h g =
    record {
      stepped = steps mss;
      follow = follows mss;
      lined = all-map (IsMentionOf Framed) (IsLined a_line one_block paths no_base keys_in) mss lined h;
      along = all-map (IsMentionOf Framed) (IsAlong a_line one_block paths no_base keys_in) mss along h;
      shares = pairs-of (IsMentionOf Framed) (λ m n. agree may_meet_inline m n
          ≡ true) (Shares a_line one_block paths no_base keys_in) mss shares h g;
    }
  where
    steps : (ms : List Told) → AreStepped a_line one_block paths no_base keys_in ms
    steps [] = tt
    steps (m ∷ []) = (tt, tt)
    steps (m ∷ n ∷ ms) = ((λ e. refl), steps (n ∷ ms))

    each : (m : Told) (ns : List Told) → AllByRecursion (Follows a_line one_block paths no_base keys_in m) ns
    each m [] = tt
    each m (n ∷ ns) = (inr (refl, refl), each m ns)

    follows : (ms : List Told) → AllPairs (Follows a_line one_block paths no_base keys_in) ms
    follows [] = tt
    follows (m ∷ ms) = (each m ms, follows ms)

-- the test of pairs in order, by these
pub pair-test : (mss xs : List Told) → mss ≡ xs → IsTest a_line one_block paths no_base keys_in (pair_before mss)
    (ranked a_line one_block paths no_base keys_in xs)
pair-test mss xs e m n = stands-is (rank mss) (place_of (map paths xs)) (λ q. rank-is mss q ∙ ap (λ ys. place_of (map paths ys) q) e) m n

spelled-paths : (all : Told) (ms ns : List Told) → AreSpelled all ms ns → map paths ns ≡ map paths ms
spelled-paths all [] [] h = refl
spelled-paths all [] (n ∷ ns) h = absurd h
spelled-paths all (m ∷ ms) [] h = absurd h
spelled-paths all (m ∷ ms) (n ∷ ns) h =
    ap (λ ps. ps ∷ map paths ns) (cores-paths n m h.0.0) ∙ ap (λ pss. paths m ∷ pss) (spelled-paths all ms ns h.1)
  where
    cores-paths : (xs ys : Told) → cores xs ≡ cores ys → paths xs ≡ paths ys
    cores-paths xs ys e = paths-core xs ∙ ap (map (λ (c : Core). c.0)) e ∙ sym (paths-core ys)
      where
        paths-core : (xs : Told) → paths xs ≡ map (λ (c : Core). c.0) (cores xs)
        paths-core [] = refl
        paths-core (x ∷ xs) = ap (λ ps. x.path ∷ ps) (paths-core xs)

-- pairs stand in order by their paths
abbrev in_order_of : List (List Path) → Bool
in_order_of pss = is_sorted_by (stands (place_of pss)) pss

in-order-of : (mss : List Told) → is_sorted_by (pair_before mss) mss ≡ in_order_of (map paths mss)
in-order-of mss = sorted-map paths (pair_before mss) (stands (place_of (map paths mss)))
    (λ m n. stands-is (rank mss) (place_of (map paths mss)) (rank-is mss) m n) mss

spelled-anew : (all : Told) (ms ns : List Told) → AreSpelled all ms ns → AreAnew all itself ms ns
spelled-anew all [] [] h = tt
spelled-anew all [] (n ∷ ns) h = absurd h
spelled-anew all (m ∷ ms) [] h = absurd h
spelled-anew all (m ∷ ms) (n ∷ ns) h = (h.0, spelled-anew all ms ns h.1)

all-kept : (all : Told) (ns : List Told) → AllByRecursion (λ n. own_path n ≡ kept_path all n) ns → list_all (is_kept all) ns ≡ true
all-kept all [] h = refl
all-kept all (n ∷ ns) h =
    and_both (is_kept all n) (list_all (is_kept all) ns) (ap (same_segments (own_path n)) (sym h.0)
    ∙ same-segments (own_path n)) (all-kept all ns h.1)

-- The ordered pairs of an inline table are settled.
pub ordered-settled : (ps : Pairs) → ArePairs ps → all_agree may_meet_inline (pair_mentions 0 ps) ≡ true
    → are_settled_pairs (pair_mentions 0 (ordered_pairs ps)) ≡ true
ordered-settled ps h g =
    let mss : List Told = pair_mentions 0 ps in
    let all : Told = flat_map (λ ms. ms) mss in
    let test : Told → Told → Bool = pair_before mss in
    let zs : List Told = lines_ordered a_line test mss in
    let new : List Told = pair_mentions 0 (ordered_pairs ps) in
    let are : AllByRecursion (IsMentionOf Framed) mss = mentions-of Framed 0 0 ps h (each-framed ps h) in
    let agrees : AllPairs (λ m n. agree may_meet_inline m n ≡ true) mss = all_agree-pairs may_meet_inline mss g in
    let text = text-of mss are agrees in
    let spells : AreSpelled all zs new = subst (λ xs. AreSpelled all xs new) (sorted-lines test mss) (ordered-spelled ps h) in
    let same : map paths new ≡ map paths zs = spelled-paths all zs new spells in
    let sorted : is_sorted_by (λ x y. pair_before zs x y) zs ≡ true =
    sorted-anew a_line one_block paths no_base keys_in test (pair_before zs) mss (pair-test mss mss refl) (pair-test zs zs refl) text in
    let first : is_sorted_by (pair_before new) new ≡ true = in-order-of new ∙ ap in_order_of same ∙ sym (in-order-of zs) ∙ sorted in
    let precede : AllPairs (Precedes a_line one_block no_base itself (ranked a_line one_block paths no_base keys_in mss)) zs =
    in-order a_line one_block paths no_base keys_in test mss (pair-test mss mss refl) text in
    let spaces : AllByRecursion (IsSpaced a_line one_block no_base itself) mss =
    all-map (IsMentionOf Framed) (IsSpaced a_line one_block no_base itself) mss spaced are in
    let stay : AllPairs (Stays a_line one_block no_base itself) mss =
    pairs-of (IsMentionOf Framed) (λ m n. agree may_meet_inline m n
    ≡ true) (Stays a_line one_block no_base itself) mss (λ m n a b e. stays m n e) are agrees in
    let kept = anew-all a_line one_block no_base itself (ranked a_line one_block paths no_base keys_in mss) test mss stay spaces precede new
    (subst (λ xs. AreAnew xs itself zs new) (ap (flat_map (λ ms. ms)) (sym (map-self mss))) (spelled-anew all zs new spells)) in
    and_both (is_sorted_by (pair_before new) new) (list_all (is_kept (flat_map (λ ms. ms) new)) new) first
    (all-kept (flat_map (λ ms. ms) new) new kept)

module _ (mode : Mode) where
  -- ---- values

  settled-from : (ps : Pairs) → EachPair (λ f v. (is_shown_frame mode f ≡ true) × (is_settled_value mode v ≡ true)) ps
      → have_settled_values mode ps ≡ true
  settled-from no_pairs h = refl
  settled-from (pair f v ps) h =
      and_both (is_shown_frame mode f) (is_settled_value mode v
      && have_settled_values mode ps) h.0.0 (and_both (is_settled_value mode v) (have_settled_values mode ps) h.0.1
      (settled-from ps h.1))

  pub lean-is : (f : Frame) → is_shown_frame mode (shown_frame mode f) ≡ true
  lean-is f = and_both (is_shown_text mode (shown_text mode f.leading)) (is_shown_text mode (shown_text mode f.trailing))
      (no-return mode f.leading) (no-return mode f.trailing)

  mutual
    pub value-settled : (v : Value) → IsValue v → has_short_keys v ≡ true → keeps_ranges v ≡ true → has_agreeing_pairs v ≡ true
        → is_settled_value mode (normal_value mode v) ≡ true
    value-settled (scalar s t) h a b c = refl
    value-settled (array es comma t) h a b c =
        and_both (is_shown_text mode (shown_text mode t)) (are_settled_elements mode (normal_elements mode es)) (no-return mode t)
        (elements-settled es h.1 a b c)
    value-settled (inline_table ps comma t) h a b c =
        let first = and_left (all_agree may_meet_inline (pair_mentions 0 ps)) (pairs_have_agreeing_pairs ps) c in
        let rest = and_right (all_agree may_meet_inline (pair_mentions 0 ps)) (pairs_have_agreeing_pairs ps) c in
        let are = normal-pairs-right mode ps h.1 a b rest in
        let new : Pairs = ordered_pairs (normal_pairs mode ps) in
        and_both (is_shown_text mode (shown_text mode t) && are_settled_pairs (pair_mentions 0 new)) (have_settled_values mode new)
        (and_both (is_shown_text mode (shown_text mode t)) (are_settled_pairs (pair_mentions 0 new)) (no-return mode t)
        (ordered-settled (normal_pairs mode ps) are (normal-agree mode 0 0 0 ps first)))
        (settled-from new
        (ordered-each (λ f v. (is_shown_frame mode f ≡ true) × (is_settled_value mode v ≡ true)) (λ f v. (is_shown_frame mode f ≡ true)
        × (is_settled_value mode v ≡ true)) (normal_pairs mode ps) are
        (λ f v n start e g. g) (pairs-settled ps h.1 a b rest)))

    elements-settled : (es : Elements) → AreElements es → elements_have_short_keys es ≡ true → elements_keep_ranges es ≡ true
        → elements_have_agreeing_pairs es ≡ true
        → are_settled_elements mode (normal_elements mode es) ≡ true
    elements-settled no_elements h a b c = refl
    elements-settled (element e v es) h a b c =
        and_both (is_shown_text mode (shown_text mode e.before)
        && is_shown_text mode (shown_text mode e.after)) (is_settled_value mode (normal_value mode v)
        && are_settled_elements mode (normal_elements mode es))
        (and_both (is_shown_text mode (shown_text mode e.before)) (is_shown_text mode (shown_text mode e.after)) (no-return mode e.before)
        (no-return mode e.after))
        (and_both (is_settled_value mode (normal_value mode v)) (are_settled_elements mode (normal_elements mode es))
        (value-settled v h.2 (and_left (has_short_keys v) (elements_have_short_keys es) a)
        (and_left (keeps_ranges v) (elements_keep_ranges es) b)
        (and_left (has_agreeing_pairs v) (elements_have_agreeing_pairs es) c))
        (elements-settled es h.3 (and_right (has_short_keys v) (elements_have_short_keys es) a)
        (and_right (keeps_ranges v) (elements_keep_ranges es) b)
        (and_right (has_agreeing_pairs v) (elements_have_agreeing_pairs es) c)))

    pairs-settled : (ps : Pairs) → ArePairs ps → pairs_have_short_keys ps ≡ true → pairs_keep_ranges ps ≡ true
        → pairs_have_agreeing_pairs ps ≡ true
        → EachPair (λ f v. (is_shown_frame mode f ≡ true) × (is_settled_value mode v ≡ true)) (normal_pairs mode ps)
    pairs-settled no_pairs h a b c = tt
    pairs-settled (pair f v ps) h a b c =
        let short = and_right (is_short f.path) (has_short_keys v && pairs_have_short_keys ps) a in (
          (
            lean-is f,
            value-settled v h.1 (and_left (has_short_keys v) (pairs_have_short_keys ps) short)
                (and_left (keeps_ranges v) (pairs_keep_ranges ps) b)
                (and_left (has_agreeing_pairs v) (pairs_have_agreeing_pairs ps) c),
          ),
          pairs-settled ps h.2 (and_right (has_short_keys v) (pairs_have_short_keys ps) short)
              (and_right (keeps_ranges v) (pairs_keep_ranges ps) b)
              (and_right (has_agreeing_pairs v) (pairs_have_agreeing_pairs ps) c),
        )
