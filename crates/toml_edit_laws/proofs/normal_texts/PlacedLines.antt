-- The statements of a document as elements in blocks, whose lines have an order.
use Rattle.std.proofs.Common.{◌≡◌, ◌⊎◌, refl, sym, ◌∙◌, ap, subst, ℕ, ◌+◌, ◌<◌, ◌≤◌, arith, Bool, true, false, List, [], ◌∷◌, ◌++◌, inl}
use Rattle.std.proofs.Common.{inr}
use Rattle.std.specs.Prelude.{◌||◌, not, map, if◌then◌else◌}
use Rattle.std.specs.List.{AllByRecursion, list_all}
use Rattle.std.proofs.lemmas.Bool.{cases_lt}
use Rattle.toml_edit_model.specs.Text.{Text, is_empty}
use Rattle.toml_edit_model.specs.Syntax.{Segment, Statement, key_line, header, begins_unspaced, ends_unspaced}
use Rattle.toml_edit_model.specs.Paths.{Path, same_path, to_key, Mention, Source, Placed, Context, line_mentions, header_mentions}
use Rattle.toml_edit_model.specs.Paths.{header_path, header_role_of, keys_of, path_start, source_of, mentions_of, context_after}
use Rattle.toml_edit_model.specs.Accepted.{agree}
use Rattle.toml_edit_model.specs.Meaning.{parent}
use Rattle.toml_edit_model.specs.Normal.{is_line, line_before, ordered}
use Rattle.toml_edit_laws.proofs.common.Tests.{and_left, and_right, and_both}
use Rattle.toml_edit_laws.proofs.common.PathLaws.{is_front}
use Rattle.toml_edit_laws.proofs.mentions.RankLaws.{line-along, header-along}
use Rattle.toml_edit_laws.proofs.inline_tables.PairLines.{agree-parts}
use Rattle.toml_edit_laws.proofs.normal_texts.SettledStays.{own-line, own-header, IsAny}
use Rattle.toml_edit_laws.proofs.normal_texts.Runs.{Run}
use Rattle.toml_edit_laws.proofs.normal_texts.Agreeing.{AreOfLine, AgreesWith}
use Rattle.toml_edit_laws.proofs.normal_texts.NormalAccepted.{IsRightPlace, place-roles, right-roles}
use Rattle.toml_edit_laws.proofs.normal_texts.LinePaths.{line_paths, part_keys}
use Rattle.toml_edit_laws.proofs.normal_texts.LineOrder.{lines_ordered, ranked, Follows, IsLined, IsAlong, Shares, IsText, IsTest}
use Rattle.toml_edit_laws.proofs.normal_texts.LineOrder.{AreStepped, BeginsIn}
use Rattle.toml_edit_laws.proofs.normal_texts.Trims.{IsWhole, line-whole, header-whole, own-trimmed}
use Rattle.toml_edit_laws.proofs.normal_texts.KeptAnew.{Stays, IsSpaced}
use Rattle.toml_edit_laws.proofs.normal_texts.SettledValues.{paths, place_of, rank-is, stands-is, paths-of-line, part-keys, agree-at}
use Rattle.toml_edit_laws.proofs.normal_texts.SettledValues.{inline-ends}
use Rattle.toml_edit_laws.proofs.mentions.Placed.{filled-path, placed_at, source-statement}
use Rattle.toml_edit_laws.proofs.common.Cores.{keys_of_segments}
use Rattle.toml_edit_laws.proofs.mentions.RoleTests.{by_line_roles, is_line_role, array-last}
use Rattle.toml_edit_laws.proofs.common.Pairs.{AllPairs, pairs-of}
use Rattle.toml_edit_laws.proofs.common.Each.{all-both, all-map, all-image}
use Rattle.toml_edit_laws.proofs.common.Members.{all-among}
use Rattle.toml_edit_model.specs.Order.{insert_by}
use Rattle.toml_edit_model.specs.Roles.{Role, may_meet, may_meet_inline}
use Rattle.toml_edit_model.specs.Kept.{rank}
use Rattle.toml_edit_model.specs.Settled.{own_path}

-- ---- a statement as an element

abbrev pub lined_at : Placed → Bool
lined_at x = is_line x.source.statement

abbrev pub block_at : Placed → ℕ
block_at x = x.source.headers

abbrev pub base_of : List Path → Path
base_of [] = []
base_of (p ∷ ps) = parent p

abbrev pub mentions_at : Placed → List (Mention Source)
mentions_at x = x.mentions

abbrev pub told_at : Placed → List Path
told_at x = paths x.mentions

abbrev pub base_at : Placed → Path
base_at x = base_of (paths x.mentions)

abbrev pub keys_told : Placed → List Text
keys_told x = keys_of_segments (own_path x.mentions)

pub ordered-lines : (mss : List (List (Mention Source))) (xs : List Placed) → ordered mss xs ≡ lines_ordered lined_at (line_before mss) xs
ordered-lines mss [] = refl
ordered-lines mss (x ∷ xs) =
    ap (λ ys. if is_line x.source.statement then insert_by (line_before mss) x ys else x ∷ ys) (ordered-lines mss xs)

pub paths-mentions : (xs : List Placed) → map paths (map (λ s. s.mentions) xs) ≡ map told_at xs
paths-mentions [] = refl
paths-mentions (x ∷ xs) = ap (λ ps. paths x.mentions ∷ ps) (paths-mentions xs)

pub line-test : (mss : List (List (Mention Source))) (xs : List Placed) → mss ≡ map (λ s. s.mentions) xs
    → IsTest lined_at block_at told_at base_at keys_told (line_before mss) (ranked lined_at block_at told_at base_at keys_told xs)
line-test mss xs e x y =
    ap (λ b. not (is_line y.source.statement) || b)
    (stands-is (rank mss) (place_of (map told_at xs)) (λ q. rank-is mss q
    ∙ ap (λ ps. place_of ps q) (ap (map paths) e ∙ paths-mentions xs)) x.mentions y.mentions)

-- ---- blocks

parent-key : (p : Path) (k : Text) → parent (to_key p k) ≡ p
parent-key [] k = refl
parent-key (s ∷ []) k = refl
parent-key (s ∷ t ∷ p) k = ap (λ q. s ∷ q) (parent-key (t ∷ p) k)

-- a statement is in the block that it leaves
place-block : (c : Context) (s : Statement) → block_at (placed_at c s) ≡ (context_after c s).headers
place-block c (key_line f v end) = refl
place-block c (header e end) = refl

abbrev FollowsAt : ℕ → Placed → Type 0
FollowsAt n y = (n < block_at y) ⊎ ((n ≡ block_at y) × (lined_at y ≡ true))

place-follows : (c : Context) (s : Statement) → FollowsAt c.headers (placed_at c s)
place-follows c (key_line f v end) = inr (refl, refl)
place-follows c (header e end) = inl (omega arith)

after-headers : (c : Context) (s : Statement) → c.headers ≤ (context_after c s).headers
after-headers c (key_line f v end) = omega arith
after-headers c (header e end) = omega arith

follows-later : (n m : ℕ) (y : Placed) → n ≤ m → FollowsAt m y → FollowsAt n y
follows-later n m y h (inl a) = inl (omega arith)
follows-later n m y h (inr a) = by_order (block_at y) a.0
  where
    by_order : (b : ℕ) → m ≡ b → (n < b) ⊎ ((n ≡ b) × (lined_at y ≡ true))
    by_order b e = elim (cases_lt n b) [ inl g ↦ inl g | inr g ↦ inr ((let f : n ≡ b = omega arith in f), a.1) ]

pub run-follows : (n : ℕ) (arrays : List Path) (block : Path) (xs : List Placed) → Run n arrays block xs → AllByRecursion (FollowsAt n) xs
run-follows n arrays block [] r = tt
run-follows n arrays block (x ∷ xs) (c, s, e, h, a, b, rest) =
    let less : n ≤ (context_after c s).headers = subst (λ m. m ≤ (context_after c s).headers) h (after-headers c s) in (
      subst (FollowsAt n) (sym e) (subst (λ m. FollowsAt m (placed_at c s)) h (place-follows c s)),
      all-map (FollowsAt (context_after c s).headers) (FollowsAt n) xs (λ y g. follows-later n (context_after c s).headers y less g)
          (run-follows (context_after c s).headers (context_after c s).arrays (context_after c s).block xs rest),
    )

block-of-place : (x : Placed) (c : Context) (s : Statement) → x ≡ placed_at c s → block_at x ≡ (context_after c s).headers
block-of-place x c s e = ap (λ (y : Placed). y.source.headers) e ∙ place-block c s

pub run-follow : (n : ℕ) (arrays : List Path) (block : Path) (xs : List Placed) → Run n arrays block xs
    → AllPairs (Follows lined_at block_at told_at base_at keys_told) xs
run-follow n arrays block [] r = tt
run-follow n arrays block (x ∷ xs) (c, s, e, h, a, b, rest) = (
  subst (λ m. AllByRecursion (FollowsAt m) xs) (sym (block-of-place x c s e))
      (run-follows (context_after c s).headers (context_after c s).arrays (context_after c s).block xs rest),
  run-follow (context_after c s).headers (context_after c s).arrays (context_after c s).block xs rest,
)

-- a line is in the block that the run is in
line-block : (n : ℕ) (arrays : List Path) (block : Path) (x : Placed) (xs : List Placed) → Run n arrays block (x ∷ xs) → lined_at x ≡ true
    → block_at x ≡ n
line-block n arrays block x xs (c, s, e, h, a, b, rest) l = ap (λ (y : Placed). y.source.headers) e
    ∙ by_kind s (sym (ap is_line (ap (λ (y : Placed). y.source.statement) e ∙ source-statement c s)) ∙ l) ∙ h
  where
    by_kind : (t : Statement) → is_line t ≡ true → block_at (placed_at c t) ≡ c.headers
    by_kind (key_line f v end) g = refl
    by_kind (header i end) g = absurd cc

run-begins : (n : ℕ) (arrays : List Path) (block : Path) (xs : List Placed) → Run n arrays block xs
    → BeginsIn lined_at block_at told_at base_at keys_told n xs
run-begins n arrays block [] r = tt
run-begins n arrays block (x ∷ xs) r = λ l. line-block n arrays block x xs r l

pub run-stepped : (n : ℕ) (arrays : List Path) (block : Path) (xs : List Placed) → Run n arrays block xs
    → AreStepped lined_at block_at told_at base_at keys_told xs
run-stepped n arrays block [] r = tt
run-stepped n arrays block (x ∷ xs) (c, s, e, h, a, b, rest) = (
  subst (λ m. BeginsIn lined_at block_at told_at base_at keys_told m xs) (sym (block-of-place x c s e))
      (run-begins (context_after c s).headers (context_after c s).arrays (context_after c s).block xs rest),
  run-stepped (context_after c s).headers (context_after c s).arrays (context_after c s).block xs rest,
)

-- ---- lines below a path

-- a line of the block at this path
abbrev pub IsLineAt : Path → Placed → Type 0
IsLineAt b x = (source : Source) × (start : ℕ) × (ss : List Segment) × (x.mentions ≡ line_mentions source start b ss)
    × (is_empty ss ≡ false)

place-line : (c : Context) (s : Statement) → IsAny s → is_line s ≡ true → IsLineAt c.block (placed_at c s)
place-line c (key_line f v end) h l =
    (source_of c (key_line f v end), c.start + path_start (key_line f v end), f.path, refl, filled-path f.path h.0.1.begins)
place-line c (header e end) h l = absurd cc

pub any-of-place : (c : Context) (s : Statement) (x : Placed) → x ≡ placed_at c s → IsRightPlace x → IsAny s
any-of-place c s x e (d, t, f, h, g) =
    subst IsAny (sym (source-statement d t) ∙ ap (λ (y : Placed). y.source.statement) (sym f ∙ e) ∙ source-statement c s) h

pub run-lines : (n : ℕ) (arrays : List Path) (block : Path) (xs : List Placed) → Run n arrays block xs → AllByRecursion IsRightPlace xs
    → AllByRecursion (λ y. lined_at y ≡ true → block_at y ≡ n → IsLineAt block y) xs
run-lines n arrays block [] r h = tt
run-lines n arrays block (x ∷ xs) (c, s, e, k, a, b, rest) h = (
  λ l m. subst (IsLineAt block) (sym e) (subst (λ p. IsLineAt p (placed_at c s)) b
      (place-line c s (any-of-place c s x e h.0) (sym (ap is_line (ap (λ (y : Placed). y.source.statement) e ∙ source-statement c s))
      ∙ l))),
  by_kind (is_line s) refl (run-lines (context_after c s).headers (context_after c s).arrays (context_after c s).block xs rest h.1),
)
  where
    after-line : (t : Statement) → is_line t ≡ true → ((context_after c t).headers ≡ c.headers) × ((context_after c t).block ≡ c.block)
    after-line (key_line f v end) g = (refl, refl)
    after-line (header i end) g = absurd cc

    after-header : (t : Statement) → is_line t ≡ false → c.headers < (context_after c t).headers
    after-header (key_line f v end) g = absurd cc
    after-header (header i end) g = omega arith

    late : (y : Placed) → c.headers < (context_after c s).headers → FollowsAt (context_after c s).headers y → block_at y ≡ n → ⊥
    late y more (inl f) m = omega arith
    late y more (inr f) m = (let is : (context_after c s).headers ≡ block_at y = f.0 in omega arith)

    by_kind : (l : Bool) → is_line s ≡ l → AllByRecursion (λ y. lined_at y ≡ true → block_at y ≡ (context_after c s).headers
        → IsLineAt (context_after c s).block y) xs
        → AllByRecursion (λ y. lined_at y ≡ true → block_at y ≡ n → IsLineAt block y) xs
    by_kind true g ih =
        let same = after-line s g in
        all-map (λ y. lined_at y ≡ true → block_at y ≡ (context_after c s).headers → IsLineAt (context_after c s).block y) (λ y. lined_at y
        ≡ true → block_at y ≡ n → IsLineAt block y) xs
        (λ y f l m. subst (λ p. IsLineAt p y) (same.1 ∙ b) (f l (m ∙ sym k ∙ sym same.0))) ih
    by_kind false g ih =
        let more : c.headers < (context_after c s).headers = after-header s g in
        all-map (FollowsAt (context_after c s).headers) (λ y. lined_at y ≡ true → block_at y ≡ n → IsLineAt block y) xs
        (λ y f l m. absurd (late y more f m))
        (run-follows (context_after c s).headers (context_after c s).arrays (context_after c s).block xs rest)

-- lines of one block are below one path
abbrev pub IsNear : Placed → Placed → Type 0
IsNear x y = lined_at x ≡ true → lined_at y ≡ true → block_at x ≡ block_at y → (b : Path) × IsLineAt b x × IsLineAt b y

pub run-near : (n : ℕ) (arrays : List Path) (block : Path) (xs : List Placed) → Run n arrays block xs → AllByRecursion IsRightPlace xs
    → AllPairs IsNear xs
run-near n arrays block [] r h = tt
run-near n arrays block (x ∷ xs) r h =
    let lines = run-lines n arrays block (x ∷ xs) r h in (
      all-map (λ y. lined_at y ≡ true → block_at y ≡ n → IsLineAt block y) (IsNear x) xs
          (λ y g a b e. (block, lines.0 a (line-block n arrays block x xs r a), g b (sym e ∙ line-block n arrays block x xs r a)))
          lines.1,
      run-near (context_after r.0 r.1).headers (context_after r.0 r.1).arrays (context_after r.0 r.1).block xs r.6 h.1,
    )

base-line : (b : Path) (x : Placed) → IsLineAt b x → base_at x ≡ b
base-line b x (source, start, ss, is, e) = ap (λ ms. base_of (paths ms)) is ∙ ap base_of (paths-of-line source start b ss) ∙ by_path ss e
  where
    by_path : (ss : List Segment) → is_empty ss ≡ false → base_of (line_paths b (keys_of_segments ss)) ≡ b
    by_path [] e = absurd cc
    by_path (s ∷ ss) e = parent-key b s.key

told-line : (b : Path) (x : Placed) → IsLineAt b x → told_at x ≡ line_paths b (keys_told x)
told-line b x (source, start, ss, is, e) =
    ap paths is ∙ paths-of-line source start b ss ∙ ap (λ rs. line_paths b (keys_of_segments rs)) (sym (own-line source start b ss)
    ∙ ap own_path (sym is))

-- ---- agreement of lines

line-meets : (r q : Role) → is_line_role r ≡ true → is_line_role q ≡ true → may_meet r q ≡ true → may_meet_inline r q ≡ true
line-meets r q h g e = by_line_roles may_meet may_meet_inline refl r q h g e

agree-inline : (ms ns : List (Mention Source)) → AreOfLine ms → AreOfLine ns → agree may_meet ms ns ≡ true → agree may_meet_inline ms ns
    ≡ true
agree-inline [] ns h g e = refl
agree-inline (m ∷ ms) ns h g e =
    and_both (list_all (λ n. not (same_path m.path n.path) || may_meet_inline m.role n.role) ns) (agree may_meet_inline ms ns)
    (each ns g (and_left (list_all (λ n. not (same_path m.path n.path) || may_meet m.role n.role) ns) (agree may_meet ms ns) e))
    (agree-inline ms ns h.1 g (and_right (list_all (λ n. not (same_path m.path n.path) || may_meet m.role n.role) ns) (agree may_meet ms ns)
    e))
  where
    each : (us : List (Mention Source)) → AreOfLine us → list_all (λ n. not (same_path m.path n.path) || may_meet m.role n.role) us ≡ true
        → list_all (λ n. not (same_path m.path n.path) || may_meet_inline m.role n.role) us ≡ true
    each [] a f = refl
    each (u ∷ us) a f =
        and_both (not (same_path m.path u.path) || may_meet_inline m.role u.role) (list_all (λ n. not (same_path m.path n.path)
        || may_meet_inline m.role n.role) us)
        (by_test (same_path m.path u.path) (and_left (not (same_path m.path u.path)
        || may_meet m.role u.role) (list_all (λ n. not (same_path m.path n.path) || may_meet m.role n.role) us) f))
        (each us a.1 (and_right (not (same_path m.path u.path)
        || may_meet m.role u.role) (list_all (λ n. not (same_path m.path n.path) || may_meet m.role n.role) us) f))
      where
        by_test : (c : Bool) → (not c || may_meet m.role u.role) ≡ true → (not c || may_meet_inline m.role u.role) ≡ true
        by_test true f = line-meets m.role u.role h.0 a.0 f
        by_test false f = refl

-- ---- elements in blocks

shares-at : (x y : Placed) → IsRightPlace x → IsRightPlace y → IsNear x y × AgreesWith x y
    → Shares lined_at block_at told_at base_at keys_told x y
shares-at x y h g both a b e =
    let near = both.0 a b e in
    let p : Path = near.0 in
    let fx = near.1 in
    let fy = near.2 in (
      base-line p x fx ∙ sym (base-line p y fy),
      ap (λ ss. part_keys (keys_of_segments ss) (keys_told y)) (ap own_path fx.3 ∙ own-line fx.0 fx.1 p fx.2)
          ∙ ap (λ ss. part_keys (keys_of_segments fx.2) (keys_of_segments ss)) (ap own_path fy.3 ∙ own-line fy.0 fy.1 p fy.2)
          ∙ sym (part-keys fx.2 fy.2)
          ∙ agree-parts fx.0 fy.0 fx.1 fy.1 p fx.2 fy.2 fx.4 fy.4
          (ap (λ k. agree may_meet_inline k (line_mentions fy.0 fy.1 p fy.2)) (sym fx.3) ∙ ap (agree may_meet_inline x.mentions) (sym fy.3)
          ∙ agree-inline x.mentions y.mentions (right-roles x h a) (right-roles y g b) both.1),
    )

lined-place : (c : Context) (s : Statement) → IsAny s → IsLined lined_at block_at told_at base_at keys_told (placed_at c s)
lined-place c (key_line f v end) h l =
    let at = place-line c (key_line f v end) h refl in
    told-line c.block (placed_at c (key_line f v end)) at
    ∙ ap (λ b. line_paths b (keys_told (placed_at c (key_line f v end)))) (sym (base-line c.block (placed_at c (key_line f v end)) at))
lined-place c (header e end) h l = absurd cc

along-place : (c : Context) (s : Statement) → IsAlong lined_at block_at told_at base_at keys_told (placed_at c s)
along-place c (key_line f v end) =
    let p : Path = c.block ++ keys_of f.path in (
      p,
      all-image (λ (k : Mention Source). k.path) (λ q. is_front q p ≡ true) (mentions_of c (key_line f v end))
          (line-along (source_of c (key_line f v end)) (c.start + path_start (key_line f v end)) c.block f.path),
    )
along-place c (header e end) =
    let p : Path = header_path c.arrays [] e.path in (
      p,
      all-image (λ (k : Mention Source). k.path) (λ q. is_front q p ≡ true) (mentions_of c (header e end))
          (header-along (source_of c (header e end)) c.arrays (header_role_of e) (c.start + path_start (header e end)) [] e.path),
    )

pub text-at : (xs : List Placed) → Run 0 [] [] xs → AllByRecursion IsRightPlace xs → AllPairs AgreesWith xs
    → IsText lined_at block_at told_at base_at keys_told xs
text-at xs r h g =
    record {
      stepped = run-stepped 0 [] [] xs r;
      follow = run-follow 0 [] [] xs r;
      lined =
          all-map IsRightPlace (IsLined lined_at block_at told_at base_at keys_told) xs
          (λ x k. subst (IsLined lined_at block_at told_at base_at keys_told) (sym k.2) (lined-place k.0 k.1 k.3)) h;
      along =
          all-map IsRightPlace (IsAlong lined_at block_at told_at base_at keys_told) xs
          (λ x k. subst (IsAlong lined_at block_at told_at base_at keys_told) (sym k.2) (along-place k.0 k.1)) h;
      shares =
          pairs-of IsRightPlace (λ x y. IsNear x y × AgreesWith x y) (Shares lined_at block_at told_at base_at keys_told) xs shares-at h
          (both xs (run-near 0 [] [] xs r h) g);
    }
  where
    both : (ys : List Placed) → AllPairs IsNear ys → AllPairs AgreesWith ys → AllPairs (λ x y. IsNear x y × AgreesWith x y) ys
    both [] a b = tt
    both (y ∷ ys) a b = (all-both (IsNear y) (AgreesWith y) ys a.0 b.0, both ys a.1 b.1)

-- ---- spaces

header-base : (source : Source) (arrays : List Path) (role : Role) (start : ℕ) (ss : List Segment)
    → base_of (paths (header_mentions source arrays role start [] ss)) ≡ []
header-base source arrays role start [] = refl
header-base source arrays role start (s ∷ []) = refl
header-base source arrays role start (s ∷ r ∷ rest) = refl

spaced-place : (c : Context) (s : Statement) → IsAny s → IsSpaced lined_at block_at base_at mentions_at (placed_at c s)
spaced-place c (key_line f v end) h =
    let own : List (Mention Source) = mentions_of c (key_line f v end) in
    let path_is : own_path own ≡ f.path =
    own-line (source_of c (key_line f v end)) (c.start + path_start (key_line f v end)) c.block f.path in
    let base : base_at (placed_at c (key_line f v end)) ≡ c.block =
    base-line c.block (placed_at c (key_line f v end)) (place-line c (key_line f v end) h refl) in
    let whole : IsWhole (base_at (placed_at c (key_line f v end))) own =
    subst (λ b. IsWhole b own) (sym base) (line-whole (source_of c (key_line f v end)) (c.start
    + path_start (key_line f v end)) c.block f.path) in
    record {
      whole = whole;
      own = own-trimmed (base_at (placed_at c (key_line f v end))) own whole (ap begins_unspaced path_is
          ∙ h.0.1.begins) (ap ends_unspaced path_is ∙ h.0.1.ends);
      header_base = λ e. absurd cc;
      roles = λ e. place-roles c (key_line f v end) refl;
    }
spaced-place c (header e end) h =
    let own : List (Mention Source) = mentions_of c (header e end) in
    let path_is : own_path own ≡ e.path =
    own-header (source_of c (header e end)) c.arrays (header_role_of e) (c.start + path_start (header e end)) [] e.path in
    let base : base_at (placed_at c (header e end)) ≡ [] =
    header-base (source_of c (header e end)) c.arrays (header_role_of e) (c.start + path_start (header e end)) e.path in
    let whole : IsWhole (base_at (placed_at c (header e end))) own =
    subst (λ b. IsWhole b own) (sym base) (header-whole (source_of c (header e end)) c.arrays (header_role_of e) (c.start
    + path_start (header e end)) [] e.path (array-last e.is_array)) in
    record {
      whole = whole;
      own = own-trimmed (base_at (placed_at c (header e end))) own whole (ap begins_unspaced path_is
          ∙ h.0.1.begins) (ap ends_unspaced path_is ∙ h.0.1.ends);
      header_base = λ l. base;
      roles = λ l. absurd cc;
    }

pub spaced-at : (x : Placed) → IsRightPlace x → IsSpaced lined_at block_at base_at mentions_at x
spaced-at x (c, s, is, h, g) = subst (IsSpaced lined_at block_at base_at mentions_at) (sym is) (spaced-place c s h)

stays-at : (x y : Placed) → IsRightPlace x → IsRightPlace y → Follows lined_at block_at told_at base_at keys_told x y
    × Shares lined_at block_at told_at base_at keys_told x y × AgreesWith x y
    → Stays lined_at block_at base_at mentions_at x y
stays-at x y h g k = (
  k.0,
  λ a b e. (k.1 a b e).0,
  λ a b m n i j e.
      inline-ends m.role n.role
      (line-meets m.role n.role
      (all-among (λ (o : Mention Source). is_line_role o.role ≡ true) m x.mentions (right-roles x h a) i)
      (all-among (λ (o : Mention Source). is_line_role o.role ≡ true) n y.mentions (right-roles y g b) j)
      (agree-at may_meet x.mentions y.mentions m n k.2 i j e)),
)

pub stay-all : (xs : List Placed) → AllByRecursion IsRightPlace xs → IsText lined_at block_at told_at base_at keys_told xs
    → AllPairs AgreesWith xs
    → AllPairs (Stays lined_at block_at base_at mentions_at) xs
stay-all xs h t g =
    pairs-of IsRightPlace (λ x y. Follows lined_at block_at told_at base_at keys_told x y
    × Shares lined_at block_at told_at base_at keys_told x y
    × AgreesWith x y) (Stays lined_at block_at base_at mentions_at) xs stays-at h (three xs t.follow t.shares g)
  where
    each : (x : Placed) (ys : List Placed) → AllByRecursion (Follows lined_at block_at told_at base_at keys_told x) ys
        → AllByRecursion (Shares lined_at block_at told_at base_at keys_told x) ys
        → AllByRecursion (AgreesWith x) ys
        → AllByRecursion (λ y. Follows lined_at block_at told_at base_at keys_told x y
        × Shares lined_at block_at told_at base_at keys_told x y × AgreesWith x y) ys
    each x [] a b c = tt
    each x (y ∷ ys) a b c = ((a.0, b.0, c.0), each x ys a.1 b.1 c.1)

    three : (ys : List Placed) → AllPairs (Follows lined_at block_at told_at base_at keys_told) ys
        → AllPairs (Shares lined_at block_at told_at base_at keys_told) ys → AllPairs AgreesWith ys
        → AllPairs (λ x y. Follows lined_at block_at told_at base_at keys_told x y × Shares lined_at block_at told_at base_at keys_told x y
        × AgreesWith x y) ys
    three [] a b c = tt
    three (y ∷ ys) a b c = (each y ys a.0 b.0 c.0, three ys a.1 b.1 c.1)
