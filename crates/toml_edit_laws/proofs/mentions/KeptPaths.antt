-- The kept segments and the ranks of the paths of lines, and how the keys of a printed line spell its path.
use Rattle.std.proofs.Common.{◌≡◌, refl, ◌∙◌, ap, subst, ℕ, Bool, true, false, List, [], ◌∷◌, ◌++◌, append_assoc, Option, Some, None, inl}
use Rattle.std.proofs.Common.{inr}
use Rattle.std.specs.Prelude.{◌&&◌, ◌||◌, filter, find, map, flat_map, option_map, unwrap_or, if◌then◌else◌}
use Rattle.std.specs.List.{list_any}
use Rattle.std.proofs.lemmas.Bool.{cases_Bool}
use Rattle.std.proofs.lemmas.List.{map-append}
use Rattle.std.proofs.lemmas.List.Elements.{filter-append}
use Rattle.toml_edit_model.specs.Mode.{Mode, shown_text}
use Rattle.toml_edit_model.specs.Text.{Text, same_text, one, is_empty}
use Rattle.toml_edit_model.specs.Syntax.{Segment, IsSpacedSegment}
use Rattle.toml_edit_model.specs.Paths.{Step, at_key, Path, same_path, to_key, Mention, mention_of, next_start, line_mentions}
use Rattle.toml_edit_model.specs.Tree.{Decor, Key}
use Rattle.toml_edit_model.specs.TreeOf.{owned_in, key_of}
use Rattle.toml_edit_model.specs.Print.{segment_of, dot_prefix, dot_suffix, segments_after, segments, last_leaf}
use Rattle.toml_edit_laws.proofs.common.WhiteSpace.{white-shown}
use Rattle.toml_edit_laws.proofs.common.OrderLaws.{place-first, first-map, first-alike}
use Rattle.toml_edit_laws.proofs.mentions.GatheredLines.{first_key, rest_of, has_first, begins_with, steps, group, rests, AllFilled}
use Rattle.toml_edit_laws.proofs.mentions.Leaders.{AreRanked, Leads}
use Rattle.toml_edit_laws.proofs.mentions.MentionGroups.{NoHeaders, lines-headers, flat_lines, line-from}
use Rattle.toml_edit_model.specs.Roles.{dotted_role, is_header_role}
use Rattle.toml_edit_model.specs.Kept.{mentions_at, first_of_list, kept_mention, unspaced_end, unspaced_ends, rank}
use Rattle.std.specs.Option.{option_or}

-- ---- the first segment of each path

-- the first segment, as a list
abbrev pub first_segment : List Segment → List Segment
first_segment [] = []
first_segment (s ∷ rest) = one s

-- the segment at the end of these keys, where they are the line's first
abbrev pub segment_at : List Text → List Segment → List Segment
segment_at [] ss = []
segment_at (k ∷ []) ss = if has_first k ss then first_segment ss else []
segment_at (k ∷ l ∷ q) ss = if has_first k ss then segment_at (l ∷ q) (rest_of ss) else []

-- the kept segments of the paths below this one are the first of these lines
abbrev pub AreKept : {X : Type 0} → (Path → Option Segment) → Path → (X → List Segment) → List X → Type 0
AreKept kept_at p path_of xs =
    (k : Text) (q : List Text) → kept_at (p ++ steps (k ∷ q)) ≡ first_of_list (flat_map (λ x. segment_at (k ∷ q) (path_of x)) xs)

-- the kept segments of a path below this one
abbrev pub kept_below : (Path → Option Segment) → Path → List Segment → List Segment
kept_below kept_at p [] = []
kept_below kept_at p (s ∷ ss) = unwrap_or (kept_at (to_key p s.key)) s ∷ kept_below kept_at (to_key p s.key) ss

pub flat_map-filter : {A B : Type 0} (test : A → Bool) (f : A → List B) (xs : List A) → flat_map (λ x. if test x then f x else []) xs
    ≡ flat_map f (filter test xs)
flat_map-filter test f [] = refl
flat_map-filter test f (x ∷ xs) =
    elim (cases_Bool (test x)) [
      | inl e ↦ rw e (ap (λ ys. f x ++ ys) (flat_map-filter test f xs))
      | inr e ↦ rw e (flat_map-filter test f xs)
    ]

-- one key down
pub group-kept : {X : Type 0} (kept_at : Path → Option Segment) (p : Path) (path_of : X → List Segment) (xs : List X) (k : Text)
    → AreKept kept_at p path_of xs → AreKept kept_at (to_key p k) (rests path_of) (group k path_of xs)
group-kept kept_at p path_of xs k h a q =
    ap kept_at (append_assoc p (one (at_key k)) (steps (a ∷ q)))
    ∙ h k (a ∷ q)
    ∙ ap first_of_list (flat_map-filter (λ x. has_first k (path_of x)) (λ x. segment_at (a ∷ q) (rests path_of x)) xs)

-- the kept segment of a key is that of the line that leads
pub kept-here : {X : Type 0} (kept_at : Path → Option Segment) (p : Path) (path_of : X
    → List Segment) (xs : List X) (x : X) (s : Segment) (rest : List Segment)
    → AreKept kept_at p path_of xs → path_of x ≡ s ∷ rest → Leads path_of xs x → kept_at (to_key p s.key) ≡ Some s
kept-here kept_at p path_of xs x s rest h is leads =
    h s.key []
    ∙ ap first_of_list (flat_map-filter (λ y. has_first s.key (path_of y)) (λ y. first_segment (path_of y)) xs)
    ∙ ap (λ ys. first_of_list (flat_map (λ y. first_segment (path_of y)) ys)) (subst (λ ss. group (first_key ss) path_of xs ≡ x
    ∷ leads.0) is leads.1)
    ∙ ap (λ ss. first_of_list (first_segment ss ++ flat_map (λ y. first_segment (path_of y)) leads.0)) is

-- ---- the mentions of lines

-- where a path of a line stands among its mentions, one key down
at-longer : {S : Type 0} (source : S) (start : ℕ) (k l : Text) (q p : Path) (ss : List Segment)
    → map (λ m. m.segment) (mentions_at (line_mentions source start (at_key l ∷ p) ss) (at_key k ∷ q))
    ≡ (if same_text k l then map (λ m. m.segment) (mentions_at (line_mentions source start p ss) q) else [])
at-longer source start k l q p [] = elim (cases_Bool (same_text k l)) [ inl e ↦ rw e refl | inr e ↦ rw e refl ]
at-longer source start k l q p (s ∷ []) =
    elim (cases_Bool (same_text k l)) [
      | inl e ↦ rw e (elim (cases_Bool (same_path q (to_key p s.key))) [ inl g ↦ rw g refl | inr g ↦ rw g refl ])
      | inr e ↦ rw e refl
    ]
at-longer {S = S} source start k l q p (s ∷ r ∷ rest) =
    elim (cases_Bool (same_text k l)) [
      | inl e ↦ rw e (by_here (same_path q (to_key p s.key)) (at-longer source (next_start start s) k l q (to_key p s.key) (r ∷ rest)
          ∙ rw e refl))
      | inr e ↦ rw e (at-longer source (next_start start s) k l q (to_key p s.key) (r ∷ rest) ∙ rw e refl)
    ]
  where
    longer : List (Mention S)
    longer = mentions_at (line_mentions source (next_start start s) (at_key l ∷ to_key p s.key) (r ∷ rest)) (at_key k ∷ q)

    shorter : List (Mention S)
    shorter = mentions_at (line_mentions source (next_start start s) (to_key p s.key) (r ∷ rest)) q

    by_here : (b : Bool) → map (λ (m : Mention S). m.segment) longer ≡ map (λ (m : Mention S). m.segment) shorter
        → map (λ (m : Mention S). m.segment) (if b then mention_of source start (at_key l ∷ to_key p s.key) dotted_role s ∷ longer
        else longer)
        ≡ map (λ (m : Mention S). m.segment) (if b then mention_of source start (to_key p s.key) dotted_role s ∷ shorter else shorter)
    by_here true e = ap (λ ys. s ∷ ys) e
    by_here false e = e

no-empty-path : (p : Path) (s : Step) → same_path [] (p ++ one s) ≡ false
no-empty-path [] s = refl
no-empty-path (t ∷ p) s = refl

none-at : {S : Type 0} (source : S) (start : ℕ) (p : Path) (ss : List Segment) → mentions_at (line_mentions source start p ss) [] ≡ []
none-at source start p [] = refl
none-at source start p (s ∷ []) = rw (no-empty-path p (at_key s.key)) refl
none-at source start p (s ∷ r ∷ rest) =
    rw (no-empty-path p (at_key s.key)) (none-at source (next_start start s) (to_key p s.key) (r ∷ rest))

line-segment : {S : Type 0} (source : S) (start : ℕ) (k : Text) (q : List Text) (ss : List Segment)
    → map (λ m. m.segment) (mentions_at (line_mentions source start [] ss) (steps (k ∷ q))) ≡ segment_at (k ∷ q) ss
line-segment source start k [] [] = refl
line-segment source start k (l ∷ q) [] = refl
line-segment {S = S} source start k [] (s ∷ rest) =
    ap (λ ms. map (λ (m : Mention S). m.segment) (mentions_at ms (steps (one k)))) (line-from source start [] s rest)
    ∙ elim (cases_Bool (same_text k s.key)) [
      | inl e ↦
          rw e
          (ap (λ ys. s ∷ ys)
          (at-longer source (next_start start s) k s.key [] [] rest
          ∙ rw e (ap (map (λ (m : Mention S). m.segment)) (none-at source (next_start start s) [] rest))))
      | inr e ↦ rw e (at-longer source (next_start start s) k s.key [] [] rest ∙ rw e refl)
    ]
line-segment {S = S} source start k (l ∷ q) (s ∷ rest) =
    ap (λ ms. map (λ (m : Mention S). m.segment) (mentions_at ms (steps (k ∷ l ∷ q)))) (line-from source start [] s rest)
    ∙ elim (cases_Bool (same_text k s.key)) [
      | inl e ↦ rw e (at-longer source (next_start start s) k s.key (steps (l ∷ q)) [] rest
          ∙ rw e (line-segment source (next_start start s) l q rest))
      | inr e ↦ rw e (at-longer source (next_start start s) k s.key (steps (l ∷ q)) [] rest ∙ rw e refl)
    ]

lines-segments : {S X : Type 0} (source : X → S) (start : X → ℕ) (path_of : X → List Segment) (k : Text) (q : List Text) (xs : List X)
    → map (λ m. m.segment) (mentions_at (flat_lines source start path_of xs) (steps (k ∷ q)))
    ≡ flat_map (λ x. segment_at (k ∷ q) (path_of x)) xs
lines-segments source start path_of k q [] = refl
lines-segments {S = S} source start path_of k q (x ∷ xs) =
    ap (map (λ (m : Mention S). m.segment))
    (filter-append (λ (m : Mention S). same_path (steps (k ∷ q)) m.path) (line_mentions (source x) (start x) [] (path_of x))
    (flat_lines source start path_of xs))
    ∙ map-append (λ (m : Mention S). m.segment) (mentions_at (line_mentions (source x) (start x) [] (path_of x)) (steps (k ∷ q)))
    (mentions_at (flat_lines source start path_of xs) (steps (k ∷ q)))
    ∙ ap (λ ys. ys ++ map (λ (m : Mention S). m.segment) (mentions_at (flat_lines source start path_of xs) (steps (k ∷ q))))
    (line-segment (source x) (start x) k q (path_of x))
    ∙ ap (λ ys. segment_at (k ∷ q) (path_of x) ++ ys) (lines-segments source start path_of k q xs)

-- ---- kept segments

no-header-found : {S : Type 0} (p : Path) (ms : List (Mention S)) → NoHeaders ms → find (λ m. is_header_role m.role) (mentions_at ms p)
    ≡ None
no-header-found p [] h = refl
no-header-found p (m ∷ ms) h =
    elim (cases_Bool (same_path p m.path)) [
      | inl e ↦ rw (e, h.0) (no-header-found p ms h.1)
      | inr e ↦ rw e (no-header-found p ms h.1)
    ]

first-segment : {S : Type 0} (ms : List (Mention S)) → option_map (λ m. m.segment) (first_of_list ms)
    ≡ first_of_list (map (λ m. m.segment) ms)
first-segment [] = refl
first-segment (m ∷ ms) = refl

-- the kept segment of a path among mentions
abbrev pub kept_in : {S : Type 0} → List (Mention S) → Path → Option Segment
kept_in ms p = option_map (λ m. m.segment) (kept_mention ms p)

pub lines-kept : {S X : Type 0} (source : X → S) (start : X → ℕ) (path_of : X → List Segment) (xs : List X)
    → AreKept (kept_in (flat_lines source start path_of xs)) [] path_of xs
lines-kept {S = S} source start path_of xs k q =
    let ms : List (Mention S) = flat_lines source start path_of xs in
    ap (λ o. option_map (λ (m : Mention S). m.segment) (option_or o (first_of_list (mentions_at ms (steps (k ∷ q))))))
    (no-header-found (steps (k ∷ q)) ms (lines-headers source start path_of xs))
    ∙ first-segment (mentions_at ms (steps (k ∷ q)))
    ∙ ap first_of_list (lines-segments source start path_of k q xs)

-- the kept segments of a line's own mentions
pub own-kept : {S T : Type 0} (ms : List (Mention T)) (source : S) (start : ℕ) (p : Path) (ss : List Segment)
    → map (λ m. unwrap_or (kept_in ms m.path) m.segment) (line_mentions source start p ss) ≡ kept_below (kept_in ms) p ss
own-kept ms source start p [] = refl
own-kept ms source start p (s ∷ []) = refl
own-kept ms source start p (s ∷ r ∷ rest) =
    ap (λ ys. unwrap_or (kept_in ms (to_key p s.key)) s ∷ ys) (own-kept ms source (next_start start s) (to_key p s.key) (r ∷ rest))

-- ---- ranks

any-longer : {S : Type 0} (source : S) (start : ℕ) (k l : Text) (q p : Path) (ss : List Segment)
    → list_any (λ m. same_path (at_key k ∷ q) m.path) (line_mentions source start (at_key l ∷ p) ss)
    ≡ (same_text k l && list_any (λ m. same_path q m.path) (line_mentions source start p ss))
any-longer source start k l q p [] = elim (cases_Bool (same_text k l)) [ inl e ↦ rw e refl | inr e ↦ rw e refl ]
any-longer source start k l q p (s ∷ []) = elim (cases_Bool (same_text k l)) [ inl e ↦ rw e refl | inr e ↦ rw e refl ]
any-longer source start k l q p (s ∷ r ∷ rest) =
    elim (cases_Bool (same_text k l)) [
      | inl e ↦ rw e (ap (λ b. same_path q (to_key p s.key) || b) (any-longer source (next_start start s) k l q (to_key p s.key) (r ∷ rest)
          ∙ rw e refl))
      | inr e ↦ rw e (any-longer source (next_start start s) k l q (to_key p s.key) (r ∷ rest) ∙ rw e refl)
    ]

none-any : {S : Type 0} (source : S) (start : ℕ) (p : Path) (ss : List Segment)
    → list_any (λ m. same_path [] m.path) (line_mentions source start p ss) ≡ false
none-any source start p [] = refl
none-any source start p (s ∷ []) = rw (no-empty-path p (at_key s.key)) refl
none-any source start p (s ∷ r ∷ rest) =
    rw (no-empty-path p (at_key s.key)) (none-any source (next_start start s) (to_key p s.key) (r ∷ rest))

-- a line mentions the paths that its keys begin with
line-mentions : {S : Type 0} (source : S) (start : ℕ) (k : Text) (q : List Text) (ss : List Segment)
    → list_any (λ m. same_path (steps (k ∷ q)) m.path) (line_mentions source start [] ss) ≡ begins_with (k ∷ q) ss
line-mentions source start k q [] = refl
line-mentions {S = S} source start k [] (s ∷ rest) =
    ap (list_any (λ (m : Mention S). same_path (steps (one k)) m.path)) (line-from source start [] s rest)
    ∙ ap (λ b. (same_text k s.key && true) || b)
    (any-longer source (next_start start s) k s.key [] [] rest
    ∙ ap (λ b. same_text k s.key && b) (none-any source (next_start start s) [] rest))
    ∙ by_test (same_text k s.key)
  where
    by_test : (b : Bool) → ((b && true) || (b && false)) ≡ (b && true)
    by_test true = refl
    by_test false = refl
line-mentions {S = S} source start k (l ∷ q) (s ∷ rest) =
    ap (list_any (λ (m : Mention S). same_path (steps (k ∷ l ∷ q)) m.path)) (line-from source start [] s rest)
    ∙ ap (λ b. (same_text k s.key && false) || b)
    (any-longer source (next_start start s) k s.key (steps (l ∷ q)) [] rest
    ∙ ap (λ b. same_text k s.key && b) (line-mentions source (next_start start s) l q rest))
    ∙ by_test (same_text k s.key) (begins_with (l ∷ q) rest)
  where
    by_test : (b c : Bool) → ((b && false) || (b && c)) ≡ (b && c)
    by_test true c = refl
    by_test false c = refl

pub lines-ranked : {S X : Type 0} (source : X → S) (start : X → ℕ) (path_of : X → List Segment) (xs : List X) → AllFilled path_of xs
    → AreRanked (rank (map (λ x. line_mentions (source x) (start x) [] (path_of x)) xs)) [] path_of xs
lines-ranked {S = S} {X = X} source start path_of xs full k q l r =
    let line : X → List (Mention S) = λ x. line_mentions (source x) (start x) [] (path_of x) in
    place-first (mentions_path (k ∷ q)) (mentions_path (l ∷ r)) (map line xs)
    ∙ first-map line (mentions_path (k ∷ q)) (mentions_path (l ∷ r)) xs
    ∙ first-alike (λ x. is_empty (path_of x) ≡ false) (λ x. mentions_path (k ∷ q) (line x)) (λ x. mentions_path (l ∷ r) (line x))
    (λ x. begins_with (k ∷ q) (path_of x)) (λ x. begins_with (l ∷ r) (path_of x))
    (λ x e. (line-mentions (source x) (start x) k q (path_of x), line-mentions (source x) (start x) l r (path_of x))) xs full
  where
    mentions_path : List Text → List (Mention S) → Bool
    mentions_path q ms = list_any (λ (m : Mention S). same_path (steps q) m.path) ms

pub last-key : (ks : List Key) (k : Key) → last_leaf (ks ++ one k) ≡ k.leaf
last-key [] k = refl
last-key (j ∷ []) k = refl
last-key (j ∷ l ∷ ks) k = last-key (l ∷ ks) k

module _ (mode : Mode) where
  -- ---- the keys of a printed line

  -- a key with what stands at the dots beside it
  abbrev pub key_segment : Key → Segment
  key_segment k = segment_of k (dot_prefix mode k) (dot_suffix mode k)

  after-bare : (ks : List Key) → segments_after mode ks ≡ unspaced_end (map key_segment ks)
  after-bare [] = refl
  after-bare (k ∷ []) = refl
  after-bare (k ∷ l ∷ rest) = ap (λ ss. key_segment k ∷ ss) (after-bare (l ∷ rest))

  pub segments-bare : (ks : List Key) → segments mode ks ≡ unspaced_ends (map key_segment ks)
  segments-bare [] = refl
  segments-bare (k ∷ []) = refl
  segments-bare (k ∷ l ∷ rest) = ap (λ ss. segment_of k [] (dot_suffix mode k) ∷ ss) (after-bare (l ∷ rest))

  -- the key of a mention is printed as its segment
  pub key-shown : {S : Type 0} (own : Decor) (m : Mention S) → IsSpacedSegment m.segment → key_segment (key_of (owned_in mode) own m)
      ≡ m.segment
  key-shown own m h =
      ap (λ t. record m.segment { before = t; after = shown_text mode m.segment.after }) (white-shown mode m.segment.before h.0)
      ∙ ap (λ t. record m.segment { after = t }) (white-shown mode m.segment.after h.1)
