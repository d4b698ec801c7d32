-- What the lines of a block say of the mentions that a table of it sees.
use Rattle.std.proofs.Common.{◌≡◌, refl, sym, ◌∙◌, ap, subst, ℕ, Bool, true, false, List, [], ◌∷◌, ◌++◌, Some, None, inl, inr}
use Rattle.std.specs.Prelude.{map, filter, flat_map, is_some, if◌then◌else◌}
use Rattle.std.specs.List.{AllByRecursion}
use Rattle.std.proofs.lemmas.Bool.{cases_Bool}
use Rattle.toml_edit_model.specs.Text.{Text, same_text, one}
use Rattle.toml_edit_model.specs.Syntax.{Segment}
use Rattle.toml_edit_model.specs.Paths.{Step, at_key, Path, same_step, to_key, Mention, mention_of, line_mentions, next_start}
use Rattle.toml_edit_laws.specs.FlatTree.{is_among}
use Rattle.toml_edit_laws.proofs.common.Tests.{false-by, same_text-is, same_text-refl, same_text-swap}
use Rattle.toml_edit_laws.proofs.mentions.GatherLaws.{first_of_key, AreDistinct}
use Rattle.toml_edit_laws.proofs.common.Members.{Among, among-left, among-right, among-cases, all-among, all-of-among}
use Rattle.toml_edit_laws.proofs.mentions.KeptMentions.{moved, under-is}
use Rattle.toml_edit_laws.proofs.common.OrderLaws.{none-left}
use Rattle.toml_edit_laws.proofs.mentions.GatheredLines.{has_first, group, part_ways, AllPart}
use Rattle.toml_edit_laws.proofs.mentions.MentionGroups.{first_role, line-from}
use Rattle.toml_edit_model.specs.TableMentions.{inside, under}

-- ---- members

pub among-filter : {A : Type 0} (test : A → Bool) (x : A) (xs : List A) → Among x (filter test xs) → Among x xs × (test x ≡ true)
among-filter test x [] a = elim a [ ]
among-filter {A = A} test x (y ∷ xs) a = by_test (test y) refl a (among-filter test x xs)
  where
    by_test : (b : Bool) → test y ≡ b → Among x (if b then y ∷ filter test xs else filter test xs)
        → (Among x (filter test xs) → Among x xs × (test x ≡ true))
        → Among x (y ∷ xs) × (test x ≡ true)
    by_test true e (inl g) ih = (inl g, ap test g ∙ e)
    by_test true e (inr h) ih = (inr (ih h).0, (ih h).1)
    by_test false e h ih = (inr (ih h).0, (ih h).1)

pub among-map : {A B : Type 0} (f : A → List B) (y : B) (xs : List A) → Among y (flat_map f xs) → (x : A) × Among x xs × Among y (f x)
among-map f y [] a = elim a [ ]
among-map f y (x ∷ xs) a =
    elim (among-cases y (f x) (flat_map f xs) a) [
      | inl g ↦ (x, inl refl, g)
      | inr g ↦ let found = among-map f y xs g in (found.0, inr found.1, found.2)
    ]

pub map-among : {A B : Type 0} (f : A → List B) (y : B) (x : A) (xs : List A) → Among x xs → Among y (f x) → Among y (flat_map f xs)
map-among f y x [] a b = elim a [ ]
map-among f y x (z ∷ xs) (inl e) b = among-left y (f z) (flat_map f xs) (subst (λ w. Among y (f w)) e b)
map-among f y x (z ∷ xs) (inr a) b = among-right y (f z) (flat_map f xs) (map-among f y x xs a b)

-- ---- paths and roles of members

-- what doesn't look at a path holds one step down
pub all-under : {S : Type 0} (P : Mention S → Type 0) → ((m : Mention S) (p : Path) → P m → P (moved m p))
    → (s : Step) (ms : List (Mention S))
    → AllByRecursion P ms → AllByRecursion P (under s ms)
all-under P still s ms h =
    all-of-among P (under s ms) (λ m a.
    let up = under-is s m ms a in
    subst P (sym up.same) (still up.mention m.path (all-among P up.mention ms h up.among)))

pub under-filter : {S : Type 0} (test : S → Bool) (s : Step) (ms : List (Mention S))
    → filter (λ m. test m.source) (under s ms) ≡ under s (filter (λ m. test m.source) ms)
under-filter test s [] = refl
under-filter {S = S} test s (m ∷ ms) = by_path m.path (under-filter test s ms)
  where
    by_path : (p : Path) → filter (λ (n : Mention S). test n.source) (under s ms) ≡ under s (filter (λ (n : Mention S). test n.source) ms)
        → filter (λ (n : Mention S). test n.source) (inside s m p ++ under s ms)
        ≡ under s (if test m.source then moved m p ∷ filter (λ (n : Mention S). test n.source) ms
        else filter (λ (n : Mention S). test n.source) ms)
    by_path [] ih = ih ∙ elim (cases_Bool (test m.source)) [ inl e ↦ rw e refl | inr e ↦ rw e refl ]
    by_path (t ∷ p) ih =
        elim (cases_Bool (same_step t s)) [
          | inl g ↦ elim (cases_Bool (test m.source)) [ inl e ↦ rw (g, e, ih) (rw g refl) | inr e ↦ rw (g, e) ih ]
          | inr g ↦ elim (cases_Bool (test m.source)) [ inl e ↦ rw (g, e) (rw g ih) | inr e ↦ rw (g, e) ih ]
        ]

-- ---- slots

-- a search for the key of a slot finds it
pub distinct-found : {S : Type 0} (ms : List (Mention S)) → AreDistinct ms → AllByRecursion (λ m. first_of_key m.segment.key ms ≡ Some m) ms
distinct-found [] h = tt
distinct-found {S = S} (m ∷ ms) h = (
  rw (same_text-refl m.segment.key) refl,
  all-of-among (λ n. first_of_key n.segment.key (m ∷ ms) ≡ Some n) ms (λ n a.
      let found : first_of_key n.segment.key ms ≡ Some n =
      all-among (λ (x : Mention S). first_of_key x.segment.key ms ≡ Some x) n ms (distinct-found ms h.1) a in
      let apart : same_text n.segment.key m.segment.key ≡ false =
      false-by (same_text n.segment.key m.segment.key) (λ e.
      let same : n.segment.key ≡ m.segment.key = same_text-is n.segment.key m.segment.key e in
      let clash : None ≡ Some n = sym h.0 ∙ ap (λ k. first_of_key k ms) (sym same) ∙ found in cc) in
      rw apart found),
)

pub among-found : {S : Type 0} (k : Text) (ms : List (Mention S)) → is_among k (map (λ m. m.segment.key) ms) ≡ is_some (first_of_key k ms)
among-found k [] = refl
among-found k (m ∷ ms) =
    elim (cases_Bool (same_text k m.segment.key)) [
      | inl e ↦ rw e refl
      | inr e ↦ rw e (among-found k ms)
    ]

-- ---- lines

-- a mention of one key in a line is its first
long : {A : Type 0} (s t : A) (p : List A) (u : A) → s ∷ (p ++ (u ∷ [])) ≡ t ∷ [] → ⊥
long s t [] u h = cc
long s t (v ∷ p) u h = cc

line-longer : {S : Type 0} (source : S) (start : ℕ) (k l : Text) (p : Path) (ss : List Segment) (m : Mention S)
    → Among m (line_mentions source start (at_key l ∷ p) ss) → m.path ≡ at_key k ∷ [] → ⊥
line-longer source start k l p [] m a e = elim a [ ]
line-longer {S = S} source start k l p (s ∷ []) m (inl g) e =
    long (at_key l) (at_key k) p (at_key s.key) (sym (ap (λ (x : Mention S). x.path) g) ∙ e)
line-longer source start k l p (s ∷ []) m (inr a) e = elim a [ ]
line-longer {S = S} source start k l p (s ∷ r ∷ rest) m (inl g) e =
    long (at_key l) (at_key k) p (at_key s.key) (sym (ap (λ (x : Mention S). x.path) g) ∙ e)
line-longer source start k l p (s ∷ r ∷ rest) m (inr a) e = line-longer source (next_start start s) k l (to_key p s.key) (r ∷ rest) m a e

-- the line whose first mention it is
pub record IsFirstOf {S : Type 0} (source : S) (start : ℕ) (ss : List Segment) (m : Mention S) : Type 0 where
  pub segment : Segment
  pub rest : List Segment
  pub is : ss ≡ segment ∷ rest
  pub same : m ≡ mention_of source start (one (at_key segment.key)) (first_role rest) segment

pub line-first : {S : Type 0} (source : S) (start : ℕ) (k : Text) (ss : List Segment) (m : Mention S)
    → Among m (line_mentions source start [] ss) → m.path ≡ at_key k ∷ [] → IsFirstOf source start ss m
line-first source start k [] m a e = elim a [ ]
line-first {S = S} source start k (s ∷ rest) m a e = by_place (subst (Among m) (line-from source start [] s rest) a)
  where
    by_place : Among m (mention_of source start (one (at_key s.key)) (first_role rest) s
        ∷ line_mentions source (next_start start s) (one (at_key s.key)) rest)
        → IsFirstOf source start (s ∷ rest) m
    by_place (inl g) = record { segment = s; rest = rest; is = refl; same = g }
    by_place (inr g) = absurd (line-longer source (next_start start s) k s.key [] rest m g e)

pub first-line : {S : Type 0} (source : S) (start : ℕ) (s : Segment) (rest : List Segment)
    → Among (mention_of source start (one (at_key s.key)) (first_role rest) s) (line_mentions source start [] (s ∷ rest))
first-line source start s rest =
    subst (Among (mention_of source start (one (at_key s.key)) (first_role rest) s)) (sym (line-from source start [] s rest)) (inl refl)

-- ---- a line of one key

alone-after : (s : Segment) (ss : List Segment) → part_ways (one s) ss ≡ true → has_first s.key ss ≡ false
alone-after s [] h = refl
alone-after s (r ∷ rs) h =
    elim (cases_Bool (same_text s.key r.key)) [
      | inl e ↦ let clash : false ≡ true = rw e at h in absurd cc
      | inr e ↦ e
    ]

alone-before : (s : Segment) (ss : List Segment) → part_ways ss (one s) ≡ true → has_first s.key ss ≡ false
alone-before s [] h = refl
alone-before s (r ∷ rs) h =
    elim (cases_Bool (same_text r.key s.key)) [
      | inl e ↦ absurd (no rs (rw e at h))
      | inr e ↦ same_text-swap s.key r.key ∙ e
    ]
  where
    no : (rs : List Segment) → part_ways rs [] ≡ true → ⊥
    no [] g = cc
    no (q ∷ qs) g = cc

-- A line of one key is alone in its group.
pub alone-group : {X : Type 0} (path_of : X → List Segment) (x : X) (s : Segment) (xs : List X) → AllPart path_of xs → Among x xs
    → path_of x ≡ one s
    → group s.key path_of xs ≡ one x
alone-group path_of x s [] h a e = elim a [ ]
alone-group path_of x s (y ∷ xs) h (inl g) e =
    let is : path_of y ≡ one s = ap path_of (sym g) ∙ e in
    let none : group s.key path_of xs ≡ [] =
    none-left (λ z. has_first s.key (path_of z)) xs
    (all-of-among (λ z. has_first s.key (path_of z) ≡ false) xs (λ z b.
    alone-after s (path_of z) (ap (λ ss. part_ways ss (path_of z)) (sym is)
    ∙ all-among (λ w. part_ways (path_of y) (path_of w) ≡ true) z xs h.0 b))) in
    rw (ap (has_first s.key) is ∙ same_text-refl s.key) (ap (λ zs. y ∷ zs) none ∙ ap one (sym g))
alone-group path_of x s (y ∷ xs) h (inr a) e =
    rw (alone-before s (path_of y) (ap (part_ways (path_of y)) (sym e)
    ∙ all-among (λ w. part_ways (path_of y) (path_of w) ≡ true) x xs h.0 a))
    (alone-group path_of x s xs h.1 a e)
