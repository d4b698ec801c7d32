-- Each mention of an accepted document stands below tables and elements that are mentioned.
use Rattle.std.proofs.Common.{◌≡◌, ◌<◌, ◌≤◌, ℕ, zero, suc, refl, sym, ap, subst, ◌∙◌, arith, inl, inr, true, false, Bool, List, [], ◌∷◌}
use Rattle.std.proofs.Common.{◌++◌}
use Rattle.std.specs.Prelude.{◌||◌}
use Rattle.toml_edit_model.specs.Text.{Text, is_empty}
use Rattle.toml_edit_model.specs.Syntax.{Segment}
use Rattle.toml_edit_model.specs.Paths.{at_key, at_element, Path, to_key, to_element, Mention, Source, mention_of, line_mentions}
use Rattle.toml_edit_model.specs.Paths.{header_mentions, header_path, next_start, elements_at, in_last, passing_role}
use Rattle.toml_edit_laws.proofs.common.Members.{Among}
use Rattle.toml_edit_laws.proofs.clashes.ClashMentions.{is_table_role}
use Rattle.toml_edit_laws.proofs.clashes.ClashCounts.{count_at, count-under}
use Rattle.toml_edit_laws.proofs.clashes.ClashContext.{count-both}
use Rattle.toml_edit_laws.proofs.mentions.SomeAt.{some_at-append, under-append, some_at-under, among-test}
use Rattle.toml_edit_model.specs.Roles.{Role, dotted_role, implied_role, is_array_role}
use Rattle.toml_edit_model.specs.TableMentions.{under, some_at}

-- ---- ways

-- each key on the path is a table's, or an array's that has the element after it
abbrev pub Way : Path → List (Mention Source) → Type 0
Way [] ms = Unit {0}
Way (at_key k ∷ []) ms = some_at is_table_role (at_key k ∷ []) ms ≡ true
Way (at_key k ∷ at_key l ∷ p) ms = (some_at is_table_role (at_key k ∷ []) ms ≡ true) × Way (at_key l ∷ p) (under (at_key k) ms)
Way (at_key k ∷ at_element i ∷ p) ms = (i < count_at is_array_role (at_key k ∷ []) ms) × Way p (under (at_element i) (under (at_key k) ms))
Way (at_element i ∷ p) ms = ⊥

some-more : (test : Role → Bool) (p : Path) (xs ys : List (Mention Source)) → some_at test p xs ≡ true → some_at test p (xs ++ ys) ≡ true
some-more test p xs ys h = some_at-append test p xs ys ∙ ap (λ b. b || some_at test p ys) h

pub count-more : (p : Path) (xs ys : List (Mention Source)) (i : ℕ) → i < count_at is_array_role p xs
    → i < count_at is_array_role p (xs ++ ys)
count-more p xs ys i h = let both = count-both is_array_role p xs ys in omega arith

pub way-more : (p : Path) (xs ys : List (Mention Source)) → Way p xs → Way p (xs ++ ys)
way-more [] xs ys h = tt
way-more (at_key k ∷ []) xs ys h = some-more is_table_role (at_key k ∷ []) xs ys h
way-more (at_key k ∷ at_key l ∷ p) xs ys h = (
  some-more is_table_role (at_key k ∷ []) xs ys h.0,
  subst (Way (at_key l ∷ p)) (sym (under-append (at_key k) xs ys)) (way-more (at_key l
      ∷ p) (under (at_key k) xs) (under (at_key k) ys) h.1),
)
way-more (at_key k ∷ at_element i ∷ p) xs ys h = (
  count-more (at_key k ∷ []) xs ys i h.0,
  subst (λ us. Way p (under (at_element i) us)) (sym (under-append (at_key k) xs ys))
      (subst (Way p) (sym (under-append (at_element i) (under (at_key k) xs) (under (at_key k) ys)))
      (way-more p (under (at_element i) (under (at_key k) xs)) (under (at_element i) (under (at_key k) ys)) h.1)),
)
way-more (at_element i ∷ p) xs ys h = absurd h

pub way-key : (p : Path) (k : Text) (ms : List (Mention Source)) → Way p ms → some_at is_table_role (to_key p k) ms ≡ true
    → Way (to_key p k) ms
way-key [] k ms h e = e
way-key (at_key l ∷ []) k ms h e = (h, some_at-under is_table_role (at_key l) (at_key k ∷ []) ms ∙ e)
way-key (at_key l ∷ at_key j ∷ p) k ms h e =
    (h.0, way-key (at_key j ∷ p) k (under (at_key l) ms) h.1 (some_at-under is_table_role (at_key l) (to_key (at_key j ∷ p) k) ms ∙ e))
way-key (at_key l ∷ at_element i ∷ p) k ms h e = (
  h.0,
  way-key p k (under (at_element i) (under (at_key l) ms)) h.1
      (some_at-under is_table_role (at_element i) (to_key p k) (under (at_key l) ms)
      ∙ some_at-under is_table_role (at_key l) (at_element i ∷ to_key p k) ms ∙ e),
)
way-key (at_element i ∷ p) k ms h e = absurd h

pub way-element : (p : Path) (k : Text) (i : ℕ) (ms : List (Mention Source)) → Way p ms → i < count_at is_array_role (to_key p k) ms
    → Way (to_element (to_key p k) i) ms
way-element [] k i ms h e = (e, tt)
way-element (at_key l ∷ []) k i ms h e = (h, (subst (λ n. i < n) (sym (count-under is_array_role (at_key l) (at_key k ∷ []) ms)) e, tt))
way-element (at_key l ∷ at_key j ∷ p) k i ms h e = (
  h.0,
  way-element (at_key j ∷ p) k i (under (at_key l) ms) h.1
      (subst (λ n. i < n) (sym (count-under is_array_role (at_key l) (to_key (at_key j ∷ p) k) ms)) e),
)
way-element (at_key l ∷ at_element j ∷ p) k i ms h e = (
  h.0,
  way-element p k i (under (at_element j) (under (at_key l) ms)) h.1
      (subst (λ n. i < n) (sym (count-under is_array_role (at_element j) (to_key p k) (under (at_key l) ms)
      ∙ count-under is_array_role (at_key l) (at_element j ∷ to_key p k) ms)) e),
)
way-element (at_element j ∷ p) k i ms h e = absurd h

-- ---- mentions that stand at the ends of ways

pub record HasWay (all : List (Mention Source)) (m : Mention Source) : Type 0 where
  pub above : Path
  pub path : m.path ≡ to_key above m.segment.key
  pub way : Way above all

abbrev AreIn : List (Mention Source) → List (Mention Source) → Type 0
AreIn all ms = (m : Mention Source) → Among m ms → Among m all

first-way : (all : List (Mention Source)) (p : Path) (m n : Mention Source) → Way p all → n.path ≡ to_key p n.segment.key → m ≡ n
    → HasWay all m
first-way all p m n h e same = subst (HasWay all) (sym same) (record { above = p; path = e; way = h })

pub line-ways : (all : List (Mention Source)) (source : Source) (start : ℕ) (p : Path) (ss : List Segment) → Way p all
    → AreIn all (line_mentions source start p ss) → (m : Mention Source) → Among m (line_mentions source start p ss) → HasWay all m
line-ways all source start p [] h inside m a = elim a [ ]
line-ways all source start p (s ∷ []) h inside m (inl e) = first-way all p m _ h refl e
line-ways all source start p (s ∷ []) h inside m (inr a) = elim a [ ]
line-ways all source start p (s ∷ r ∷ rest) h inside m (inl e) = first-way all p m _ h refl e
line-ways all source start p (s ∷ r ∷ rest) h inside m (inr a) =
    line-ways all source (next_start start s) (to_key p s.key) (r ∷ rest)
    (way-key p s.key all h (among-test is_table_role (mention_of source start (to_key p s.key) dotted_role s) all (inside _ (inl refl))
    refl))
    (λ n b. inside n (inr b)) m a

-- the arrays have at least so many elements
abbrev AreCountedIn : List Path → List (Mention Source) → Type 0
AreCountedIn arrays all = (p : Path) → elements_at arrays p ≤ count_at is_array_role p all

pass-way : (all : List (Mention Source)) (source : Source) (start : ℕ) (p : Path) (s : Segment) (count : ℕ) → Way p all
    → count ≤ count_at is_array_role (to_key p s.key) all → Among (mention_of source start (to_key p s.key) (passing_role count) s) all
    → Way (in_last count (to_key p s.key)) all
pass-way all source start p s zero h le a =
    way-key p s.key all h (among-test is_table_role (mention_of source start (to_key p s.key) implied_role s) all a refl)
pass-way all source start p s (suc n) h le a =
    way-element p s.key n all h (let less : n < count_at is_array_role (to_key p s.key) all = omega arith in less)

pub header-ways : (all : List (Mention Source)) (source : Source) (arrays : List Path) (role : Role) (start : ℕ) (p : Path)
    (ss : List Segment) → Way p all
    → AreCountedIn arrays all → AreIn all (header_mentions source arrays role start p ss) → (m : Mention Source)
    → Among m (header_mentions source arrays role start p ss) → HasWay all m
header-ways all source arrays role start p [] h counted inside m a = elim a [ ]
header-ways all source arrays role start p (s ∷ []) h counted inside m (inl e) = first-way all p m _ h refl e
header-ways all source arrays role start p (s ∷ []) h counted inside m (inr a) = elim a [ ]
header-ways all source arrays role start p (s ∷ r ∷ rest) h counted inside m (inl e) = first-way all p m _ h refl e
header-ways all source arrays role start p (s ∷ r ∷ rest) h counted inside m (inr a) =
    let here : Path = to_key p s.key in
    let count = elements_at arrays here in
    header-ways all source arrays role (next_start start s) (in_last count here) (r ∷ rest)
    (pass-way all source start p s count h (counted here) (inside _ (inl refl))) counted (λ n b. inside n (inr b)) m a

-- the last mention of a header
pub record LastMention (all : List (Mention Source)) (role : Role) (path : Path) : Type 0 where
  pub mention : Mention Source
  pub among : Among mention all
  pub role_is : mention.role ≡ role
  pub path_is : mention.path ≡ path
  pub above : Path
  pub key : Text
  pub ends : path ≡ to_key above key
  pub way : Way above all

pub header-last : (all : List (Mention Source)) (source : Source) (arrays : List Path) (role : Role) (start : ℕ) (p : Path)
    (ss : List Segment) → is_empty ss ≡ false
    → Way p all → AreCountedIn arrays all → AreIn all (header_mentions source arrays role start p ss)
    → LastMention all role (header_path arrays p ss)
header-last all source arrays role start p [] some h counted inside = absurd cc
header-last all source arrays role start p (s ∷ []) some h counted inside =
    record {
      mention = mention_of source start (to_key p s.key) role s;
      among = inside _ (inl refl);
      role_is = refl;
      path_is = refl;
      above = p;
      key = s.key;
      ends = refl;
      way = h;
    }
header-last all source arrays role start p (s ∷ r ∷ rest) some h counted inside =
    let here : Path = to_key p s.key in
    let count = elements_at arrays here in
    header-last all source arrays role (next_start start s) (in_last count here) (r ∷ rest) refl
    (pass-way all source start p s count h (counted here) (inside _ (inl refl))) counted (λ n b. inside n (inr b))
