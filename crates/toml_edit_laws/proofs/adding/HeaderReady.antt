-- What the statements before a header have to be like, as each table below the root sees them.
use Rattle.std.proofs.Common.{◌≡◌, ◌≤◌, refl, sym, ◌∙◌, ap, subst, ℕ, Bool, true, false, List, [], ◌∷◌, ◌++◌, length, inl, inr, Option}
use Rattle.std.proofs.Common.{Some, None}
use Rattle.std.specs.Prelude.{◌⊎◌, ◌&&◌, ◌||◌, if◌then◌else◌, filter, map, find, is_some, option_map}
use Rattle.std.specs.List.{AllByRecursion, list_any}
use Rattle.toml_edit_model.specs.Mode.{Mode}
use Rattle.toml_edit_model.specs.Text.{Text, is_empty}
use Rattle.toml_edit_model.specs.Paths.{Step, at_key, at_element, Path, same_step, same_path, Mention, Source, elements_at}
use Rattle.toml_edit_model.specs.TreeOf.{spanned_in, IsTableRole}
use Rattle.toml_edit_laws.proofs.common.Tests.{and_right, true-false}
use Rattle.toml_edit_laws.proofs.mentions.GatherLaws.{some_at-first, first_of_key, first_at}
use Rattle.toml_edit_laws.proofs.mentions.KeptOrder.{HaveOneHeader, under-header}
use Rattle.toml_edit_laws.proofs.adding.HeaderPaths.{paths_under, elements-under}
use Rattle.toml_edit_laws.proofs.adding.HeaderKept.{is_head_at, head_at, leader_at}
use Rattle.toml_edit_laws.proofs.mentions.Placed.{IsHeaded}
use Rattle.toml_edit_laws.proofs.mentions.SomeAt.{some_at-under}
use Rattle.toml_edit_laws.proofs.mentions.RoleTests.{is_through_role}
use Rattle.toml_edit_laws.proofs.mentions.Named.{AreNamed, under-named}
use Rattle.toml_edit_laws.proofs.clashes.ClashKept.{some_at-such, kept-lead}
use Rattle.toml_edit_laws.specs.KeptKeys.{under_path}
use Rattle.toml_edit_model.specs.Roles.{Role, array_role, is_header_role, is_array_role, any_role}
use Rattle.toml_edit_model.specs.Kept.{first_of_list}
use Rattle.toml_edit_model.specs.TableMentions.{inside, under, own, roles, array_headers, some_at, kept}
use Rattle.std.specs.Option.{option_or}

-- ---- the conditions

-- the numbered paths from a path on
abbrev pub paths_from : Path → List Path → List Path
paths_from [] paths = paths
paths_from (s ∷ p) paths = paths_from p (paths_under s paths)

-- an array of tables is first mentioned by a header in double brackets, and by no plain one
abbrev pub AreArrayed : List Role → Type 0
AreArrayed rs = list_any is_array_role rs ≡ true → (first_of_list rs ≡ Some array_role) × (list_any is_header_role rs ≡ false)

-- headers go on in the elements of arrays alone
abbrev pub ArePassed : List Role → Type 0
ArePassed rs = list_any is_through_role rs ≡ true → list_any is_array_role rs ≡ true

-- What is mentioned of one table, array or value and below it: it has as many elements as headers in double brackets, and nothing
-- is below a key that isn't mentioned or an element that isn't there.
pub record IsReadyAt (paths : List Path) (us : List (Mention Source)) : Type 0 where
  pub counted : elements_at paths [] ≡ length (array_headers us)
  pub keyed : (k : Text) → own (under (at_key k) us) ≡ [] → under (at_key k) us ≡ []
  pub numbered : (i : ℕ) → length (array_headers us) ≤ i → under (at_element i) us ≡ []
  pub arrayed : AreArrayed (roles us)
  pub passed : ArePassed (roles us)

-- the same of each path
abbrev pub AreReadyPaths : List Path → List (Mention Source) → Type 0
AreReadyPaths paths ms = (p : Path) → IsReadyAt (paths_from p paths) (under_path p ms)

-- The mentions of statements after which a header may come, and the paths of the headers in double brackets among them.
pub record AreReady (paths : List Path) (ms : List (Mention Source)) : Type 0 where
  pub named : AreNamed ms
  pub headed : HaveOneHeader ms
  pub sourced : AllByRecursion IsHeaded ms
  pub at : AreReadyPaths paths ms

-- ---- one step down

pub all-under : {S : Type 0} (P : Mention S → Type 0)
    → ((m : Mention S) (t : Step) (p : Path) → m.path ≡ t ∷ p → P m → P (record m { path = p }))
    → (s : Step) (ms : List (Mention S)) → AllByRecursion P ms → AllByRecursion P (under s ms)
all-under P f s [] h = tt
all-under {S} P f s (m ∷ ms) h = by_path m.path refl (all-under P f s ms h.1)
  where
    by_path : (p : Path) → m.path ≡ p → AllByRecursion P (under s ms) → AllByRecursion P (inside s m p ++ under s ms)
    by_path [] e ih = ih
    by_path (t ∷ p) e ih = by_step (same_step t s)
      where
        by_step : (b : Bool) → AllByRecursion P ((if b then record m { path = p } ∷ [] else []) ++ under s ms)
        by_step true = (f m t p e h.0, ih)
        by_step false = ih

pub ready-under : (s : Step) (paths : List Path) (ms : List (Mention Source)) → AreReady paths ms
    → AreReady (paths_under s paths) (under s ms)
ready-under s paths ms h =
    record {
      named = under-named s ms h.named;
      headed = under-header s ms h.headed;
      sourced = all-under IsHeaded (λ m t p e n. n) s ms h.sourced;
      at = λ p. h.at (s ∷ p);
    }

-- ---- roles of a table itself

pub some_at-own : {S : Type 0} (test : Role → Bool) (us : List (Mention S)) → some_at test [] us ≡ list_any test (roles us)
some_at-own test [] = refl
some_at-own test (m ∷ us) = by_path m.path (some_at-own test us)
  where
    by_path : (p : Path) → some_at test [] us ≡ list_any test (roles us)
        → ((same_path p [] && test m.role) || some_at test [] us)
        ≡ list_any test (map (λ k. k.role) (if is_empty p then m ∷ own us else own us))
    by_path [] ih = ap (λ b. test m.role || b) ih
    by_path (s ∷ p) ih = ih

pub first-role : {S : Type 0} (s : Step) (ms : List (Mention S)) → option_map (λ m. m.role) (first_at (s ∷ []) ms)
    ≡ first_of_list (roles (under s ms))
first-role s [] = refl
first-role {S} s (m ∷ ms) = by_path m.path (first-role s ms)
  where
    by_path : (p : Path) → option_map (λ (k : Mention S). k.role) (first_at (s ∷ []) ms) ≡ first_of_list (roles (under s ms))
        → option_map (λ (k : Mention S). k.role) (if same_path p (s ∷ []) then Some m else first_at (s ∷ []) ms)
        ≡ first_of_list (roles (inside s m p ++ under s ms))
    by_path [] ih = ih
    by_path (t ∷ []) ih = by_step (same_step t s)
      where
        by_step : (b : Bool)
            → option_map (λ (k : Mention S). k.role) (if b && true then Some m else first_at (s ∷ []) ms)
            ≡ first_of_list (roles ((if b then record m { path = [] } ∷ [] else []) ++ under s ms))
        by_step true = refl
        by_step false = ih
    by_path (t ∷ u ∷ p) ih = by_step (same_step t s)
      where
        by_step : (b : Bool)
            → option_map (λ (k : Mention S). k.role) (if b && false then Some m else first_at (s ∷ []) ms)
            ≡ first_of_list (roles ((if b then record m { path = u ∷ p } ∷ [] else []) ++ under s ms))
        by_step true = ih
        by_step false = ih

no-roles : {S : Type 0} (xs : List (Mention S)) → first_of_list (map (λ m. m.role) xs) ≡ None → xs ≡ []
no-roles [] h = refl
no-roles (m ∷ xs) h = absurd cc

pub no-arrays : {S : Type 0} (xs : List (Mention S)) → list_any is_array_role (map (λ m. m.role) xs) ≡ false
    → filter (λ m. is_array_role m.role) xs ≡ []
no-arrays [] h = refl
no-arrays (m ∷ xs) h = by_test (is_array_role m.role) h (no-arrays xs)
  where
    by_test : (b : Bool) → (b || list_any is_array_role (map (λ k. k.role) xs)) ≡ false
        → (list_any is_array_role (map (λ k. k.role) xs) ≡ false → filter (λ k. is_array_role k.role) xs ≡ [])
        → (if b then m ∷ filter (λ k. is_array_role k.role) xs else filter (λ k. is_array_role k.role) xs) ≡ []
    by_test true h ih = absurd cc
    by_test false h ih = ih h

some-array : {S : Type 0} (xs : List (Mention S)) → first_of_list (map (λ m. m.role) xs) ≡ Some array_role
    → (a : Mention S) × (more : List (Mention S)) × (filter (λ m. is_array_role m.role) xs ≡ a ∷ more)
some-array [] h = absurd cc
some-array (m ∷ xs) h =
    let role : m.role ≡ array_role = cc in (
      m,
      filter (λ k. is_array_role k.role) xs,
      ap (λ r. if is_array_role r then m ∷ filter (λ k. is_array_role k.role) xs
          else filter (λ k. is_array_role k.role) xs) role,
    )

-- ---- what the slot of a key says of what is mentioned there

-- as many elements as headers in double brackets
pub count-at : (paths : List Path) (ms : List (Mention Source)) (k : Text) → AreReady paths ms
    → elements_at paths (at_key k ∷ []) ≡ length (array_headers (under (at_key k) ms))
count-at paths ms k h = sym (elements-under (at_key k) [] paths) ∙ (h.at (at_key k ∷ [])).counted

or-none : {A : Type 0} (a b : Option A) → option_or a b ≡ None → (a ≡ None) × (b ≡ None)
or-none None b h = (refl, h)
or-none (Some x) b h = absurd cc

-- a key without a slot isn't mentioned
pub key-unmentioned : (k : Text) (ms : List (Mention Source)) → AreNamed ms → first_of_key k (kept ms) ≡ None
    → (some_at any_role (at_key k ∷ []) ms ≡ false) × (some_at is_header_role (at_key k ∷ []) ms ≡ false) × (own (under (at_key k) ms) ≡ [])
key-unmentioned k ms n h =
    let both = or-none (head_at (at_key k ∷ []) ms) (first_at (at_key k ∷ []) ms) (sym (kept-lead k ms n) ∙ h) in (
      some_at-first (at_key k ∷ []) ms ∙ ap is_some both.1,
      some_at-such is_header_role (at_key k ∷ []) ms ∙ ap is_some both.0,
      no-roles (own (under (at_key k) ms)) (sym (first-role (at_key k) ms) ∙ ap (option_map (λ (m : Mention Source). m.role)) both.1),
    )

pub key-empty : (paths : List Path) (k : Text) (ms : List (Mention Source)) → AreReady paths ms → first_of_key k (kept ms) ≡ None
    → under (at_key k) ms ≡ []
key-empty paths k ms h new = (h.at []).keyed k (key-unmentioned k ms h.named new).2

-- one with a slot is
is_some-first : {S : Type 0} (p : Path) (ms : List (Mention S)) → is_some (leader_at p ms) ≡ some_at any_role p ms
is_some-first p [] = refl
is_some-first {S} p (m ∷ ms) = by_tests (same_path m.path p) (is_header_role m.role) (is_some-first p ms)
  where
    either : (o : Option (Mention S)) → is_some (option_or o (Some m)) ≡ true
    either None = refl
    either (Some x) = refl

    by_tests : (a b : Bool) → is_some (leader_at p ms) ≡ some_at any_role p ms
        → is_some (option_or (if a && b then Some m else head_at p ms) (if a then Some m else first_at p ms))
        ≡ ((a && true) || some_at any_role p ms)
    by_tests true true ih = refl
    by_tests true false ih = either (head_at p ms)
    by_tests false b ih = ih

pub key-mentioned : (k : Text) (ms : List (Mention Source)) (j : Mention Source) → AreNamed ms → first_of_key k (kept ms) ≡ Some j
    → some_at any_role (at_key k ∷ []) ms ≡ true
key-mentioned k ms j n h = sym (is_some-first (at_key k ∷ []) ms) ∙ ap is_some (sym (kept-lead k ms n) ∙ h)

pub all-find : {A : Type 0} (P : A → Type 0) (test : A → Bool) (xs : List A) (a : A) → AllByRecursion P xs → find test xs ≡ Some a → P a
    × (test a ≡ true)
all-find P test [] a h e = absurd cc
all-find {A} P test (x ∷ xs) a h e = by_test (test x) refl e (all-find P test xs a h.1)
  where
    by_test : (b : Bool) → test x ≡ b → (if b then Some x else find test xs) ≡ Some a → (find test xs ≡ Some a → P a × (test a ≡ true))
        → P a × (test a ≡ true)
    by_test true t e ih =
        let same : x ≡ a = cc in
        (subst P same h.0, subst (λ y. test y ≡ true) same t)
    by_test false t e ih = ih e

-- its mention is the plain header there, or there is none and it is the first mention
abbrev pub IsLeader : List Role → Role → Type 0
IsLeader rs r =
    ((is_header_role r ≡ true) × (list_any is_header_role rs ≡ true)) ⊎ ((list_any is_header_role rs ≡ false) × (first_of_list rs ≡ Some r))

pub key-leader : (k : Text) (ms : List (Mention Source)) (j : Mention Source) → AreNamed ms → AllByRecursion IsHeaded ms
    → first_of_key k (kept ms) ≡ Some j
    → IsHeaded j × IsLeader (roles (under (at_key k) ms)) j.role
key-leader k ms j n s h = by_head (head_at p ms) refl (sym (kept-lead k ms n) ∙ h)
  where
    p : Path
    p = at_key k ∷ []

    us : List (Mention Source)
    us = under (at_key k) ms

    heads : list_any is_header_role (roles us) ≡ is_some (head_at p ms)
    heads = sym (some_at-own is_header_role us) ∙ some_at-under is_header_role (at_key k) [] ms ∙ some_at-such is_header_role p ms

    by_head : (o : Option (Mention Source)) → head_at p ms ≡ o → option_or o (first_at p ms) ≡ Some j
        → IsHeaded j × IsLeader (roles us) j.role
    by_head (Some x) e f =
        let found = all-find IsHeaded (is_head_at p) ms j s (e ∙ f) in
        (found.0, inl (and_right (same_path j.path p) (is_header_role j.role) found.1, heads ∙ ap is_some e))
    by_head None e f = (
      (all-find IsHeaded (λ m. same_path m.path p) ms j s f).0,
      inr (heads ∙ ap is_some e, sym (first-role (at_key k) ms) ∙ ap (option_map (λ (m : Mention Source). m.role)) f),
    )

module _ (mode : Mode) where
  -- at a table's key stands no array
  pub table-unnumbered : (paths : List Path) (k : Text) (ms : List (Mention Source)) (j : Mention Source) → AreReady paths ms
      → first_of_key k (kept ms) ≡ Some j
      → IsTableRole (spanned_in mode) j.role → array_headers (under (at_key k) ms) ≡ []
  table-unnumbered paths k ms j h old is_table = by_array (list_any is_array_role (roles us)) refl
    where
      us : List (Mention Source)
      us = under (at_key k) ms

      by_array : (b : Bool) → list_any is_array_role (roles us) ≡ b → array_headers us ≡ []
      by_array false e = no-arrays (own us) e
      by_array true e =
          let first = (h.at (at_key k ∷ [])).arrayed e in
          elim (key-leader k ms j h.named h.sourced old).1 [
            | inl l ↦ true-false (list_any is_header_role (roles us)) l.1 first.1
            | inr l ↦
                let role : j.role ≡ array_role = cc in
                absurd (subst (IsTableRole (spanned_in mode)) role is_table)
          ]

-- at an array's key stands one
pub array-numbered : (k : Text) (ms : List (Mention Source)) (j : Mention Source) → AreNamed ms → AllByRecursion IsHeaded ms
    → first_of_key k (kept ms) ≡ Some j
    → j.role ≡ array_role → (a : Mention Source) × (more : List (Mention Source)) × (array_headers (under (at_key k) ms) ≡ a ∷ more)
array-numbered k ms j n s old is_array =
    elim (key-leader k ms j n s old).1 [
      | inl l ↦ true-false (is_header_role j.role) l.0 (ap is_header_role is_array)
      | inr l ↦ some-array (own (under (at_key k) ms)) (l.1 ∙ ap (λ (r : Role). Some r) is_array)
    ]
