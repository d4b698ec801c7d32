-- The mentions of one statement: they go ever deeper, so that no path is mentioned twice, and below a key only where the key is.
use Rattle.std.proofs.Common.{◌≡◌, refl, sym, ◌∙◌, ap, subst, ℕ, zero, suc, Bool, true, false, List, [], ◌∷◌, ◌++◌, length}
use Rattle.std.specs.Prelude.{◌&&◌, ◌||◌, not, if◌then◌else◌, filter}
use Rattle.std.proofs.Math.Bool.{and-false}
use Rattle.std.proofs.lemmas.Bool.{or_from}
use Rattle.toml_edit_model.specs.Syntax.{Segment}
use Rattle.toml_edit_model.specs.Text.{Text, is_empty}
use Rattle.toml_edit_model.specs.Paths.{Step, at_key, at_element, Path, same_step, same_path, to_key, to_element, Mention, mention_of}
use Rattle.toml_edit_model.specs.Paths.{line_mentions, next_start, elements_at, in_last, passing_role, header_mentions, header_path}
use Rattle.toml_edit_laws.proofs.common.Tests.{and_right, and-true, or-left, or-right, or-false, false-by, true-false}
use Rattle.toml_edit_laws.proofs.common.PathLaws.{same_path-swap, is_front, front-refl, front-more, front-through, same_path-is}
use Rattle.toml_edit_laws.proofs.common.PathLaws.{in_last-front}
use Rattle.toml_edit_laws.proofs.clashes.ClashMentions.{HaveMeetingRoles}
use Rattle.toml_edit_laws.proofs.clashes.ClashCounts.{count_at, count-none}
use Rattle.toml_edit_laws.proofs.mentions.SomeAt.{some_at-less}
use Rattle.toml_edit_laws.proofs.mentions.RoleTests.{opening_role, is_through_role, implies}
use Rattle.toml_edit_model.specs.Roles.{Role, dotted_role, value_role, may_meet, any_role, is_array_role}
use Rattle.toml_edit_model.specs.TableMentions.{some_at}

-- ---- paths that go on

-- a path is in front of one that is a step longer where it is that one, or in front of the rest
front-last : (a p : Path) (s : Step) → is_front a (p ++ (s ∷ [])) ≡ (is_front a p || same_path a (p ++ (s ∷ [])))
front-last [] p s = refl
front-last (t ∷ []) [] s = refl
front-last (t ∷ u ∷ a) [] s = refl
front-last (t ∷ a) (u ∷ p) s =
    ap (λ b. same_step t u && b) (front-last a p s) ∙ by_test (same_step t u) (is_front a p) (same_path a (p ++ (s ∷ [])))
  where
    by_test : (a b c : Bool) → (a && (b || c)) ≡ ((a && b) || (a && c))
    by_test true b c = refl
    by_test false b c = refl

-- a key isn't an element
key-element : (q : Path) (k : Text) (p : Path) (n : ℕ) → same_path (to_key q k) (to_element p n) ≡ false
key-element [] k [] n = refl
key-element [] k (t ∷ []) n = and-false (same_step (at_key k) t)
key-element [] k (t ∷ u ∷ p) n = and-false (same_step (at_key k) t)
key-element (s ∷ []) k [] n = and-false (same_step s (at_element n))
key-element (s ∷ t ∷ q) k [] n = and-false (same_step s (at_element n))
key-element (s ∷ q) k (t ∷ p) n = ap (λ b. same_step s t && b) (key-element q k p n) ∙ and-false (same_step s t)

pub front-in_last : (q : Path) (k : Text) (n : ℕ) (p : Path) → is_front (to_key q k) (in_last n p) ≡ is_front (to_key q k) p
front-in_last q k zero p = refl
front-in_last q k (suc n) p =
    front-last (to_key q k) p (at_element n) ∙ ap (λ b. is_front (to_key q k) p || b) (key-element q k p n)
    ∙ or-false (is_front (to_key q k) p)

-- a longer path is another
front-longer : (r p : Path) (s : Step) → is_front r p ≡ true → same_path (p ++ (s ∷ [])) r ≡ false
front-longer [] [] s h = refl
front-longer [] (u ∷ p) s h = refl
front-longer (t ∷ r) [] s h = absurd cc
front-longer (t ∷ r) (u ∷ p) s h =
    ap (λ b. same_step u t && b) (front-longer r p s (and_right (same_step t u) (is_front r p) h)) ∙ and-false (same_step u t)

-- ---- below a key only where the key is

-- what is below a key is mentioned only where the key is, but for the keys of the path above
abbrev pub IsClosedOver : {S : Type 0} → Path → List (Mention S) → Type 0
IsClosedOver above ms =
    (q : Path) (k : Text) (r : Path) → is_front (to_key q k) r ≡ true → is_front (to_key q k) above ≡ false
    → some_at any_role (to_key q k) ms ≡ false
    → some_at any_role r ms ≡ false

closed-step : {S : Type 0} (source : S) (start : ℕ) (p : Path) (g : Segment) (role : Role) (next : Path) (rest : List (Mention S))
    → ((q : Path) (k : Text) → is_front (to_key q k) next ≡ is_front (to_key q k) (to_key p g.key)) → IsClosedOver next rest
    → IsClosedOver p (mention_of source start (to_key p g.key) role g ∷ rest)
closed-step source start p g role next rest same closed q k r on off none =
    let a = to_key q k in
    let here = to_key p g.key in
    let apart : same_path here a ≡ false = sym (and-true (same_path here a))
    ∙ or-left (same_path here a && true) (some_at any_role a rest) none in
    let away : is_front a here ≡ false =
    front-last a p (at_key g.key) ∙ ap (λ b. b || same_path a here) off ∙ same_path-swap a here ∙ apart in
    or_from (same_path here r && true) (some_at any_role r rest)
    (and-true (same_path here r) ∙ false-by (same_path here r)
    (λ e. true-false (is_front a here) (subst (λ x. is_front a x ≡ true) (sym (same_path-is here r e)) on) away))
    (closed q k r on (same q k ∙ away) (or-right (same_path here a && true) (some_at any_role a rest) none))

pub closed-line : {S : Type 0} (source : S) (start : ℕ) (p : Path) (segments : List Segment)
    → IsClosedOver p (line_mentions source start p segments)
closed-line source start p [] = λ q k r on off none. refl
closed-line source start p (g ∷ []) = closed-step source start p g value_role (to_key p g.key) [] (λ q k. refl) (λ q k r on off none. refl)
closed-line source start p (g ∷ h ∷ rest) =
    closed-step source start p g dotted_role (to_key p g.key) (line_mentions source (next_start start g) (to_key p g.key) (h ∷ rest))
    (λ q k. refl)
    (closed-line source (next_start start g) (to_key p g.key) (h ∷ rest))

pub closed-header : {S : Type 0} (source : S) (arrays : List Path) (role : Role) (start : ℕ) (p : Path) (segments : List Segment)
    → IsClosedOver p (header_mentions source arrays role start p segments)
closed-header source arrays role start p [] = λ q k r on off none. refl
closed-header source arrays role start p (g ∷ []) =
    closed-step source start p g role (to_key p g.key) [] (λ q k. refl) (λ q k r on off none. refl)
closed-header source arrays role start p (g ∷ h ∷ rest) =
    let here = to_key p g.key in
    let count = elements_at arrays here in
    closed-step source start p g (passing_role count) (in_last count here)
    (header_mentions source arrays role (next_start start g) (in_last count here) (h ∷ rest))
    (λ q k. front-in_last q k count here) (closed-header source arrays role (next_start start g) (in_last count here) (h ∷ rest))

-- the keys on a header's path are mentioned
pub header-mentioned : {S : Type 0} (source : S) (arrays : List Path) (role : Role) (start : ℕ) (p : Path) (segments : List Segment)
    (q : Path) (k : Text)
    → is_front (to_key q k) (header_path arrays p segments) ≡ true → is_front (to_key q k) p ≡ false
    → some_at any_role (to_key q k) (header_mentions source arrays role start p segments) ≡ true
header-mentioned source arrays role start p [] q k on off = true-false (is_front (to_key q k) p) on off
header-mentioned source arrays role start p (g ∷ []) q k on off =
    let a = to_key q k in
    let here = to_key p g.key in
    ap (λ b. (b && true) || false) (same_path-swap here a ∙ sym (front-last a p (at_key g.key) ∙ ap (λ b. b || same_path a here) off) ∙ on)
header-mentioned source arrays role start p (g ∷ h ∷ rest) q k on off =
    by_here (same_path here a) refl (λ away. header-mentioned source arrays role (next_start start g) (in_last count here) (h
    ∷ rest) q k on away)
  where
    a : Path
    a = to_key q k

    here : Path
    here = to_key p g.key

    count : ℕ
    count = elements_at arrays here

    later : Bool
    later = some_at any_role a (header_mentions source arrays role (next_start start g) (in_last count here) (h ∷ rest))

    by_here : (b : Bool) → same_path here a ≡ b → (is_front a (in_last count here) ≡ false → later ≡ true) → ((b && true) || later) ≡ true
    by_here true e ih = refl
    by_here false e ih =
        ih (front-in_last q k count here ∙ front-last a p (at_key g.key) ∙ ap (λ b. b || same_path a here) off ∙ same_path-swap a here ∙ e)

-- ---- no path twice

none-line : {S : Type 0} (source : S) (start : ℕ) (p : Path) (segments : List Segment) (r : Path) → is_front r p ≡ true
    → some_at any_role r (line_mentions source start p segments) ≡ false
none-line source start p [] r h = refl
none-line source start p (g ∷ []) r h = ap (λ b. (b && true) || false) (front-longer r p (at_key g.key) h)
none-line source start p (g ∷ x ∷ rest) r h =
    or_from (same_path (to_key p g.key) r && true) (some_at any_role r (line_mentions source (next_start start g) (to_key p g.key) (x
    ∷ rest)))
    (ap (λ b. b && true) (front-longer r p (at_key g.key) h))
    (none-line source (next_start start g) (to_key p g.key) (x
    ∷ rest) r (front-through r p (to_key p g.key) h (front-more p (at_key g.key ∷ []))))

none-header : {S : Type 0} (source : S) (arrays : List Path) (role : Role) (start : ℕ) (p : Path) (segments : List Segment) (r : Path)
    → is_front r p ≡ true
    → some_at any_role r (header_mentions source arrays role start p segments) ≡ false
none-header source arrays role start p [] r h = refl
none-header source arrays role start p (g ∷ []) r h = ap (λ b. (b && true) || false) (front-longer r p (at_key g.key) h)
none-header source arrays role start p (g ∷ x ∷ rest) r h =
    let here = to_key p g.key in
    let count = elements_at arrays here in
    or_from (same_path here r && true) (some_at any_role r (header_mentions source arrays role (next_start start g) (in_last count here) (x
    ∷ rest)))
    (ap (λ b. b && true) (front-longer r p (at_key g.key) h))
    (none-header source arrays role (next_start start g) (in_last count here) (x ∷ rest) r
    (front-through r here (in_last count here) (front-through r p here h (front-more p (at_key g.key ∷ []))) (in_last-front count here)))

any-implied : (b : Bool) → implies b true ≡ true
any-implied true = refl
any-implied false = refl

pub meeting-line : {S : Type 0} (source : S) (start : ℕ) (p : Path) (segments : List Segment)
    → HaveMeetingRoles (line_mentions source start p segments)
meeting-line source start p [] = tt
meeting-line source start p (g ∷ []) = (refl, tt)
meeting-line source start p (g ∷ x ∷ rest) =
    let here = to_key p g.key in (
      some_at-less (λ r. not (may_meet dotted_role r)) any_role here (line_mentions source (next_start start g) here (x ∷ rest))
          (λ r. any-implied (not (may_meet dotted_role r)))
          (none-line source (next_start start g) here (x ∷ rest) here (front-refl here)),
      meeting-line source (next_start start g) here (x ∷ rest),
    )

pub meeting-header : {S : Type 0} (source : S) (arrays : List Path) (role : Role) (start : ℕ) (p : Path) (segments : List Segment)
    → HaveMeetingRoles (header_mentions source arrays role start p segments)
meeting-header source arrays role start p [] = tt
meeting-header source arrays role start p (g ∷ []) = (refl, tt)
meeting-header source arrays role start p (g ∷ x ∷ rest) =
    let here = to_key p g.key in
    let count = elements_at arrays here in
    let later = header_mentions source arrays role (next_start start g) (in_last count here) (x ∷ rest) in (
      some_at-less (λ r. not (may_meet (passing_role count) r)) any_role here later
          (λ r. any-implied (not (may_meet (passing_role count) r)))
          (none-header source arrays role (next_start start g) (in_last count here) (x ∷ rest) here (in_last-front count here)),
      meeting-header source arrays role (next_start start g) (in_last count here) (x ∷ rest),
    )

-- ---- which roles

-- the roles of a key line
pub line-roles : {S : Type 0} (test : Role → Bool) → test dotted_role ≡ false → test value_role ≡ false
    → (source : S) (start : ℕ) (p : Path) (segments : List Segment) (q : Path)
    → some_at test q (line_mentions source start p segments) ≡ false
line-roles test d v source start p [] q = refl
line-roles test d v source start p (g ∷ []) q =
    or_from (same_path (to_key p g.key) q && test value_role) false (ap (λ b. same_path (to_key p g.key) q && b) v
    ∙ and-false (same_path (to_key p g.key) q)) refl
line-roles test d v source start p (g ∷ x ∷ rest) q =
    or_from (same_path (to_key p g.key) q && test dotted_role)
    (some_at test q (line_mentions source (next_start start g) (to_key p g.key) (x ∷ rest)))
    (ap (λ b. same_path (to_key p g.key) q && b) d ∙ and-false (same_path (to_key p g.key) q))
    (line-roles test d v source (next_start start g) (to_key p g.key) (x ∷ rest) q)

-- a header goes through arrays only
pub header-through : {S : Type 0} (source : S) (arrays : List Path) (role : Role) (start : ℕ) (p : Path) (segments : List Segment)
    (q : Path)
    → is_through_role role ≡ false → elements_at arrays q ≡ 0
    → some_at is_through_role q (header_mentions source arrays role start p segments) ≡ false
header-through source arrays role start p [] q plain none = refl
header-through source arrays role start p (g ∷ []) q plain none =
    or_from (same_path (to_key p g.key) q && is_through_role role) false (ap (λ b. same_path (to_key p g.key) q && b) plain
    ∙ and-false (same_path (to_key p g.key) q)) refl
header-through source arrays role start p (g ∷ x ∷ rest) q plain none =
    let here = to_key p g.key in
    let count = elements_at arrays here in
    or_from (same_path here q && is_through_role (passing_role count))
    (some_at is_through_role q (header_mentions source arrays role (next_start start g) (in_last count here) (x ∷ rest)))
    (by_path (same_path here q) refl)
    (header-through source arrays role (next_start start g) (in_last count here) (x ∷ rest) q plain none)
  where
    by_path : (b : Bool) → same_path (to_key p g.key) q ≡ b → (b && is_through_role (passing_role (elements_at arrays (to_key p g.key))))
        ≡ false
    by_path true e = ap (λ n. is_through_role (passing_role n)) (ap (elements_at arrays) (same_path-is (to_key p g.key) q e) ∙ none)
    by_path false e = refl

-- ---- elements

pub passing-array : (n : ℕ) → is_array_role (passing_role n) ≡ false
passing-array zero = refl
passing-array (suc n) = refl

-- a header in double brackets is one element more, of the array at its path
pub header-counts : {S : Type 0} (is_array : Bool) (source : S) (arrays : List Path) (start : ℕ) (p : Path) (segments : List Segment)
    (q : Path) → is_empty segments ≡ false
    → count_at is_array_role q (header_mentions source arrays (opening_role is_array) start p segments)
    ≡ (if is_array then elements_at (header_path arrays p segments ∷ []) q else 0)
header-counts is_array source arrays start p [] q keyed = absurd cc
header-counts true source arrays start p (g ∷ []) q keyed =
    ap (λ b. length (if b then mention_of source start (to_key p g.key) (opening_role true) g ∷ [] else []))
    (and-true (same_path (to_key p g.key) q) ∙ same_path-swap (to_key p g.key) q)
    ∙ by_test (same_path q (to_key p g.key))
  where
    by_test : (b : Bool) → length (if b then mention_of source start (to_key p g.key) (opening_role true) g ∷ [] else [])
        ≡ length (if b then to_key p g.key ∷ [] else [])
    by_test true = refl
    by_test false = refl
header-counts false source arrays start p (g ∷ []) q keyed =
    count-none is_array_role q (mention_of source start (to_key p g.key) (opening_role false) g
    ∷ []) (ap (λ b. b || false) (and-false (same_path (to_key p g.key) q)))
header-counts is_array source arrays start p (g ∷ x ∷ rest) q keyed =
    let here = to_key p g.key in
    let count = elements_at arrays here in
    let later = header_mentions source arrays (opening_role is_array) (next_start start g) (in_last count here) (x ∷ rest) in
    let first = mention_of source start here (passing_role count) g in
    ap (λ b. length (if b then first ∷ filter (λ m. same_path m.path q && is_array_role m.role) later
    else filter (λ m. same_path m.path q && is_array_role m.role) later))
    (ap (λ b. same_path here q && b) (passing-array count) ∙ and-false (same_path here q))
    ∙ header-counts is_array source arrays (next_start start g) (in_last count here) (x ∷ rest) q refl
