-- How many elements each array of tables has, as one table sees it, and the mentions of a header one step further down.
use Rattle.std.proofs.Common.{◌≡◌, refl, sym, ◌∙◌, ap, ℕ, zero, suc, Bool, true, false, List, [], ◌∷◌, ◌++◌, length}
use Rattle.std.specs.Prelude.{◌&&◌, ◌||◌, if◌then◌else◌, filter}
use Rattle.toml_edit_model.specs.Text.{is_empty}
use Rattle.toml_edit_model.specs.Paths.{Step, Path, same_step, same_path, Mention, elements_at, in_last}
use Rattle.toml_edit_laws.proofs.adding.HeaderPaths.{paths_under, elements-under}
use Rattle.toml_edit_model.specs.Roles.{Role, is_array_role}
use Rattle.toml_edit_model.specs.TableMentions.{inside, under, own, some_at, array_headers}

-- ---- counts

-- how many mentions give the path such a role
abbrev pub count_at : {S : Type 0} → (Role → Bool) → Path → List (Mention S) → ℕ
count_at test p ms = length (filter (λ m. same_path m.path p && test m.role) ms)

pub count-under : {S : Type 0} (test : Role → Bool) (s : Step) (p : Path) (ms : List (Mention S)) → count_at test p (under s ms)
    ≡ count_at test (s ∷ p) ms
count-under test s p [] = refl
count-under {S} test s p (m ∷ ms) = by_path m.path (count-under test s p ms)
  where
    by_path : (q : Path) → count_at test p (under s ms) ≡ count_at test (s ∷ p) ms
        → count_at test p (inside s m q ++ under s ms)
        ≡ length (if same_path q (s ∷ p) && test m.role then m ∷ filter (λ (x : Mention S). same_path x.path (s ∷ p) && test x.role) ms
        else filter (λ (x : Mention S). same_path x.path (s ∷ p) && test x.role) ms)
    by_path [] ih = ih
    by_path (t ∷ q) ih = by_step (same_step t s)
      where
        here : (b : Bool)
            → length (if b then record m { path = q } ∷ filter (λ (x : Mention S). same_path x.path p && test x.role) (under s ms)
            else filter (λ (x : Mention S). same_path x.path p && test x.role) (under s ms))
            ≡ length (if b then m ∷ filter (λ (x : Mention S). same_path x.path (s ∷ p) && test x.role) ms
            else filter (λ (x : Mention S). same_path x.path (s ∷ p) && test x.role) ms)
        here true = ap suc ih
        here false = ih

        by_step : (b : Bool) → count_at test p ((if b then record m { path = q } ∷ [] else []) ++ under s ms)
            ≡ length (if (b && same_path q p) && test m.role then m ∷ filter (λ (x : Mention S). same_path x.path (s ∷ p) && test x.role) ms
            else filter (λ (x : Mention S). same_path x.path (s ∷ p) && test x.role) ms)
        by_step true = here (same_path q p && test m.role)
        by_step false = ih

pub count-none : {S : Type 0} (test : Role → Bool) (p : Path) (ms : List (Mention S)) → some_at test p ms ≡ false → count_at test p ms ≡ 0
count-none test p [] h = refl
count-none {S} test p (m ∷ ms) h = by_test (same_path m.path p && test m.role) h (count-none test p ms)
  where
    by_test : (b : Bool) → (b || some_at test p ms) ≡ false → (some_at test p ms ≡ false → count_at test p ms ≡ 0)
        → length (if b then m ∷ filter (λ (x : Mention S). same_path x.path p && test x.role) ms
        else filter (λ (x : Mention S). same_path x.path p && test x.role) ms) ≡ 0
    by_test true h ih = absurd cc
    by_test false h ih = ih h

pub count-zero : {S : Type 0} (test : Role → Bool) (p : Path) (ms : List (Mention S)) → count_at test p ms ≡ 0 → some_at test p ms ≡ false
count-zero test p [] h = refl
count-zero {S} test p (m ∷ ms) h = by_test (same_path m.path p && test m.role) h (count-zero test p ms)
  where
    by_test : (b : Bool)
        → length (if b then m ∷ filter (λ (x : Mention S). same_path x.path p && test x.role) ms
        else filter (λ (x : Mention S). same_path x.path p && test x.role) ms) ≡ 0
        → (count_at test p ms ≡ 0 → some_at test p ms ≡ false) → (b || some_at test p ms) ≡ false
    by_test true h ih = absurd cc
    by_test false h ih = ih h

-- the headers in double brackets of an array itself
pub count-own : {S : Type 0} (ms : List (Mention S)) → length (array_headers ms) ≡ count_at is_array_role [] ms
count-own [] = refl
count-own {S} (m ∷ ms) = by_path m.path (count-own ms)
  where
    by_role : (b : Bool) → length (array_headers ms) ≡ count_at is_array_role [] ms
        → length (if b then m ∷ array_headers ms else array_headers ms)
        ≡ length (if b then m ∷ filter (λ (x : Mention S). same_path x.path [] && is_array_role x.role) ms
        else filter (λ (x : Mention S). same_path x.path [] && is_array_role x.role) ms)
    by_role true ih = ap suc ih
    by_role false ih = ih

    by_path : (p : Path) → length (array_headers ms) ≡ count_at is_array_role [] ms
        → length (filter (λ (x : Mention S). is_array_role x.role) (if is_empty p then m ∷ own ms else own ms))
        ≡ length (if same_path p [] && is_array_role m.role then m
        ∷ filter (λ (x : Mention S). same_path x.path [] && is_array_role x.role) ms
        else filter (λ (x : Mention S). same_path x.path [] && is_array_role x.role) ms)
    by_path [] ih = by_role (is_array_role m.role) ih
    by_path (s ∷ p) ih = ih

-- The paths tell how many elements each array has.
abbrev pub AreCounted : {S : Type 0} → List Path → List (Mention S) → Type 0
AreCounted arrays ms = (p : Path) → elements_at arrays p ≡ count_at is_array_role p ms

pub counted-under : {S : Type 0} (s : Step) (arrays : List Path) (ms : List (Mention S)) → AreCounted arrays ms
    → AreCounted (paths_under s arrays) (under s ms)
counted-under s arrays ms h p = elements-under s p arrays ∙ h (s ∷ p) ∙ sym (count-under is_array_role s p ms)

-- the elements of the array at a step
pub counted-at : {S : Type 0} (s : Step) (arrays : List Path) (ms : List (Mention S)) → AreCounted arrays ms
    → elements_at arrays (s ∷ []) ≡ length (array_headers (under s ms))
counted-at s arrays ms h = h (s ∷ []) ∙ sym (count-under is_array_role s [] ms) ∙ sym (count-own (under s ms))

-- ---- the mentions of a header

pub last-deeper : (s : Step) (n : ℕ) (p : Path) → in_last n (s ∷ p) ≡ s ∷ in_last n p
last-deeper s zero p = refl
last-deeper s (suc n) p = refl
