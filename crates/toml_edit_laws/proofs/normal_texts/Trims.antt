-- Which segments of a kept path lose their outer white space: the first and the last of a statement, by path and role.
use Rattle.std.proofs.Common.{◌≡◌, refl, sym, ◌∙◌, ap, ℕ, zero, suc, ◌+◌, ◌<◌, ◌≤◌, arith, Bool, true, false, List, [], ◌∷◌, ◌++◌, length}
use Rattle.std.specs.Prelude.{◌==◌, map, if◌then◌else◌}
use Rattle.std.specs.List.{AllByRecursion}
use Rattle.std.proofs.lemmas.Bool.{eq-eqb, ne_eqb}
use Rattle.std.proofs.lemmas.List.{length-append}
use Rattle.toml_edit_model.specs.Text.{Text, one, is_empty}
use Rattle.toml_edit_model.specs.Syntax.{Segment, begins_unspaced, ends_unspaced}
use Rattle.toml_edit_model.specs.Paths.{at_key, at_element, Path, to_key, passing_role, Mention, mention_of, next_start, line_mentions}
use Rattle.toml_edit_model.specs.Paths.{elements_at, in_last, header_mentions}
use Rattle.toml_edit_laws.proofs.values.ValueFaults.{is_empty-nil}
use Rattle.toml_edit_model.specs.Roles.{Role, dotted_role, ends_path}
use Rattle.toml_edit_model.specs.Settled.{own_path}
use Rattle.toml_edit_model.specs.Kept.{unspaced_end, unspaced_ends}

-- one step below this path
abbrev pub is_next : Path → Path → Bool
is_next b p = length p == suc (length b)

abbrev pub trim : Path → Path → Role → Segment → Segment
trim b p r s = record s { before = if is_next b p then [] else s.before; after = if ends_path r then [] else s.after }

abbrev pub trimmed : {S : Type 0} → Path → (Mention S → Segment) → Mention S → Segment
trimmed b g m = trim b m.path m.role (g m)

abbrev IsTail : {S : Type 0} → Path → List (Mention S) → Type 0
IsTail b [] = Unit {0}
IsTail b (m ∷ []) = (ends_path m.role ≡ true) × (is_next b m.path ≡ false)
IsTail b (m ∷ n ∷ rest) = (ends_path m.role ≡ false) × (is_next b m.path ≡ false) × IsTail b (n ∷ rest)

-- the first is one step below the path, and the last ends the statement
abbrev pub IsWhole : {S : Type 0} → Path → List (Mention S) → Type 0
IsWhole b [] = Unit {0}
IsWhole b (m ∷ []) = (ends_path m.role ≡ true) × (is_next b m.path ≡ true)
IsWhole b (m ∷ n ∷ rest) = (ends_path m.role ≡ false) × (is_next b m.path ≡ true) × IsTail b (n ∷ rest)

tail-trims : {S : Type 0} (b : Path) (g : Mention S → Segment) (ms : List (Mention S)) → IsTail b ms → unspaced_end (map g ms)
    ≡ map (trimmed b g) ms
tail-trims b g [] h = refl
tail-trims b g (m ∷ []) h = rw (h.0, h.1) refl
tail-trims b g (m ∷ n ∷ rest) h =
    ap (λ ss. g m ∷ ss) (tail-trims b g (n ∷ rest) h.2)
    ∙ ap (λ s. s ∷ map (trimmed b g) (n ∷ rest)) (by_tests (is_next b m.path) (ends_path m.role) h.1 h.0)
  where
    by_tests : (a c : Bool) → a ≡ false → c ≡ false → g m
        ≡ record (g m) { before = if a then [] else (g m).before; after = if c then [] else (g m).after }
    by_tests true c p q = absurd cc
    by_tests false true p q = absurd cc
    by_tests false false p q = refl

-- Without outer white space the first and the last segments are trimmed.
pub whole-trims : {S : Type 0} (b : Path) (g : Mention S → Segment) (ms : List (Mention S)) → IsWhole b ms → unspaced_ends (map g ms)
    ≡ map (trimmed b g) ms
whole-trims b g [] h = refl
whole-trims b g (m ∷ []) h = rw (h.0, h.1) refl
whole-trims b g (m ∷ n ∷ rest) h =
    ap (λ ss. record (g m) { before = [] } ∷ ss) (tail-trims b g (n ∷ rest) h.2)
    ∙ ap (λ s. s ∷ map (trimmed b g) (n ∷ rest)) (by_tests (is_next b m.path) (ends_path m.role) h.1 h.0)
  where
    by_tests : (a c : Bool) → a ≡ true → c ≡ false → record (g m) { before = [] }
        ≡ record (g m) { before = if a then [] else (g m).before; after = if c then [] else (g m).after }
    by_tests false c p q = absurd cc
    by_tests true true p q = absurd cc
    by_tests true false p q = refl

-- ---- the mentions of statements

next-key : (b p : Path) (k : Text) → length b < length p → is_next b (to_key p k) ≡ false
next-key b p k h =
    ne_eqb (length (to_key p k)) (suc (length b)) (λ e. let long : length (to_key p k) ≡ length p + 1 = length-append p (one (at_key k)) in
    omega arith)

here-key : (b : Path) (k : Text) → is_next b (to_key b k) ≡ true
here-key b k = eq-eqb (length (to_key b k)) (suc (length b)) (let long : length (to_key b k) ≡ length b + 1 =
    length-append b (one (at_key k)) in omega arith)

longer : (b p : Path) (k : Text) → length b ≤ length p → length b < length (to_key p k)
longer b p k h = (let long : length (to_key p k) ≡ length p + 1 = length-append p (one (at_key k)) in omega arith)

tail-cons : {S : Type 0} (b : Path) (m : Mention S) (ms : List (Mention S)) → is_empty ms ≡ false → ends_path m.role ≡ false
    → is_next b m.path ≡ false → IsTail b ms → IsTail b (m ∷ ms)
tail-cons b m [] e f g h = absurd cc
tail-cons b m (n ∷ ms) e f g h = (f, g, h)

whole-cons : {S : Type 0} (b : Path) (m : Mention S) (ms : List (Mention S)) → is_empty ms ≡ false → ends_path m.role ≡ false
    → is_next b m.path ≡ true → IsTail b ms → IsWhole b (m ∷ ms)
whole-cons b m [] e f g h = absurd cc
whole-cons b m (n ∷ ms) e f g h = (f, g, h)

line-some : {S : Type 0} (source : S) (start : ℕ) (p : Path) (s : Segment) (ss : List Segment)
    → is_empty (line_mentions source start p (s ∷ ss)) ≡ false
line-some source start p s [] = refl
line-some source start p s (r ∷ rest) = refl

line-tail : {S : Type 0} (b : Path) (source : S) (start : ℕ) (p : Path) (ss : List Segment) → length b < length p
    → IsTail b (line_mentions source start p ss)
line-tail b source start p [] h = tt
line-tail b source start p (s ∷ []) h = (refl, next-key b p s.key h)
line-tail b source start p (s ∷ r ∷ rest) h =
    tail-cons b (mention_of source start (to_key p s.key) dotted_role s) (line_mentions source (next_start start s) (to_key p s.key) (r
    ∷ rest))
    (line-some source (next_start start s) (to_key p s.key) r rest) refl (next-key b p s.key h)
    (line-tail b source (next_start start s) (to_key p s.key) (r ∷ rest) (longer b p s.key (omega arith)))

pub line-whole : {S : Type 0} (source : S) (start : ℕ) (b : Path) (ss : List Segment) → IsWhole b (line_mentions source start b ss)
line-whole source start b [] = tt
line-whole source start b (s ∷ []) = (refl, here-key b s.key)
line-whole source start b (s ∷ r ∷ rest) =
    whole-cons b (mention_of source start (to_key b s.key) dotted_role s) (line_mentions source (next_start start s) (to_key b s.key) (r
    ∷ rest))
    (line-some source (next_start start s) (to_key b s.key) r rest) refl (here-key b s.key)
    (line-tail b source (next_start start s) (to_key b s.key) (r ∷ rest) (longer b b s.key (omega arith)))

header-some : {S : Type 0} (source : S) (arrays : List Path) (role : Role) (start : ℕ) (p : Path) (s : Segment) (ss : List Segment)
    → is_empty (header_mentions source arrays role start p (s ∷ ss)) ≡ false
header-some source arrays role start p s [] = refl
header-some source arrays role start p s (r ∷ rest) = refl

passing-last : (n : ℕ) → ends_path (passing_role n) ≡ false
passing-last zero = refl
passing-last (suc n) = refl

in_last-long : (n : ℕ) (p : Path) → length p ≤ length (in_last n p)
in_last-long zero p = omega arith
in_last-long (suc n) p = (let long : length (p ++ (at_element n ∷ [])) ≡ length p + 1 = length-append p (one (at_element n)) in omega arith)

header-tail : {S : Type 0} (b : Path) (source : S) (arrays : List Path) (role : Role) (start : ℕ) (p : Path) (ss : List Segment)
    → ends_path role ≡ true → length b < length p
    → IsTail b (header_mentions source arrays role start p ss)
header-tail b source arrays role start p [] l h = tt
header-tail b source arrays role start p (s ∷ []) l h = (l, next-key b p s.key h)
header-tail b source arrays role start p (s ∷ r ∷ rest) l h =
    let here : Path = to_key p s.key in
    let count : ℕ = elements_at arrays here in
    let deep : length b < length here = longer b p s.key (omega arith) in
    let more : length here ≤ length (in_last count here) = in_last-long count here in
    tail-cons b (mention_of source start here (passing_role count) s)
    (header_mentions source arrays role (next_start start s) (in_last count here) (r ∷ rest))
    (header-some source arrays role (next_start start s) (in_last count here) r rest) (passing-last count) (next-key b p s.key h)
    (header-tail b source arrays role (next_start start s) (in_last count here) (r ∷ rest) l (omega arith))

pub header-whole : {S : Type 0} (source : S) (arrays : List Path) (role : Role) (start : ℕ) (b : Path) (ss : List Segment)
    → ends_path role ≡ true
    → IsWhole b (header_mentions source arrays role start b ss)
header-whole source arrays role start b [] l = tt
header-whole source arrays role start b (s ∷ []) l = (l, here-key b s.key)
header-whole source arrays role start b (s ∷ r ∷ rest) l =
    let here : Path = to_key b s.key in
    let count : ℕ = elements_at arrays here in
    let deep : length b < length here = longer b b s.key (omega arith) in
    let more : length here ≤ length (in_last count here) = in_last-long count here in
    whole-cons b (mention_of source start here (passing_role count) s)
    (header_mentions source arrays role (next_start start s) (in_last count here) (r ∷ rest))
    (header-some source arrays role (next_start start s) (in_last count here) r rest) (passing-last count) (here-key b s.key)
    (header-tail b source arrays role (next_start start s) (in_last count here) (r ∷ rest) l (omega arith))

-- ---- paths with bare ends

end-own : (ss : List Segment) → ends_unspaced ss ≡ true → unspaced_end ss ≡ ss
end-own [] h = refl
end-own (s ∷ []) h = ap (λ t. record s { after = t } ∷ []) (sym (is_empty-nil s.after h))
end-own (s ∷ r ∷ rest) h = ap (λ ss. s ∷ ss) (end-own (r ∷ rest) h)

first-bare : (s : Segment) (rest : List Segment) → ends_unspaced (s ∷ rest) ≡ true → ends_unspaced (record s { before = [] } ∷ rest) ≡ true
first-bare s [] h = h
first-bare s (r ∷ rest) h = h

ends-own : (ss : List Segment) → begins_unspaced ss ≡ true → ends_unspaced ss ≡ true → unspaced_ends ss ≡ ss
ends-own [] b h = refl
ends-own (s ∷ rest) b h =
    end-own (record s { before = [] } ∷ rest) (first-bare s rest h)
    ∙ ap (λ t. record s { before = t } ∷ rest) (sym (is_empty-nil s.before b))

maps-same : {A B : Type 0} (f g : A → B) (xs : List A) → map f xs ≡ map g xs → AllByRecursion (λ x. f x ≡ g x) xs
maps-same f g [] h = tt
maps-same f g (x ∷ xs) h = (let a : f x ≡ g x = cc in let b : map f xs ≡ map g xs = cc in (a, maps-same f g xs b))

-- The segments of a path in the grammar are trimmed already.
pub own-trimmed : {S : Type 0} (b : Path) (ms : List (Mention S)) → IsWhole b ms → begins_unspaced (own_path ms) ≡ true
    → ends_unspaced (own_path ms) ≡ true
    → AllByRecursion (λ m. trimmed b (λ k. k.segment) m ≡ m.segment) ms
own-trimmed b ms h f g =
    maps-same (trimmed b (λ k. k.segment)) (λ k. k.segment) ms (sym (whole-trims b (λ k. k.segment) ms h) ∙ ends-own (own_path ms) f g)
