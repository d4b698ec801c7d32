-- Which lists of statements or pairs agree, each with all later ones, and that lines and pairs may change places.
use Rattle.std.proofs.Common.{◌≡◌, refl, sym, ◌∙◌, ap, ℕ, Bool, true, false, List, [], ◌∷◌, ◌++◌, inl, inr}
use Rattle.std.specs.Prelude.{◌&&◌, ◌||◌, not, map}
use Rattle.std.specs.List.{AllByRecursion, list_all}
use Rattle.std.proofs.lemmas.Bool.{cases_Bool}
use Rattle.std.proofs.lemmas.List.Folds.{list_all-append, list_all-map}
use Rattle.toml_edit_model.specs.Syntax.{Segment}
use Rattle.toml_edit_model.specs.Paths.{Path, same_path, to_key, Mention, Source, Placed, next_start, line_mentions}
use Rattle.toml_edit_model.specs.Accepted.{agree, all_agree, is_sound}
use Rattle.toml_edit_model.specs.Normal.{is_line, line_before, ordered}
use Rattle.toml_edit_laws.specs.OneByOne.{is_right_after, all_right_after}
use Rattle.toml_edit_laws.proofs.common.Tests.{and_left, and_right, and_both}
use Rattle.toml_edit_laws.proofs.common.PathLaws.{same_path-swap}
use Rattle.toml_edit_laws.proofs.normal_texts.Runs.{not-before}
use Rattle.toml_edit_laws.proofs.common.Each.{all-insert}
use Rattle.toml_edit_laws.proofs.common.Cores.{Core, core, cores}
use Rattle.toml_edit_laws.proofs.mentions.RoleTests.{by_line_roles, is_line_role}
use Rattle.toml_edit_laws.proofs.common.Pairs.{AllPairs}
use Rattle.toml_edit_model.specs.Order.{insert_by}
use Rattle.toml_edit_model.specs.Roles.{Role, may_meet, may_meet_inline}

-- ---- agreement by cores

abbrev agree_core : (Role → Role → Bool) → List Core → List Core → Bool
agree_core may cs ds = list_all (λ c. list_all (λ d. not (same_path c.0 d.0) || may c.1 d.1) ds) cs

agree-cores : {S : Type 0} (may : Role → Role → Bool) (ms ns : List (Mention S)) → agree may ms ns ≡ agree_core may (cores ms) (cores ns)
agree-cores may [] ns = refl
agree-cores may (m ∷ ms) ns =
    ap (λ b. b && agree may ms ns) (sym (list_all-map (λ d. not (same_path m.path d.0) || may m.role d.1) core ns))
    ∙ ap (λ b. list_all (λ d. not (same_path m.path d.0) || may m.role d.1) (cores ns) && b) (agree-cores may ms ns)

pub agree-alike : {S : Type 0} (may : Role → Role → Bool) (ms ns us vs : List (Mention S)) → cores us ≡ cores ms → cores vs ≡ cores ns
    → agree may us vs ≡ agree may ms ns
agree-alike may ms ns us vs e f =
    agree-cores may us vs ∙ ap (λ cs. agree_core may cs (cores vs)) e ∙ ap (agree_core may (cores ms)) f ∙ sym (agree-cores may ms ns)

abbrev all_agree_core : (Role → Role → Bool) → List (List Core) → Bool
all_agree_core may [] = true
all_agree_core may (c ∷ cs) = list_all (agree_core may c) cs && all_agree_core may cs

all_agree-cores : {S : Type 0} (may : Role → Role → Bool) (mss : List (List (Mention S))) → all_agree may mss
    ≡ all_agree_core may (map cores mss)
all_agree-cores may [] = refl
all_agree-cores {S = S} may (m ∷ mss) = ap (λ b. b && all_agree may mss) (each mss)
    ∙ ap (λ b. list_all (agree_core may (cores m)) (map cores mss) && b) (all_agree-cores may mss)
  where
    each : (nss : List (List (Mention S))) → list_all (agree may m) nss ≡ list_all (agree_core may (cores m)) (map cores nss)
    each [] = refl
    each (n ∷ nss) = ap (λ b. b && list_all (agree may m) nss) (agree-cores may m n)
        ∙ ap (λ b. agree_core may (cores m) (cores n) && b) (each nss)

pub all_agree-alike : {S : Type 0} (may : Role → Role → Bool) (mss nss : List (List (Mention S))) → map cores mss ≡ map cores nss
    → all_agree may mss ≡ all_agree may nss
all_agree-alike may mss nss e = all_agree-cores may mss ∙ ap (all_agree_core may) e ∙ sym (all_agree-cores may nss)

-- ---- agreement both ways

abbrev pub AreOfLine : {S : Type 0} → List (Mention S) → Type 0
AreOfLine ms = AllByRecursion (λ m. is_line_role m.role ≡ true) ms

pub of-line : {S : Type 0} (source : S) (start : ℕ) (p : Path) (ss : List Segment) → AreOfLine (line_mentions source start p ss)
of-line source start p [] = tt
of-line source start p (s ∷ []) = (refl, tt)
of-line source start p (s ∷ r ∷ rest) = (refl, of-line source (next_start start s) (to_key p s.key) (r ∷ rest))

-- roles of lines may meet either way
abbrev pub MeetsBoth : (Role → Role → Bool) → Type 0
MeetsBoth may = (r q : Role) → is_line_role r ≡ true → is_line_role q ≡ true → may r q ≡ true → may q r ≡ true

pub meets-both : MeetsBoth may_meet
meets-both r q h g e = by_line_roles may_meet (λ s t. may_meet t s) refl r q h g e

pub meets-inline : MeetsBoth may_meet_inline
meets-inline r q h g e = by_line_roles may_meet_inline (λ s t. may_meet_inline t s) refl r q h g e

module _ {S : Type 0} (may : Role → Role → Bool) (both : MeetsBoth may) where
  abbrev meet : Mention S → Mention S → Bool
  meet m n = not (same_path m.path n.path) || may m.role n.role

  swap-one : (m n : Mention S) → is_line_role m.role ≡ true → is_line_role n.role ≡ true → meet m n ≡ true → meet n m ≡ true
  swap-one m n h g e = ap (λ b. not b || may n.role m.role) (same_path-swap n.path m.path) ∙ by_test (same_path m.path n.path) e
    where
      by_test : (b : Bool) → (not b || may m.role n.role) ≡ true → (not b || may n.role m.role) ≡ true
      by_test true e = both m.role n.role h g e
      by_test false e = refl

  -- the later mention before all of the earlier ones
  swap-all : (n : Mention S) (ns ms : List (Mention S)) → is_line_role n.role ≡ true → AreOfLine ms → agree may ms (n ∷ ns) ≡ true
      → (list_all (meet n) ms ≡ true) × (agree may ms ns ≡ true)
  swap-all n ns [] h g e = (refl, refl)
  swap-all n ns (m ∷ ms) h g e =
      let first = and_left (meet m n && list_all (meet m) ns) (agree may ms (n ∷ ns)) e in
      let rest = swap-all n ns ms h g.1 (and_right (meet m n && list_all (meet m) ns) (agree may ms (n ∷ ns)) e) in (
        and_both (meet n m) (list_all (meet n) ms) (swap-one m n g.0 h (and_left (meet m n) (list_all (meet m) ns) first)) rest.0,
        and_both (list_all (meet m) ns) (agree may ms ns) (and_right (meet m n) (list_all (meet m) ns) first) rest.1,
      )

  pub agree-swap : (ms ns : List (Mention S)) → AreOfLine ms → AreOfLine ns → agree may ms ns ≡ true → agree may ns ms ≡ true
  agree-swap ms [] h g e = refl
  agree-swap ms (n ∷ ns) h g e =
      let parts = swap-all n ns ms g.0 h e in
      and_both (list_all (meet n) ms) (agree may ns ms) parts.0 (agree-swap ms ns h g.1 parts.1)

-- ---- each with all later ones

-- what goes over others only where the relation is kept
pub pairs-insert : {A : Type 0} (R : A → A → Type 0) (before : A → A → Bool) (a : A) (xs : List A)
    → AllByRecursion (λ x. before a x ≡ false → R a x → R x a) xs → AllByRecursion (R a) xs → AllPairs R xs
    → AllPairs R (insert_by before a xs)
pairs-insert R before a [] f h g = (tt, tt)
pairs-insert R before a (x ∷ xs) f h g =
    elim (cases_Bool (before a x)) [
      | inl e ↦ rw e (h, g)
      | inr e ↦ rw e (all-insert (R x) before a xs (f.0 e h.0) g.0, pairs-insert R before a xs f.1 h.1 g.1)
    ]

pub all-ordered : (P : Placed → Type 0) (mss : List (List (Mention Source))) (xs : List Placed) → AllByRecursion P xs
    → AllByRecursion P (ordered mss xs)
all-ordered P mss [] h = tt
all-ordered P mss (x ∷ xs) h =
    elim (cases_Bool (is_line x.source.statement)) [
      | inl e ↦ rw e (all-insert P (line_before mss) x (ordered mss xs) h.0 (all-ordered P mss xs h.1))
      | inr e ↦ rw e (h.0, all-ordered P mss xs h.1)
    ]

-- a relation that lines keep when they change places
pub pairs-ordered : (R : Placed → Placed → Type 0) (P : Placed → Type 0)
    → ((x y : Placed) → P x → P y → is_line x.source.statement ≡ true → is_line y.source.statement ≡ true → R x y → R y x)
    → (mss : List (List (Mention Source))) (xs : List Placed) → AllByRecursion P xs → AllPairs R xs → AllPairs R (ordered mss xs)
pairs-ordered R P swap mss [] h g = tt
pairs-ordered R P swap mss (x ∷ xs) h g =
    elim (cases_Bool (is_line x.source.statement)) [
      | inl e ↦
          rw e
          (pairs-insert R (line_before mss) x (ordered mss xs)
          (swaps e (ordered mss xs) (all-ordered P mss xs h.1))
          (all-ordered (R x) mss xs g.0) (pairs-ordered R P swap mss xs h.1 g.1))
      | inr e ↦ rw e (all-ordered (R x) mss xs g.0, pairs-ordered R P swap mss xs h.1 g.1)
    ]
  where
    swaps : is_line x.source.statement ≡ true → (ys : List Placed) → AllByRecursion P ys
        → AllByRecursion (λ y. line_before mss x y ≡ false → R x y → R y x) ys
    swaps e [] k = tt
    swaps e (y ∷ ys) k = (λ f r. swap x y h.0 k.0 e (not-before mss x y f) r, swaps e ys k.1)

-- ---- right statements

abbrev pub AgreesWith : Placed → Placed → Type 0
AgreesWith x y = agree may_meet x.mentions y.mentions ≡ true

abbrev pub IsSound : Placed → Type 0
IsSound x = is_sound x.source.statement ≡ true

abbrev earlier_agree : List Placed → Placed → Bool
earlier_agree earlier s = list_all (λ e. agree may_meet e.mentions s.mentions) earlier

pub from-right : (earlier xs : List Placed) → all_right_after earlier xs ≡ true
    → AllByRecursion IsSound xs × AllByRecursion (λ y. earlier_agree earlier y ≡ true) xs × AllPairs AgreesWith xs
from-right earlier [] h = (tt, tt, tt)
from-right earlier (x ∷ xs) h =
    let first = and_left (is_right_after earlier x) (all_right_after (earlier ++ (x ∷ [])) xs) h in
    let rest = from-right (earlier ++ (x ∷ [])) xs (and_right (is_right_after earlier x) (all_right_after (earlier ++ (x ∷ [])) xs) h) in
    let parts = split xs rest.1 in (
      (and_left (is_sound x.source.statement) (earlier_agree earlier x) first, rest.0),
      (and_right (is_sound x.source.statement) (earlier_agree earlier x) first, parts.0),
      (parts.1, rest.2),
    )
  where
    split : (ys : List Placed) → AllByRecursion (λ y. earlier_agree (earlier ++ (x ∷ [])) y ≡ true) ys
        → AllByRecursion (λ y. earlier_agree earlier y ≡ true) ys × AllByRecursion (AgreesWith x) ys
    split [] g = (tt, tt)
    split (y ∷ ys) g =
        let both : (earlier_agree earlier y && (agree may_meet x.mentions y.mentions && true)) ≡ true =
        sym (list_all-append (λ (e : Placed). agree may_meet e.mentions y.mentions) earlier (x ∷ [])) ∙ g.0 in
        let more = split ys g.1 in (
          (and_left (earlier_agree earlier y) (agree may_meet x.mentions y.mentions && true) both, more.0),
          (
            and_left (agree may_meet x.mentions y.mentions) true (and_right (earlier_agree earlier y) (agree may_meet x.mentions y.mentions
                && true) both),
            more.1,
          ),
        )

pub to-right : (earlier xs : List Placed) → AllByRecursion IsSound xs → AllByRecursion (λ y. earlier_agree earlier y ≡ true) xs
    → AllPairs AgreesWith xs
    → all_right_after earlier xs ≡ true
to-right earlier [] h g k = refl
to-right earlier (x ∷ xs) h g k =
    and_both (is_right_after earlier x) (all_right_after (earlier ++ (x ∷ [])) xs)
    (and_both (is_sound x.source.statement) (earlier_agree earlier x) h.0 g.0)
    (to-right (earlier ++ (x ∷ [])) xs h.1 (join xs g.1 k.0) k.1)
  where
    join : (ys : List Placed) → AllByRecursion (λ y. earlier_agree earlier y ≡ true) ys → AllByRecursion (AgreesWith x) ys
        → AllByRecursion (λ y. earlier_agree (earlier ++ (x ∷ [])) y ≡ true) ys
    join [] a b = tt
    join (y ∷ ys) a b = (
      list_all-append (λ (e : Placed). agree may_meet e.mentions y.mentions) earlier (x ∷ [])
          ∙ and_both (earlier_agree earlier y) (agree may_meet x.mentions y.mentions
          && true) a.0 (and_both (agree may_meet x.mentions y.mentions) true b.0 refl),
      join ys a.1 b.1,
    )

-- ---- pairs

pub all_agree-pairs : {S : Type 0} (may : Role → Role → Bool) (mss : List (List (Mention S))) → all_agree may mss ≡ true
    → AllPairs (λ m n. agree may m n ≡ true) mss
all_agree-pairs may [] h = tt
all_agree-pairs {S = S} may (m ∷ rest) h = (
  each rest (and_left (list_all (agree may m) rest) (all_agree may rest) h),
  all_agree-pairs may rest (and_right (list_all (agree may m) rest) (all_agree may rest) h),
)
  where
    each : (ns : List (List (Mention S))) → list_all (agree may m) ns ≡ true → AllByRecursion (λ n. agree may m n ≡ true) ns
    each [] g = tt
    each (n ∷ ns) g = (
      and_left (agree may m n) (list_all (agree may m) ns) g,
      each ns (and_right (agree may m n) (list_all (agree may m) ns) g),
    )

pub pairs-all_agree : {S : Type 0} (may : Role → Role → Bool) (mss : List (List (Mention S))) → AllPairs (λ m n. agree may m n ≡ true) mss
    → all_agree may mss ≡ true
pairs-all_agree may [] h = refl
pairs-all_agree {S = S} may (m ∷ rest) h =
    and_both (list_all (agree may m) rest) (all_agree may rest) (each rest h.0) (pairs-all_agree may rest h.1)
  where
    each : (ns : List (List (Mention S))) → AllByRecursion (λ n. agree may m n ≡ true) ns → list_all (agree may m) ns ≡ true
    each [] g = refl
    each (n ∷ ns) g = and_both (agree may m n) (list_all (agree may m) ns) g.0 (each ns g.1)
