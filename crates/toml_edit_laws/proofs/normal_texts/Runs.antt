-- Statements in a run, each in the context that those before it leave; a line goes over lines, and spelling makes no difference.
use Rattle.std.proofs.Common.{◌≡◌, refl, sym, ◌∙◌, ap, subst, ℕ, ◌+◌, Bool, true, false, List, [], ◌∷◌, ◌++◌, inl, inr}
use Rattle.std.specs.Prelude.{◌||◌, not, map, if◌then◌else◌}
use Rattle.std.proofs.lemmas.Bool.{cases_Bool}
use Rattle.toml_edit_model.specs.Mode.{Mode, plain, exact}
use Rattle.toml_edit_model.specs.Text.{Text}
use Rattle.toml_edit_model.specs.Syntax.{Segment, Statement, key_line, header, Document, open_statements}
use Rattle.toml_edit_model.specs.Paths.{at_key, Path, to_element, Mention, Source, Placed, Context, elements_at, header_path}
use Rattle.toml_edit_model.specs.Paths.{header_role_of, keys_of, path_start, source_of, mentions_of, context_after, placed_from}
use Rattle.toml_edit_model.specs.Normal.{is_line, line_before, ordered, normal_end, has_open_end, normal_last, normal_statement}
use Rattle.toml_edit_laws.proofs.normal_texts.SettledStays.{own-line, own-header}
use Rattle.toml_edit_laws.proofs.normal_texts.Cores.{header_cores, header_place, line-cores, header-cores, header-place, AreKeyed}
use Rattle.toml_edit_laws.proofs.normal_texts.Cores.{statement-keyed, kept-path-keys}
use Rattle.toml_edit_laws.proofs.common.Cores.{cores, keys_of_segments, line_cores}
use Rattle.toml_edit_laws.proofs.mentions.Placed.{placed_at, source-statement}
use Rattle.toml_edit_model.specs.Order.{insert_by}
use Rattle.toml_edit_model.specs.Kept.{stands_before, rank, kept_path}
use Rattle.toml_edit_model.specs.Settled.{own_path, is_settled_end}

-- ---- runs

-- each statement is in its place, after so many headers, with these arrays, in this block
abbrev pub Run : ℕ → List Path → Path → List Placed → Type 0
Run n arrays block [] = Unit {0}
Run n arrays block (x ∷ xs) =
    (c : Context) × (s : Statement) × (x ≡ placed_at c s) × (c.headers ≡ n) × (c.arrays ≡ arrays) × (c.block ≡ block)
    × Run (context_after c s).headers (context_after c s).arrays (context_after c s).block xs

pub placed-run : (c : Context) (ss : List Statement) → Run c.headers c.arrays c.block (placed_from c ss)
placed-run c [] = tt
placed-run c (s ∷ ss) = (c, s, refl, refl, refl, refl, placed-run (context_after c s) ss)

line-same : (c : Context) (s : Statement) → is_line s ≡ true
    → ((context_after c s).headers ≡ c.headers) × ((context_after c s).arrays ≡ c.arrays) × ((context_after c s).block ≡ c.block)
line-same c (key_line f v end) h = (refl, refl, refl)
line-same c (header g end) h = absurd cc

run-at : {n m : ℕ} {a b : List Path} {p q : Path} (xs : List Placed) → n ≡ m → a ≡ b → p ≡ q → Run n a p xs → Run m b q xs
run-at {n} {m} {a} {b} {p} {q} xs e f g h =
    subst (λ r. Run m b r xs) g (subst (λ r. Run m r p xs) f (subst (λ r. Run r a p xs) e h))

-- a line and what goes on after it
pub is-placed-line : (x : Placed) (c : Context) (s : Statement) → x ≡ placed_at c s → is_line x.source.statement ≡ true → is_line s ≡ true
is-placed-line x c s e h = sym (ap is_line (ap (λ y. y.source.statement) e ∙ source-statement c s)) ∙ h

-- after a line the run goes on as before it
line-rest : (n : ℕ) (arrays : List Path) (block : Path) (x : Placed) (xs : List Placed) → is_line x.source.statement ≡ true
    → Run n arrays block (x ∷ xs) → Run n arrays block xs
line-rest n arrays block x xs h (c, s, e, f, g, k, rest) =
    let same = line-same c s (is-placed-line x c s e h) in
    run-at xs (same.0 ∙ f) (same.1 ∙ g) (same.2 ∙ k) rest

line-front : (n : ℕ) (arrays : List Path) (block : Path) (x : Placed) (xs ys : List Placed) → is_line x.source.statement ≡ true
    → Run n arrays block (x ∷ xs) → Run n arrays block ys
    → Run n arrays block (x ∷ ys)
line-front n arrays block x xs ys h (c, s, e, f, g, k, rest) r =
    let same = line-same c s (is-placed-line x c s e h) in
    (c, s, e, f, g, k, run-at ys (sym (same.0 ∙ f)) (sym (same.1 ∙ g)) (sym (same.2 ∙ k)) r)

-- a line isn't before a line only
pub not-before : (mss : List (List (Mention Source))) (x y : Placed) → line_before mss x y ≡ false → is_line y.source.statement ≡ true
not-before mss x y h = by_kind (is_line y.source.statement) (stands_before (rank mss) x.mentions y.mentions) h
  where
    by_kind : (b r : Bool) → (not b || r) ≡ false → b ≡ true
    by_kind true r h = refl
    by_kind false r h = absurd cc

insert-run : (mss : List (List (Mention Source))) (n : ℕ) (arrays : List Path) (block : Path) (x : Placed) (ys xs : List Placed)
    → is_line x.source.statement ≡ true
    → Run n arrays block (x ∷ xs) → Run n arrays block ys → Run n arrays block (insert_by (line_before mss) x ys)
insert-run mss n arrays block x [] xs h r u = line-front n arrays block x xs [] h r tt
insert-run mss n arrays block x (y ∷ ys) xs h r u =
    elim (cases_Bool (line_before mss x y)) [
      | inl e ↦ rw e (line-front n arrays block x xs (y ∷ ys) h r u)
      | inr e ↦
          let is : is_line y.source.statement ≡ true = not-before mss x y e in
          rw e
          (line-front n arrays block y ys (insert_by (line_before mss) x ys) is u
          (insert-run mss n arrays block x ys xs h r (line-rest n arrays block y ys is u)))
    ]

pub ordered-run : (mss : List (List (Mention Source))) (n : ℕ) (arrays : List Path) (block : Path) (xs : List Placed)
    → Run n arrays block xs → Run n arrays block (ordered mss xs)
ordered-run mss n arrays block [] r = tt
ordered-run mss n arrays block (x ∷ xs) r =
    elim (cases_Bool (is_line x.source.statement)) [
      | inl e ↦
          rw e (insert-run mss n arrays block x (ordered mss xs) xs e r
          (ordered-run mss n arrays block xs (line-rest n arrays block x xs e r)))
      | inr e ↦ rw e (
        r.0,
        r.1,
        r.2,
        r.3,
        r.4,
        r.5,
        ordered-run mss (context_after r.0 r.1).headers (context_after r.0 r.1).arrays
            (context_after r.0 r.1).block xs r.6,
      )
    ]

-- two contexts are alike but for places
abbrev pub AreAlike : Context → Context → Type 0
AreAlike c d = (d.arrays ≡ c.arrays) × (d.block ≡ c.block)

keys-of : (ss : List Segment) → keys_of ss ≡ map at_key (keys_of_segments ss)
keys-of [] = refl
keys-of (s ∷ ss) = ap (λ p. at_key s.key ∷ p) (keys-of ss)

-- ---- ends

-- the statement with another end
abbrev pub with_end : Text → Statement → Statement
with_end end (key_line f v e) = key_line f v end
with_end end (header h e) = header h end

pub line-ended : (end : Text) (s : Statement) → is_line (with_end end s) ≡ is_line s
line-ended end (key_line f v e) = refl
line-ended end (header h e) = refl

settled-end : (mode : Mode) (end : Text) → is_settled_end mode (normal_end mode end) ≡ true
settled-end plain end = refl
settled-end exact end = refl

module _ (mode : Mode) where
  -- ---- spelled as their kept keys

  -- the statement in its place is the normal form of another, but for how it ends
  pub record IsNormal (ms : List (Mention Source)) (x y : Placed) : Type 0 where
    pub end : Text
    pub settled : is_settled_end mode end ≡ true
    pub statement : y.source.statement ≡ with_end end (normal_statement mode ms x x.source.statement)
    pub path : y.source.path ≡ x.source.path
    pub cores : cores y.mentions ≡ cores x.mentions
    pub segments : own_path y.mentions ≡ kept_path ms x.mentions

  abbrev pub AreNormal : List (Mention Source) → List Placed → List Placed → Type 0
  AreNormal ms [] [] = Unit {0}
  AreNormal ms [] (y ∷ ys) = ⊥
  AreNormal ms (x ∷ xs) [] = ⊥
  AreNormal ms (x ∷ xs) (y ∷ ys) = IsNormal ms x y × AreNormal ms xs ys

  pub ended-place : (ms : List (Mention Source)) (c d : Context) (s : Statement) (e : Text) → is_settled_end mode e ≡ true → AreAlike c d
      → AreKeyed ms
      → IsNormal ms (placed_at c s) (placed_at d (with_end e (normal_statement mode ms (placed_at c s) s)))
      × AreAlike (context_after c s) (context_after d (with_end e (normal_statement mode ms (placed_at c s) s)))
  ended-place ms c d (key_line f v end) x settled h g =
      let own : List (Mention Source) = mentions_of c (key_line f v end) in
      let to : Statement = with_end x (normal_statement mode ms (placed_at c (key_line f v end)) (key_line f v end)) in
      let same : keys_of_segments (kept_path ms own) ≡ keys_of_segments f.path =
      kept-path-keys ms own g (statement-keyed c (key_line f v end))
      ∙ ap keys_of_segments (own-line (source_of c (key_line f v end)) (c.start + path_start (key_line f v end)) c.block f.path) in (
        record {
          end = x;
          settled = settled;
          statement = refl;
          path =
              ap (λ p. p ++ keys_of (kept_path ms own)) h.1
              ∙ ap (λ q. c.block ++ q) (keys-of (kept_path ms own) ∙ ap (map at_key) same ∙ sym (keys-of f.path));
          cores =
              line-cores (source_of d to) (d.start + path_start to) d.block (kept_path ms own)
              ∙ ap (λ p. line_cores p (keys_of_segments (kept_path ms own))) h.1 ∙ ap (line_cores c.block) same
              ∙ sym (line-cores (source_of c (key_line f v end)) (c.start + path_start (key_line f v end)) c.block f.path);
          segments = own-line (source_of d to) (d.start + path_start to) d.block (kept_path ms own);
        },
        (h.0, h.1),
      )
  ended-place ms c d (header e end) x settled h g =
      let own : List (Mention Source) = mentions_of c (header e end) in
      let to : Statement = with_end x (normal_statement mode ms (placed_at c (header e end)) (header e end)) in
      let same : keys_of_segments (kept_path ms own) ≡ keys_of_segments e.path =
      kept-path-keys ms own g (statement-keyed c (header e end))
      ∙ ap keys_of_segments (own-header (source_of c (header e end)) c.arrays (header_role_of e) (c.start
      + path_start (header e end)) [] e.path) in
      let path_is : header_path d.arrays [] (kept_path ms own) ≡ header_path c.arrays [] e.path =
      header-place d.arrays [] (kept_path ms own)
      ∙ ap (λ a. header_place a [] (keys_of_segments (kept_path ms own))) h.0 ∙ ap (header_place c.arrays []) same
      ∙ sym (header-place c.arrays [] e.path) in (
        record {
          end = x;
          settled = settled;
          statement = refl;
          path = path_is;
          cores =
              header-cores (source_of d to) d.arrays (header_role_of e) (d.start + path_start to) [] (kept_path ms own)
              ∙ ap (λ a. header_cores a (header_role_of e) [] (keys_of_segments (kept_path ms own))) h.0
              ∙ ap (header_cores c.arrays (header_role_of e) []) same
              ∙ sym (header-cores (source_of c (header e end)) c.arrays (header_role_of e) (c.start + path_start (header e end)) [] e.path);
          segments = own-header (source_of d to) d.arrays (header_role_of e) (d.start + path_start to) [] (kept_path ms own);
        },
        (
          ap (λ p. if e.is_array then p ∷ d.arrays else d.arrays) path_is
              ∙ ap (λ a. if e.is_array then header_path c.arrays [] e.path ∷ a else a) h.0,
          ap (λ p. if e.is_array then to_element p (elements_at d.arrays p) else p) path_is
              ∙ ap (λ a. if e.is_array then to_element (header_path c.arrays [] e.path) (elements_at a (header_path c.arrays [] e.path))
              else header_path c.arrays [] e.path) h.0,
        ),
      )

  pub normal-place : (ms : List (Mention Source)) (c d : Context) (s : Statement) → AreAlike c d → AreKeyed ms
      → IsNormal ms (placed_at c s) (placed_at d (normal_statement mode ms (placed_at c s) s))
      × AreAlike (context_after c s) (context_after d (normal_statement mode ms (placed_at c s) s))
  normal-place ms c d (key_line f v end) h g = ended-place ms c d (key_line f v end) (normal_end mode end) (settled-end mode end) h g
  normal-place ms c d (header k end) h g = ended-place ms c d (header k end) (normal_end mode end) (settled-end mode end) h g

  -- ---- runs

  -- the statements are these, but for how they end
  abbrev pub AreEnded : List Statement → List Statement → Type 0
  AreEnded [] [] = Unit {0}
  AreEnded [] (t ∷ ts) = ⊥
  AreEnded (s ∷ ss) [] = ⊥
  AreEnded (s ∷ ss) (t ∷ ts) = ((end : Text) × (is_settled_end mode end ≡ true) × (t ≡ with_end end s)) × AreEnded ss ts

  pub normal-ended : (ms : List (Mention Source)) (xs : List Placed)
      → AreEnded (map (λ s. normal_statement mode ms s s.source.statement) xs) (map (λ s. normal_statement mode ms s s.source.statement) xs)
  normal-ended ms [] = tt
  normal-ended ms (x ∷ xs) = (by_kind x.source.statement, normal-ended ms xs)
    where
      by_kind : (s : Statement) → (end : Text) × (is_settled_end mode end ≡ true)
          × (normal_statement mode ms x s ≡ with_end end (normal_statement mode ms x s))
      by_kind (key_line f v end) = (normal_end mode end, settled-end mode end, refl)
      by_kind (header h end) = (normal_end mode end, settled-end mode end, refl)

  -- The normal forms of a run, however they end, stand in their places as the run does.
  pub ended-run : (ms : List (Mention Source)) (n : ℕ) (arrays : List Path) (block : Path) (d : Context) (xs : List Placed)
      (ts : List Statement) → AreKeyed ms → Run n arrays block xs
      → d.arrays ≡ arrays → d.block ≡ block → AreEnded (map (λ s. normal_statement mode ms s s.source.statement) xs) ts
      → AreNormal ms xs (placed_from d ts)
  ended-run ms n arrays block d [] [] g r e f h = tt
  ended-run ms n arrays block d [] (t ∷ ts) g r e f h = absurd h
  ended-run ms n arrays block d (x ∷ xs) [] g r e f h = absurd h
  ended-run ms n arrays block d (x ∷ xs) (t ∷ ts) g (c, s, is, a, b, k, rest) e f h =
      let end = h.0.0 in
      let first = ended-place ms c d s end h.0.1 (e ∙ sym b, f ∙ sym k) g in
      let new : Statement = with_end end (normal_statement mode ms (placed_at c s) s) in
      let to : t ≡ new =
      h.0.2
      ∙ ap (λ (y : Placed). with_end end (normal_statement mode ms y y.source.statement)) is
      ∙ ap (λ u. with_end end (normal_statement mode ms (placed_at c s) u)) (source-statement c s) in
      let here : IsNormal ms (placed_at c s) (placed_at d new) = first.0 in
      subst (λ u. AreNormal ms (x ∷ xs) (placed_at d u ∷ placed_from (context_after d u) ts)) (sym to) (
        subst (λ y. IsNormal ms y (placed_at d new)) (sym is) here,
        ended-run ms (context_after c s).headers (context_after c s).arrays (context_after c s).block (context_after d new) xs ts g rest
            first.1.0 first.1.1 h.1,
      )

-- ---- the last statement left open

pub open-ended : (ss : List Statement) → AreEnded exact ss ss → AreEnded exact ss (open_statements ss)
open-ended [] h = tt
open-ended (key_line f v end ∷ []) h = (([], refl, refl), tt)
open-ended (header k end ∷ []) h = (([], refl, refl), tt)
open-ended (s ∷ r ∷ rest) h = (h.0, open-ended (r ∷ rest) h.1)

pub last-ended : (mode : Mode) (d : Document) (ss : List Statement) → AreEnded mode ss ss → AreEnded mode ss (normal_last mode d ss)
last-ended plain d ss h = h
last-ended exact d ss h = by_test (has_open_end d.statements)
  where
    by_test : (b : Bool) → AreEnded exact ss (if b then open_statements ss else ss)
    by_test true = open-ended ss h
    by_test false = h
