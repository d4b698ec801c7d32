-- The places of comments in gaps and after statements.
use Rattle.std.proofs.Common.{◌≡◌, refl, sym, ap, ◌∙◌, ◌⊎◌, inl, inr, ℕ, zero, suc, ◌+◌, ◌≤◌, ◌<◌, ◌==◌, arith, Bool, true, false, List, [], ◌∷◌, ◌++◌, length, Some, None, append-nil, append_assoc}
use Rattle.std.specs.Prelude.{if◌then◌else◌, is_some}
use Rattle.std.proofs.lemmas.Bool.{eq-eqb, eqb-true}
use Rattle.toml_edit_model.specs.Comments.{first_comment, first_line, words}
use Rattle.toml_edit_model.specs.Paths.{Path, Step, at_element, same_path, to_element}
use Rattle.toml_edit_model.specs.Text.{Text, one}
use Rattle.toml_edit_laws.proofs.common.PathLaws.{same_path-is, same_path-refl}
use Rattle.toml_edit_laws.proofs.common.Tests.{and_left, and_right, false-by}
use Rattle.toml_edit_fmt_laws.specs.Rules.{Comments, as_they_are, apart, aligned, Rules, spaces}
use Rattle.toml_edit_fmt_laws.specs.Laying.{rest_as}
use Rattle.toml_edit_fmt_laws.specs.Aligned as pieces
use Rattle.toml_edit_fmt_laws.specs.Aligned.{Piece, are_beside, gap_pieces, list_of, newlines}
use Rattle.toml_edit_fmt.specs.PageView as bits
use Rattle.toml_edit_fmt.specs.PageView.{Bit, letters}
use Rattle.toml_edit_fmt.specs.LinesView.{rest_bits}
use Rattle.toml_edit_fmt.proofs.FirstLaws.{comment-first, comment-line, newlines-append, spaces-first}
use Rattle.toml_edit_fmt.proofs.PieceLaws.{run_of}
use Rattle.toml_edit_fmt.proofs.SpotLaws.{Spot, text, spot, Pads, Reached, AllSpots, all-spots, is_spot, IsNew, Follows, Part, cut, plain, word}

-- ---- a comment that may be a place, and a text

abbrev with_place : Bool → Spot → Text → List Piece
with_place b s t = if b then pieces.place s.statement s.path ∷ pieces.words t ∷ [] else one (pieces.words t)

module _ (P Q : Reached → Type 0) (s : Spot) (u rest : Text) where
  abbrev pub MayPut : Type 0
  MayPut =
      (at : Reached) → P at
      → IsNew s at.seen × Follows s at.seen at.count
      × ((n : ℕ) → newlines rest ≤ n → Q (record { seen = s ∷ at.seen; count = n }))

  abbrev pub MayGo : Type 0
  MayGo = (at : Reached) → P at → (n : ℕ) → newlines rest ≤ n → Q (record { seen = at.seen; count = at.count + n })

  go-on : MayGo → (t : Text) (at : Reached) → P at → Q (record { seen = at.seen; count = at.count + newlines (t ++ rest) })
  go-on go t at p = go at p (newlines (t ++ rest)) (omega (arith, newlines-append t rest))

  plain-place : (c : Comments) → ((b : Bool) (t : Text) (more : List Piece) → run_of c (with_place b s t ++ more) ≡ run_of c (pieces.words t ∷ more))
      → MayGo → (test : Pads → Bool) (t : Text)
      → Part c P Q (letters t ∷ letters rest ∷ []) (λ f. with_place (test f) s (t ++ rest))
  plain-place c drops go test t =
      cut c P Q _ (letters t ∷ letters rest ∷ []) (λ f. one (pieces.words (t ++ rest))) _ refl (λ f more. drops (test f) (t ++ rest) more)
      (plain c P Q (letters t ∷ letters rest ∷ []) (t ++ rest) tt (ap (λ v. t ++ v) (append-nil rest)) (go-on go t))

  dropped : (b : Bool) (t : Text) (more : List Piece) → run_of as_they_are (with_place b s t ++ more) ≡ run_of as_they_are (pieces.words t ∷ more)
  dropped true t more = refl
  dropped false t more = refl

  dropped-apart : (k : ℕ) (b : Bool) (t : Text) (more : List Piece) → run_of (apart k) (with_place b s t ++ more) ≡ run_of (apart k) (pieces.words t ∷ more)
  dropped-apart k true t more = refl
  dropped-apart k false t more = refl

  put-place : (k : ℕ) → MayPut
      → Part (aligned k) P Q (bits.place s.depth ∷ letters (words u) ∷ letters rest ∷ [])
      (λ f. pieces.place s.statement s.path ∷ pieces.words ((spaces (f s.statement s.path) ++ words u) ++ rest) ∷ [])
  put-place k put =
      record {
        items = spot s ∷ text (words u) ∷ text rest ∷ [];
        bits = refl;
        spots = tt;
        pieces = λ f more.
            ap (λ v. record { text = []; more = record { statement = s.statement; path = s.path; text = v } ∷ (run_of (aligned k) more).more })
            (append_assoc (spaces (f s.statement s.path) ++ words u) rest (run_of (aligned k) more).text
            ∙ append_assoc (spaces (f s.statement s.path)) (words u) (rest ++ (run_of (aligned k) more).text));
        fits = λ at p more next. let may = put at p in (may.0, may.1, next _ (may.2 ((0 + newlines (words u)) + newlines rest) (omega arith)));
      }

  pub comment-part : (c : Comments) → MayPut → MayGo → (test : Pads → Bool)
      → ((k : ℕ) → c ≡ aligned k → (f : Pads) → test f ≡ is_some (first_comment u))
      → Part c P Q (rest_bits c (Some s.depth) u ++ one (letters rest))
      (λ f. with_place (test f) s (rest_as c (f s.statement s.path) u ++ rest))
  comment-part as_they_are put go test same = plain-place as_they_are dropped go test u
  comment-part (apart k) put go test same = by_test (is_some (first_comment u))
    where
      by_test : (b : Bool) → Part (apart k) P Q ((if b then one (letters (spaces k ++ words u)) else one (letters (words u))) ++ one (letters rest))
          (λ f. with_place (test f) s (((if b then spaces k else []) ++ words u) ++ rest))
      by_test true = plain-place (apart k) (dropped-apart k) go test (spaces k ++ words u)
      by_test false = plain-place (apart k) (dropped-apart k) go test (words u)
  comment-part (aligned k) put go test same = by_test (is_some (first_comment u)) (same k refl)
    where
      by_test : (b : Bool) → ((f : Pads) → test f ≡ b)
          → Part (aligned k) P Q ((if b then bits.place s.depth ∷ letters (words u) ∷ [] else one (letters (words u))) ++ one (letters rest))
          (λ f. with_place (test f) s (((if b then spaces (f s.statement s.path) else []) ++ words u) ++ rest))
      by_test true is =
          cut (aligned k) P Q _ (bits.place s.depth ∷ letters (words u) ∷ letters rest ∷ [])
          (λ f. pieces.place s.statement s.path ∷ pieces.words ((spaces (f s.statement s.path) ++ words u) ++ rest) ∷ []) _ refl
          (λ f more. ap (λ b. run_of (aligned k) (with_place b s ((spaces (f s.statement s.path) ++ words u) ++ rest) ++ more)) (is f))
          (put-place k put)
      by_test false is =
          cut (aligned k) P Q _ (letters (words u) ∷ letters rest ∷ []) (λ f. one (pieces.words (words u ++ rest))) _ refl
          (λ f more. ap (λ b. run_of (aligned k) (with_place b s (words u ++ rest) ++ more)) (is f))
          (plain (aligned k) P Q (letters (words u) ∷ letters rest ∷ []) (words u ++ rest) tt (ap (λ v. words u ++ v) (append-nil rest)) (go-on go (words u)))

-- ---- places of a list

-- not of this list, or of a member before this one
abbrev pub IsBefore : ℕ → Path → ℕ → Spot → Type 0
IsBefore n p i s = s.statement ≡ n → (j : ℕ) (more : Path) → i ≤ j → s.path ≡ p ++ (at_element j ∷ more) → ⊥

-- nor beside the one before
abbrev pub IsAway : ℕ → Path → ℕ → Spot → Type 0
IsAway n p zero s = IsBefore n p zero s
IsAway n p (suc i) s = IsBefore n p (suc i) s × (s.statement ≡ n → s.path ≡ to_element p i → ⊥)

-- beside a member of the list, where these are so far in, or further down
abbrev pub IsBeside : Path → ℕ → Spot → Type 0
IsBeside p d s =
    ((j : ℕ) × (s.path ≡ to_element p j) × (s.depth ≡ d))
    ⊎ ((suc (length p) < length s.path) × (d < s.depth))

-- If the last place is on the line above, it is one of these.
abbrev pub Latest : (Spot → Type 0) → List Spot → ℕ → Type 0
Latest R [] n = Unit {0}
Latest R (s ∷ ss) n = 1 ≤ n × (n ≡ 1 → R s)

pub latest-as : (R S : Spot → Type 0) → ((s : Spot) → R s → S s) → (ss : List Spot) (n : ℕ) → Latest R ss n → Latest S ss n
latest-as R S go [] n h = tt
latest-as R S go (s ∷ ss) n h = (h.0, λ e. go s (h.1 e))

pub latest-more : (R : Spot → Type 0) (ss : List Spot) (n m : ℕ) → Latest R ss n → Latest R ss (n + m)
latest-more R [] n m h = tt
latest-more R (s ∷ ss) n m h = (omega (arith, h.0), λ e. h.1 (omega (arith, h.0)))

pub latest-far : (R S : Spot → Type 0) (ss : List Spot) (n m : ℕ) → 1 ≤ m → Latest R ss n → Latest S ss (n + m)
latest-far R S [] n m h g = tt
latest-far R S (s ∷ ss) n m h g = (omega (arith, g.0), λ e. absurd (omega (arith, g.0)))

-- each place of a value that stands so far in
abbrev pub IsDeep : (Spot → Type 0) → ℕ → Path → ℕ → Type 0
IsDeep W n p d =
    (j : ℕ) (more : Path) (e : ℕ) → d < e → W (record { statement = n; path = p ++ (at_element j ∷ more); depth = e })

-- between the members of this list: before the gap before the one of this number, and after it
pub record Between (W R : Spot → Type 0) (n : ℕ) (p : Path) (i : ℕ) (at : Reached) : Type 0 where
  pub kept : AllSpots W at.seen
  pub away : AllSpots (IsAway n p i) at.seen
  pub latest : Latest R at.seen at.count

pub record Ready (W R : Spot → Type 0) (n : ℕ) (p : Path) (i : ℕ) (at : Reached) : Type 0 where
  pub kept : AllSpots W at.seen
  pub before : AllSpots (IsBefore n p i) at.seen
  pub latest : Latest R at.seen at.count

pub away-before : (n : ℕ) (p : Path) (i : ℕ) (s : Spot) → IsAway n p i s → IsBefore n p i s
away-before n p zero s h = h
away-before n p (suc i) s h = h.0

-- paths that go on from one
pub after-same : (p q r : Path) → p ++ q ≡ p ++ r → q ≡ r
after-same [] q r e = e
after-same (s ∷ p) q r e =
    let next : p ++ q ≡ p ++ r = cc in
    after-same p q r next

list-element : (p : Path) (j : ℕ) → list_of (to_element p j) ≡ p
list-element [] j = refl
list-element (s ∷ []) j = refl
list-element (s ∷ t ∷ p) j = ap (λ q. s ∷ q) (list-element (t ∷ p) j)

list-length : (s : Step) (p : Path) → length (list_of (s ∷ p)) ≡ length p
list-length s [] = refl
list-length s (t ∷ p) = ap suc (list-length t p)

beside-element : (p : Path) (i j : ℕ) → are_beside (to_element p j) (to_element p i) ≡ true
beside-element [] i j = refl
beside-element (s ∷ p) i j =
    ap (λ q. same_path q (list_of (to_element (s ∷ p) i))) (list-element (s ∷ p) j)
    ∙ ap (same_path (s ∷ p)) (list-element (s ∷ p) i) ∙ same_path-refl (s ∷ p)

beside-further : (q p : Path) (i : ℕ) → suc (length p) < length q → are_beside q (to_element p i) ≡ false
beside-further [] p i h = absurd (omega arith)
beside-further (s ∷ q) [] i h = false-by _ (λ e. absurd (omega (arith, h, list-length s q, ap length (same_path-is (list_of (s ∷ q)) [] e))))
beside-further (s ∷ q) (t ∷ p) i h =
    false-by _ (λ e. absurd (omega (arith, h, list-length s q, ap length (same_path-is (list_of (s ∷ q)) (list_of (to_element (t ∷ p) i)) e ∙ list-element (t ∷ p) i))))

follows-beside : (p : Path) (d : ℕ) (q : Spot) (n i : ℕ) → IsBeside p d q → (q.depth == d) ≡ are_beside q.path (to_element p i)
follows-beside p d q n i (inl h) =
    eq-eqb q.depth d h.2 ∙ sym (ap (λ x. are_beside x (to_element p i)) h.1 ∙ beside-element p i h.0)
follows-beside p d q n i (inr h) =
    false-by (q.depth == d) (λ e. absurd (omega (arith, h.1, eqb-true q.depth d e))) ∙ sym (beside-further q.path p i h.0)

placed : (k pad : ℕ) (t rest : Text) → is_some (first_comment t) ≡ true
    → is_some (first_comment (rest_as (aligned k) pad (first_line t) ++ rest)) ≡ true
placed k pad t rest h =
    ap (λ b. is_some (first_comment (((if b then spaces pad else []) ++ words (first_line t)) ++ rest))) (comment-line t h)
    ∙ ap (λ u. is_some (first_comment u)) (append_assoc (spaces pad) (words (first_line t)) rest)
    ∙ ap is_some (spaces-first pad (words (first_line t) ++ rest)) ∙ comment-first t rest h

-- a gap after a member
module _ (r : Rules) (n : ℕ) (p : Path) (i d : ℕ) (W : Spot → Type 0) (deep : IsDeep W n p d) (t rest : Text) (breaks : 1 ≤ newlines rest) (bare : first_comment rest ≡ None) where
  abbrev own : Spot
  own = record { statement = n; path = to_element p i; depth = suc d }

  abbrev Old : Reached → Type 0
  Old = Between W (IsBeside p (suc d)) n p (suc i)

  abbrev New : Reached → Type 0
  New = Ready W (IsBeside p (suc d)) n p (suc i)

  is-new : (q : Spot) → IsAway n p (suc i) q → is_spot own q ≡ false
  is-new q h =
      false-by (is_spot own q) (λ e. h.1 (eqb-true q.statement n (and_left (q.statement == n) (same_path q.path own.path) e))
      (same_path-is q.path own.path (and_right (q.statement == n) (same_path q.path own.path) e)))

  follows : (ss : List Spot) (k : ℕ) → Latest (IsBeside p (suc d)) ss k → Follows own ss k
  follows [] k h = tt
  follows (q ∷ ss) k h = (h.0, λ e. follows-beside p (suc d) q k i (h.1 e))

  own-before : IsBefore n p (suc i) own
  own-before e j more le same =
      let steps : one (at_element i) ≡ at_element j ∷ more = after-same p (one (at_element i)) (at_element j ∷ more) same in
      let number : i ≡ j = cc in
      omega arith

  may-put : MayPut Old New own (first_line t) rest
  may-put at h = (
    all-spots (IsAway n p (suc i)) (λ q. is_spot own q ≡ false) is-new at.seen h.away,
    follows at.seen at.count h.latest,
    λ k more. record {
      kept = (deep i [] (suc d) (omega arith), h.kept);
      before = (own-before, all-spots (IsAway n p (suc i)) (IsBefore n p (suc i)) (λ q g. g.0) at.seen h.away);
      latest = (omega arith, λ e. inl (i, refl, refl));
    },
  )

  may-go : MayGo Old New own (first_line t) rest
  may-go at h k more =
      record {
        kept = h.kept;
        before = all-spots (IsAway n p (suc i)) (IsBefore n p (suc i)) (λ q g. g.0) at.seen h.away;
        latest = latest-more (IsBeside p (suc d)) at.seen at.count k h.latest;
      }

  pub gap-part : (c : Comments)
      → Part c Old New ((if is_some (first_comment t) then rest_bits c (Some (suc d)) (first_line t) else []) ++ one (letters rest))
      (λ f. gap_pieces r n true p (suc i) ((if is_some (first_comment t) then rest_as c (f n (to_element p i)) (first_line t) else []) ++ rest))
  gap-part c = by_test (is_some (first_comment t)) refl
    where
      by_test : (b : Bool) → is_some (first_comment t) ≡ b
          → Part c Old New ((if b then rest_bits c (Some (suc d)) (first_line t) else []) ++ one (letters rest))
          (λ f. gap_pieces r n true p (suc i) ((if b then rest_as c (f n (to_element p i)) (first_line t) else []) ++ rest))
      by_test true e =
          comment-part Old New own (first_line t) rest c may-put may-go
          (λ f. is_some (first_comment (rest_as c (f n (to_element p i)) (first_line t) ++ rest)))
          (λ k is f. ap (λ x. is_some (first_comment (rest_as x (f n (to_element p i)) (first_line t) ++ rest))) is
          ∙ placed k (f n (to_element p i)) t rest e ∙ sym (comment-line t e))
      by_test false e =
          cut c Old New (one (letters rest)) _ (λ f. one (pieces.words rest)) _ refl
          (λ f more. ap (λ o. run_of c (with_place (is_some o) own rest ++ more)) bare)
          (word c Old New rest (λ at h. may-go at h (newlines rest) (omega arith)))
