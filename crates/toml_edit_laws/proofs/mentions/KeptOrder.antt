-- The slots of a table stand in the order in which their keys are first mentioned, but for those of plain headers.
use Rattle.std.proofs.Common.{◌≡◌, refl, sym, ◌∙◌, ap, subst, ℕ, ◌+◌, Bool, true, false, List, [], ◌∷◌, ◌++◌, append_assoc, inl, inr}
use Rattle.std.specs.Prelude.{◌⊎◌, ◌&&◌, ◌||◌, not, nat_lt, map, flat_map}
use Rattle.std.specs.List.{AllByRecursion}
use Rattle.std.proofs.lemmas.Bool.{cases_Bool, not-true}
use Rattle.toml_edit_model.specs.Text.{Text, same_text, one}
use Rattle.toml_edit_model.specs.Syntax.{Statement, key_line, header, Document}
use Rattle.toml_edit_model.specs.Paths.{Step, at_key, Path, same_step, same_path, to_key, Mention, header_role_of, path_start, Source}
use Rattle.toml_edit_model.specs.Paths.{Placed, Context, source_of, mentions_of, context_after, placed_from, start_context, all_mentions}
use Rattle.toml_edit_laws.proofs.common.Tests.{and_left, and_right, and-true, or-true, same_text-swap, or-left, or-right, true-false}
use Rattle.toml_edit_laws.proofs.common.Tests.{false-by, same_text-is}
use Rattle.toml_edit_laws.proofs.common.OrderLaws.{passes_first}
use Rattle.toml_edit_laws.proofs.common.PathLaws.{same_step-is, same_path-refl, same_path-swap}
use Rattle.toml_edit_laws.proofs.mentions.GatheredLines.{AreInOrder}
use Rattle.toml_edit_laws.proofs.mentions.Leaders.{first-at}
use Rattle.toml_edit_laws.proofs.mentions.RankLaws.{is_at, RanksFollow}
use Rattle.toml_edit_laws.proofs.mentions.SomeAt.{some_at-append, some_at-under}
use Rattle.toml_edit_laws.proofs.common.Each.{all-both, all-append, all-map, all-image}
use Rattle.toml_edit_laws.proofs.mentions.Named.{EndsIn, AreNamed, single-named, line-named, header-named}
use Rattle.toml_edit_model.specs.Roles.{is_header_role, any_role}
use Rattle.toml_edit_model.specs.TableMentions.{inside, under, some_at, is_single, is_slot, kept_from, kept}

-- ---- paths end in the keys of their segments

pub statement-named : (c : Context) (s : Statement) → AreNamed (mentions_of c s)
statement-named c (key_line f v end) =
    line-named (source_of c (key_line f v end)) (c.start + path_start (key_line f v end)) c.block f.path
statement-named c (header h end) =
    header-named (source_of c (header h end)) c.arrays (header_role_of h) (c.start + path_start (header h end)) [] h.path

placed-named : (c : Context) (ss : List Statement) → AreNamed (flat_map (λ s. s.mentions) (placed_from c ss))
placed-named c [] = tt
placed-named c (s ∷ ss) =
    all-append (λ (m : Mention Source). EndsIn m.segment.key m.path) (mentions_of c s)
    (flat_map (λ (r : Placed). r.mentions) (placed_from (context_after c s) ss))
    (statement-named c s) (placed-named (context_after c s) ss)

pub document-named : (d : Document) → AreNamed (all_mentions d)
document-named d = placed-named (start_context d) d.statements

-- ---- one plain header a path

abbrev pub HaveOneHeader : {S : Type 0} → List (Mention S) → Type 0
HaveOneHeader [] = Unit {0}
HaveOneHeader (m ∷ ms) = (is_header_role m.role ≡ true → some_at is_header_role m.path ms ≡ false) × HaveOneHeader ms

pub under-header : {S : Type 0} (s : Step) (ms : List (Mention S)) → HaveOneHeader ms → HaveOneHeader (under s ms)
under-header s [] h = tt
under-header {S = S} s (m ∷ ms) h = by_path m.path h.0 (under-header s ms h.1)
  where
    by_path : (p : Path) → (is_header_role m.role ≡ true → some_at is_header_role p ms ≡ false) → HaveOneHeader (under s ms)
        → HaveOneHeader (inside s m p ++ under s ms)
    by_path [] g ih = ih
    by_path (t ∷ p) g ih =
        elim (cases_Bool (same_step t s)) [
          | inl e ↦
              rw e (
                λ is. some_at-under is_header_role s p ms ∙ ap (λ u. some_at is_header_role (u ∷ p) ms) (sym (same_step-is t s e)) ∙ g is,
                ih,
              )
          | inr e ↦ rw e ih
        ]

-- ---- kept mentions

-- what a slot says of its mention
pub slot-parts : {S : Type 0} (before : List (Mention S)) (m : Mention S) (after : List (Mention S)) → is_slot before m after ≡ true
    → (is_single m.path ≡ true)
    × ((is_header_role m.role ≡ true) ⊎ ((some_at any_role m.path before ≡ false) × (some_at is_header_role m.path after ≡ false)))
slot-parts before m after h =
    let a : Bool = some_at any_role m.path before in
    let b : Bool = some_at is_header_role m.path after in (
      and_left (is_single m.path) (is_header_role m.role || (not a && not b)) h,
      by_role (is_header_role m.role) a b (and_right (is_single m.path) (is_header_role m.role || (not a && not b)) h),
    )
  where
    by_role : (r a b : Bool) → (r || (not a && not b)) ≡ true → (r ≡ true) ⊎ ((a ≡ false) × (b ≡ false))
    by_role true a b g = inl refl
    by_role false a b g = inr (not-true a (and_left (not a) (not b) g), not-true b (and_right (not a) (not b) g))

pub kept-all : {S : Type 0} (P : Mention S → Type 0) (before ms : List (Mention S)) → AllByRecursion P ms
    → AllByRecursion P (kept_from before ms)
kept-all P before [] h = tt
kept-all P before (m ∷ ms) h =
    elim (cases_Bool (is_slot before m ms)) [
      | inl e ↦ rw e (h.0, kept-all P (before ++ one m) ms h.1)
      | inr e ↦ rw e (kept-all P (before ++ one m) ms h.1)
    ]

-- a kept mention is of a header here, or its path wasn't mentioned before
abbrev IsNew : {S : Type 0} → List (Mention S) → List (Mention S) → Mention S → Type 0
IsNew before ms n =
    (is_single n.path ≡ true) × ((some_at is_header_role n.path ms ≡ true) ⊎ (some_at any_role n.path before ≡ false))

slot-new : {S : Type 0} (before ms : List (Mention S)) (m : Mention S) → is_slot before m ms ≡ true → IsNew before (m ∷ ms) m
slot-new before ms m e =
    let parts = slot-parts before m ms e in (
      parts.0,
      elim parts.1 [
        | inl r ↦
            inl
            (ap (λ b. (b && is_header_role m.role) || some_at is_header_role m.path ms) (same_path-refl m.path)
            ∙ ap (λ b. b || some_at is_header_role m.path ms) r)
        | inr r ↦ inr r.0
      ],
    )

new-later : {S : Type 0} (before ms : List (Mention S)) (m n : Mention S) → IsNew (before ++ one m) ms n → IsNew before (m ∷ ms) n
new-later before ms m n h = (
  h.0,
  elim h.1 [
    | inl e ↦
        inl
        (ap (λ b. (same_path m.path n.path && is_header_role m.role) || b) e ∙ or-true (same_path m.path n.path && is_header_role m.role))
    | inr e ↦ inr (or-left (some_at any_role n.path before) (some_at any_role n.path (one m))
        (sym (some_at-append any_role n.path before (one m)) ∙ e))
  ],
)

kept-new : {S : Type 0} (before ms : List (Mention S)) → AllByRecursion (IsNew before ms) (kept_from before ms)
kept-new before [] = tt
kept-new before (m ∷ ms) =
    let later : AllByRecursion (IsNew before (m ∷ ms)) (kept_from (before ++ one m) ms) =
    all-map (IsNew (before ++ one m) ms) (IsNew before (m ∷ ms)) (kept_from (before ++ one m) ms) (λ n h. new-later before ms m n h)
    (kept-new (before ++ one m) ms) in
    elim (cases_Bool (is_slot before m ms)) [
      | inl e ↦ rw e (slot-new before ms m e, later)
      | inr e ↦ rw e later
    ]

-- the same by its key
new-at : {S : Type 0} (before ms : List (Mention S)) (m n : Mention S) → IsNew (before ++ one m) ms n → n.path ≡ one (at_key n.segment.key)
    → (some_at is_header_role (one (at_key n.segment.key)) ms ≡ true)
    ⊎ (some_at any_role (one (at_key n.segment.key)) (before ++ one m) ≡ false)
new-at before ms m n h path_is =
    elim h.1 [
      | inl e ↦ inl (subst (λ q. some_at is_header_role q ms ≡ true) path_is e)
      | inr e ↦ inr (subst (λ q. some_at any_role q (before ++ one m) ≡ false) path_is e)
    ]

-- ---- keys in order

-- the key has no header of its own
abbrev pub IsPlain : {S : Type 0} → List (Mention S) → Text → Type 0
IsPlain ms k = some_at is_header_role (one (at_key k)) ms ≡ false

none-both : {S : Type 0} (q r : Path) (ms : List (Mention S)) → some_at any_role q ms ≡ false → some_at any_role r ms ≡ false
    → AllByRecursion (λ m. (is_at q m ≡ false) × (is_at r m ≡ false)) ms
none-both q r [] h g = tt
none-both {S = S} q r (m ∷ ms) h g = (
  (none q h, none r g),
  none-both q r ms (or-right (same_path m.path q && true) (some_at any_role q ms) h) (or-right (same_path m.path r
      && true) (some_at any_role r ms) g),
)
  where
    none : (p : Path) → some_at any_role p (m ∷ ms) ≡ false → is_at p m ≡ false
    none p e = same_path-swap p m.path ∙ sym (and-true (same_path m.path p))
        ∙ or-left (same_path m.path p && true) (some_at any_role p ms) e

module _ {S : Type 0} (rank_of : Path → ℕ) (p : Path) (all : List (Mention S)) (follow : RanksFollow rank_of p all) where
  -- a slot's key comes before that of a later slot
  later-key : (before ms : List (Mention S)) (m : Mention S) (k l : Text) → all ≡ before ++ (m ∷ ms) → m.path ≡ one (at_key k)
      → ((is_header_role m.role ≡ true) ⊎ (some_at any_role (one (at_key k)) before ≡ false))
      → some_at is_header_role (one (at_key k)) ms ≡ false
      → ((some_at is_header_role (one (at_key l)) ms ≡ true) ⊎ (some_at any_role (one (at_key l)) (before ++ one m) ≡ false))
      → (same_text k l ≡ false) × (IsPlain all k → IsPlain all l → nat_lt (rank_of (to_key p k)) (rank_of (to_key p l)) ≡ true)
  later-key before ms m k l is path_is own none_after new = (apart, order)
    where
      -- the mention itself is of its key
      here : same_path m.path (one (at_key k)) ≡ true
      here = ap (λ q. same_path q (one (at_key k))) path_is ∙ same_path-refl (one (at_key k))

      here_before : some_at any_role (one (at_key k)) (before ++ one m) ≡ true
      here_before =
          some_at-append any_role (one (at_key k)) before (one m)
          ∙ ap (λ b. some_at any_role (one (at_key k)) before || ((b && true) || false)) here
          ∙ or-true (some_at any_role (one (at_key k)) before)

      apart : same_text k l ≡ false
      apart =
          false-by (same_text k l) (λ e.
          let same : l ≡ k = sym (same_text-is k l e) in
          elim new [
            | inl h ↦
                true-false (some_at is_header_role (one (at_key k)) ms)
                (subst (λ t. some_at is_header_role (one (at_key t)) ms ≡ true) same h) none_after
            | inr h ↦
                true-false (some_at any_role (one (at_key k)) (before ++ one m)) here_before
                (subst (λ t. some_at any_role (one (at_key t)) (before ++ one m) ≡ false) same h)
          ])

      -- a key with no header of its own has none from here on
      plain_here : (t : Text) → IsPlain all t → some_at is_header_role (one (at_key t)) (m ∷ ms) ≡ false
      plain_here t h =
          or-right (some_at is_header_role (one (at_key t)) before) (some_at is_header_role (one (at_key t)) (m ∷ ms))
          (sym (ap (some_at is_header_role (one (at_key t))) is ∙ some_at-append is_header_role (one (at_key t)) before (m ∷ ms)) ∙ h)

      none_before : IsPlain all k → some_at any_role (one (at_key k)) before ≡ false
      none_before h =
          elim own [
            | inl e ↦
                true-false (same_path m.path (one (at_key k)) && is_header_role m.role) (rw here e)
                (or-left (same_path m.path (one (at_key k)) && is_header_role m.role) (some_at is_header_role (one (at_key k)) ms)
                (plain_here k h))
            | inr e ↦ e
          ]

      other_before : IsPlain all l → some_at any_role (one (at_key l)) before ≡ false
      other_before h =
          elim new [
            | inl e ↦
                true-false (some_at is_header_role (one (at_key l)) ms) e
                (or-right (same_path m.path (one (at_key l)) && is_header_role m.role) (some_at is_header_role (one (at_key l)) ms)
                (plain_here l h))
            | inr e ↦
                or-left (some_at any_role (one (at_key l)) before) (some_at any_role (one (at_key l)) (one m))
                (sym (some_at-append any_role (one (at_key l)) before (one m)) ∙ e)
          ]

      order : IsPlain all k → IsPlain all l → nat_lt (rank_of (to_key p k)) (rank_of (to_key p l)) ≡ true
      order plain_k plain_l =
          follow [] k l apart
          (ap (passes_first (is_at (one (at_key k))) (is_at (one (at_key l)))) is
          ∙ first-at (is_at (one (at_key k))) (is_at (one (at_key l))) before m ms
          (none-both (one (at_key k)) (one (at_key l)) before (none_before plain_k) (other_before plain_l))
          (same_path-swap (one (at_key k)) m.path ∙ here)
          (ap (same_path (one (at_key l))) path_is ∙ and-true (same_text l k) ∙ same_text-swap l k ∙ apart))

  kept-order-from : (before ms : List (Mention S)) → all ≡ before ++ ms → AreNamed ms → HaveOneHeader ms
      → AreInOrder (IsPlain all) rank_of p (map (λ m. m.segment.key) (kept_from before ms))
  kept-order-from before [] is named one_header = tt
  kept-order-from before (m ∷ ms) is named one_header =
      let later : AreInOrder (IsPlain all) rank_of p (map (λ n. n.segment.key) (kept_from (before ++ one m) ms)) =
      kept-order-from (before ++ one m) ms (is ∙ sym (append_assoc before (one m) ms)) named.1 one_header.1 in
      elim (cases_Bool (is_slot before m ms)) [
        | inl e ↦ rw e (head e, later)
        | inr e ↦ rw e later
      ]
    where
      k : Text
      k = m.segment.key

      IsAfter : Text → Type 0
      IsAfter l =
          (same_text k l ≡ false) × (IsPlain all k → IsPlain all l → nat_lt (rank_of (to_key p k)) (rank_of (to_key p l)) ≡ true)

      head : is_slot before m ms ≡ true → AllByRecursion IsAfter (map (λ n. n.segment.key) (kept_from (before ++ one m) ms))
      head e =
          let parts = slot-parts before m ms e in
          let path_is : m.path ≡ one (at_key k) = single-named m.path k named.0 parts.0 in
          let none_after : some_at is_header_role m.path ms ≡ false = elim parts.1 [ inl r ↦ one_header.0 r | inr r ↦ r.1 ] in
          let own : (is_header_role m.role ≡ true) ⊎ (some_at any_role (one (at_key k)) before ≡ false) =
          elim parts.1 [ inl r ↦ inl r | inr r ↦ inr (subst (λ q. some_at any_role q before ≡ false) path_is r.0) ] in
          all-image (λ n. n.segment.key) IsAfter (kept_from (before ++ one m) ms)
          (all-map (λ n. IsNew (before ++ one m) ms n × EndsIn n.segment.key n.path) (λ n. IsAfter n.segment.key) (kept_from (before
          ++ one m) ms)
          (λ n h.
          later-key before ms m k n.segment.key is path_is own (subst (λ q. some_at is_header_role q ms ≡ false) path_is none_after)
          (new-at before ms m n h.0 (single-named n.path n.segment.key h.1 h.0.0)))
          (all-both (IsNew (before ++ one m) ms) (λ n. EndsIn n.segment.key n.path) (kept_from (before ++ one m) ms)
          (kept-new (before ++ one m) ms) (kept-all (λ n. EndsIn n.segment.key n.path) (before ++ one m) ms named.1)))

-- The keys of the slots are in order, but for those of plain headers.
pub kept-in-order : {S : Type 0} (rank_of : Path → ℕ) (p : Path) (ms : List (Mention S)) → RanksFollow rank_of p ms → AreNamed ms
    → HaveOneHeader ms
    → AreInOrder (IsPlain ms) rank_of p (map (λ m. m.segment.key) (kept ms))
kept-in-order rank_of p ms follow named one_header = kept-order-from rank_of p ms follow [] ms refl named one_header
