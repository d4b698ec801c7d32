-- What the mentions of a cut say of each table, so that its tree is steady: values and dotted keys stand only below what is
-- headed, dotted, the root or an element, and brackets are of headers.
use Rattle.std.proofs.Common.{◌≡◌, ◌⊎◌, refl, sym, ◌∙◌, ap, subst, ℕ, zero, suc, ◌+◌, Bool, true, false, List, [], ◌∷◌, ◌++◌, append_assoc}
use Rattle.std.proofs.Common.{inl, inr}
use Rattle.std.specs.Prelude.{◌&&◌, ◌||◌, flat_map, if◌then◌else◌}
use Rattle.std.specs.List.{AllByRecursion}
use Rattle.std.proofs.lemmas.Bool.{cases_Bool, or_cases, or_from}
use Rattle.toml_edit_model.specs.Text.{Text, one}
use Rattle.toml_edit_model.specs.Syntax.{Segment, Statement, key_line, header, Document}
use Rattle.toml_edit_model.specs.Paths.{at_key, at_element, Path, same_path, to_key, to_element, passing_role, Mention, next_start, Source}
use Rattle.toml_edit_model.specs.Paths.{Context, line_mentions, elements_at, in_last, header_mentions, header_path, header_role_of}
use Rattle.toml_edit_model.specs.Paths.{path_start, source_of, mentions_of, context_after, placed_from, start_context, all_mentions}
use Rattle.toml_edit_laws.proofs.common.Tests.{and_left, or-true, true-false, append-nil}
use Rattle.toml_edit_laws.proofs.common.PathLaws.{same_path-is, same_path-refl}
use Rattle.toml_edit_laws.proofs.mentions.KeptOrder.{document-named, slot-parts}
use Rattle.toml_edit_laws.proofs.adding.HeaderReady.{all-under}
use Rattle.toml_edit_laws.proofs.normal_texts.LinePaths.{key-front}
use Rattle.toml_edit_laws.proofs.mentions.RoleTests.{is_bracket_role}
use Rattle.toml_edit_laws.proofs.mentions.Placed.{is_header}
use Rattle.toml_edit_laws.proofs.mentions.SomeAt.{some_at-append, some_at-under, any-test}
use Rattle.toml_edit_laws.proofs.common.Each.{all-append}
use Rattle.toml_edit_laws.proofs.mentions.Named.{EndsIn, AreNamed, single-named, under-named}
use Rattle.toml_edit_model.specs.Roles.{Role, dotted_role, header_role, array_role, value_role, is_header_role}
use Rattle.toml_edit_model.specs.TableMentions.{under, some_at, is_slot, kept_from, kept}

-- ---- roles

-- a line says it of a key
abbrev pub is_direct : Role → Bool
is_direct value_role = true
is_direct dotted_role = true
is_direct _ = false

-- a table with this role may have lines
abbrev pub is_opening : Role → Bool
is_opening header_role = true
is_opening dotted_role = true
is_opening _ = false

-- the table, or an element on the way from it, is no key's
abbrev pub open_at : Bool → Path → Bool
open_at o [] = o
open_at o (at_key k ∷ q) = open_at false q
open_at o (at_element n ∷ q) = open_at true q

-- lines stand only below what is open, headed or dotted
abbrev pub IsOpen : {S : Type 0} → Bool → List (Mention S) → Type 0
IsOpen o ms = (q : Path) (k : Text) → some_at is_direct (to_key q k) ms ≡ true → (open_at o q ≡ true) ⊎ (some_at is_opening q ms ≡ true)

abbrev pub IsBracketed : Mention Source → Type 0
IsBracketed m = is_bracket_role m.role ≡ true → is_header m.source.statement ≡ true

pub record IsOfTable (o : Bool) (ms : List (Mention Source)) : Type 0 where
  pub named : AreNamed ms
  pub bracketed : AllByRecursion IsBracketed ms
  pub opened : IsOpen o ms

-- ---- one step down

pub step-key : (o : Bool) (k : Text) (ms : List (Mention Source)) → IsOfTable o ms → IsOfTable false (under (at_key k) ms)
step-key o k ms h =
    record {
      named = under-named (at_key k) ms h.named;
      bracketed = all-under IsBracketed (λ m t p e n. n) (at_key k) ms h.bracketed;
      opened = λ q l d.
          elim (h.opened (at_key k ∷ q) l (sym (some_at-under is_direct (at_key k) (to_key q l) ms) ∙ d)) [
            | inl a ↦ inl a
            | inr a ↦ inr (some_at-under is_opening (at_key k) q ms ∙ a)
          ];
    }

pub step-element : (o : Bool) (i : ℕ) (ms : List (Mention Source)) → IsOfTable o ms → IsOfTable true (under (at_element i) ms)
step-element o i ms h =
    record {
      named = under-named (at_element i) ms h.named;
      bracketed = all-under IsBracketed (λ m t p e n. n) (at_element i) ms h.bracketed;
      opened = λ q l d.
          elim (h.opened (at_element i ∷ q) l (sym (some_at-under is_direct (at_element i) (to_key q l) ms) ∙ d)) [
            | inl a ↦ inl a
            | inr a ↦ inr (some_at-under is_opening (at_element i) q ms ∙ a)
          ];
    }

-- ---- kept mentions

-- what a slot's mention says of its key
pub record IsSlotOf (ms : List (Mention Source)) (m : Mention Source) : Type 0 where
  pub said : (test : Role → Bool) → test m.role ≡ true → some_at test (one (at_key m.segment.key)) ms ≡ true
  pub plain : is_header_role m.role ≡ false → some_at is_header_role (one (at_key m.segment.key)) ms ≡ false
  pub bracketed : IsBracketed m

slot-of : (before ms all : List (Mention Source)) (m : Mention Source) → all ≡ before ++ (m ∷ ms) → EndsIn m.segment.key m.path
    → IsBracketed m → is_slot before m ms ≡ true → IsSlotOf all m
slot-of before ms all m e n b h =
    let parts = slot-parts before m ms h in
    let path_is : m.path ≡ one (at_key m.segment.key) = single-named m.path m.segment.key n parts.0 in
    let p : Path = one (at_key m.segment.key) in
    record {
      said = λ test t.
          ap (some_at test p) e ∙ some_at-append test p before (m ∷ ms)
          ∙ ap (λ q. some_at test p before || ((same_path q p && test m.role) || some_at test p ms)) path_is
          ∙ ap (λ c. some_at test p before || ((c && test m.role) || some_at test p ms)) (same_path-refl p)
          ∙ ap (λ c. some_at test p before || (c || some_at test p ms)) t ∙ or-true (some_at test p before);
      plain = λ f.
          ap (some_at is_header_role p) e ∙ some_at-append is_header_role p before (m ∷ ms)
          ∙ elim parts.1 [
            | inl a ↦ true-false (is_header_role m.role) a f
            | inr a ↦
                or_from (some_at is_header_role p before) ((same_path m.path p && is_header_role m.role) || some_at is_header_role p ms)
                (subst (λ q. some_at is_header_role q before ≡ false) path_is (any-test is_header_role m.path before a.0))
                (or_from (same_path m.path p && is_header_role m.role) (some_at is_header_role p ms)
                (and-false (same_path m.path p) (is_header_role m.role) f)
                (subst (λ q. some_at is_header_role q ms ≡ false) path_is a.1))
          ];
      bracketed = b;
    }
  where
    and-false : (a c : Bool) → c ≡ false → (a && c) ≡ false
    and-false true c h = h
    and-false false c h = refl

kept-of : (before ms all : List (Mention Source)) → all ≡ before ++ ms → AreNamed ms → AllByRecursion IsBracketed ms
    → AllByRecursion (IsSlotOf all) (kept_from before ms)
kept-of before [] all e n b = tt
kept-of before (m ∷ ms) all e n b =
    let rest = kept-of (before ++ one m) ms all (e ∙ sym (append_assoc before (one m) ms)) n.1 b.1 in
    elim (cases_Bool (is_slot before m ms)) [
      | inl h ↦ rw h (slot-of before ms all m e n.0 b.0 h, rest)
      | inr h ↦ rw h rest
    ]

pub kept-slots : (o : Bool) (ms : List (Mention Source)) → IsOfTable o ms → AllByRecursion (IsSlotOf ms) (kept ms)
kept-slots o ms h = kept-of [] ms ms refl h.named h.bracketed

-- ---- the mentions of a document

line-bracketed : (source : Source) (start : ℕ) (p : Path) (ss : List Segment) → AllByRecursion IsBracketed (line_mentions source start p ss)
line-bracketed source start p [] = tt
line-bracketed source start p (s ∷ []) = ((λ e. absurd cc), tt)
line-bracketed source start p (s ∷ r ∷ rest) = ((λ e. absurd cc), line-bracketed source (next_start start s) (to_key p s.key) (r ∷ rest))

passing-bracket : (n : ℕ) → is_bracket_role (passing_role n) ≡ true → ⊥
passing-bracket zero h = cc
passing-bracket (suc n) h = cc

header-bracketed : (source : Source) (arrays : List Path) (role : Role) (start : ℕ) (p : Path) (ss : List Segment)
    → is_header source.statement ≡ true
    → AllByRecursion IsBracketed (header_mentions source arrays role start p ss)
header-bracketed source arrays role start p [] h = tt
header-bracketed source arrays role start p (s ∷ []) h = ((λ e. h), tt)
header-bracketed source arrays role start p (s ∷ r ∷ rest) h =
    let here : Path = to_key p s.key in (
      (λ e. absurd (passing-bracket (elements_at arrays here) e)),
      header-bracketed source arrays role (next_start start s) (in_last (elements_at arrays here) here) (r ∷ rest) h,
    )

statement-bracketed : (c : Context) (s : Statement) → AllByRecursion IsBracketed (mentions_of c s)
statement-bracketed c (key_line f v end) =
    line-bracketed (source_of c (key_line f v end)) (c.start + path_start (key_line f v end)) c.block f.path
statement-bracketed c (header h end) =
    header-bracketed (source_of c (header h end)) c.arrays (header_role_of h) (c.start + path_start (header h end)) [] h.path refl

placed-bracketed : (c : Context) (ss : List Statement) → AllByRecursion IsBracketed (flat_map (λ s. s.mentions) (placed_from c ss))
placed-bracketed c [] = tt
placed-bracketed c (s ∷ ss) =
    all-append IsBracketed (mentions_of c s) (flat_map (λ r. r.mentions) (placed_from (context_after c s) ss)) (statement-bracketed c s)
    (placed-bracketed (context_after c s) ss)

-- a key of a line is below the line's block or a dotted key of it
line-open : (source : Source) (start : ℕ) (p : Path) (ss : List Segment) (q : Path) (k : Text)
    → some_at is_direct (to_key q k) (line_mentions source start p ss) ≡ true
    → (q ≡ p) ⊎ (some_at is_opening q (line_mentions source start p ss) ≡ true)
line-open source start p [] q k h = absurd cc
line-open source start p (s ∷ []) q k h =
    elim (or_cases (same_path (to_key p s.key) (to_key q k) && true) false h) [
      | inl e ↦ inl (sym (key-front p q s.key k (same_path-is (to_key p s.key) (to_key q k)
          (and_left (same_path (to_key p s.key) (to_key q k)) true e))))
      | inr e ↦ absurd cc
    ]
line-open source start p (s ∷ r ∷ rest) q k h =
    let here : Path = to_key p s.key in
    let more : List (Mention Source) = line_mentions source (next_start start s) here (r ∷ rest) in
    elim (or_cases (same_path here (to_key q k) && true) (some_at is_direct (to_key q k) more) h) [
      | inl e ↦ inl (sym (key-front p q s.key k (same_path-is here (to_key q k) (and_left (same_path here (to_key q k)) true e))))
      | inr e ↦
          elim (line-open source (next_start start s) here (r ∷ rest) q k e) [
            | inl f ↦ inr (ap (λ b. (b && true) || some_at is_opening q more) (subst (λ x. same_path here x
                ≡ true) (sym f) (same_path-refl here)))
            | inr f ↦ inr (ap (λ b. (same_path here q && true) || b) f ∙ or-true (same_path here q && true))
          ]
    ]

-- headers say nothing direct
header-direct : (source : Source) (arrays : List Path) (role : Role) (start : ℕ) (p : Path) (ss : List Segment) (q : Path) → is_direct role
    ≡ false
    → some_at is_direct q (header_mentions source arrays role start p ss) ≡ false
header-direct source arrays role start p [] q h = refl
header-direct source arrays role start p (s ∷ []) q h =
    or_from (same_path (to_key p s.key) q && is_direct role) false (and-false (same_path (to_key p s.key) q) (is_direct role) h) refl
  where
    and-false : (a c : Bool) → c ≡ false → (a && c) ≡ false
    and-false true c h = h
    and-false false c h = refl
header-direct source arrays role start p (s ∷ r ∷ rest) q h =
    let here : Path = to_key p s.key in
    or_from (same_path here q && is_direct (passing_role (elements_at arrays here)))
    (some_at is_direct q (header_mentions source arrays role (next_start start s) (in_last (elements_at arrays here) here) (r ∷ rest)))
    (passing (same_path here q) (elements_at arrays here))
    (header-direct source arrays role (next_start start s) (in_last (elements_at arrays here) here) (r ∷ rest) q h)
  where
    passing : (b : Bool) (n : ℕ) → (b && is_direct (passing_role n)) ≡ false
    passing true zero = refl
    passing true (suc n) = refl
    passing false n = refl

array-direct : (b : Bool) → is_direct (if b then array_role else header_role) ≡ false
array-direct true = refl
array-direct false = refl

-- a plain header's block is headed
header-opens : (source : Source) (arrays : List Path) (start : ℕ) (p : Path) (s : Segment) (ss : List Segment)
    → some_at is_opening (header_path arrays p (s ∷ ss)) (header_mentions source arrays header_role start p (s ∷ ss)) ≡ true
header-opens source arrays start p s [] = ap (λ b. (b && true) || false) (same_path-refl (to_key p s.key))
header-opens source arrays start p s (r ∷ rest) =
    let here : Path = to_key p s.key in
    let next : Path = in_last (elements_at arrays here) here in
    ap (λ b. (same_path here (header_path arrays next (r ∷ rest)) && is_opening (passing_role (elements_at arrays here))) || b)
    (header-opens source arrays (next_start start s) next r rest)
    ∙ or-true (same_path here (header_path arrays next (r ∷ rest)) && is_opening (passing_role (elements_at arrays here)))

open-element : (o : Bool) (p : Path) (n : ℕ) → open_at o (to_element p n) ≡ true
open-element o [] n = refl
open-element o (at_key k ∷ p) n = open-element false p n
open-element o (at_element i ∷ p) n = open-element true p n

abbrev IsBlockOpen : Path → List (Mention Source) → Type 0
IsBlockOpen b ms = (open_at true b ≡ true) ⊎ (some_at is_opening b ms ≡ true)

plain-open : (source : Source) (arrays : List Path) (start : ℕ) (ss : List Segment) (ms : List (Mention Source))
    → IsBlockOpen (header_path arrays [] ss) (ms ++ header_mentions source arrays header_role start [] ss)
plain-open source arrays start [] ms = inl refl
plain-open source arrays start (s ∷ ss) ms =
    inr
    (some_at-append is_opening (header_path arrays [] (s ∷ ss)) ms (header_mentions source arrays header_role start [] (s ∷ ss))
    ∙ ap (λ b. some_at is_opening (header_path arrays [] (s ∷ ss)) ms || b) (header-opens source arrays start [] s ss)
    ∙ or-true (some_at is_opening (header_path arrays [] (s ∷ ss)) ms))

header-open : (b : Bool) (source : Source) (arrays : List Path) (start : ℕ) (ss : List Segment) (ms : List (Mention Source))
    → IsBlockOpen (if b then to_element (header_path arrays [] ss) (elements_at arrays (header_path arrays [] ss))
    else header_path arrays [] ss)
    (ms ++ header_mentions source arrays (if b then array_role else header_role) start [] ss)
header-open true source arrays start ss ms =
    inl (open-element true (header_path arrays [] ss) (elements_at arrays (header_path arrays [] ss)))
header-open false source arrays start ss ms = plain-open source arrays start ss ms

block-open : (c : Context) (s : Statement) (ms : List (Mention Source)) → IsBlockOpen c.block ms
    → IsBlockOpen (context_after c s).block (ms ++ mentions_of c s)
block-open c (key_line f v end) ms h =
    elim h [
      | inl a ↦ inl a
      | inr a ↦
          inr
          (some_at-append is_opening c.block ms (mentions_of c (key_line f v end))
          ∙ ap (λ b. b || some_at is_opening c.block (mentions_of c (key_line f v end))) a)
    ]
block-open c (header i end) ms h =
    header-open i.is_array (source_of c (header i end)) c.arrays (c.start + path_start (header i end)) i.path ms

-- one statement more
statement-open : (c : Context) (s : Statement) (ms : List (Mention Source)) → IsBlockOpen c.block ms → IsOpen true ms
    → IsOpen true (ms ++ mentions_of c s)
statement-open c s ms b h q k d =
    elim (or_cases (some_at is_direct (to_key q k) ms) (some_at is_direct (to_key q k) (mentions_of c s))
    (sym (some_at-append is_direct (to_key q k) ms (mentions_of c s)) ∙ d)) [
      | inl e ↦
          elim (h q k e) [
            | inl a ↦ inl a
            | inr a ↦ inr (some_at-append is_opening q ms (mentions_of c s) ∙ ap (λ x. x || some_at is_opening q (mentions_of c s)) a)
          ]
      | inr e ↦ by_kind s e
    ]
  where
    by_kind : (t : Statement) → some_at is_direct (to_key q k) (mentions_of c t) ≡ true → (open_at true q ≡ true)
        ⊎ (some_at is_opening q (ms ++ mentions_of c t) ≡ true)
    by_kind (key_line f v end) e =
        let own : List (Mention Source) = mentions_of c (key_line f v end) in
        elim (line-open (source_of c (key_line f v end)) (c.start + path_start (key_line f v end)) c.block f.path q k e) [
          | inl is ↦
              elim b [
                | inl a ↦ inl (ap (open_at true) is ∙ a)
                | inr a ↦ inr (some_at-append is_opening q ms own ∙ ap (λ x. x
                    || some_at is_opening q own) (ap (λ x. some_at is_opening x ms) is ∙ a))
              ]
          | inr a ↦ inr (some_at-append is_opening q ms own ∙ ap (λ x. some_at is_opening q ms || x) a ∙ or-true (some_at is_opening q ms))
        ]
    by_kind (header i end) e =
        true-false (some_at is_direct (to_key q k) (mentions_of c (header i end))) e
        (header-direct (source_of c (header i end)) c.arrays (header_role_of i) (c.start
        + path_start (header i end)) [] i.path (to_key q k) (array-direct i.is_array))

open-from : (c : Context) (ss : List Statement) (ms : List (Mention Source)) → IsBlockOpen c.block ms → IsOpen true ms
    → IsOpen true (ms ++ flat_map (λ s. s.mentions) (placed_from c ss))
open-from c [] ms b h = subst (IsOpen true) (sym (append-nil ms)) h
open-from c (s ∷ ss) ms b h =
    subst (IsOpen true) (append_assoc ms (mentions_of c s) (flat_map (λ r. r.mentions) (placed_from (context_after c s) ss)))
    (open-from (context_after c s) ss (ms ++ mentions_of c s) (block-open c s ms b) (statement-open c s ms b h))

-- What the mentions of any cut say of its root.
pub of-document : (d : Document) → IsOfTable true (all_mentions d)
of-document d =
    record {
      named = document-named d;
      bracketed = placed-bracketed (start_context d) d.statements;
      opened = open-from (start_context d) d.statements [] (inl refl) (λ q k e. absurd cc);
    }
