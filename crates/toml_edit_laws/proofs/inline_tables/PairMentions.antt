-- The mentions of pairs: they are named, without headers, and none stands below a path that isn't mentioned.
use Rattle.std.proofs.Common.{inr, ◌≡◌, refl, sym, ◌∙◌, ap, subst, ℕ, Bool, true, false, List, [], ◌∷◌, ◌++◌}
use Rattle.std.specs.Prelude.{◌&&◌, ◌||◌}
use Rattle.std.proofs.Math.Bool.{and-false}
use Rattle.std.proofs.lemmas.Bool.{or_from}
use Rattle.toml_edit_model.specs.Syntax.{Segment}
use Rattle.toml_edit_model.specs.Paths.{Step, at_key, Path, same_step, same_path, to_key, Mention, mention_of, line_mentions, next_start}
use Rattle.toml_edit_laws.proofs.common.Tests.{or-left, or-right}
use Rattle.toml_edit_laws.proofs.mentions.GatherLaws.{all_deeper, own-deeper, AreHeadless}
use Rattle.toml_edit_laws.proofs.mentions.SomeAt.{some_at-append, some_at-under}
use Rattle.toml_edit_laws.proofs.common.Each.{all-append}
use Rattle.toml_edit_laws.proofs.mentions.Named.{IsNamed, AreNamed, under-named, line-named}
use Rattle.toml_edit_model.specs.Roles.{Role, dotted_role, value_role, is_header_role, any_role}
use Rattle.toml_edit_model.specs.TableMentions.{under, own, some_at}

-- ---- lists of mentions

-- what is below a path is mentioned only where the path is
abbrev pub AreClosed : {S : Type 0} → List (Mention S) → Type 0
AreClosed ms = (q : Path) (s : Step) (p : Path) → some_at any_role (q ++ (s ∷ [])) ms ≡ false → some_at any_role (q ++ (s ∷ p)) ms ≡ false

pub record AreOfPairs {S : Type 0} (ms : List (Mention S)) : Type 0 where
  pub named : AreNamed ms
  pub headless : AreHeadless ms
  pub closed : AreClosed ms

pub of_none : {S : Type 0} → AreOfPairs {S = S} []
of_none = record { named = tt; headless = λ p. refl; closed = λ q s p h. refl }

pub of_both : {S : Type 0} (xs ys : List (Mention S)) → AreOfPairs xs → AreOfPairs ys → AreOfPairs (xs ++ ys)
of_both xs ys g h =
    record {
      named = all-append IsNamed xs ys g.named h.named;
      headless = λ p. some_at-append is_header_role p xs ys
          ∙ or_from (some_at is_header_role p xs) (some_at is_header_role p ys) (g.headless p) (h.headless p);
      closed = λ q s p e.
          let both = sym (some_at-append any_role (q ++ (s ∷ [])) xs ys) ∙ e in
          some_at-append any_role (q ++ (s ∷ p)) xs ys
          ∙ or_from (some_at any_role (q ++ (s ∷ p)) xs) (some_at any_role (q ++ (s ∷ p)) ys)
          (g.closed q s p (or-left (some_at any_role (q ++ (s ∷ [])) xs) (some_at any_role (q ++ (s ∷ [])) ys) both))
          (h.closed q s p (or-right (some_at any_role (q ++ (s ∷ [])) xs) (some_at any_role (q ++ (s ∷ [])) ys) both));
    }

pub of_under : {S : Type 0} (s : Step) (ms : List (Mention S)) → AreOfPairs ms → AreOfPairs (under s ms)
of_under s ms h =
    record {
      named = under-named s ms h.named;
      headless = λ p. some_at-under is_header_role s p ms ∙ h.headless (s ∷ p);
      closed = λ q t p e. some_at-under any_role s (q ++ (t ∷ p)) ms
          ∙ h.closed (s ∷ q) t p (sym (some_at-under any_role s (q ++ (t ∷ [])) ms) ∙ e);
    }

-- ---- the mentions of one pair

-- further down the path begins with one more step
pub lines-deeper : {S : Type 0} (source : S) (start : ℕ) (s : Step) (p : Path) (segments : List Segment)
    → line_mentions source start (s ∷ p) segments ≡ all_deeper s (line_mentions source start p segments)
lines-deeper source start s p [] = refl
lines-deeper source start s p (g ∷ []) = refl
lines-deeper source start s p (g ∷ h ∷ rest) =
    ap (λ ms. mention_of source start (to_key (s ∷ p) g.key) dotted_role g
    ∷ ms) (lines-deeper source (next_start start g) s (to_key p g.key) (h ∷ rest))

pub own-line : {S : Type 0} (source : S) (start : ℕ) (segments : List Segment) → own (line_mentions source start [] segments) ≡ []
own-line source start [] = refl
own-line source start (g ∷ []) = refl
own-line source start (g ∷ h ∷ rest) =
    ap own (lines-deeper source (next_start start g) (at_key g.key) [] (h ∷ rest))
    ∙ own-deeper (at_key g.key) (line_mentions source (next_start start g) [] (h ∷ rest))

headless-line : {S : Type 0} (source : S) (start : ℕ) (p : Path) (segments : List Segment)
    → AreHeadless (line_mentions source start p segments)
headless-line source start p [] q = refl
headless-line source start p (g ∷ []) q =
    or_from (same_path (to_key p g.key) q && false) false (and-false (same_path (to_key p g.key) q)) refl
headless-line source start p (g ∷ h ∷ rest) q =
    or_from (same_path (to_key p g.key) q && false) (some_at is_header_role q (line_mentions source (next_start start g) (to_key p g.key) (h
    ∷ rest)))
    (and-false (same_path (to_key p g.key) q)) (headless-line source (next_start start g) (to_key p g.key) (h ∷ rest) q)

pub some_at-deeper : {S : Type 0} (test : Role → Bool) (s t : Step) (p : Path) (ms : List (Mention S))
    → some_at test (t ∷ p) (all_deeper s ms) ≡ (same_step s t && some_at test p ms)
some_at-deeper test s t p [] = sym (and-false (same_step s t))
some_at-deeper test s t p (m ∷ ms) =
    ap (λ b. ((same_step s t && same_path m.path p) && test m.role) || b) (some_at-deeper test s t p ms)
    ∙ by_test (same_step s t) (same_path m.path p) (test m.role) (some_at test p ms)
  where
    by_test : (a b c d : Bool) → (((a && b) && c) || (a && d)) ≡ (a && ((b && c) || d))
    by_test true b c d = refl
    by_test false b c d = refl

-- one mention, and others below it
at-front : {S : Type 0} (s : Step) (m : Mention S) (ms : List (Mention S)) → m.path ≡ s ∷ [] → (t : Step) (p : Path)
    → some_at any_role (t ∷ p) (m ∷ all_deeper s ms) ≡ (same_step s t && (same_path [] p || some_at any_role p ms))
at-front s m ms here t p =
    ap (λ b. (same_path m.path (t ∷ p) && true) || b) (some_at-deeper any_role s t p ms)
    ∙ ap (λ (l : Path). (same_path l (t ∷ p) && true) || (same_step s t && some_at any_role p ms)) here
    ∙ by_test (same_step s t) (same_path [] p) (some_at any_role p ms)
  where
    by_test : (a b c : Bool) → (((a && b) && true) || (a && c)) ≡ (a && (b || c))
    by_test true true c = refl
    by_test true false c = refl
    by_test false b c = refl

not-empty : (q : Path) (t : Step) (p : Path) → same_path [] (q ++ (t ∷ p)) ≡ false
not-empty [] t p = refl
not-empty (u ∷ q) t p = refl

closed-below : {S : Type 0} (s : Step) (m : Mention S) (ms : List (Mention S)) → m.path ≡ s ∷ [] → AreClosed ms
    → AreClosed (m ∷ all_deeper s ms)
closed-below s m ms here h [] t p e = at-front s m ms here t p ∙ by_test (same_step s t) (sym (at-front s m ms here t []) ∙ e)
  where
    by_test : (b : Bool) → (b && true) ≡ false → (b && (same_path [] p || some_at any_role p ms)) ≡ false
    by_test true g = absurd cc
    by_test false g = refl
closed-below s m ms here h (u ∷ q) t p e =
    at-front s m ms here u (q ++ (t ∷ p)) ∙ by_test (same_step s u) (sym (at-front s m ms here u (q ++ (t ∷ []))) ∙ e)
  where
    by_test : (b : Bool) → (b && (same_path [] (q ++ (t ∷ [])) || some_at any_role (q ++ (t ∷ [])) ms)) ≡ false
        → (b && (same_path [] (q ++ (t ∷ p)) || some_at any_role (q ++ (t ∷ p)) ms)) ≡ false
    by_test true g =
        or_from (same_path [] (q ++ (t ∷ p))) (some_at any_role (q ++ (t ∷ p)) ms) (not-empty q t p)
        (h q t p (or-right (same_path [] (q ++ (t ∷ []))) (some_at any_role (q ++ (t ∷ [])) ms) g))
    by_test false g = refl

closed-line : {S : Type 0} (source : S) (start : ℕ) (segments : List Segment) → AreClosed (line_mentions source start [] segments)
closed-line source start [] = λ q s p e. refl
closed-line source start (g ∷ []) =
    closed-below (at_key g.key) (mention_of source start (to_key [] g.key) value_role g) [] refl (λ q s p e. refl)
closed-line source start (g ∷ h ∷ rest) =
    subst (λ ms. AreClosed (mention_of source start (to_key [] g.key) dotted_role g ∷ ms))
    (sym (lines-deeper source (next_start start g) (at_key g.key) [] (h ∷ rest)))
    (closed-below (at_key g.key) (mention_of source start (to_key [] g.key) dotted_role g) (line_mentions source (next_start start g) [] (h
    ∷ rest)) refl
    (closed-line source (next_start start g) (h ∷ rest)))

pub of_line : {S : Type 0} (source : S) (start : ℕ) (segments : List Segment) → AreOfPairs (line_mentions source start [] segments)
of_line source start segments =
    record {
      named = line-named source start [] segments;
      headless = headless-line source start [] segments;
      closed =
          closed-line source start segments;
    }

-- its first mention alone
pub of_first : {S : Type 0} (source : S) (start : ℕ) (g : Segment)
    → AreOfPairs (mention_of source start (to_key [] g.key) dotted_role g ∷ [])
of_first source start g =
    record {
      named = (inr ([], refl), tt);
      headless = λ q. or_from (same_path (to_key [] g.key) q && false) false (and-false (same_path (to_key [] g.key) q)) refl;
      closed = closed-below (at_key g.key) (mention_of source start (to_key [] g.key) dotted_role g) [] refl (λ q s p e. refl);
    }
