-- The mentions of pairs that agree: at each path all are of dotted keys, or one has a value.
use Rattle.std.proofs.Common.{◌≡◌, refl, sym, ◌∙◌, ap, subst, ℕ, Bool, true, false, List, [], ◌∷◌, ◌++◌}
use Rattle.std.specs.Prelude.{◌&&◌, ◌||◌, not}
use Rattle.std.proofs.Math.Bool.{and-false}
use Rattle.std.proofs.lemmas.Bool.{or_from}
use Rattle.toml_edit_model.specs.Text.{is_empty}
use Rattle.toml_edit_model.specs.Syntax.{Segment}
use Rattle.toml_edit_model.specs.Paths.{Step, at_key, Path, same_step, same_path, to_key, Mention, mention_of, line_mentions, next_start}
use Rattle.toml_edit_model.specs.Accepted.{agree}
use Rattle.toml_edit_laws.proofs.common.Tests.{true-false}
use Rattle.toml_edit_laws.proofs.mentions.GatherLaws.{all_deeper, own-first}
use Rattle.toml_edit_laws.proofs.inline_tables.PairMentions.{AreOfPairs, of_none, of_both, of_under, of_line, own-line, lines-deeper}
use Rattle.toml_edit_laws.proofs.inline_tables.PairMentions.{some_at-deeper}
use Rattle.toml_edit_laws.proofs.inline_tables.AgreeLaws.{agree-apart}
use Rattle.toml_edit_laws.proofs.mentions.SomeAt.{some_at-append, some_at-under}
use Rattle.toml_edit_model.specs.Roles.{Role, dotted_role, implied_role, header_role, array_role, value_role, continued_role}
use Rattle.toml_edit_model.specs.Roles.{may_meet_inline, is_value_role, is_dotted_role}
use Rattle.toml_edit_model.specs.TableMentions.{under, own, some_at}

abbrev pub is_other_role : Role → Bool
is_other_role r = not (is_value_role r || is_dotted_role r)

-- no path has a value and is a dotted key's
abbrev pub AreUnmixed : {S : Type 0} → List (Mention S) → Type 0
AreUnmixed ms = (p : Path) → some_at is_value_role p ms ≡ true → some_at is_dotted_role p ms ≡ false

pub record AreAgreeing {S : Type 0} (ms : List (Mention S)) : Type 0 where
  pub pairs : AreOfPairs ms
  pub unmixed : AreUnmixed ms
  pub plain : (p : Path) → some_at is_other_role p ms ≡ false

pub agreeing-none : {S : Type 0} → AreAgreeing {S = S} []
agreeing-none = record { pairs = of_none; unmixed = λ p h. refl; plain = λ p. refl }

pub agreeing-under : {S : Type 0} (s : Step) (ms : List (Mention S)) → AreAgreeing ms → AreAgreeing (under s ms)
agreeing-under s ms h =
    record {
      pairs = of_under s ms h.pairs;
      unmixed = λ p e. some_at-under is_dotted_role s p ms ∙ h.unmixed (s ∷ p) (sym (some_at-under is_value_role s p ms) ∙ e);
      plain = λ p. some_at-under is_other_role s p ms ∙ h.plain (s ∷ p);
    }

-- ---- one pair

own-unmentioned : {S : Type 0} (test : Role → Bool) (ms : List (Mention S)) → own ms ≡ [] → some_at test [] ms ≡ false
own-unmentioned test [] h = refl
own-unmentioned test (m ∷ ms) h =
    let first = own-first m ms h in
    or_from (same_path m.path [] && test m.role) (some_at test [] ms)
    (ap (λ b. b && test m.role) (by_path m.path first.0)) (own-unmentioned test ms first.1)
  where
    by_path : (p : Path) → is_empty p ≡ false → same_path p [] ≡ false
    by_path [] h = absurd cc
    by_path (s ∷ p) h = refl

some_at-none : {S : Type 0} (test : Role → Bool) (s : Step) (ms : List (Mention S)) → some_at test [] (all_deeper s ms) ≡ false
some_at-none test s [] = refl
some_at-none test s (m ∷ ms) = some_at-none test s ms

unmixed-below : {S : Type 0} (source : S) (start : ℕ) (g : Segment) (ms : List (Mention S)) → own ms ≡ [] → AreUnmixed ms
    → AreUnmixed (mention_of source start (to_key [] g.key) dotted_role g ∷ all_deeper (at_key g.key) ms)
unmixed-below source start g ms h u [] e =
    true-false (some_at is_value_role [] (all_deeper (at_key g.key) ms)) e (some_at-none is_value_role (at_key g.key) ms)
unmixed-below source start g ms h u (t ∷ p) e =
    ap (λ b. ((same_step (at_key g.key) t && same_path [] p) && true) || b) (some_at-deeper is_dotted_role (at_key g.key) t p ms)
    ∙ by_step (same_step (at_key g.key) t)
    (ap (λ b. ((same_step (at_key g.key) t && same_path [] p) && false) || b) (sym (some_at-deeper is_value_role (at_key g.key) t p ms))
    ∙ e)
  where
    by_path : (p : Path) → some_at is_value_role p ms ≡ true → ((same_path [] p && true) || some_at is_dotted_role p ms) ≡ false
    by_path [] e = true-false (some_at is_value_role [] ms) e (own-unmentioned is_value_role ms h)
    by_path (s ∷ q) e = u (s ∷ q) e

    valued : (b : Bool) → ((b && false) || some_at is_value_role p ms) ≡ true → some_at is_value_role p ms ≡ true
    valued true e = e
    valued false e = e

    by_step : (b : Bool) → (((b && same_path [] p) && false) || (b && some_at is_value_role p ms)) ≡ true
        → (((b && same_path [] p) && true) || (b && some_at is_dotted_role p ms)) ≡ false
    by_step true e = by_path p (valued (same_path [] p) e)
    by_step false e = refl

unmixed-line : {S : Type 0} (source : S) (start : ℕ) (segments : List Segment) → AreUnmixed (line_mentions source start [] segments)
unmixed-line source start [] = λ p h. refl
unmixed-line source start (g ∷ []) =
    λ p h. or_from (same_path (to_key [] g.key) p && false) false (and-false (same_path (to_key [] g.key) p)) refl
unmixed-line source start (g ∷ h ∷ rest) =
    subst (λ ms. AreUnmixed (mention_of source start (to_key [] g.key) dotted_role g ∷ ms))
    (sym (lines-deeper source (next_start start g) (at_key g.key) [] (h ∷ rest)))
    (unmixed-below source start g (line_mentions source (next_start start g) [] (h ∷ rest)) (own-line source (next_start start g) (h
    ∷ rest))
    (unmixed-line source (next_start start g) (h ∷ rest)))

plain-line : {S : Type 0} (source : S) (start : ℕ) (p : Path) (segments : List Segment) (q : Path)
    → some_at is_other_role q (line_mentions source start p segments) ≡ false
plain-line source start p [] q = refl
plain-line source start p (g ∷ []) q = or_from (same_path (to_key p g.key) q && false) false (and-false (same_path (to_key p g.key) q)) refl
plain-line source start p (g ∷ h ∷ rest) q =
    or_from (same_path (to_key p g.key) q && false) (some_at is_other_role q (line_mentions source (next_start start g) (to_key p g.key) (h
    ∷ rest)))
    (and-false (same_path (to_key p g.key) q)) (plain-line source (next_start start g) (to_key p g.key) (h ∷ rest) q)

pub agreeing-line : {S : Type 0} (source : S) (start : ℕ) (segments : List Segment) → AreAgreeing (line_mentions source start [] segments)
agreeing-line source start segments =
    record {
      pairs = of_line source start segments;
      unmixed = unmixed-line source start segments;
      plain =
          plain-line source start [] segments;
    }

-- ---- pairs after pairs

value-apart : (r q : Role) → is_value_role r ≡ true → is_dotted_role q ≡ true → may_meet_inline r q ≡ false
value-apart value_role q h g = refl
value-apart dotted_role q h g = absurd cc
value-apart implied_role q h g = absurd cc
value-apart header_role q h g = absurd cc
value-apart array_role q h g = absurd cc
value-apart continued_role q h g = absurd cc

dotted-apart : (r q : Role) → is_dotted_role r ≡ true → is_value_role q ≡ true → may_meet_inline r q ≡ false
dotted-apart dotted_role value_role h g = refl
dotted-apart dotted_role dotted_role h g = absurd cc
dotted-apart dotted_role implied_role h g = absurd cc
dotted-apart dotted_role header_role h g = absurd cc
dotted-apart dotted_role array_role h g = absurd cc
dotted-apart dotted_role continued_role h g = absurd cc
dotted-apart value_role q h g = refl
dotted-apart implied_role q h g = refl
dotted-apart header_role q h g = refl
dotted-apart array_role q h g = refl
dotted-apart continued_role q h g = refl

-- Pairs that agree with agreeing ones before them do all agree.
pub agreeing-both : {S : Type 0} (xs ys : List (Mention S)) → AreAgreeing xs → AreAgreeing ys → agree may_meet_inline xs ys ≡ true
    → AreAgreeing (xs ++ ys)
agreeing-both xs ys g h e =
    record {
      pairs = of_both xs ys g.pairs h.pairs;
      unmixed = λ p v. some_at-append is_dotted_role p xs ys
          ∙ apart p (some_at is_value_role p xs) refl (some_at is_dotted_role p xs) refl (sym (some_at-append is_value_role p xs ys) ∙ v);
      plain = λ p. some_at-append is_other_role p xs ys ∙ or_from (some_at is_other_role p xs) (some_at is_other_role p ys) (g.plain p)
          (h.plain p);
    }
  where
    apart : (p : Path) (v : Bool) → some_at is_value_role p xs ≡ v → (d : Bool) → some_at is_dotted_role p xs ≡ d
        → (v || some_at is_value_role p ys) ≡ true
        → (some_at is_dotted_role p xs || some_at is_dotted_role p ys) ≡ false
    apart p true a d b v =
        or_from (some_at is_dotted_role p xs) (some_at is_dotted_role p ys) (g.unmixed p a)
        (agree-apart may_meet_inline is_value_role is_dotted_role p xs ys value-apart e a)
    apart p false a true b v =
        true-false (some_at is_value_role p ys) v (agree-apart may_meet_inline is_dotted_role is_value_role p xs ys dotted-apart e b)
    apart p false a false b v =
        or_from (some_at is_dotted_role p xs) (some_at is_dotted_role p ys) b (h.unmixed p v)
