-- Equal reports are one, equality is an equivalence, and what is equal is hashed alike.
use Rattle.std.specs.Prelude.{◌≡◌, ℕ, true, IsTrue, Option, Some, None}
use Rattle.std.specs.Bool.{Decides}
use Rattle.std.specs.Cmp.{IsEquivalence, IsPartialEquivalence, partial_equiv_from_equiv}
use Rattle.std.specs.Option.{option_eq}
use Rattle.std.proofs.Common.{refl, ap, sym}
use Rattle.std.proofs.lemmas.Bool.{eqb-true, eq-eqb, and_parts}
use Rattle.std.proofs.lemmas.Bool.Decides.{same_from_decides}
use Rattle.std.proofs.lemmas.Slice.Eq.{bytes_eq-Decides}
use Rattle.toml_edit_model.specs.Text.{Text, same_text}
use Rattle.toml_edit_error.specs.Report.{Report}
use Rattle.toml_edit_error.specs.Sameness.{same_span, same_report, report_hash_input}

same_span_exact : (a b : ℕ × ℕ) → same_span a b ≡ true → a ≡ b
same_span_exact (i, j) (k, l) e =
    let (first, second) = and_parts _ _ e in
    let i-k : i ≡ k = eqb-true i k first in
    let j-l : j ≡ l = eqb-true j l second in
    cc

same_span_itself : (a : ℕ × ℕ) → same_span a a ≡ true
same_span_itself (i, j) = rw (eq-eqb i i refl) (eq-eqb j j refl)

same_place_exact : (a b : Option (ℕ × ℕ)) → option_eq same_span a b ≡ true → a ≡ b
same_place_exact None None e = refl
same_place_exact (Some a) (Some b) e = ap Some (same_span_exact a b e)
same_place_exact None (Some b) e = absurd cc
same_place_exact (Some a) None e = absurd cc

same_place_itself : (a : Option (ℕ × ℕ)) → option_eq same_span a a ≡ true
same_place_itself None = refl
same_place_itself (Some a) = same_span_itself a

same_text_itself : (t : Text) → same_text t t ≡ true
same_text_itself t = (bytes_eq-Decides t t).1 refl

pub same_report_exact : (a b : Report) → same_report a b ≡ true → a ≡ b
same_report_exact a b e =
    let (first, others) = and_parts _ _ e in
    let (second, third) = and_parts _ _ others in
    let message = (bytes_eq-Decides a.message b.message).0 first in
    let span = same_place_exact a.span b.span second in
    let input = (bytes_eq-Decides a.input b.input).0 third in
    λ i. record { message = message i; span = span i; input = input i }

same_report_itself : (a : Report) → same_report a a ≡ true
same_report_itself a =
    rw (same_text_itself a.message, same_place_itself a.span) (same_text_itself a.input)

pub same_report_decides : (a b : Report) → Decides (same_report a b) (a ≡ b)
same_report_decides a b = (same_report_exact a b, λ e. rw e (same_report_itself b))

backwards : (a b : Report) → Decides (same_report b a) (a ≡ b)
backwards a b = (λ e. sym (same_report_exact b a e), λ e. rw e (same_report_itself b))

pub same_report_equiv : IsEquivalence same_report
same_report_equiv =
    record {
      refl = same_report_itself;
      symm = λ a b. same_from_decides _ _ (same_report_decides a b) (backwards a b);
      congr = λ a b c e. ap (λ x. same_report x c) (same_report_exact a b e);
    }

pub same_report_partial_equiv : IsPartialEquivalence same_report
same_report_partial_equiv = partial_equiv_from_equiv same_report_equiv

pub report_hash_respects : (a b : Report) → IsTrue (same_report a b)
    → report_hash_input a ≡ report_hash_input b
report_hash_respects a b e = ap report_hash_input (same_report_exact a b e)
