-- A sink that holds back a tail takes one text after another as both together, and what it holds in the end is the last newline.
use Rattle.std.proofs.Common.{◌≡◌, ℕ, ◌+◌, ◌-◌, List, [], ◌∷◌, ◌++◌, length, take, refl, sym, ap, ◌∙◌, arith, append_assoc}
use Rattle.std.proofs.Common.{append-nil, length-append, Option, None, Some, Bool, true, false}
use Rattle.std.specs.Prelude.{if◌then◌else◌}
use Rattle.std.specs.Borrow.{MutBor}
use Rattle.std.proofs.Math.Seq.{take-append_seam}
use Rattle.std.proofs.lemmas.List.{append_cancel_right}
use Rattle.toml_edit_model.specs.Mode.{exact, ends_in_return}
use Rattle.toml_edit_model.specs.Text.{Text, carriage_return, newline}
use Rattle.toml_edit_model.specs.Tree.{Decor, shown_suffix}
use Rattle.toml_edit_io.proofs.Puts.{put_none, put_two}
use Rattle.toml_edit.specs.Holding.{Holds}
use Rattle.toml_edit.specs.LastLines.{newline_of}
use Rattle.toml_edit.specs.Tails.{tail_after, tail_text}
use Rattle.toml_edit.specs.declared.tail.Tail.{Tail}
use Rattle.toml_edit.specs.declared.tail.Tail.TheVariants.{Nothing}
use Rattle.toml_edit.proofs.TailLaws.{after-append, both-are-held, feed-is-held, none-is-held}
use Rattle.toml_edit_syntax.specs.Batches.{EndsWith}

module _ {S : Type 0} (puts : S → List ℕ → S → Type 0) where
  pub holds_none : (h : Tail) (s : MutBor S) → Holds puts h s [] h s
  holds_none h s = record { same_reference = refl; tail = refl; released = []; put = put_none _ _ refl; whole = append-nil (tail_text h) }

  pub holds_both : (h i j : Tail) (s t u : MutBor S) (a b : List ℕ) → Holds puts h s a i t → Holds puts i t b j u
      → Holds puts h s (a ++ b) j u
  holds_both h i j s t u a b p q = record {
    same_reference = q.same_reference ∙ p.same_reference;
    tail = q.tail ∙ ap (λ x. tail_after x b) p.tail ∙ sym (after-append h a b);
    released = p.released ++ q.released;
    put = put_two _ _ _ _ _ _ p.put q.put refl;
    whole =
        sym (append_assoc (tail_text h) a b) ∙ ap (λ l. l ++ b) p.whole ∙ append_assoc p.released (tail_text i) b
        ∙ ap (λ l. p.released ++ l) q.whole ∙ sym (append_assoc p.released q.released (tail_text j));
  }

-- the newline is the end of what is held
newline-held : (d : Option Decor) (front : Text) → EndsWith (tail_text (tail_after Nothing (front ++ newline_of exact d)))
    (newline_of exact d)
newline-held None front = none-is-held _
newline-held (Some d) front = by_test (ends_in_return (shown_suffix exact [] d))
  where
    by_test : (b : Bool) → EndsWith (tail_text (tail_after Nothing (front ++ (if b then carriage_return ∷ newline else newline)))) (if b
        then carriage_return ∷ newline else newline)
    by_test true = both-are-held Nothing front
    by_test false = feed-is-held Nothing front

-- what was released, with the tail but for the newline, is all but the newline
pub held-cut : (d : Option Decor) (n : ℕ) (whole front released : Text) (tail : Tail) → n ≡ length (newline_of exact d) → front
    ++ newline_of exact d ≡ whole
    → tail ≡ tail_after Nothing whole → whole ≡ released ++ tail_text tail → released ++ take (length (tail_text tail) - n) (tail_text tail)
    ≡ front
held-cut d n whole front released tail count e is parts =
    let (pre, ends) = newline-held d front in
    let end = newline_of exact d in
    let held : tail_text tail ≡ pre ++ end = ap tail_text is ∙ ap (λ t. tail_text (tail_after Nothing t)) (sym e) ∙ ends in
    let all : (released ++ pre) ++ end ≡ front ++ end = append_assoc released pre end ∙ ap (λ t. released ++ t) (sym held) ∙ sym parts
    ∙ sym e in
    let long : length (tail_text tail) ≡ length pre + length end = ap length held ∙ length-append pre end in
    let left : length (tail_text tail) - n ≡ length pre = omega arith in
    ap (λ m. released ++ take m (tail_text tail)) left ∙ ap (λ t. released ++ take (length pre) t) held
    ∙ ap (λ t. released ++ t) (take-append_seam pre end)
    ∙ append_cancel_right (released ++ pre) front end all
