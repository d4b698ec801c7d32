-- Lemmas on texts that are put into a sink, one behind the other.
use Rattle.std.proofs.Common.{◌≡◌, subst, ℕ, List, [], ◌∷◌, ◌++◌, append_assoc, append-nil}
use Rattle.std.specs.Fmt.{WritesInCalls}
use Rattle.std.specs.List.{FoldsTo, concat}
use Rattle.std.proofs.Output.{writes_in_calls_nil, writes_in_calls_single, writes_in_calls_append}

module _ {S : Type 0} {puts : S → List ℕ → S → Type 0} where
  -- one call
  pub put_once : (s t : S) (a : List ℕ) → puts s a t → WritesInCalls puts s a t
  put_once s t a p = writes_in_calls_single puts s a t p

  -- no call, or calls that put the empty text
  pub put_none : (s : S) (all : List ℕ) → [] ≡ all → WritesInCalls puts s all s
  put_none s all is = subst (λ l. WritesInCalls puts s l s) is (writes_in_calls_nil puts s)

  -- the same text in another form
  pub put_same : (s t : S) (a all : List ℕ) → WritesInCalls puts s a t → a ≡ all → WritesInCalls puts s all t
  put_same s t a all p is = subst (λ l. WritesInCalls puts s l t) is p

  -- two to six texts, one behind the other
  pub put_two : (s t u : S) (a b all : List ℕ) → WritesInCalls puts s a t → WritesInCalls puts t b u → a ++ b ≡ all
      → WritesInCalls puts s all u
  put_two s t u a b all p q is = put_same _ _ _ _ (writes_in_calls_append puts _ _ _ _ _ p q) is

  pub put_three : (s t u v : S) (a b c all : List ℕ) → WritesInCalls puts s a t → WritesInCalls puts t b u → WritesInCalls puts u c v → a
      ++ (b ++ c) ≡ all → WritesInCalls puts s all v
  put_three s t u v a b c all p q r is = put_two _ _ _ _ _ all p (writes_in_calls_append puts _ _ _ _ _ q r) is

  pub put_four : (s t u v w : S) (a b c d all : List ℕ) → WritesInCalls puts s a t → WritesInCalls puts t b u → WritesInCalls puts u c v
      → WritesInCalls puts v d w
      → a ++ (b ++ (c ++ d)) ≡ all → WritesInCalls puts s all w
  put_four s t u v w a b c d all p q r x is = put_three _ _ _ _ _ _ _ all p q (writes_in_calls_append puts _ _ _ _ _ r x) is

  pub put_five : (s t u v w x : S) (a b c d e all : List ℕ) → WritesInCalls puts s a t → WritesInCalls puts t b u → WritesInCalls puts u c v
      → WritesInCalls puts v d w → WritesInCalls puts w e x
      → a ++ (b ++ (c ++ (d ++ e))) ≡ all → WritesInCalls puts s all x
  put_five s t u v w x a b c d e all p q r y z is = put_four _ _ _ _ _ _ _ _ _ all p q r (writes_in_calls_append puts _ _ _ _ _ y z) is

  pub put_six : (s t u v w x y : S) (a b c d e f all : List ℕ) → WritesInCalls puts s a t → WritesInCalls puts t b u
      → WritesInCalls puts u c v → WritesInCalls puts v d w → WritesInCalls puts w e x
      → WritesInCalls puts x f y → a ++ (b ++ (c ++ (d ++ (e ++ f)))) ≡ all → WritesInCalls puts s all y
  put_six s t u v w x y a b c d e f all p q r i j k is =
      put_five _ _ _ _ _ _ _ _ _ _ _ all p q r i (writes_in_calls_append puts _ _ _ _ _ j k) is

-- a relation that holds of no text, and of one behind another, holds of all calls together
module _ {S : Type 0} (puts : S → List ℕ → S → Type 0) (none : (s : S) → puts s [] s) (both : (s t u : S) (a b : List ℕ) → puts s a t
    → puts t b u → puts s (a ++ b) u) where
  of_calls : (s : S) (parts : List (List ℕ)) (t : S) → FoldsTo puts s parts t → puts s (concat parts) t
  of_calls s [] t p = subst (puts s []) p (none s)
  of_calls s (x ∷ xs) t p = both _ _ _ x (concat xs) p.1 (of_calls p.0 xs t p.2)

  pub put_whole : (s t : S) (a : List ℕ) → WritesInCalls puts s a t → puts s a t
  put_whole s t a p = subst (λ l. puts s l t) p.whole (of_calls s p.parts t p.calls)

-- joins the texts of two to six calls
pub ruleset put_steps = (append_assoc, append-nil, put_none, put_two, put_three, put_four, put_five, put_six, put_same)
