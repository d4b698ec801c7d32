-- Each sink takes no text as it stands, and one text behind another as both together.
use Rattle.std.proofs.Common.{◌≡◌, refl, sym, subst, ap, ◌∙◌, ℕ, ◌+◌, arith, Bool, true, false, List, [], ◌++◌, length, append_assoc}
use Rattle.std.proofs.Common.{append-nil, length-append, Option, Result, Ok, Err, is_err, OnOk, OnErr}
use Rattle.std.proofs.Math.Seq.{take-append-add}
use Rattle.std.proofs.lemmas.List.{take-append-le}
use Rattle.std.specs.Borrow.{MutBor}
use Rattle.std.specs.declared.fmt.Formatter.{Formatter}
use Rattle.std.proofs.Output.{has_written_append, writes_in_calls_nil}
use Rattle.std.specs.Io.KnownBytes.{Appends}
use Rattle.std.proofs.KnownBytes.{Appends-nil, Appends-trans}
use Rattle.toml_edit_io.specs.Streams.{AppendsBeginning}
use Rattle.toml_edit_io.specs.Sinks.{Shows, Grows, Writes}

module _ {W : Type 0} (took : W → List ℕ → W → Type 0) where
  pub shows_none : (x : Bool) (f : MutBor (Formatter W)) → Shows took x f [] x f
  shows_none x f = record {
    same_reference = refl;
    clean = λ h. h;
    wrote = λ h plain. record { wrote = writes_in_calls_nil took _; plain = plain };
  }

  pub shows_both : (x y z : Bool) (f g h : MutBor (Formatter W)) (a b : List ℕ) → Shows took x f a y g → Shows took y g b z h
      → Shows took x f (a ++ b) z h
  shows_both x y z f g h a b p q = record {
    same_reference = q.same_reference ∙ p.same_reference;
    clean = λ none. p.clean (q.clean none);
    wrote = λ none plain.
        let one = p.wrote (q.clean none) plain in
        has_written_append took _ _ _ _ _ one (q.wrote none one.plain);
  }

pub grows_none : (x : Bool) (s : List ℕ) → Grows x s [] x s
grows_none x s = record { clean = λ h. h; grew = λ h. sym (append-nil s) }

pub grows_both : (x y z : Bool) (s t u a b : List ℕ) → Grows x s a y t → Grows y t b z u → Grows x s (a ++ b) z u
grows_both x y z s t u a b p q = record {
  clean = λ none. p.clean (q.clean none);
  grew = λ none. q.grew none ∙ ap (λ l. l ++ b) (p.grew (q.clean none)) ∙ append_assoc s a b;
}

-- a test that is false is not true
pub apart : (b : Bool) → b ≡ false → b ≡ true → ⊥
apart false h k = cc
apart true h k = cc

-- what is said of an `Ok`, where the answer is no error, and of an `Err`, where it is one
pub if_ok : {X E : Type 0} (r : Result X E) (P : Type 0) → is_err r ≡ false → OnOk r P → P
if_ok (Ok x) P h p = p
if_ok (Err e) P h p = absurd (apart _ h refl)

pub if_err : {X E : Type 0} (r : Result X E) (P : Type 0) → is_err r ≡ true → OnErr r P → P
if_err (Ok x) P h p = absurd (apart _ refl h)
if_err (Err e) P h p = p

-- a beginning of the first text is one of both
first_beginning : (a b : Option (List ℕ)) (s t : List ℕ) → AppendsBeginning a b s → AppendsBeginning a b (s ++ t)
first_beginning a b s t (n, within, appends) = (n, omega (arith, length-append s t), rw (take-append-le n s t within) appends)

-- the first text and a beginning of the second
second_beginning : (a b c : Option (List ℕ)) (s t : List ℕ) → Appends a b s → AppendsBeginning b c t → AppendsBeginning a c (s ++ t)
second_beginning a b c s t all (n, within, appends) =
    (length s + n, omega (arith, length-append s t), rw (take-append-add s t n) (Appends-trans a b c _ _ all appends))

-- a first text and a second one, with what was held before, between and after them
joined : (f g h i j a b : List ℕ) → f ++ i ≡ h ++ a → g ++ j ≡ i ++ b → (f ++ g) ++ j ≡ h ++ (a ++ b)
joined f g h i j a b one two =
    append_assoc f g j ∙ ap (λ l. f ++ l) two ∙ sym (append_assoc f i b) ∙ ap (λ l. l ++ b) one ∙ append_assoc h a b

module _ {O : Type 0} (contents : O → Option (List ℕ)) (has_failed : O → Bool) where
  -- a text that is held
  pub writes_held : (x : Bool) (o : MutBor O) (h a i : List ℕ) → i ≡ h ++ a → Writes contents has_failed x o h a x o i
  writes_held x o h a i is = record {
    same_reference = refl;
    clean = λ is. is;
    whole = λ _. ([], Appends-nil _, is);
    works = λ _. refl;
    beginning = λ is not. absurd (apart _ is not);
    fails = λ is not. absurd (apart _ is not);
    stays = λ is. (is, refl);
  }

  -- the same text held before, in another form
  pub writes_from : (x z : Bool) (o p : MutBor O) (h i a j : List ℕ) → h ≡ i → Writes contents has_failed x o h a z p j
      → Writes contents has_failed x o i a z p j
  writes_from x z o p h i a j same one = subst (λ l. Writes contents has_failed x o l a z p j) same one

  -- a text that is written whole, or up to a fault
  pub writes_out : {X E : Type 0} (r : Result X E) (x z : Bool) (o p : MutBor O) (h a w i : List ℕ) → x ≡ false → z ≡ is_err r
      → p.ghost_name ≡ o.ghost_name → w ≡ h ++ a → i ≡ []
      → OnOk r (Appends (contents o.now) (contents p.now) w) → OnOk r (has_failed p.now ≡ has_failed o.now)
      → OnErr r (AppendsBeginning (contents o.now) (contents p.now) w) → OnErr r (has_failed p.now ≡ true)
      → Writes contents has_failed x o h a z p i
  writes_out r x z o p h a w i works is same all none text ok beginning err = record {
    same_reference = same;
    clean = λ _. works;
    whole = λ k. (w, if_ok r _ (sym is ∙ k) text, ap (λ l. w ++ l) none ∙ append-nil w ∙ all);
    works = λ k. if_ok r _ (sym is ∙ k) ok;
    beginning = λ _ k. subst (AppendsBeginning _ _) all (if_err r _ (sym is ∙ k) beginning);
    fails = λ _ k. if_err r _ (sym is ∙ k) err;
    stays = λ k. absurd (apart _ works k);
  }

  -- nothing more, after a fault
  pub writes_never : (x : Bool) (o : MutBor O) (h a i : List ℕ) → x ≡ true → Writes contents has_failed x o h a x o i
  writes_never x o h a i broken = record {
    same_reference = refl;
    clean = λ k. k;
    whole = λ k. absurd (apart _ k broken);
    works = λ _. refl;
    beginning = λ k _. absurd (apart _ k broken);
    fails = λ k _. absurd (apart _ k broken);
    stays = λ k. (k, refl);
  }

  pub writes_none : (x : Bool) (o : MutBor O) (h : List ℕ) → Writes contents has_failed x o h [] x o h
  writes_none x o h = writes_held x o h [] h (sym (append-nil h))

  pub writes_both : (x y z : Bool) (o p q : MutBor O) (h i j a b : List ℕ) → Writes contents has_failed x o h a y p i
      → Writes contents has_failed y p i b z q j → Writes contents has_failed x o h (a ++ b) z q j
  writes_both x true z o p q h i j a b one two =
      let stays = two.stays refl in
      record {
        same_reference = two.same_reference ∙ one.same_reference;
        clean = λ is. cc;
        whole = λ is. absurd (apart _ is stays.0);
        works = λ is. absurd (apart _ is stays.0);
        beginning = λ is k. rw stays.1 (subst (AppendsBeginning _ _) (append_assoc h a b) (first_beginning _ _ (h
            ++ a) b (one.beginning is refl)));
        fails = λ is k. rw stays.1 (one.fails is refl);
        stays = λ is. (stays.0, stays.1 ∙ (one.stays is).1);
      }
  writes_both x false z o p q h i j a b one two =
      let (f, wrote, is_one) = one.whole refl in
      record {
        same_reference = two.same_reference ∙ one.same_reference;
        clean = λ is. one.clean refl;
        whole = λ is. let (g, more, is_two) = two.whole is in
            (f ++ g, Appends-trans _ _ _ f g wrote more, joined f g h i j a b is_one is_two);
        works = λ is. two.works is ∙ one.works refl;
        beginning = λ is k. subst (AppendsBeginning _ _) (sym (append_assoc f i b) ∙ ap (λ l. l ++ b) is_one
            ∙ append_assoc h a b) (second_beginning _ _ _ f (i ++ b) wrote (two.beginning refl k));
        fails = λ is k. two.fails refl k;
        stays = λ is. absurd (apart _ (one.clean refl) is);
      }

  -- a text and what is held at its end, over an output for which nothing was held
  pub record Prints (before : Bool) (o : MutBor O) (text : List ℕ) (after : Bool) (p : MutBor O) : Type 0 where
    pub same_reference : p.ghost_name ≡ o.ghost_name
    pub whole : after ≡ false → Appends (contents o.now) (contents p.now) text
    pub works : after ≡ false → has_failed p.now ≡ has_failed o.now
    pub beginning : before ≡ false → after ≡ true → AppendsBeginning (contents o.now) (contents p.now) text
    pub fails : before ≡ false → after ≡ true → has_failed p.now ≡ true

  pub all_written : (x y z : Bool) (o p q : MutBor O) (h i j a : List ℕ) → h ≡ [] → j ≡ [] → Writes contents has_failed x o h a y p i
      → Writes contents has_failed y p i [] z q j → Prints x o a z q
  all_written x y z o p q h i j a nothing none one two =
      let both = writes_both _ _ _ _ _ _ _ _ _ _ _ one two in
      let text = ap (λ l. l ++ (a ++ [])) nothing ∙ append-nil a in
      record {
        same_reference = both.same_reference;
        whole = λ k. let (front, wrote, is) = both.whole k in
            subst (Appends _ _) (sym (append-nil front) ∙ ap (λ l. front ++ l) (sym none) ∙ is ∙ text) wrote;
        works = λ k. both.works k;
        beginning = λ k l. subst (AppendsBeginning _ _) text (both.beginning k l);
        fails = λ k l. both.fails k l;
      }
