-- What was asked of a folder, call by call.
use Rattle.std.proofs.Common.{◌≡◌, ◌≢◌, ◌⊎◌, Bool, true, false, inl, inr, List, [], ◌∷◌, ◌++◌, Option, Some, None, Result, Ok, Err, IsErr, IsErrAnd, append_assoc, refl, sym, ap, subst, ◌∙◌}
use Rattle.file_replace.specs.Events.{Text, Call, Event, Notes, cleared, made, removed, synced_folder, renamed, likened, wrote, synced, held, done, failed, more, succeeds}
use Rattle.file_replace.specs.Replacing.{Asked, AreOther, Asks, Checks, Compares, Fills, FillsBy, IsReplaced, IsWhy, IsWhyNot, MakesOther, Removes, Replaces, Stops, StopsReplacing, all_done, checked, compared, filling, prepared, replaced, replacing, taken, undone}
use Rattle.file_replace.specs.declared.replacement.ReplaceFault.{ReplaceFault}
use Rattle.file_replace.specs.declared.replacement.ReplaceFault.TheVariants.{Changed, ReadOnly, Failed}

pub more_more : (es fs : List Event) (o : Option (List Event)) → more fs (more es o) ≡ more (es ++ fs) o
more_more es fs None = refl
more_more es fs (Some before) = ap Some (append_assoc before es fs)

pub noted : (es fs : List Event) (o a b : Option (List Event)) → a ≡ more es o → b ≡ more fs a → b ≡ more (es ++ fs) o
noted es fs o a b p q = q ∙ ap (more fs) p ∙ more_more es fs o

module _ {E : Type 0} (o n : Option (List Event)) (c : Call) (r : Result (Unit {0}) E) where
  pub done_noted : (u : Unit {0}) → Notes o n c r → r ≡ Ok u → n ≡ more (done c ∷ []) o
  done_noted u p is = subst (λ q. n ≡ more (record { call = c; is_done = succeeds q } ∷ []) o) is p

  pub failed_noted : (e : E) → Notes o n c r → r ≡ Err e → n ≡ more (failed c ∷ []) o
  failed_noted e p is = subst (λ q. n ≡ more (record { call = c; is_done = succeeds q } ∷ []) o) is p

-- ---- calls, one after another

module _ {A E : Type 0} where
  pub asks_then : (c : Call) (cs : List Call) (o a n : Option (List Event)) (r : Result A E) → a ≡ more (done c ∷ []) o
      → Asks cs a n r → Asks (c ∷ cs) o n r
  asks_then c cs o a n (Ok x) p q = noted (done c ∷ []) (all_done cs) o a n p q
  asks_then c cs o a n (Err e) p (es, stops, is) = (done c ∷ es, inr (es, stops, refl), noted (done c ∷ []) es o a n p is)

  pub asks_fails : (c : Call) (cs : List Call) (o n : Option (List Event)) (r : Result A E) → n ≡ more (failed c ∷ []) o → IsErr r
      → Asks (c ∷ cs) o n r
  asks_fails c cs o n (Ok x) p is = absurd (let no : false ≡ true = is in cc)
  asks_fails c cs o n (Err d) p is = (failed c ∷ [], inl refl, p)

pub asks_last : {E : Type 0} (c : Call) (o n : Option (List Event)) (r : Result (Unit {0}) E) → Notes o n c r → Asks (c ∷ []) o n r
asks_last c o n (Ok u) p = p
asks_last c o n (Err e) p = (failed c ∷ [], inl refl, p)

stops_more : (cs ds : List Call) (es : List Event) → Stops cs es → Stops (cs ++ ds) es
stops_more [] ds es stops = absurd stops
stops_more (c ∷ cs) ds es (inl is) = inl is
stops_more (c ∷ cs) ds es (inr (fs, stops, is)) = inr (fs, stops_more cs ds fs stops, is)

-- calls are done before one that fails
stops_after : (cs ds : List Call) (es : List Event) → Stops ds es → Stops (cs ++ ds) (all_done cs ++ es)
stops_after [] ds es stops = stops
stops_after (c ∷ cs) ds es stops = inr (all_done cs ++ es, stops_after cs ds es stops, refl)

-- ---- the parts of a replacement

abbrev pub IsOther : ReplaceFault → Type 0
IsOther Changed = ⊥
IsOther ReadOnly = ⊥
IsOther (Failed e) = Unit {0}

module _ (a : Asked) where
  module _ {D : Type 0} (last t b : Text) (o k m : Option (List Event)) (made_it : Result (Unit {0}) D) (e : D) where
    abbrev IsNext : Type 0
    IsNext = (t ≡ b) × (b ≢ a.name) × (b ≢ last) × (k ≡ o) × Notes k m (made t) made_it × (made_it ≡ Err e)

    tried : IsNext → m ≡ more (failed (made t) ∷ []) o
    tried (v, other, another, same, notes, is) =
        subst (λ (x : Option (List Event)). m ≡ more (failed (made t) ∷ []) x) same (failed_noted k m (made t) made_it e notes is)

    pub makes_none : IsNext → (ns : List Text) × AreOther a last ns × (m ≡ more (taken ns) o)
    makes_none next = (t ∷ [], (λ h. next.1 (sym next.0 ∙ h), λ h. next.2 (sym next.0 ∙ h), tt), tried next)

    module _ {A E : Type 0} (name : A → Text) (n : Option (List Event)) (next : IsNext) where
      after-taken : (r : Result A E) → MakesOther a t name m n r → MakesOther a last name o n r
      after-taken (Ok x) (ns, apart, is) = (
        t ∷ ns,
        (λ h. next.1 (sym next.0 ∙ h), λ h. next.2 (sym next.0 ∙ h), apart),
        noted (failed (made t) ∷ []) (taken ns ++ (done (made (name x)) ∷ [])) o m n (tried next) is,
      )
      after-taken (Err d) (ns, apart, is) = (
        t ∷ ns,
        (λ h. next.1 (sym next.0 ∙ h), λ h. next.2 (sym next.0 ∙ h), apart),
        noted (failed (made t) ∷ []) (taken ns) o m n (tried next) is,
      )

      pub makes_more : (s : Text) → s ≡ b → (r : Result A E) → MakesOther a s name m n r → MakesOther a last name o n r
      makes_more s same r makes = after-taken r (subst (λ (x : Text). MakesOther a x name m n r) (same ∙ sym next.0) makes)

  abbrev writing : List Call
  writing = likened a.name a.force ∷ wrote a.text ∷ synced ∷ []

  abbrev naming : Text → List Call
  naming b = compared a.name a.before ++ (renamed b a.name ∷ [])

  why_other : (b : Text) (es : List Event) (f : ReplaceFault) → IsOther f → IsWhyNot a b es f
  why_other b es Changed other = absurd other
  why_other b es ReadOnly other = absurd other
  why_other b es (Failed e) other = tt

  why_changed : (b t : Text) → a.before ≡ Some t → (f : ReplaceFault) → f ≢ ReadOnly
      → IsWhyNot a b (all_done writing ++ (failed (held a.name t) ∷ [])) f
  why_changed b t before Changed fails = (t, before, refl)
  why_changed b t before ReadOnly fails = absurd (fails refl)
  why_changed b t before (Failed e) fails = tt

  stops_comparing : (b t : Text) → a.before ≡ Some t → Stops (naming b) (failed (held a.name t) ∷ [])
  stops_comparing b t before =
      subst (λ (o : Option Text). Stops (compared a.name o ++ (renamed b a.name ∷ [])) (failed (held a.name t) ∷ [])) (sym before) (inl refl)

  module _ {D : Type 0} (b : Text) (o m : Option (List Event)) (w : Result (Unit {0}) D) where
    pub fills_write : (e : D) (r : Result (Unit {0}) ReplaceFault) (P : ReplaceFault → Type 0) → Asks writing o m w → w ≡ Err e
        → IsErrAnd r P → ((f : ReplaceFault) → P f → IsOther f) → Fills a b o m r
    fills_write e (Ok u) P asks is fault other = absurd fault
    fills_write e (Err f) P asks is fault other =
        let q : (es : List Event) × Stops writing es × (m ≡ more es o) = subst (λ (x : Result (Unit {0}) D). Asks writing o m x) is asks in
        (q.0, stops_more writing (naming b) q.0 q.1, why_other b q.0 f (other f fault), q.2)

    module _ (u : Unit {0}) (asks : Asks writing o m w) (is : w ≡ Ok u) where
      wrote_all : m ≡ more (all_done writing) o
      wrote_all = subst (λ (x : Result (Unit {0}) D). Asks writing o m x) is asks

      pub fills_compare : (n : Option (List Event)) (c : Result (Unit {0}) ReplaceFault) (e : ReplaceFault) (r : Result (Unit {0}) ReplaceFault)
          → Compares a m n c → c ≡ Err e → IsErrAnd r (λ f. f ≡ e) → Fills a b o n r
      fills_compare n c e (Ok v) compares fails fault = absurd fault
      fills_compare n c e (Err f) compares fails fault =
          let (other, t, before, q) = subst (λ (x : Result (Unit {0}) ReplaceFault). Compares a m n x) fails compares in
          let es : List Event = all_done writing ++ (failed (held a.name t) ∷ []) in (
            es,
            stops_after writing (naming b) (failed (held a.name t) ∷ []) (stops_comparing b t before),
            why_changed b t before f (λ h. other (sym fault ∙ h)),
            noted (all_done writing) (failed (held a.name t) ∷ []) o m n wrote_all q,
          )

      pub fills_rename : (k n : Option (List Event)) (c : Result (Unit {0}) ReplaceFault) (v : Unit {0}) {E : Type 0} (d : Result (Unit {0}) E) (e : E)
          (r : Result (Unit {0}) ReplaceFault) (P : ReplaceFault → Type 0) → Compares a m k c → c ≡ Ok v → Notes k n (renamed b a.name) d → d ≡ Err e
          → IsErrAnd r P → ((f : ReplaceFault) → P f → IsOther f) → Fills a b o n r
      fills_rename k n c v d e (Ok x) P compares works notes fails fault other = absurd fault
      fills_rename k n c v d e (Err f) P compares works notes fails fault other =
          let q : k ≡ more (all_done (compared a.name a.before)) m = subst (λ (x : Result (Unit {0}) ReplaceFault). Compares a m k x) works compares in
          let es : List Event = all_done writing ++ (all_done (compared a.name a.before) ++ (failed (renamed b a.name) ∷ [])) in (
            es,
            stops_after writing (naming b) _ (stops_after (compared a.name a.before) (renamed b a.name ∷ []) (failed (renamed b a.name) ∷ []) (inl refl)),
            why_other b es f (other f fault),
            noted (all_done writing) (all_done (compared a.name a.before) ++ (failed (renamed b a.name) ∷ [])) o m n wrote_all
                (noted (all_done (compared a.name a.before)) (failed (renamed b a.name) ∷ []) m k n q (failed_noted k n (renamed b a.name) d e notes fails)),
          )

  pub undoes : (b : Text) (o m n : Option (List Event)) (f r : Result (Unit {0}) ReplaceFault) (fault : ReplaceFault) → Fills a b o m f → f ≡ Err fault
      → Removes b m n → r ≡ Err fault → FillsBy a b o n r
  undoes b o m n f r fault fills is (d, q) told =
      let (es, stops, why, p) = subst (λ (x : Result (Unit {0}) ReplaceFault). Fills a b o m x) is fills in
      subst (λ (x : Result (Unit {0}) ReplaceFault). FillsBy a b o n x) (sym told)
      (inl (es, stops, why, d, noted es (record { call = removed b; is_done = d } ∷ []) o m n p q))

-- ---- the whole

module _ (a : Asked) where
  joined : (xs ys zs : List Event) (e : Event) → (xs ++ (ys ++ (e ∷ []))) ++ zs ≡ xs ++ (ys ++ (e ∷ zs))
  joined xs ys zs e = append_assoc xs (ys ++ (e ∷ [])) zs ∙ ap (λ es. xs ++ es) (append_assoc ys (e ∷ []) zs)

  then_noted : (ns : List Text) (b : Text) (o m n : Option (List Event)) (es : List Event) → m ≡ more (prepared a ++ (taken ns ++ (done (made b) ∷ []))) o
      → n ≡ more es m → n ≡ more (replacing a ns b es) o
  then_noted ns b o m n es p q =
      subst (λ (fs : List Event). n ≡ more fs o) (joined (prepared a) (taken ns) es (done (made b)))
      (noted (prepared a ++ (taken ns ++ (done (made b) ∷ []))) es o m n p q)

  why_undone : (ns : List Text) (b : Text) (fs : List Event) (d : Bool) (f : ReplaceFault) → AreOther a a.name (ns ++ (b ∷ [])) → IsWhyNot a b fs f
      → IsWhy a (undone a ns b fs d) f
  why_undone ns b fs d Changed apart why = (ns, b, apart, fs, why, d, refl)
  why_undone ns b fs d ReadOnly apart why = absurd why
  why_undone ns b fs d (Failed e) apart why = tt

  why_last : (es : List Event) (f : ReplaceFault) → f ≢ Changed → f ≢ ReadOnly → IsWhy a es f
  why_last es Changed fails other = absurd (fails refl)
  why_last es ReadOnly fails other = absurd (other refl)
  why_last es (Failed e) fails other = tt

  why_fails : (es : List Event) (f : ReplaceFault) → IsOther f → IsWhy a es f
  why_fails es Changed other = absurd other
  why_fails es ReadOnly other = absurd other
  why_fails es (Failed e) other = tt

  ended : (ns : List Text) (b : Text) (o m n : Option (List Event)) (r : Result (Unit {0}) ReplaceFault) → AreOther a a.name (ns ++ (b ∷ []))
      → m ≡ more (prepared a ++ (taken ns ++ (done (made b) ∷ []))) o → FillsBy a b m n r → Replaces a o n r
  ended ns b o m n (Ok u) apart p q =
      (replaced a ns b, (ns, b, apart, refl), then_noted ns b o m n (all_done (filling a b) ++ (done (synced_folder a.name) ∷ [])) p q)
  ended ns b o m n (Err f) apart p (inl (fs, stops, why, d, q)) = (
    undone a ns b fs d,
    inr (inr (inl (ns, b, apart, fs, stops, d, refl))),
    why_undone ns b fs d f apart why,
    then_noted ns b o m n (fs ++ (record { call = removed b; is_done = d } ∷ [])) p q,
  )
  ended ns b o m n (Err f) apart p (inr (not_changed, not_read_only, q)) = (
    replacing a ns b (all_done (filling a b) ++ (failed (synced_folder a.name) ∷ [])),
    inr (inr (inr (ns, b, apart, refl))),
    why_last (replacing a ns b (all_done (filling a b) ++ (failed (synced_folder a.name) ∷ []))) f not_changed not_read_only,
    then_noted ns b o m n (all_done (filling a b) ++ (failed (synced_folder a.name) ∷ [])) p q,
  )

  module _ (o j k : Option (List Event)) (c : Result (Unit {0}) ReplaceFault) (u : Unit {0}) (checks : Checks a o j c) (is : c ≡ Ok u)
      (clears : k ≡ more (done (cleared a.name) ∷ []) j) where
    prepared_all : k ≡ more (prepared a) o
    prepared_all =
        noted (checked a) (done (cleared a.name) ∷ []) o j k (subst (λ (x : Result (Unit {0}) ReplaceFault). Checks a o j x) is checks) clears

    module _ {A E : Type 0} (name : A → Text) (m : Option (List Event)) (made_it : Result A E) (makes : MakesOther a a.name name k m made_it) where
      pub replaces_none : (e : E) (r : Result (Unit {0}) ReplaceFault) (P : ReplaceFault → Type 0) → made_it ≡ Err e → IsErrAnd r P
          → ((f : ReplaceFault) → P f → IsOther f) → Replaces a o m r
      replaces_none e (Ok v) P fails fault other = absurd fault
      replaces_none e (Err f) P fails fault other =
          let (ns, apart, q) = subst (λ (x : Result A E). MakesOther a a.name name k m x) fails makes in
          (prepared a ++ taken ns, inr (inl (ns, apart, refl)), why_fails _ f (other f fault), noted (prepared a) (taken ns) o k m prepared_all q)

      pub replaces_end : (x : A) (t : Text) (n : Option (List Event)) (r : Result (Unit {0}) ReplaceFault) → made_it ≡ Ok x → t ≡ name x
          → FillsBy a t m n r → Replaces a o n r
      replaces_end x t n r works v fills =
          let (ns, apart, q) = subst (λ (y : Result A E). MakesOther a a.name name k m y) works makes in
          ended ns (name x) o m n r apart (noted (prepared a) (taken ns ++ (done (made (name x)) ∷ [])) o k m prepared_all q)
          (subst (λ (b : Text). FillsBy a b m n r) v fills)

  -- of a folder that tells its history, what holds of each run's calls holds of those of this one
  pub tells : (m n : List Event) (r : Result (Unit {0}) ReplaceFault) (P : List Event → Type 0) → Replaces a (Some m) (Some n) r
      → ((es : List Event) → IsReplaced a es ⊎ StopsReplacing a es → P es)
      → (known es : List Event) × (Some m ≡ Some known) × (Some n ≡ Some (known ++ es)) × P es
  tells m n (Ok u) P (es, is, told) holds = (m, es, refl, told, holds es (inl is))
  tells m n (Err f) P (es, is, why, told) holds = (m, es, refl, told, holds es (inr is))
