-- What a crash leaves while runs replace the file of one name.
use Rattle.std.proofs.Common.{◌≡◌, ◌≢◌, ◌⊎◌, ℕ, nat_eq, eqb, Bool, true, false, if◌then◌else◌, List, [], ◌∷◌, ◌++◌, Option, Some, None, inl, inr, refl, sym, ap, subst, ◌∙◌}
use Rattle.std.specs.Prelude.{bytes_eq, unwrap_or}
use Rattle.std.proofs.lemmas.Slice.Eq.{bytes_eq-Decides}
use Rattle.std.proofs.lemmas.Bool.Decides.{eqb_tells}
use Rattle.file_replace.specs.Crash.{File, first, of_run, any, Happening, asks, ends, sweeps, HoldsMade, HoldsOne, IsAllowed, IsNew, IsSafe, Made, Merges, State, Throughout, after, file_of, led, made_after, made_at, put, start, unmade}
use Rattle.file_replace.specs.Events.{Text, Call, Event, found, missing, listed, no_folder, leads_to, locked, cleared, writable, made, likened, wrote, synced, held, renamed, removed, synced_folder, done}
use Rattle.file_replace.specs.Replacing.{Asked, AreOther, IsReplaced, StopsReplacing, Stops, all_done, compared, filling, replacing, taken}

-- ---- numbers and names

choose : {A : Type 0} (P : A → Type 0) (b : Bool) (x y : A) → (b ≡ true → P x) → (b ≡ false → P y) → P (if b then x else y)
choose P true x y h k = h refl
choose P false x y h k = k refl

not-both : (b : Bool) → b ≡ true → b ≡ false → ⊥
not-both b h k = (let no : true ≡ false = sym h ∙ k in cc)

inside : {A : Type 0} (x y : A) → Some x ≡ Some y → x ≡ y
inside x y h = ap (λ o. unwrap_or o x) h

not-none : {A : Type 0} (x : A) (o : Option A) → o ≡ Some x → o ≡ None → ⊥
not-none x o h k = (let no : Some x ≡ None = sym h ∙ k in cc)

told : (q r : ℕ) → ((eqb q r ≡ true) × (q ≡ r)) ⊎ ((eqb q r ≡ false) × (q ≢ r)) → nat_eq q r ≡ true → q ≡ r
told q r (inl (h, e)) is = e
told q r (inr (h, e)) is = absurd (not-both (nat_eq q r) is h)

apart : (q r : ℕ) → ((eqb q r ≡ true) × (q ≡ r)) ⊎ ((eqb q r ≡ false) × (q ≢ r)) → nat_eq q r ≡ false → q ≢ r
apart q r (inl (h, e)) is = absurd (not-both (nat_eq q r) h is)
apart q r (inr (h, e)) is = e

put-elim : {A : Type 0} (P : A → Type 0) (q r : ℕ) (x : A) (f : ℕ → A) → (q ≡ r → P x) → (q ≢ r → P (f q)) → P (put r x f q)
put-elim P q r x f h k =
    choose P (nat_eq q r) x (f q) (λ is. h (told q r (eqb_tells q r) is)) (λ is. k (apart q r (eqb_tells q r) is))

choose-both : {A B : Type 0} (R : A → B → Type 0) (b : Bool) (x y : A) (v w : B) → (b ≡ true → R x v) → (b ≡ false → R y w)
    → R (if b then x else y) (if b then v else w)
choose-both R true x y v w h k = h refl
choose-both R false x y v w h k = k refl

put-both : {A B : Type 0} (R : A → B → Type 0) (q r : ℕ) (x : A) (f : ℕ → A) (v : B) (g : ℕ → B) → (q ≡ r → R x v) → R (f q) (g q)
    → R (put r x f q) (put r v g q)
put-both R q r x f v g h k = choose-both R (nat_eq q r) x (f q) v (g q) (λ is. h (told q r (eqb_tells q r) is)) (λ is. k)

named-other : (m n : Text) → m ≢ n → bytes_eq m n ≡ true → ⊥
named-other m n other is = other ((bytes_eq-Decides m n).0 is)

led-other : (n : Text) (x : Option ℕ) (f : Text → Option ℕ) (m : Text) → m ≢ n → led n x f m ≡ f m
led-other n x f m other = choose (λ y. y ≡ f m) (bytes_eq m n) x (f m) (λ is. absurd (named-other m n other is)) (λ is. refl)

led-same : (n : Text) (x : Option ℕ) (f : Text → Option ℕ) → led n x f n ≡ x
led-same n x f =
    choose (λ y. y ≡ x) (bytes_eq n n) x (f n) (λ is. refl) (λ is. absurd (not-both (bytes_eq n n) ((bytes_eq-Decides n n).1 refl) is))

-- ---- what holds of each state

abbrev GoodMade : Asked → Made → Type 0
GoodMade a m = (m.is_tried ≡ true) × (m.is_kept ≡ true) × (m.written ≡ Some a.text)

-- a file that the name may lead to is the first, or is on the disk and holds the text of its run
abbrev Good : (ℕ → Asked) → (ℕ → Made) → File → Type 0
Good asked ms first = Unit {0}
Good asked ms (of_run q) = GoodMade (asked q) (ms q)
Good asked ms any = ⊥

abbrev NotFirst : File → Type 0
NotFirst first = ⊥
NotFirst (of_run q) = Unit {0}
NotFirst any = Unit {0}

abbrev Each : (File → Type 0) → List File → Type 0
Each P [] = Unit {0}
Each P (f ∷ fs) = P f × Each P fs

each-map : (P Q : File → Type 0) → ((f : File) → P f → Q f) → (fs : List File) → Each P fs → Each Q fs
each-map P Q h [] e = tt
each-map P Q h (f ∷ fs) (p, e) = (h f p, each-map P Q h fs e)

record Holding (asked : ℕ → Asked) (name : Text) (s : State) : Type 0 where
  names : (q : ℕ) (b : Text) → (s.made q).name ≡ Some b → (b ≢ name) × (s.leads b ≡ Some q)
  now : Each (Good asked s.made) s.now
  later : Each (Good asked s.made) s.later
  named : (q : ℕ) → (s.made q).is_named ≡ true → Each NotFirst s.now
  over : (q : ℕ) → (s.made q).is_over ≡ true → Each NotFirst s.later
  both : (q : ℕ) → (s.made q).is_over ≡ true → (s.made q).is_named ≡ true

-- a call of a run that keeps this
abbrev Keeps : Asked → Made → Call → Bool → Type 0
Keeps a m (made b) true = (b ≢ a.name) × (m.is_tried ≡ false)
Keeps a m (wrote t) d = m.is_tried ≡ false
Keeps a m (renamed b n) d = (m.name ≡ Some b) × (n ≡ a.name) × (m.is_kept ≡ true) × (m.written ≡ Some a.text)
Keeps a m (removed b) d = m.name ≡ Some b
Keeps a m _ _ = Unit {0}

abbrev Runs : Asked → Made → List Event → Type 0
Runs a m [] = Unit {0}
Runs a m (e ∷ es) = Keeps a m e.call e.is_done × Runs a (made_after e.call e.is_done m) es

-- ---- a replacement keeps it

module _ (a : Asked) where
  abbrev end : Text → Bool → List Event
  end b d = record { call = removed b; is_done = d } ∷ []

  -- each of the calls may be done, or fail before the file is removed
  abbrev Robust : Text → Bool → Made → List Call → Type 0
  Robust b d m [] = Unit {0}
  Robust b d m (c ∷ cs) =
      Keeps a m c false × Keeps a (made_after c false m) (removed b) d × Keeps a m c true × Robust b d (made_after c true m) cs

  stops-runs : (b : Text) (d : Bool) (m : Made) (cs : List Call) (es : List Event) → Robust b d m cs → Stops cs es → Runs a m (es ++ end b d)
  stops-runs b d m [] es robust stops = absurd stops
  stops-runs b d m (c ∷ cs) es (k, l, n, robust) (inl is) = subst (λ gs. Runs a m (gs ++ end b d)) (sym is) (k, (l, tt))
  stops-runs b d m (c ∷ cs) es (k, l, n, robust) (inr (fs, stops, is)) =
      subst (λ gs. Runs a m (gs ++ end b d)) (sym is) (n, stops-runs b d (made_after c true m) cs fs robust stops)

  abbrev begun : Text → Made
  begun b = made_after (made b) true unmade

  abbrev filled : Text → Made
  filled b = made_after synced true (made_after (wrote a.text) true (begun b))

  naming : (b : Text) (d : Bool) (before : Option Text) → Robust b d (filled b) (compared a.name before ++ (renamed b a.name ∷ []))
  naming b d None = ((refl, refl, refl, refl), refl, (refl, refl, refl, refl), tt)
  naming b d (Some t) = (tt, refl, tt, ((refl, refl, refl, refl), refl, (refl, refl, refl, refl), tt))

  robust : (b : Text) (d : Bool) → Robust b d (begun b) (filling a b)
  robust b d = (tt, refl, tt, (refl, refl, refl, (tt, refl, tt, naming b d a.before)))

  named-runs : (b : Text) (d : Bool) (before : Option Text)
      → Runs a (filled b) (all_done (compared a.name before ++ (renamed b a.name ∷ [])) ++ (record { call = synced_folder a.name; is_done = d } ∷ []))
  named-runs b d None = ((refl, refl, refl, refl), (tt, tt))
  named-runs b d (Some t) = (tt, ((refl, refl, refl, refl), (tt, tt)))

  whole-runs : (b : Text) (d : Bool) → Runs a (begun b) (all_done (filling a b) ++ (record { call = synced_folder a.name; is_done = d } ∷ []))
  whole-runs b d = (tt, (refl, (tt, named-runs b d a.before)))

  taken-runs : (ns : List Text) (es : List Event) → Runs a unmade es → Runs a unmade (taken ns ++ es)
  taken-runs [] es h = h
  taken-runs (n ∷ ns) es h = (tt, taken-runs ns es h)

  prepared-runs : (force : Bool) (es : List Event) → Runs a unmade es
      → Runs a unmade (((if force then [] else (done (writable a.name) ∷ [])) ++ (done (cleared a.name) ∷ [])) ++ es)
  prepared-runs true es h = (tt, h)
  prepared-runs false es h = (tt, (tt, h))

  other : (b : Text) (last : Text) (ns : List Text) → AreOther a last (ns ++ (b ∷ [])) → b ≢ a.name
  other b last [] (h, i, j) = h
  other b last (n ∷ ns) (h, i, j) = other b n ns j

  replacing-runs : (ns : List Text) (b : Text) (es : List Event) → AreOther a a.name (ns ++ (b ∷ [])) → Runs a (begun b) es
      → Runs a unmade (replacing a ns b es)
  replacing-runs ns b es apart h =
      prepared-runs a.force (taken ns ++ (done (made b) ∷ es)) (taken-runs ns (done (made b) ∷ es) ((other b a.name ns apart, refl), h))

  taken-alone : (ns : List Text) → Runs a unmade (taken ns)
  taken-alone [] = tt
  taken-alone (n ∷ ns) = (tt, taken-alone ns)

  runs : (es : List Event) → IsReplaced a es ⊎ StopsReplacing a es → Runs a unmade es
  runs es (inl (ns, b, apart, is)) = subst (Runs a unmade) (sym is) (replacing-runs ns b _ apart (whole-runs b true))
  runs es (inr (inl (other, is))) = subst (Runs a unmade) (sym is) (tt, tt)
  runs es (inr (inr (inl (ns, apart, is)))) = subst (Runs a unmade) (sym is) (prepared-runs a.force (taken ns) (taken-alone ns))
  runs es (inr (inr (inr (inl (ns, b, apart, fs, stops, d, is))))) =
      subst (Runs a unmade) (sym is) (replacing-runs ns b _ apart (stops-runs b d (begun b) (filling a b) fs (robust b d) stops))
  runs es (inr (inr (inr (inr (ns, b, apart, is))))) = subst (Runs a unmade) (sym is) (replacing-runs ns b _ apart (whole-runs b false))

  -- one that is done is over
  named-over : (b : Text) (before : Option Text)
      → (made_at (filled b) (all_done (compared a.name before ++ (renamed b a.name ∷ [])) ++ (done (synced_folder a.name) ∷ []))).is_over ≡ true
  named-over b None = refl
  named-over b (Some t) = refl

  taken-at : (ns : List Text) (es : List Event) → made_at unmade (taken ns ++ es) ≡ made_at unmade es
  taken-at [] es = refl
  taken-at (n ∷ ns) es = taken-at ns es

  prepared-at : (force : Bool) (es : List Event)
      → made_at unmade (((if force then [] else (done (writable a.name) ∷ [])) ++ (done (cleared a.name) ∷ [])) ++ es) ≡ made_at unmade es
  prepared-at true es = refl
  prepared-at false es = refl

  pub ends-over : (es : List Event) → IsReplaced a es → (made_at unmade es).is_over ≡ true
  ends-over es (ns, b, apart, is) =
      ap (λ (fs : List Event). (made_at unmade fs).is_over) is
      ∙ ap (λ (m : Made). m.is_over) (prepared-at a.force _ ∙ taken-at ns (done (made b) ∷ (all_done (filling a b) ++ (done (synced_folder a.name) ∷ []))))
      ∙ named-over b a.before

-- ---- each happening keeps it

module _ (asked : ℕ → Asked) (name : Text) (same : (q : ℕ) → (asked q).name ≡ name) where
  good-put : (ms : ℕ → Made) (r : ℕ) (m : Made) → (GoodMade (asked r) (ms r) → GoodMade (asked r) m) → (f : File) → Good asked ms f
      → Good asked (put r m ms) f
  good-put ms r m keep first g = tt
  good-put ms r m keep (of_run q) g =
      put-elim (λ (x : Made). GoodMade (asked q) x) q r m ms
      (λ is. subst (λ (p : ℕ). GoodMade (asked p) m) (sym is) (keep (subst (λ (p : ℕ). GoodMade (asked p) (ms p)) is g))) (λ other. g)
  good-put ms r m keep any g = g

  names-put : (ms : ℕ → Made) (r : ℕ) (m : Made) (leads changed : Text → Option ℕ)
      → ((q : ℕ) (b : Text) → (ms q).name ≡ Some b → (b ≢ name) × (leads b ≡ Some q))
      → ((q : ℕ) (b : Text) → q ≢ r → leads b ≡ Some q → (ms q).name ≡ Some b → changed b ≡ Some q)
      → ((b : Text) → m.name ≡ Some b → (b ≢ name) × (changed b ≡ Some r))
      → (q : ℕ) (b : Text) → (put r m ms q).name ≡ Some b → (b ≢ name) × (changed b ≡ Some q)
  names-put ms r m leads changed names others own q b =
      put-elim (λ (x : Made). x.name ≡ Some b → (b ≢ name) × (changed b ≡ Some q)) q r m ms
      (λ is. subst (λ (p : ℕ). m.name ≡ Some b → (b ≢ name) × (changed b ≡ Some p)) (sym is) (own b))
      (λ other h. ((names q b h).0, others q b other (names q b h).1 h))

  remade : (s : State) (r : ℕ) (m : Made) (changed : Text → Option ℕ) → Holding asked name s
      → ((q : ℕ) (b : Text) → q ≢ r → s.leads b ≡ Some q → (s.made q).name ≡ Some b → changed b ≡ Some q)
      → ((b : Text) → m.name ≡ Some b → (b ≢ name) × (changed b ≡ Some r))
      → (GoodMade (asked r) (s.made r) → GoodMade (asked r) m)
      → (m.is_named ≡ true → (s.made r).is_named ≡ true) → (m.is_over ≡ true → (s.made r).is_over ≡ true)
      → (m.is_over ≡ true → m.is_named ≡ true)
      → Holding asked name (record s { made = put r m s.made; leads = changed })
  remade s r m changed h others own good named over both = record {
    names = names-put s.made r m s.leads changed h.names others own;
    now = each-map (Good asked s.made) (Good asked (put r m s.made)) (good-put s.made r m good) s.now h.now;
    later = each-map (Good asked s.made) (Good asked (put r m s.made)) (good-put s.made r m good) s.later h.later;
    named = λ q. put-elim (λ (x : Made). x.is_named ≡ true → Each NotFirst s.now) q r m s.made (λ is f. h.named r (named f)) (λ other. h.named q);
    over = λ q. put-elim (λ (x : Made). x.is_over ≡ true → Each NotFirst s.later) q r m s.made (λ is f. h.over r (over f)) (λ other. h.over q);
    both = λ q. put-elim (λ (x : Made). x.is_over ≡ true → x.is_named ≡ true) q r m s.made (λ is. both) (λ other. h.both q);
  }

  -- a call that changes nothing of this
  quiet : (s : State) (r : ℕ) → Holding asked name s → Holding asked name (record s { made = put r (s.made r) s.made })
  quiet s r h = remade s r (s.made r) s.leads h (λ q b other l n. l) (h.names r) (λ g. g) (λ f. f) (λ f. f) (h.both r)

  -- another run's name stays where this one is taken away
  others-stay : (s : State) (r : ℕ) (b : Text) → s.leads b ≡ Some r → (q : ℕ) (c : Text) → q ≢ r → s.leads c ≡ Some q
      → (s.made q).name ≡ Some c → led b None s.leads c ≡ Some q
  others-stay s r b mine q c other l n =
      led-other b None s.leads c (λ is. other (inside q r (sym l ∙ ap s.leads is ∙ mine))) ∙ l

  wrote-keeps : (s : State) (r : ℕ) (w : Option Text) → Holding asked name s → (s.made r).is_tried ≡ false
      → Holding asked name (record s { made = put r (record (s.made r) { written = w; is_kept = false }) s.made })
  wrote-keeps s r w h other =
      remade s r (record (s.made r) { written = w; is_kept = false }) s.leads h (λ q b other l n. l) (h.names r)
      (λ g. absurd (not-both (s.made r).is_tried g.0 other)) (λ f. f) (λ f. f) (h.both r)

  gone-keeps : (s : State) (r : ℕ) (b : Text) → Holding asked name s → (s.made r).name ≡ Some b
      → Holding asked name (record s { made = put r (record (s.made r) { name = None }) s.made; leads = led b None s.leads })
  gone-keeps s r b h is =
      remade s r (record (s.made r) { name = None }) (led b None s.leads) h (others-stay s r b (h.names r b is).1)
      (λ c n. absurd (not-none c None n refl)) (λ g. g) (λ f. f) (λ f. f) (h.both r)

  -- a run's file may have the name from now on
  given : (s : State) (r : ℕ) (m : Made) (changed : Text → Option ℕ) (now : List File) → Holding asked name s → GoodMade (asked r) m
      → ((q : ℕ) (b : Text) → q ≢ r → s.leads b ≡ Some q → (s.made q).name ≡ Some b → changed b ≡ Some q)
      → ((b : Text) → m.name ≡ Some b → (b ≢ name) × (changed b ≡ Some r))
      → Each (Good asked (put r m s.made)) now → ((q : ℕ) → (put r m s.made q).is_named ≡ true → Each NotFirst now)
      → (m.is_over ≡ true → (s.made r).is_over ≡ true) → (m.is_over ≡ true → m.is_named ≡ true)
      → Holding asked name (record { made = put r m s.made; leads = changed; now = of_run r ∷ now; later = of_run r ∷ s.later })
  given s r m changed now h good others own each named over both =
      let here : GoodMade (asked r) (put r m s.made r) =
      put-elim (λ (x : Made). GoodMade (asked r) x) r r m s.made (λ is. good) (λ other. absurd (other refl)) in
      record {
        names = names-put s.made r m s.leads changed h.names others own;
        now = (here, each);
        later = (here, each-map (Good asked s.made) (Good asked (put r m s.made)) (good-put s.made r m (λ g. good)) s.later h.later);
        named = λ q f. (tt, named q f);
        over = λ q f. (tt, put-elim (λ (x : Made). x.is_over ≡ true → Each NotFirst s.later) q r m s.made (λ is g. h.over r (over g)) (λ other. h.over q) f);
        both = λ q. put-elim (λ (x : Made). x.is_over ≡ true → x.is_named ≡ true) q r m s.made (λ is. both) (λ other. h.both q);
      }

  tried-keeps : (s : State) (r : ℕ) (b : Text) → Holding asked name s
      → (s.made r).is_kept ≡ true → (s.made r).written ≡ Some (asked r).text
      → Holding asked name (record s { made = put r (record (s.made r) { is_tried = true }) s.made; now = of_run r ∷ s.now; later = of_run r ∷ s.later })
  tried-keeps s r b h kept text =
      let m : Made = record (s.made r) { is_tried = true } in
      given s r m s.leads s.now h (refl, kept, text) (λ q b other l n. l) (h.names r)
      (each-map (Good asked s.made) (Good asked (put r m s.made)) (good-put s.made r m (λ g. (refl, g.1, g.2))) s.now h.now)
      (λ q. put-elim (λ (x : Made). x.is_named ≡ true → Each NotFirst s.now) q r m s.made (λ is. h.named r) (λ other. h.named q))
      (λ f. f) (h.both r)

  named-keeps : (s : State) (r : ℕ) (b : Text) → Holding asked name s → (s.made r).name ≡ Some b
      → (s.made r).is_kept ≡ true → (s.made r).written ≡ Some (asked r).text
      → Holding asked name (record {
        made = put r (record (s.made r) { name = None; is_tried = true; is_named = true }) s.made;
        leads = led b None s.leads;
        now = of_run r ∷ [];
        later = of_run r ∷ s.later;
      })
  named-keeps s r b h is kept text =
      given s r (record (s.made r) { name = None; is_tried = true; is_named = true }) (led b None s.leads) [] h (refl, kept, text)
      (others-stay s r b (h.names r b is).1) (λ c n. absurd (not-none c None n refl)) tt (λ q f. tt) (λ f. f) (λ f. refl)

  synced-keeps : (s : State) (r : ℕ) → Holding asked name s
      → Holding asked name (record s { made = put r (record (s.made r) { is_over = (s.made r).is_named }) s.made; later = s.now })
  synced-keeps s r h =
      let m : Made = record (s.made r) { is_over = (s.made r).is_named } in
      let each : Each (Good asked (put r m s.made)) s.now =
      each-map (Good asked s.made) (Good asked (put r m s.made)) (good-put s.made r m (λ g. g)) s.now h.now in
      record {
        names = names-put s.made r m s.leads s.leads h.names (λ q b other l n. l) (h.names r);
        now = each;
        later = each;
        named = λ q. put-elim (λ (x : Made). x.is_named ≡ true → Each NotFirst s.now) q r m s.made (λ is. h.named r) (λ other. h.named q);
        over = λ q. put-elim (λ (x : Made). x.is_over ≡ true → Each NotFirst s.now) q r m s.made (λ is. h.named r) (λ other f. h.named q (h.both q f));
        both = λ q. put-elim (λ (x : Made). x.is_over ≡ true → x.is_named ≡ true) q r m s.made (λ is f. f) (λ other. h.both q);
      }

  made-keeps : (s : State) (r : ℕ) (b : Text) → Holding asked name s → b ≢ name → (s.made r).is_tried ≡ false → s.leads b ≡ None
      → Holding asked name (record s { made = put r (record unmade { name = Some b; written = Some [] }) s.made; leads = led b (Some r) s.leads })
  made-keeps s r b h apart other free =
      remade s r (record unmade { name = Some b; written = Some [] }) (led b (Some r) s.leads) h
      (λ q c other l n. led-other b (Some r) s.leads c (λ is. not-none q (s.leads c) l (ap s.leads is ∙ free)) ∙ l)
      (λ c n. subst (λ (x : Text). (x ≢ name) × (led b (Some r) s.leads x ≡ Some r)) (inside b c n) (apart, led-same b (Some r) s.leads))
      (λ g. absurd (not-both (s.made r).is_tried g.0 other)) (λ f. absurd (not-both false f refl)) (λ f. absurd (not-both false f refl))
      (λ f. absurd (not-both false f refl))

  -- where the name is another, or this one
  elsewhere : (n : Text) (P : State → Type 0) (x y : State) → n ≢ name → P y → P (if bytes_eq n name then x else y)
  elsewhere n P x y other p = choose P (bytes_eq n name) x y (λ is. absurd (named-other n name other is)) (λ is. p)

  here : (n : Text) (P : State → Type 0) (x y : State) → n ≡ name → P x → P (if bytes_eq n name then x else y)
  here n P x y is p = choose P (bytes_eq n name) x y (λ yes. p) (λ other. absurd (not-both (bytes_eq n name) ((bytes_eq-Decides n name).1 is) other))

  step : (s : State) (r : ℕ) (c : Call) (d : Bool) → Holding asked name s → Keeps (asked r) (s.made r) c d
      → IsAllowed name s (asks r (record { call = c; is_done = d })) → Holding asked name (after name (asks r (record { call = c; is_done = d })) s)
  step s r (found n t) d h k free = quiet s r h
  step s r (missing n) d h k free = quiet s r h
  step s r (listed n ns) d h k free = quiet s r h
  step s r (no_folder n) d h k free = quiet s r h
  step s r (leads_to n t) d h k free = quiet s r h
  step s r (locked n) d h k free = quiet s r h
  step s r (writable n) d h k free = quiet s r h
  step s r (cleared n) d h k free = quiet s r h
  step s r (made b) true h (apart, other) free =
      elsewhere b (λ (t : State). Holding asked name (record t { made = put r (record unmade { name = Some b; written = Some [] }) s.made })) _ _
      (subst (λ (n : Text). b ≢ n) (same r) apart)
      (made-keeps s r b h (subst (λ (n : Text). b ≢ n) (same r) apart) other (free b refl refl))
  step s r (made b) false h k free = quiet s r h
  step s r (likened n f) d h k free = quiet s r h
  step s r (wrote t) true h k free = wrote-keeps s r _ h k
  step s r (wrote t) false h k free = wrote-keeps s r None h k
  step s r synced true h k free =
      remade s r (record (s.made r) { is_kept = true }) s.leads h (λ q b other l n. l) (h.names r) (λ g. (g.0, refl, g.2)) (λ f. f) (λ f. f) (h.both r)
  step s r synced false h k free = quiet s r h
  step s r (held n t) d h k free = quiet s r h
  step s r (renamed b n) true h (is, to, kept, text) free =
      here n (λ (t : State). Holding asked name (record t { made = put r (record (s.made r) { name = None; is_tried = true; is_named = true }) s.made })) _ _
      (to ∙ same r)
      (subst (λ (l : Option ℕ). Holding asked name (record {
        made = put r (record (s.made r) { name = None; is_tried = true; is_named = true }) s.made;
        leads = led b None s.leads;
        now = file_of l ∷ [];
        later = file_of l ∷ s.later;
      }))
      (sym (h.names r b is).1) (named-keeps s r b h is kept text))
  step s r (renamed b n) false h (is, to, kept, text) free =
      here n (λ (t : State). Holding asked name (record t { made = put r (record (s.made r) { is_tried = true }) s.made })) _ _ (to ∙ same r)
      (subst (λ (l : Option ℕ). Holding asked name (record s {
        made = put r (record (s.made r) { is_tried = true }) s.made;
        now = file_of l ∷ s.now;
        later = file_of l ∷ s.later;
      }))
      (sym (h.names r b is).1) (tried-keeps s r b h kept text))
  step s r (removed b) d h is free =
      elsewhere b (λ (t : State). Holding asked name (record t { made = put r (record (s.made r) { name = None }) s.made })) _ _
      (h.names r b is).0 (gone-keeps s r b h is)
  step s r (synced_folder n) true h k free = synced-keeps s r h
  step s r (synced_folder n) false h k free = quiet s r h

  swept : (s : State) (n : Text) → Holding asked name s → n ≢ name → ((q : ℕ) → (s.made q).name ≢ Some n)
      → Holding asked name (after name (sweeps n) s)
  swept s n h other free =
      elsewhere n (λ (t : State). Holding asked name t) _ _ other
      (record {
        names = λ q b is. (
          (h.names q b is).0,
          led-other n None s.leads b (λ e. free q (is ∙ ap (λ (x : Text). Some x) e)) ∙ (h.names q b is).1,
        );
        now = h.now;
        later = h.later;
        named = h.named;
        over = h.over;
        both = h.both;
      })

  ended : (s : State) (r : ℕ) → Holding asked name s → Holding asked name (after name (ends r) s)
  ended s r h =
      remade s r (record (s.made r) { name = None }) s.leads h (λ q b other l n. l) (λ b n. absurd (not-none b None n refl)) (λ g. g) (λ f. f)
      (λ f. f) (h.both r)

  -- ---- what a crash leaves

  module _ (old : Option Text) where
    holds-text : (m : Made) (a : Asked) (c : Option Text) → GoodMade a m → HoldsMade m.is_kept m.written c → c ≡ Some a.text
    holds-text m a c (tried, kept, text) h =
        subst (λ (w : Option Text). HoldsMade true w c) text (subst (λ (k : Bool). HoldsMade k m.written c) kept h)

    whole : (s : State) (fs : List File) → Each (Good asked s.made) fs → (c : Option Text) → HoldsOne old s fs c → (c ≡ old) ⊎ IsNew asked c
    whole s [] g c h = absurd h
    whole s (first ∷ fs) (g, gs) c (inl h) = inl h
    whole s (first ∷ fs) (g, gs) c (inr h) = whole s fs gs c h
    whole s (of_run q ∷ fs) (g, gs) c (inl h) = inr (q, holds-text (s.made q) (asked q) c g h)
    whole s (of_run q ∷ fs) (g, gs) c (inr h) = whole s fs gs c h
    whole s (any ∷ fs) (g, gs) c h = absurd g

    new : (s : State) (fs : List File) → Each (Good asked s.made) fs → Each NotFirst fs → (c : Option Text) → HoldsOne old s fs c → IsNew asked c
    new s [] g n c h = absurd h
    new s (first ∷ fs) g (n, ns) c h = absurd n
    new s (of_run q ∷ fs) (g, gs) (n, ns) c (inl h) = (q, holds-text (s.made q) (asked q) c g h)
    new s (of_run q ∷ fs) (g, gs) (n, ns) c (inr h) = new s fs gs ns c h
    new s (any ∷ fs) (g, gs) n c h = absurd g

    safe-now : (s : State) → Holding asked name s → IsSafe asked old s
    safe-now s h = record { whole = whole s s.later h.later; new = λ r f. new s s.later h.later (h.over r f) }

    swept-runs : (s : State) (n : Text) (rest : ℕ → List Event) → ((q : ℕ) → Runs (asked q) (s.made q) (rest q)) → n ≢ name
        → (q : ℕ) → Runs (asked q) ((after name (sweeps n) s).made q) (rest q)
    swept-runs s n rest runs other q =
        elsewhere n (λ (t : State). Runs (asked q) (t.made q) (rest q)) _ _ other (runs q)

    safe : (hs : List Happening) (s : State) (rest : ℕ → List Event) → Holding asked name s
        → ((q : ℕ) → Runs (asked q) (s.made q) (rest q)) → Merges rest hs → Throughout name (IsSafe asked old) s hs
    safe [] s rest h runs merges = safe-now s h
    safe (asks r e ∷ hs) s rest h runs (es, is, merges) =
        let mine : Runs (asked r) (s.made r) (e ∷ es) = subst (Runs (asked r) (s.made r)) is (runs r) in (
          safe-now s h,
          λ free. safe hs (after name (asks r e) s) (put r es rest) (step s r e.call e.is_done h mine.0 free)
              (λ q. put-both (λ (m : Made) (gs : List Event). Runs (asked q) m gs) q r (made_after e.call e.is_done (s.made r)) s.made es rest
              (λ same. subst (λ (p : ℕ). Runs (asked p) (made_after e.call e.is_done (s.made r)) es) (sym same) mine.1) (runs q)) merges,
        )
    safe (ends r ∷ hs) s rest h runs merges = (
      safe-now s h,
      λ free. safe hs (after name (ends r) s) (put r [] rest) (ended s r h)
          (λ q. put-both (λ (m : Made) (gs : List Event). Runs (asked q) m gs) q r (record (s.made r) { name = None }) s.made [] rest (λ same. tt) (runs q))
          merges,
    )
    safe (sweeps n ∷ hs) s rest h runs merges =
        (safe-now s h, λ free. safe hs (after name (sweeps n) s) rest (swept s n h free.0 free.1) (swept-runs s n rest runs free.0) merges)

pub crash-safe : (asked : ℕ → Asked) (name : Text) (old : Option Text) (rest : ℕ → List Event) (hs : List Happening)
    → ((q : ℕ) → (asked q).name ≡ name) → ((q : ℕ) → IsReplaced (asked q) (rest q) ⊎ StopsReplacing (asked q) (rest q))
    → Merges rest hs → Throughout name (IsSafe asked old) start hs
crash-safe asked name old rest hs same each merges =
    safe asked name same old hs start rest
    (record {
      names = λ q b is. absurd (not-none b None is refl);
      now = (tt, tt);
      later = (tt, tt);
      named = λ q f. absurd (not-both false f refl);
      over = λ q f. absurd (not-both false f refl);
      both = λ q f. absurd (not-both false f refl);
    })
    (λ q. runs (asked q) (rest q) (each q)) merges
