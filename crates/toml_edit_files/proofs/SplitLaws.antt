-- The words of a command, one after another.
use Rattle.std.proofs.Common.{◌≡◌, ◌≤◌, ◌<◌, ◌==◌, ◌+◌, ◌-◌, ◌∙◌, refl, sym, ap, subst, cond, Bool, true, false, ◌&&◌, ◌||◌, ℕ, suc, List, [], ◌∷◌, ◌++◌, drop, get_or, length, map, nat_lt, Bor, Option, Some, None, inl, inr, arith}
use Rattle.std.proofs.lemmas.Bool.{eqb-true}
use Rattle.std.proofs.lemmas.List.{at_drop_all, at_drop_more}
use Rattle.std.specs.Prelude.{Result, Ok, Err, IfErr, bytes_eq, codes, is_none, is_some, option_and_then}
use Rattle.std.specs.Option.{option_copied}
use Rattle.toml_edit_model.specs.Text.{Text, is_empty}
use Rattle.toml_edit_files.specs.Split.{Words, begins, following, is_flag, is_plain, is_refused, last_from, no_words, split_of, step, steps, takes, takes_operand}
use Rattle.toml_edit_files.specs.Stops.{IsFor, IsMistaken, reason_of}
use Rattle.toml_edit_files.specs.declared.help.Topic.{Topic}
use Rattle.toml_edit_files.specs.declared.split.Split.{Split}
use Rattle.toml_edit_files.specs.declared.stop.Reason.{Reason}
use Rattle.toml_edit_files.specs.declared.stop.Reason.TheVariants.{No, Mistaken, Failed, Refused, Locked}
use Rattle.toml_edit_files.specs.declared.stop.Stop.{Stop}

pub map-more : {A B : Type 0} (f : A → B) (xs : List A) (x : A) → map f (xs ++ (x ∷ [])) ≡ map f xs ++ (f x ∷ [])
map-more f [] x = refl
map-more f (y ∷ xs) x = ap (λ l. f y ∷ l) (map-more f xs x)

-- memory ran out
pub by-memory : {A : Type 0} (Why : Type 0) (r : Result A Stop) → IfErr r (λ stop. reason_of stop ≡ None)
    → IfErr r (λ stop. IsMistaken Why (reason_of stop))
by-memory Why (Ok x) h = tt
by-memory Why (Err stop) h = subst (IsMistaken Why) (sym h) tt

-- the words are mistaken
pub by-mistake : (Why : Type 0) (why : Option Reason) → Why → IsFor Mistaken why → IsMistaken Why why
by-mistake Why None so is = tt
by-mistake Why (Some Mistaken) so is = so
by-mistake Why (Some No) so (inl is) = absurd (let no : Some No ≡ None = is in cc)
by-mistake Why (Some No) so (inr is) = absurd (let no : Some No ≡ Some Mistaken = is in cc)
by-mistake Why (Some Failed) so (inl is) = absurd (let no : Some Failed ≡ None = is in cc)
by-mistake Why (Some Failed) so (inr is) = absurd (let no : Some Failed ≡ Some Mistaken = is in cc)
by-mistake Why (Some Refused) so (inl is) = absurd (let no : Some Refused ≡ None = is in cc)
by-mistake Why (Some Refused) so (inr is) = absurd (let no : Some Refused ≡ Some Mistaken = is in cc)
by-mistake Why (Some Locked) so (inl is) = absurd (let no : Some Locked ≡ None = is in cc)
by-mistake Why (Some Locked) so (inr is) = absurd (let no : Some Locked ≡ Some Mistaken = is in cc)

pub mistaken-for : (A B : Type 0) (why : Option Reason) → (A → B) → IsMistaken A why → IsMistaken B why
mistaken-for A B None f h = tt
mistaken-for A B (Some Mistaken) f h = f h
mistaken-for A B (Some No) f h = h
mistaken-for A B (Some Failed) f h = h
mistaken-for A B (Some Refused) f h = h
mistaken-for A B (Some Locked) f h = h

module _ (topic : Topic) (s : Words) (w : Text) where
  -- the operand of an option
  pub of-option : (name : Text) → s.pending ≡ Some name
      → step topic s w ≡ Some (record s { options = s.options ++ ((name, w) ∷ []); pending = None })
  of-option name is = ap (λ p. takes topic s w p (is_plain s)) is

  -- a word that is none
  abbrev taken : Option Words
  taken = takes topic s w None (is_plain s)

  pub of-word : s.pending ≡ None → step topic s w ≡ takes topic s w None (is_plain s)
  of-word is = ap (λ p. takes topic s w p (is_plain s)) is

  -- a word that is no option, whatever it is
  pub plain : is_plain s ≡ true → taken ≡ Some (record s { operands = s.operands ++ (w ∷ []); left = s.left - 1 })
  plain is = ap (λ b. takes topic s w None b) is

  module _ (free : is_plain s ≡ false) where
    abbrev operand : Option Words
    operand = Some (record s { operands = s.operands ++ (w ∷ []); left = following topic (is_empty s.operands) w })

    abbrev checked : Option Words
    checked = cond (is_refused topic s w) None operand

    abbrev wanting : Option Words
    wanting = cond (takes_operand topic w) (Some (record s { pending = Some w })) checked

    abbrev flagged : Option Words
    flagged = cond (is_flag topic w) (Some (record s { options = s.options ++ ((w, []) ∷ []) })) wanting

    begun : taken ≡ cond (bytes_eq w (codes "--")) (Some (record s { ended = true })) flagged
    begun = ap (λ b. takes topic s w None b) free

    pub ends : bytes_eq w (codes "--") ≡ true → taken ≡ Some (record s { ended = true })
    ends is = begun ∙ ap (λ b. cond b (Some (record s { ended = true })) flagged) is

    module _ (no : bytes_eq w (codes "--") ≡ false) where
      past : taken ≡ flagged
      past = begun ∙ ap (λ b. cond b (Some (record s { ended = true })) flagged) no

      pub flag : is_flag topic w ≡ true → taken ≡ Some (record s { options = s.options ++ ((w, []) ∷ []) })
      flag is = past ∙ ap (λ b. cond b (Some (record s { options = s.options ++ ((w, []) ∷ []) })) wanting) is

      module _ (not_flag : is_flag topic w ≡ false) where
        past_flag : taken ≡ wanting
        past_flag = past ∙ ap (λ b. cond b (Some (record s { options = s.options ++ ((w, []) ∷ []) })) wanting) not_flag

        pub wants : takes_operand topic w ≡ true → taken ≡ Some (record s { pending = Some w })
        wants is = past_flag ∙ ap (λ b. cond b (Some (record s { pending = Some w })) checked) is

        module _ (takes_none : takes_operand topic w ≡ false) where
          last : taken ≡ checked
          last = past_flag ∙ ap (λ b. cond b (Some (record s { pending = Some w })) checked) takes_none

          pub no-option : is_refused topic s w ≡ true → taken ≡ None
          no-option is = last ∙ ap (λ b. cond b None operand) is

          pub word : is_refused topic s w ≡ false → taken ≡ operand
          word is = last ∙ ap (λ b. cond b None operand) is

-- ---- all words

module _ (topic : Topic) where
  pub steps-on : (s next : Words) (w : Text) (ws : List Text) → step topic s w ≡ Some next → steps topic s (w ∷ ws) ≡ steps topic next ws
  steps-on s next w ws is = ap (λ o. option_and_then (λ t. steps topic t ws) o) is

  pub steps-none : (s : Words) (w : Text) (ws : List Text) → step topic s w ≡ None → steps topic s (w ∷ ws) ≡ None
  steps-none s w ws is = ap (λ o. option_and_then (λ t. steps topic t ws) o) is

  pub steps-end : (s : Words) → s.pending ≡ None → steps topic s [] ≡ Some s
  steps-end s is = ap (λ (p : Option Text). cond (is_none p) (Some s) None) is

  pub steps-want : (s : Words) → is_none s.pending ≡ false → steps topic s [] ≡ None
  steps-want s is = ap (λ b. cond b (Some s) None) is

-- whether an option wants its operand
pub still-wants : (o : Option (Bor Text)) → is_some o ≡ true → is_none (option_copied o) ≡ false
still-wants None is = absurd (let e : false ≡ true = is in cc)
still-wants (Some t) is = refl

pub not-wanting : (o : Option (Bor Text)) → is_some o ≡ false → option_copied o ≡ None
not-wanting None is = refl
not-wanting (Some t) is = absurd (let e : true ≡ false = is in cc)

-- ---- whether there is an operand

pub not-empty : (n : ℕ) (b : Bool) → b ≡ (suc n == 0) → b ≡ false
not-empty n true is = let no = eqb-true (suc n) 0 (sym is) in absurd (omega (arith, no))
not-empty n false is = refl

pub empty-so : {A B : Type 0} (f : A → B) (xs : List A) (b : Bool) → b ≡ (length xs == 0) → b ≡ is_empty (map f xs)
empty-so f [] b is = is
empty-so f (x ∷ xs) b is = not-empty (length xs) b is

-- ---- the next of a list

-- what is made of the elements to come
pub next-of : {A B : Type 0} (f : A → B) (xs : List A) (i : ℕ) (x : A) → i < length xs → x ≡ get_or xs i x
    → map f (drop i xs) ≡ f x ∷ map f (drop (i + 1) xs)
next-of f xs i x within is = at_drop_more (map f) xs i x within ∙ ap (λ y. f y ∷ map f (drop (i + 1) xs)) (sym is)

pub none-of : {A B : Type 0} (f : A → B) (xs : List A) (i : ℕ) → length xs ≤ i → map f (drop i xs) ≡ []
none-of f xs i past = at_drop_all (map f) xs i past

-- so it is where the next one is read with a default
pub next-at : {A B : Type 0} (f : A → B) (xs : List A) (i : ℕ) (d : A) → i < length xs
    → map f (drop i xs) ≡ f (get_or xs i d) ∷ map f (drop (i + 1) xs)
next-at f xs i d within = at_drop_more (map f) xs i d within

-- ---- the last operand of an option

module _ (last : Option Text) (name : Text) (o : Text × Text) (os : List (Text × Text)) where
  pub last-here : bytes_eq o.0 name ≡ true → last_from last name (o ∷ os) ≡ last_from (Some o.1) name os
  last-here is = ap (λ b. last_from (cond b (Some o.1) last) name os) is

  pub last-other : bytes_eq o.0 name ≡ false → last_from last name (o ∷ os) ≡ last_from last name os
  last-other is = ap (λ b. last_from (cond b (Some o.1) last) name os) is

-- an option with its operand
abbrev pub option_of : Bor Text × Bor Text → Text × Text
option_of o = (o.0.now, o.1.now)

module _ (all : Option Text) (name : Text) (xs : List (Bor Text × Bor Text)) (i : ℕ) (d : Bor Text × Bor Text) (within : i < length xs)
    (last : Option Text) (so-far : all ≡ last_from last name (map option_of (drop i xs))) where
  pub last-turn : bytes_eq (get_or xs i d).0.now name ≡ true → all ≡ last_from (Some (get_or xs i d).1.now) name (map option_of (drop (i + 1) xs))
  last-turn is =
      so-far ∙ ap (last_from last name) (next-at option_of xs i d within)
      ∙ last-here last name (option_of (get_or xs i d)) (map option_of (drop (i + 1) xs)) is

  pub last-passed : bytes_eq (get_or xs i d).0.now name ≡ false → all ≡ last_from last name (map option_of (drop (i + 1) xs))
  last-passed is =
      so-far ∙ ap (last_from last name) (next-at option_of xs i d within)
      ∙ last-other last name (option_of (get_or xs i d)) (map option_of (drop (i + 1) xs)) is
