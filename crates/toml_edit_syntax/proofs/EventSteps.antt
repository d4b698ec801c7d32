-- Events behind events.
use Rattle.std.proofs.Common.{◌≡◌, ℕ, ◌+◌, ◌⊎◌, List, [], ◌∷◌, ◌++◌, length, take, drop, false, refl, sym, ap, ◌∙◌, inl, inr, append_assoc}
use Rattle.std.proofs.lemmas.Bool.{cases_Bool}
use Rattle.toml_edit_model.specs.Text.{Text}
use Rattle.toml_edit_syntax.specs.declared.event.EventKind.{EventKind}
use Rattle.toml_edit_syntax.specs.declared.event.Event.{Event}
use Rattle.toml_edit_syntax.specs.Scanning.{scan}
use Rattle.toml_edit_syntax.specs.ValueEvents.{event}
use Rattle.toml_edit_syntax.specs.ValueReading.{Reading, got, deep, wrong, changed, behind, trivia_at}
use Rattle.toml_edit_syntax.specs.EventReading.{seen, preceded}

pub preceded-nil : (r : Reading (List Event)) → preceded [] r ≡ r
preceded-nil (got es rest) = refl
preceded-nil (deep es) = refl
preceded-nil wrong = refl

pub preceded-twice : (es fs : List Event) (r : Reading (List Event)) → preceded es (preceded fs r) ≡ preceded (es ++ fs) r
preceded-twice es fs (got gs rest) = ap (λ (x : List Event). got x rest) (sym (append_assoc es fs gs))
preceded-twice es fs (deep gs) = ap deep (sym (append_assoc es fs gs))
preceded-twice es fs wrong = refl

-- what the events of a part, and the text after it, lead to
abbrev pub followed : Reading (List Event) → (Text → Reading (List Event)) → Reading (List Event)
followed (got es rest) next = preceded es (next rest)
followed (deep es) next = deep es
followed wrong next = wrong

-- the part was read
pub goes : (old new : List Event) (r : Reading (List Event)) (rest : Text) (next : Text → Reading (List Event))
    → preceded old r ≡ got new rest → preceded old (followed r next) ≡ preceded new (next rest)
goes old new (got es more) rest next e =
    let es-is : old ++ es ≡ new = cc in
    let rest-is : more ≡ rest = cc in
    preceded-twice old es (next more) ∙ ap (λ (x : List Event). preceded x (next more)) es-is
    ∙ ap (λ (x : Text). preceded new (next x)) rest-is
goes old new (deep es) rest next e = absurd cc
goes old new wrong rest next e = absurd cc

-- the part ended at a bracket that is one too many
pub sinks : (old new : List Event) (r : Reading (List Event)) (next : Text → Reading (List Event)) → preceded old r ≡ deep new
    → preceded old (followed r next) ≡ deep new
sinks old new (got es more) next e = absurd cc
sinks old new (deep es) next e = e
sinks old new wrong next e = absurd cc

-- the part was not read
pub fails : (old : List Event) (r : Reading (List Event)) (next : Text → Reading (List Event)) → preceded old r ≡ wrong
    → preceded old (followed r next) ≡ wrong
fails old (got es more) next e = absurd cc
fails old (deep es) next e = absurd cc
fails old wrong next e = refl

-- an event between two places
abbrev pub between : EventKind → ℕ → ℕ → Event
between kind start end = record { kind = kind; span = record { start = start; end = end } }

pub event_is : (kind : EventKind) (at start end : ℕ) (t : Text) → at ≡ start → at + length t ≡ end → event kind at t
    ≡ between kind start end
event_is kind at start end t x y = ap (λ (n : ℕ). between kind n (at + length t)) x ∙ ap (λ (n : ℕ). between kind start n) y

-- trivia was read or not
pub trivia_cases : (t : Text) → (trivia_at t ≡ wrong) ⊎ ((w : Text) × (rest : Text) × (trivia_at t ≡ got w rest))
unfolding trivia_at
trivia_cases t =
    elim (cases_Bool (scan false t).1) [
      | inl within ↦ inl (rw within refl)
      | inr outside ↦ inr (take (scan false t).0 t, drop (scan false t).0 t, rw outside refl)
    ]

pub behind-twice : {A : Type 0} (es fs : List Event) (r : Reading A) → behind es (behind fs r) ≡ behind (es ++ fs) r
behind-twice es fs (got x rest) = refl
behind-twice es fs (deep gs) = ap deep (sym (append_assoc es fs gs))
behind-twice es fs wrong = refl

-- more was read behind these events
pub seen_behind : {P Q : Type 0} (es : List Event) (f : P → Q) (E : Q → Text → List Event) (F : P → Text → List Event) (r : Reading P)
    → ((p : P) (rest : Text) → r ≡ got p rest → E (f p) rest ≡ es ++ F p rest) → seen E (behind es (changed f r)) ≡ preceded es (seen F r)
seen_behind es f E F (got p rest) same = ap (λ (x : List Event). got x rest) (same p rest refl)
seen_behind es f E F (deep fs) same = refl
seen_behind es f E F wrong same = refl

-- events were added one by one
pub added : (es new : List Event) (x a : Event) → new ≡ es ++ x ∷ [] → x ≡ a → new ≡ es ++ a ∷ []
added es new x a e h = e ∙ ap (λ (y : Event). es ++ y ∷ []) h

pub added_two : (es more new : List Event) (x y a b : Event) → more ≡ es ++ x ∷ [] → new ≡ more ++ y ∷ [] → x ≡ a → y ≡ b → new ≡ es
    ++ (a ∷ b ∷ [])
added_two es more new x y a b e f h g =
    f ∙ ap (λ (xs : List Event). xs ++ y ∷ []) (added es more x a e h) ∙ append_assoc es (a ∷ []) (y ∷ [])
    ∙ ap (λ (z : Event). es ++ (a ∷ z ∷ [])) g

pub added_three : (es more most new : List Event) (x y z a b c : Event) → more ≡ es ++ x ∷ [] → most ≡ more ++ y ∷ [] → new ≡ most ++ z ∷ []
    → x ≡ a → y ≡ b → z ≡ c → new ≡ es ++ (a ∷ b ∷ c ∷ [])
added_three es more most new x y z a b c e f g h i j =
    g ∙ ap (λ (xs : List Event). xs ++ z ∷ []) (added_two es more most x y a b e f h i) ∙ append_assoc es (a ∷ b ∷ []) (z ∷ [])
    ∙ ap (λ (u : Event). es ++ (a ∷ b ∷ u ∷ [])) j
