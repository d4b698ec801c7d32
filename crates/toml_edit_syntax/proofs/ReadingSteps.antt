-- Steps of a reading that gave something, and the reading of trivia.
use Rattle.std.proofs.Common.{◌≡◌, ℕ, ◌+◌, Bool, true, false, not, ◌==◌, ◌||◌, List, [], ◌∷◌, ◌++◌, length, take, drop, Some, None, refl}
use Rattle.std.proofs.Common.{sym, ap, subst, ◌∙◌, arith, take_at, drop_at, inl, inr}
use Rattle.std.specs.List.{flat_map}
use Rattle.std.proofs.lemmas.Bool.Decides.{nat_tests}
use Rattle.std.proofs.lemmas.List.{take-append-drop}
use Rattle.toml_edit_model.specs.Text.{Text}
use Rattle.toml_edit_model.specs.Trivia.{is_blank, piece_text, IsWholeTrivia}
use Rattle.toml_edit_model.specs.Syntax.{nesting_limit}
use Rattle.toml_edit_syntax.specs.declared.event.EventKind.{EventKind}
use Rattle.toml_edit_syntax.specs.declared.event.Event.{Event}
use Rattle.toml_edit_laws.specs.reading.Runs.{first, Read}
use Rattle.toml_edit_syntax.specs.Scanning.{turn, scan}
use Rattle.toml_edit_syntax.specs.ValueEvents.{event}
use Rattle.toml_edit_syntax.specs.ValueReading.{Reading, got, deep, wrong, follow, changed, behind, reading, inside, trivia_at}
use Rattle.toml_edit_laws.proofs.reading.Steps.{chosen}
use Rattle.toml_edit_syntax.proofs.TriviaLaws.{further, scan_stop, scan-pieces, scan_took, Outside}

-- ---- steps

pub same_got : {A : Type 0} (a b : A) (t u : Text) → got a t ≡ got b u → (a ≡ b) × (t ≡ u)
same_got a b t u e = (cc, cc)

pub follow_got : {A B : Type 0} (r : Reading A) (f : A → Text → Reading B) (y : B) (rest : Text) → follow r f ≡ got y rest
    → (x : A) × (more : Text) × (r ≡ got x more) × (f x more ≡ got y rest)
follow_got (got x more) f y rest e = (x, more, refl, e)
follow_got (deep es) f y rest e = absurd cc
follow_got wrong f y rest e = absurd cc

pub changed_got : {A B : Type 0} (f : A → B) (r : Reading A) (y : B) (rest : Text) → changed f r ≡ got y rest → (x : A) × (r ≡ got x rest)
    × (f x ≡ y)
changed_got f (got x more) y rest e =
    let same : more ≡ rest = cc in
    (x, ap (λ (t : Text). got x t) same, cc)
changed_got f (deep es) y rest e = absurd cc
changed_got f wrong y rest e = absurd cc

pub behind_got : {A : Type 0} (es : List Event) (r : Reading A) (y : A) (rest : Text) → behind es r ≡ got y rest → r ≡ got y rest
behind_got es (got x more) y rest e = e
behind_got es (deep more) y rest e = absurd cc
behind_got es wrong y rest e = absurd cc

pub reading_got : {A : Type 0} (r : Read A) (y : A) (rest : Text) → reading r ≡ got y rest → r ≡ Some (y, rest)
reading_got None y rest e = absurd cc
reading_got (Some (x, more)) y rest e =
    let value : x ≡ y = cc in
    let after : more ≡ rest = cc in
    cc

pub inside_got : {A : Type 0} (kind : EventKind) (bracket : Text) (level at : ℕ) (r : Reading A) (y : A) (rest : Text)
    → inside kind bracket level at r ≡ got y rest → ((level == nesting_limit) ≡ false) × (r ≡ got y rest)
inside_got kind bracket level at r y rest e =
    elim (chosen (level == nesting_limit) _ _ (got y rest) e) [
      | inl (full, h) ↦ absurd cc
      | inr (room, h) ↦ (room, behind_got (event kind at bracket ∷ []) r y rest h)
    ]

-- ---- trivia

pub trivia_takes : (t w rest : Text) → trivia_at t ≡ got w rest → IsWholeTrivia w × (t ≡ w ++ rest)
unfolding trivia_at
trivia_takes t w rest e =
    let n = (scan false t).0 in
    elim (chosen (scan false t).1 wrong (got (take n t) (drop n t)) (got w rest) e) [
      | inl (within, h) ↦ absurd cc
      | inr (outside, h) ↦
          let took : Outside (scan false t).1 (take n t) = scan_took false t in
          let whole : IsWholeTrivia (take n t) = subst (λ (b : Bool). Outside b (take n t)) outside took in
          let front : take n t ≡ w = cc in
          let after : drop n t ≡ rest = cc in (
            subst IsWholeTrivia front whole,
            sym (take-append-drop n t) ∙ ap (λ (x : Text). x ++ drop n t) front
                ∙ ap (λ (x : Text). w ++ x) after,
          )
    ]

-- trivia does not go on with this byte
abbrev pub stops_trivia : ℕ → Bool
stops_trivia c = not (is_blank c || (c == 10 || (c == 13 || c == 35)))

-- trivia is scanned again in front of a byte that stops it
pub scan_again : (w rest : Text) (c : ℕ) (cs : Text) → IsWholeTrivia w → rest ≡ c ∷ cs → stops_trivia c ≡ true → scan false (w ++ rest)
    ≡ (length w, false)
scan_again w rest c cs (ps, each, is) starts stops =
    let stop : turn false c (first cs) ≡ None = grind (arith, nat_tests) in
    let none : scan false rest ≡ (0, false) = ap (scan false) starts ∙ scan_stop false c cs stop in
    let len : length (flat_map piece_text ps) + 0 ≡ length w = omega (arith, ap length is) in
    ap (λ (x : Text). scan false (x ++ rest)) is ∙ scan-pieces ps rest each ∙ ap (further (length (flat_map piece_text ps))) none
    ∙ ap (λ (n : ℕ). (n, false)) len

-- and read again
pub trivia_again : (w rest : Text) (c : ℕ) (cs : Text) → IsWholeTrivia w → rest ≡ c ∷ cs → stops_trivia c ≡ true → trivia_at (w ++ rest)
    ≡ got w rest
unfolding trivia_at
trivia_again w rest c cs whole starts stops =
    rw (scan_again w rest c cs whole starts stops, take_at w rest _ refl, drop_at w rest _ refl) refl
