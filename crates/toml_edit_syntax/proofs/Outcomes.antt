-- What a value begins with, and what reading one comes to within the limit of nesting.
use Rattle.std.proofs.Common.{◌≡◌, ℕ, ◌+◌, ◌*◌, ◌<◌, ◌≤◌, Bool, true, false, ◌==◌, ◌&&◌, ◌||◌, List, ◌∷◌, ◌++◌, length}
use Rattle.std.proofs.Common.{refl, sym, ap, ◌∙◌, inl, inr, arith}
use Rattle.std.specs.Prelude.{nat_le, nat_lt, max}
use Rattle.std.proofs.lemmas.Bool.{cases_lt, false≢true}
use Rattle.std.proofs.lemmas.Bool.Decides.{nat_tests}
use Rattle.toml_edit_model.specs.Text.{Text}
use Rattle.toml_edit_model.specs.Trivia.{IsWholeTrivia}
use Rattle.toml_edit_model.specs.Syntax.{Value, scalar, array, inline_table, Elements, Pairs}
use Rattle.toml_edit_model.specs.Syntax.{comma_text, value_text, elements_text, pairs_text, IsClose}
use Rattle.toml_edit_model.specs.Syntax.{has_elements, has_pairs, IsValue, AreElements, ArePairs, depth, elements_depth, pairs_depth}
use Rattle.toml_edit_model.specs.Syntax.{nesting_limit}
use Rattle.toml_edit_syntax.specs.declared.event.Event.{Event}
use Rattle.toml_edit_laws.specs.reading.Runs.{first}
use Rattle.toml_edit_laws.specs.reading.ScalarReading.{ends_scalar}
use Rattle.toml_edit_syntax.specs.ValueEvents.{value_events, elements_events}
use Rattle.toml_edit_syntax.specs.ValueEvents.{pairs_events, shortened}
use Rattle.toml_edit_syntax.specs.ValueReading.{Reading, got, deep, follow, changed, behind, trivia_at, value_from, elements_at}
use Rattle.toml_edit_syntax.specs.ValueReading.{pairs_at}
use Rattle.toml_edit_laws.proofs.reading.Begins.{is_opening, scalar_begins}
use Rattle.toml_edit_syntax.proofs.ReadingSteps.{trivia_again}
use Rattle.toml_edit_syntax.proofs.ShortenedLaws.{Fits, Exceeds, cases_fits}

-- ---- with what a value begins

abbrev pub is_value_opening : ℕ → Bool
is_value_opening c = is_opening c || (c == 91 || c == 123)

abbrev pub ValueBegins : Text → Type 0
ValueBegins t = (c : ℕ) × (cs : Text) × (t ≡ c ∷ cs) × (is_value_opening c ≡ true)

pub value_begins : (v : Value) → IsValue v → ValueBegins (value_text v)
value_begins (scalar s t) is = let (c, cs, e, opening) = scalar_begins s t is in (c, cs, e, rw opening refl)
value_begins (array es comma t) is = (91, _, refl, refl)
value_begins (inline_table ps comma t) is = (123, _, refl, refl)

-- a byte that fails where no value can begin
pub value_begins_not : (p : ℕ → Bool) (t rest : Text) → ((c : ℕ) → is_value_opening c ≡ true → p c ≡ false) → ValueBegins t
    → p (first (t ++ rest)) ≡ false
value_begins_not p t rest apart (c, cs, e, opening) = ap (λ (x : Text). p (first (x ++ rest))) e ∙ apart c opening

-- trivia is read again before a value
pub trivia_before_value : (w t rest : Text) → IsWholeTrivia w → ValueBegins t → trivia_at (w ++ (t ++ rest)) ≡ got w (t ++ rest)
trivia_before_value w t rest whole (c, cs, e, opening) =
    trivia_again w (t ++ rest) c (cs ++ rest) whole (ap (λ (x : Text). x ++ rest) e) (grind (arith, nat_tests))

-- ---- what reading comes to

-- a part and the text after it where it fits, and else these events
abbrev pub outcome : {A : Type 0} → Bool → A → Text → List Event → Reading A
outcome true a rest es = got a rest
outcome false a rest es = deep es

pub follow_outcome : {A B : Type 0} (next : A → Text → Reading B) (fits : Bool) (a : A) (t : Text) (es : List Event) (b : B) (rest : Text)
    → next a t ≡ got b rest → follow (outcome fits a t es) next ≡ outcome fits b rest es
follow_outcome next true a t es b rest e = e
follow_outcome next false a t es b rest e = refl

pub changed_outcome : {A B : Type 0} (f : A → B) (fits : Bool) (a : A) (rest : Text) (es : List Event) → changed f (outcome fits a rest es)
    ≡ outcome fits (f a) rest es
changed_outcome f true a rest es = refl
changed_outcome f false a rest es = refl

pub behind_outcome : {A : Type 0} (before : List Event) (fits : Bool) (a : A) (rest : Text) (es : List Event)
    → behind before (outcome fits a rest es) ≡ outcome fits a rest (before ++ es)
behind_outcome before true a rest es = refl
behind_outcome before false a rest es = refl

-- so deep a part fits inside so many brackets
abbrev pub has_room : ℕ → ℕ → Bool
has_room level depth = nat_lt nesting_limit level || nat_le (level + depth) nesting_limit

pub has_room_true : (level d : ℕ) → Fits level d → has_room level d ≡ true
has_room_true level d h =
    elim (cases_lt nesting_limit level) [
      | inl above ↦ grind (arith, nat_tests)
      | inr below ↦ let fits = h below in grind (arith, nat_tests)
    ]

pub has_room_false : (level d : ℕ) → Exceeds level d → has_room level d ≡ false
has_room_false level d (below, big) = grind (arith, nat_tests)

pub no_room : (level d : ℕ) → has_room level d ≡ false → Exceeds level d
no_room level d h = elim (cases_fits level d) [ inl big ↦ big | inr fits ↦ absurd (false≢true (sym h ∙ has_room_true level d fits)) ]

-- where the value fits, the rest of the list decides
pub room_later : (level d e : ℕ) → Fits level d → has_room level e ≡ has_room level (max d e)
room_later level d e h =
    elim (cases_fits level e) [
      | inl big ↦ has_room_false level e big ∙ sym (has_room_false level (max d e) (big.0, omega (arith, big.1)))
      | inr fits ↦ has_room_true level e fits ∙ sym (has_room_true level (max d e) (λ below. omega (arith, h below, fits below)))
    ]

pub room_here : (level d e : ℕ) → Exceeds level d → has_room level (max d e) ≡ false
room_here level d e (below, big) = has_room_false level (max d e) (below, omega arith)

-- ---- the laws

abbrev pub ReadsValue : ℕ → Type 0
ReadsValue n = (v : Value) (level at : ℕ) (rest : Text) → IsValue v → ends_scalar rest ≡ true → 2 * length (value_text v ++ rest) ≤ n
    → value_from n level at (value_text v ++ rest) ≡ outcome (has_room level (depth v)) v rest (shortened level (value_events at v))

-- what stands from the items to behind the closing bracket
abbrev pub close_text : Bool → Bool → Text → ℕ → Text → Text
close_text has ends w bracket rest = comma_text (has && ends) ++ (w ++ (bracket ∷ rest))

abbrev pub ReadsElements : ℕ → Type 0
ReadsElements n = (es : Elements) (level at : ℕ) (comma ends : Bool) (w rest : Text) → AreElements es
    → IsClose (has_elements es || comma) ends w → (has_elements es ≡ false → ends ≡ comma)
    → 2 * length (elements_text es ++ close_text (has_elements es) ends w 93 rest) < n
    → elements_at n level at comma (elements_text es ++ close_text (has_elements es) ends w 93 rest)
    ≡ outcome (has_room level (elements_depth es)) (es, (ends, w)) rest (shortened level (elements_events at es))

abbrev pub ReadsPairs : ℕ → Type 0
ReadsPairs n = (ps : Pairs) (level at : ℕ) (comma ends : Bool) (w rest : Text) → ArePairs ps → IsClose (has_pairs ps || comma) ends w
    → (has_pairs ps ≡ false → ends ≡ comma)
    → 2 * length (pairs_text ps ++ close_text (has_pairs ps) ends w 125 rest) < n
    → pairs_at n level at comma (pairs_text ps ++ close_text (has_pairs ps) ends w 125 rest)
    ≡ outcome (has_room level (pairs_depth ps)) (ps, (ends, w)) rest (shortened level (pairs_events at ps))
