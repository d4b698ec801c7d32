-- The events of a lone value, a part at a time.
use Rattle.std.proofs.Common.{◌≡◌, ℕ, ◌+◌, ◌*◌, ◌-◌, Bool, cond, if◌then◌else◌, ◌==◌, List, [], length, refl, sym, ap, ◌∙◌, inl, inr, arith}
use Rattle.std.proofs.Common.{append-nil}
use Rattle.std.proofs.lemmas.Bool.{cases_Bool, ne_eqb, eq-eqb}
use Rattle.toml_edit_model.specs.Text.{Text}
use Rattle.toml_edit_model.specs.Trivia.{is_blank}
use Rattle.toml_edit_model.specs.Syntax.{Value}
use Rattle.toml_edit_syntax.specs.declared.event.Event.{Event}
use Rattle.toml_edit_laws.specs.reading.Runs.{split_while}
use Rattle.toml_edit_syntax.specs.ValueEvents.{value_events}
use Rattle.toml_edit_syntax.specs.ValueReading.{Reading, got, deep, wrong, follow, value_from}
use Rattle.toml_edit_syntax.specs.Reading.{lone_at}
use Rattle.toml_edit_syntax.specs.EventReading.{seen, value_read}
use Rattle.toml_edit_syntax.specs.StatementReading.{lone_value_read}
use Rattle.toml_edit_syntax.proofs.EventSteps.{followed}

-- nothing but white space is left
abbrev pub nothing_read : Text → Reading (List Event)
nothing_read rest = if length (split_while is_blank rest).1 == 0 then got [] rest else wrong

pub nothing_left : (rest w end : Text) → ◌≡◌ {A = Text × Text} (w, end) (split_while is_blank rest) → length end ≡ 0 → nothing_read rest
    ≡ got [] rest
nothing_left rest w end split e =
    let len : length (split_while is_blank rest).1 ≡ 0 = ap (λ (p : Text × Text). length p.1) (sym split) ∙ e in
    ap (λ (b : Bool). cond {A = Reading (List Event)} b (got [] rest) wrong) (eq-eqb (length (split_while is_blank rest).1) 0 len)

pub something_left : (rest w end : Text) → ◌≡◌ {A = Text × Text} (w, end) (split_while is_blank rest) → (length end ≡ 0 → ⊥)
    → nothing_read rest ≡ wrong
something_left rest w end split some =
    ap (λ (b : Bool). cond {A = Reading (List Event)} b (got [] rest) wrong)
    (ne_eqb (length (split_while is_blank rest).1) 0 (λ e. some (ap (λ (p : Text × Text). length p.1) split ∙ e)))

by_value : (at : ℕ) (r : Reading Value)
    → seen (λ v _. value_events at v) (follow r (λ v rest. if length (split_while is_blank rest).1 == 0 then got v rest else wrong))
    ≡ followed (seen (λ v _. value_events at v) r) nothing_read
by_value at wrong = refl
by_value at (deep es) = refl
by_value at (got v rest) =
    elim (cases_Bool (length (split_while is_blank rest).1 == 0)) [
      | inl none ↦ rw none (ap (λ (es : List Event). got es rest) (sym (append-nil (value_events at v))))
      | inr some ↦ rw some refl
    ]

pub lone_turn : (t w start : Text) → ◌≡◌ {A = Text × Text} (w, start) (split_while is_blank t) → length w + length start ≡ length t
    → lone_value_read t ≡ followed (value_read (2 * length start + 2) 0 (length t) start) nothing_read
unfolding lone_at
lone_turn t w start split lens =
    let white = split_while is_blank t in
    let read = λ (a : ℕ) (x : Text). followed (seen (λ v _. value_events a v) (value_from (2 * length x + 2) 0 a x)) nothing_read in
    let w-is : length white.0 ≡ length w = ap (λ (p : Text × Text). length p.0) (sym split) in
    let start-is : white.1 ≡ start = ap (λ (p : Text × Text). p.1) (sym split) in
    let place : length w ≡ length t - length start = omega (arith, lens) in
    by_value (length white.0) (value_from (2 * length white.1 + 2) 0 (length white.0) white.1)
    ∙ ap (λ (x : Text). read (length white.0) x) start-is ∙ ap (λ (a : ℕ). read a start) (w-is ∙ place)
