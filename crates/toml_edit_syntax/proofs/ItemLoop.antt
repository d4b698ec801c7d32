-- The loop over elements or pairs, a turn at a time.
use Rattle.std.proofs.Common.{◌≡◌, ◌≢◌, ℕ, zero, suc, ◌+◌, ◌*◌, ◌-◌, ◌≤◌, Bool, true, false, List, [], ◌∷◌, ◌++◌, length, drop, codes, refl}
use Rattle.std.proofs.Common.{sym, ap, subst, ◌∙◌, arith}
use Rattle.std.specs.Prelude.{Result, Ok, Err, IsErrAnd}
use Rattle.std.specs.Borrow.{Bor}
use Rattle.std.proofs.lemmas.Bool.{ne_eqb, eq-eqb}
use Rattle.toml_edit_model.specs.Text.{Text}
use Rattle.toml_edit_model.specs.Syntax.{nesting_limit}
use Rattle.toml_edit_syntax.specs.declared.event.EventKind.TheVariants.{ArrayClose, InlineTableClose, After}
use Rattle.toml_edit_syntax.specs.declared.event.Event.{Event}
use Rattle.toml_edit_syntax.specs.declared.lexer.Stop.{Stop}
use Rattle.toml_edit_syntax.specs.declared.lexer.Stop.TheVariants as stop
use Rattle.toml_edit_syntax.specs.declared.value.Brackets.{Brackets}
use Rattle.toml_edit_syntax.specs.declared.value.Brackets.TheVariants as brackets
use Rattle.toml_edit_laws.specs.reading.Runs.{first}
use Rattle.toml_edit_syntax.specs.ValueEvents.{event, close_events}
use Rattle.toml_edit_syntax.specs.ValueReading.{Reading, got, wrong, trivia_at, elements_at, pairs_at}
use Rattle.toml_edit_syntax.specs.EventReading.{preceded, closing_byte, close_read, head_read, value_read, items_read}
use Rattle.toml_edit_syntax.specs.Gives.{StopsAs, IsBefore, Leaves}
use Rattle.toml_edit_syntax.proofs.EventSteps.{between, event_is, preceded-twice, followed, goes, sinks, fails}
use Rattle.toml_edit_syntax.proofs.ItemTurns.{less_one, trivia_length, end_read, tail_read, element_turn, pair_turn}

-- what stops reading stops it before what would follow
pub stops : (new old : List Event) (r : Reading (List Event)) (next : Text → Reading (List Event)) (why : Stop)
    → StopsAs new (preceded old r) why → StopsAs new (preceded old (followed r next)) why
stops new old r next stop.Memory h = tt
stops new old r next (stop.Before mistake left) h = fails old r next h
stops new old r next stop.TooDeep h = sinks old new r next h

pub stops_before : (new : List Event) (r : Reading (List Event)) (why : Stop) → IsBefore why → r ≡ wrong → StopsAs new r why
stops_before new r why (mistake, left, is) e = subst (StopsAs new r) (sym is) e

-- an error that is handed on
pub leaves_err : (new : List Event) (result : Result (Bor Text) Stop) (r : Reading (List Event)) (why : Stop) (Q : Stop → Type 0)
    → IsErrAnd result Q → ((y : Stop) → Q y → y ≡ why) → StopsAs new r why → Leaves new result r
leaves_err new (Ok rest) r why Q h same stopped = absurd h
leaves_err new (Err y) r why Q h same stopped = subst (StopsAs new r) (sym (same y h)) stopped

pub one_less : (n : ℕ) → 1 ≤ n → (m : ℕ) × (n ≡ suc m)
one_less zero some = absurd (omega arith)
one_less (suc m) some = (m, refl)

-- ---- the front of a turn

items_wrong : (b : Brackets) (m level whole : ℕ) (comma : Bool) (t : Text) → trivia_at t ≡ wrong → items_read b (suc m) level whole comma t
    ≡ wrong
unfolding elements_at pairs_at
items_wrong brackets.Array m level whole comma t bad = rw bad refl
items_wrong brackets.InlineTable m level whole comma t bad = rw bad refl

-- the bracket is the last byte before the rest
bracket_at : (whole : ℕ) (t : Text) (c : ℕ) → first t ≡ c → 1 ≤ c → length t ≤ whole → whole - length (drop 1 t) - 1 ≡ whole - length t
bracket_at whole t c here some fits = omega (arith, less_one t c (eq-eqb (first t) c here) some)

items_close : (b : Brackets) (m level whole : ℕ) (comma : Bool) (t before start : Text) → length start ≤ whole → trivia_at t
    ≡ got before start → first start ≡ closing_byte b
    → items_read b (suc m) level whole comma t ≡ got (close_read b whole comma before start) (drop 1 start)
unfolding elements_at pairs_at
items_close brackets.Array m level whole comma t before start fits found here =
    rw (found, eq-eqb (first start) 0x5D here) (ap (λ (n : ℕ). got (close_events ArrayClose (codes "]") n comma before) (drop 1 start))
    (bracket_at whole start 0x5D here (omega arith) fits))
items_close brackets.InlineTable m level whole comma t before start fits found here =
    rw (found, eq-eqb (first start) 0x7D here) (ap (λ (n : ℕ). got (close_events InlineTableClose (codes "}") n comma before)
    (drop 1 start)) (bracket_at whole start 0x7D here (omega arith) fits))

items_turn : (b : Brackets) (m level whole : ℕ) (comma : Bool) (t before start : Text) → level ≤ nesting_limit → length t ≤ whole
    → trivia_at t ≡ got before start → first start ≢ closing_byte b
    → items_read b (suc m) level whole comma t ≡ followed (head_read b whole before start)
    (λ value. followed (value_read m level whole value) (tail_read b m level whole))
items_turn brackets.Array m level whole comma t before start room fits found other =
    element_turn m level whole comma t before start room fits found other
items_turn brackets.InlineTable m level whole comma t before start room fits found other =
    pair_turn m level whole comma t before start room fits found other

-- ---- the end of a turn

end_closes : (b : Brackets) (m level whole : ℕ) (next : Text) → length next ≤ whole → first next ≡ closing_byte b
    → end_read b m level whole next ≡ got (close_read b whole false [] next) (drop 1 next)
end_closes brackets.Array m level whole next fits here =
    rw (ne_eqb (first next) 0x2C (λ e. omega arith), eq-eqb (first next) 0x5D here)
    (ap (λ (n : ℕ). got (close_events ArrayClose (codes "]") n false []) (drop 1 next))
    (bracket_at whole next 0x5D here (omega arith) fits))
end_closes brackets.InlineTable m level whole next fits here =
    rw (ne_eqb (first next) 0x2C (λ e. omega arith), eq-eqb (first next) 0x7D here)
    (ap (λ (n : ℕ). got (close_events InlineTableClose (codes "}") n false []) (drop 1 next))
    (bracket_at whole next 0x7D here (omega arith) fits))

end_wrong : (b : Brackets) (m level whole : ℕ) (next : Text) → first next ≢ closing_byte b → first next ≢ 0x2C
    → end_read b m level whole next ≡ wrong
end_wrong b m level whole next other no_comma = rw (ne_eqb (first next) 0x2C no_comma, ne_eqb (first next) (closing_byte b) other) refl

end_more : (b : Brackets) (m level whole : ℕ) (next : Text) → first next ≡ 0x2C → end_read b m level whole next
    ≡ items_read b m level whole true (drop 1 next)
end_more b m level whole next comma = rw (eq-eqb (first next) 0x2C comma) refl

-- ---- in the loop

module _ (b : Brackets) (k level whole : ℕ) (comma : Bool) (rest : Text) (found : List Event) (room : level ≤ nesting_limit)
    (fits : length rest ≤ whole) (fuel : 2 * length rest + 3 ≤ k) where
  pub trivia_fails : trivia_at rest ≡ wrong → preceded found (items_read b k level whole comma rest) ≡ wrong
  trivia_fails bad =
      let (m, is) = one_less k (omega arith) in
      ap (λ (n : ℕ). preceded found (items_read b n level whole comma rest)) is
      ∙ ap (preceded found) (items_wrong b m level whole comma rest bad)

  module _ (before start : Text) (leads : trivia_at rest ≡ got before start) where
    pub closes : first start ≡ closing_byte b → preceded found (items_read b k level whole comma rest)
        ≡ preceded found (got (close_read b whole comma before start) (drop 1 start))
    closes here =
        let (m, is) = one_less k (omega arith) in
        let lens = trivia_length rest before start leads in
        ap (λ (n : ℕ). preceded found (items_read b n level whole comma rest)) is
        ∙ ap (preceded found) (items_close b m level whole comma rest before start (omega arith) leads here)

    module _ (other : first start ≢ closing_byte b) where
      pub turns : (m : ℕ) × (k ≡ suc m) × (preceded found (items_read b k level whole comma rest)
          ≡ preceded found (followed (head_read b whole before start)
          (λ value. followed (value_read m level whole value) (tail_read b m level whole))))
      turns =
          let (m, is) = one_less k (omega arith) in (
            m,
            is,
            ap (λ (n : ℕ). preceded found (items_read b n level whole comma rest)) is
                ∙ ap (preceded found) (items_turn b m level whole comma rest before start room fits leads other),
          )

      pub head_stops : (new : List Event) (why : Stop) → StopsAs new (preceded found (head_read b whole before start)) why
          → StopsAs new (preceded found (items_read b k level whole comma rest)) why
      head_stops new why h =
          let (m, is, e) = turns in
          subst (λ (r : Reading (List Event)). StopsAs new r why) (sym e) (stops new found _ _ why h)

      module _ (led : List Event) (value : Text) (heads : preceded found (head_read b whole before start)
          ≡ got led value) (shorter : length value ≤ length start) where
        headed : (m : ℕ) × (2 * length value + 2 ≤ m) × (2 * length rest + 2 ≤ m)
            × (preceded found (items_read b k level whole comma rest)
            ≡ preceded led (followed (value_read m level whole value) (tail_read b m level whole)))
        headed =
            let (m, is, e) = turns in
            let lens = trivia_length rest before start leads in
            (m, omega arith, omega arith, e ∙ goes found led (head_read b whole before start) value _ heads)

        pub value_stops : (new : List Event) (why : Stop) → ((n : ℕ) → 2 * length value + 2 ≤ n
            → StopsAs new (preceded led (value_read n level whole value)) why)
            → StopsAs new (preceded found (items_read b k level whole comma rest)) why
        value_stops new why h =
            let (m, enough, more, e) = headed in
            subst (λ (r : Reading (List Event)). StopsAs new r why) (sym e) (stops new led _ _ why (h m enough))

        module _ (valued : List Event) (end : Text) (values : (n : ℕ) → 2 * length value + 2 ≤ n
            → preceded led (value_read n level whole value) ≡ got valued end) where
          tailed : (m : ℕ) × (2 * length rest + 2 ≤ m) × (preceded found (items_read b k level whole comma rest)
              ≡ preceded valued (tail_read b m level whole end))
          tailed =
              let (m, enough, more, e) = headed in
              (m, more, e ∙ goes led valued (value_read m level whole value) end _ (values m enough))

          pub after_fails : trivia_at end ≡ wrong → preceded found (items_read b k level whole comma rest) ≡ wrong
          after_fails bad =
              let (m, more, e) = tailed in
              e ∙ rw bad refl

          module _ (after next : Text) (trails : trivia_at end
              ≡ got after next) (fits_end : length end ≤ whole) (new : List Event) (pushed : new ≡ valued
              ++ between After (whole - length next - length after) (whole - length next) ∷ []) where
            ended : (m : ℕ) × (2 * length rest + 2 ≤ m) × (preceded found (items_read b k level whole comma rest)
                ≡ preceded new (end_read b m level whole next))
            ended =
                let (m, more, e) = tailed in
                let lens = trivia_length end after next trails in
                let same : event After (whole - length end) after ≡ between After (whole - length next - length after)
                (whole - length next) = event_is After _ _ _ after (omega arith) (omega arith) in (
                  m,
                  more,
                  e ∙ rw trails (preceded-twice valued _ (end_read b m level whole next))
                      ∙ ap (λ (x : Event). preceded (valued ++ x ∷ []) (end_read b m level whole next)) same
                      ∙ ap (λ (es : List Event). preceded es (end_read b m level whole next)) (sym pushed),
                )

            pub last_closes : first next ≡ closing_byte b → preceded found (items_read b k level whole comma rest)
                ≡ preceded new (got (close_read b whole false [] next) (drop 1 next))
            last_closes here =
                let (m, more, e) = ended in
                let lens = trivia_length end after next trails in
                e ∙ ap (preceded new) (end_closes b m level whole next (omega arith) here)

            pub comma_fails : first next ≢ closing_byte b → first next ≢ 0x2C → preceded found (items_read b k level whole comma rest)
                ≡ wrong
            comma_fails no_bracket no_comma =
                let (m, more, e) = ended in
                e ∙ ap (preceded new) (end_wrong b m level whole next no_bracket no_comma)

            pub goes_on : first next ≡ 0x2C → (m : ℕ) × (2 * length rest + 2 ≤ m)
                × (preceded found (items_read b k level whole comma rest) ≡ preceded new (items_read b m level whole true (drop 1 next)))
            goes_on is_comma =
                let (m, more, e) = ended in
                (m, more, e ∙ ap (preceded new) (end_more b m level whole next is_comma))
