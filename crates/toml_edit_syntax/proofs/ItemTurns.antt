-- The events of an array or an inline table, an element or a pair at a time.
use Rattle.std.proofs.Common.{◌≡◌, ◌≢◌, ℕ, suc, ◌+◌, ◌-◌, ◌≤◌, Bool, true, false, if◌then◌else◌, ◌==◌, List, [], ◌∷◌, ◌++◌, length, drop}
use Rattle.std.proofs.Common.{codes, refl, sym, ap, ◌∙◌, inl, inr, arith, append_assoc}
use Rattle.std.proofs.lemmas.Bool.{cases_Bool, ne_eqb}
use Rattle.std.proofs.lemmas.List.{length-append}
use Rattle.toml_edit_model.specs.Text.{Text}
use Rattle.toml_edit_model.specs.Syntax.{Frame, Value, Elements, no_elements, element, Pairs, no_pairs, pair, value_text, path_text}
use Rattle.toml_edit_model.specs.Syntax.{nesting_limit}
use Rattle.toml_edit_syntax.specs.declared.event.EventKind.TheVariants.{ArrayClose, InlineTableClose, Before, After}
use Rattle.toml_edit_syntax.specs.declared.event.Event.{Event}
use Rattle.toml_edit_syntax.specs.declared.value.Brackets.{Brackets}
use Rattle.toml_edit_syntax.specs.declared.value.Brackets.TheVariants as brackets
use Rattle.toml_edit_laws.specs.reading.Runs.{first}
use Rattle.toml_edit_syntax.specs.ValueEvents.{event, close_events, value_at_byte, frame_events, value_events, elements_events}
use Rattle.toml_edit_syntax.specs.ValueEvents.{pairs_events}
use Rattle.toml_edit_syntax.specs.ValueReading.{Reading, got, deep, wrong, follow, changed, behind, trivia_at, frame_at, around, value_from}
use Rattle.toml_edit_syntax.specs.ValueReading.{elements_at, pairs_at}
use Rattle.toml_edit_syntax.specs.EventReading.{seen, preceded, closing, closing_byte, head_read, value_read, items_read}
use Rattle.toml_edit_syntax.proofs.ReadingSteps.{trivia_takes}
use Rattle.toml_edit_syntax.proofs.PathLaws.{head_text, frame_takes}
use Rattle.toml_edit_syntax.proofs.ValueTakes.{value_takes}
use Rattle.toml_edit_laws.proofs.reading.Steps.{starts}
use Rattle.toml_edit_syntax.proofs.EventSteps.{between, event_is, preceded-twice, followed, trivia_cases, behind-twice, seen_behind}

pub trivia_length : (t w rest : Text) → trivia_at t ≡ got w rest → length w + length rest ≡ length t
trivia_length t w rest e = omega (arith, ap length (trivia_takes t w rest e).1, length-append w rest)

pub value_length : (n level at : ℕ) (t rest : Text) (v : Value) → level ≤ nesting_limit → value_from n level at t ≡ got v rest
    → length (value_text v) + length rest ≡ length t
value_length n level at t rest v room e =
    omega (arith, ap length (value_takes n level at t v rest room e).parts, length-append (value_text v) rest)

-- the byte at the front, which is not 0
pub less_one : (t : Text) (c : ℕ) → (first t == c) ≡ true → 1 ≤ c → length (drop 1 t) + 1 ≡ length t
less_one t c e some = omega (arith, ap length (starts t c e some))

-- ---- behind what stands in front of a value

-- A list of elements or pairs goes on by `list_at` behind a comma, and ends at the byte c; its events are those of E, and F at a later
-- byte.
module _ {P : Type 0} (k level whole c : ℕ) (value : Text) (lead : List Event) (add : Value → Text → P → P) (none : P) (list_at : ℕ → Text
    → Reading (P × (Bool × Text)))
    (E : P × (Bool × Text) → Text → List Event) (F : ℕ → P × (Bool × Text) → Text → List Event) (shut : Bool × Text → Text
    → List Event) where
  abbrev pub tail : Value → Text → Reading (P × (Bool × Text))
  tail v rest =
      follow (trivia_at rest) (λ after more.
      if first more == 0x2C
      then behind (value_events (whole - length value) v ++ event After (whole - length value + length (value_text v)) after ∷ [])
      (changed (λ p. (add v after p.0, p.1)) (list_at (whole - length value + length (value_text v) + length after + 1) (drop 1 more)))
      else if first more == c then got (add v after none, (false, [])) (drop 1 more)
      else wrong)

  abbrev pub seen_end : Text → Reading (List Event)
  seen_end more =
      if first more == 0x2C then seen (F (whole - length (drop 1 more))) (list_at (whole - length (drop 1 more)) (drop 1 more))
      else if first more == c then got (shut (false, []) (drop 1 more)) (drop 1 more)
      else wrong

  abbrev pub seen_tail : Text → Reading (List Event)
  seen_tail rest = follow (trivia_at rest) (λ after more. preceded (event After (whole - length rest) after ∷ []) (seen_end more))

  module _ (room : level ≤ nesting_limit) (fits : length value ≤ whole)
      (step : (v : Value) (after : Text) (p : P) (q : Bool × Text) (rest : Text)
      → E (add v after p, q) rest ≡ lead ++ (value_events (whole - length value) v
      ++ (event After (whole - length value + length (value_text v)) after
      ∷ F (whole - length value + length (value_text v) + length after + 1) (p, q) rest)))
      (ended : (at : ℕ) (q : Bool × Text) (rest : Text) → F at (none, q) rest ≡ shut q rest) where
    by_end : (v : Value) (rest after more : Text) → length (value_text v) + length rest ≡ length value → length after + length more
        ≡ length rest
        → seen E (behind lead (if first more == 0x2C
        then behind (value_events (whole - length value) v ++ event After (whole - length value + length (value_text v)) after ∷ [])
        (changed (λ p. (add v after p.0, p.1)) (list_at (whole - length value + length (value_text v) + length after + 1) (drop 1 more)))
        else if first more == c then got (add v after none, (false, [])) (drop 1 more)
        else wrong)) ≡ preceded lead (preceded (value_events (whole - length value) v) (preceded (event After (whole - length rest) after
        ∷ []) (seen_end more)))
    by_end v rest after more v-len after-len =
        let es = value_events (whole - length value) v in
        let end = whole - length value + length (value_text v) in
        let end-is : end ≡ whole - length rest = omega arith in
        elim (cases_Bool (first more == 0x2C)) [
          | inl comma ↦
              let less = less_one more 0x2C comma (omega arith) in
              let next-is : end + length after + 1 ≡ whole - length (drop 1 more) = omega (arith, less) in
              let r = list_at (end + length after + 1) (drop 1 more) in
              rw comma (
              ap (seen E) (behind-twice lead (es ++ event After end after ∷ []) (changed (λ p. (add v after p.0, p.1)) r))
              ∙ seen_behind (lead ++ (es ++ event After end after ∷ [])) (λ p. (add v after p.0, p.1)) E (F (end + length after + 1)) r
              (λ p last _. step v after p.0 p.1 last ∙ regroup lead es (event After end after) (F (end + length after + 1) p last))
              ∙ ap (λ (n : ℕ). preceded (lead ++ (es ++ event After end after ∷ [])) (seen (F n) (list_at n (drop 1 more)))) next-is
              ∙ ap (λ (n : ℕ). preceded (lead ++ (es ++ event After n after ∷ []))
              (seen (F (whole - length (drop 1 more))) (list_at (whole - length (drop 1 more)) (drop 1 more)))) end-is
              ∙ sym (preceded-twice lead (es ++ event After (whole - length rest) after ∷ []) _)
              ∙ sym (ap (preceded lead) (preceded-twice es (event After (whole - length rest) after ∷ []) _))
              )
          | inr other ↦ elim (cases_Bool (first more == c)) [
            | inl here ↦ rw (other, here) (ap (λ (x : List Event). got x (drop 1 more)) (
                step v after none (false, []) (drop 1 more)
                ∙ ap (λ (x : List Event). lead ++ (es ++ (event After end after ∷ x))) (ended (end + length after + 1) (
                  false,
                  [],
                ) (drop 1 more))
                ∙ ap (λ (n : ℕ). lead ++ (es ++ (event After n after ∷ shut (false, []) (drop 1 more)))) end-is
                ))
            | inr neither ↦ rw (other, neither) refl
          ]
        ]
      where
        regroup : (a b : List Event) (e : Event) (d : List Event) → a ++ (b ++ (e ∷ d)) ≡ (a ++ (b ++ e ∷ [])) ++ d
        regroup a b e d = simp append_assoc

    by_value : (r : Reading Value) → value_from k level (whole - length value) value ≡ r
        → seen E (behind lead (follow r tail)) ≡ preceded lead (followed (seen (λ v _. value_events (whole - length value) v) r) seen_tail)
    by_value wrong h = refl
    by_value (deep es) h = refl
    by_value (got v rest) h =
        elim (trivia_cases rest) [
          | inl bad ↦ rw bad refl
          | inr (after, more, is) ↦
              rw is (by_end v rest after more (value_length k level _ value rest v room h) (trivia_length rest after more is))
        ]

    pub turn : seen E (behind lead (follow (value_from k level (whole - length value) value) tail))
        ≡ preceded lead (followed (value_read k level whole value) seen_tail)
    turn = by_value (value_from k level (whole - length value) value) refl

-- ---- a turn

-- what follows the value of an element or a pair, and its trivia
abbrev pub end_read : Brackets → ℕ → ℕ → ℕ → Text → Reading (List Event)
end_read b k level whole more =
    if first more == 0x2C then items_read b k level whole true (drop 1 more)
    else if first more == closing_byte b then got (close_events (closing b) (closing_byte b
    ∷ []) (whole - length (drop 1 more) - 1) false []) (drop 1 more)
    else wrong

abbrev pub tail_read : Brackets → ℕ → ℕ → ℕ → Text → Reading (List Event)
tail_read b k level whole rest =
    follow (trivia_at rest) (λ after more. preceded (event After (whole - length rest) after ∷ []) (end_read b k level whole more))

module _ (k level whole : ℕ) (comma : Bool) (t before more : Text) (room : level ≤ nesting_limit) (fits : length t ≤ whole)
    (found : trivia_at t ≡ got before more) where
  abbrev at : ℕ
  at = whole - length t

  lens : length before + length more ≡ length t
  lens = trivia_length t before more found

  start-is : at + length before ≡ whole - length more
  start-is = omega (arith, lens)

  at-is : at ≡ whole - length more - length before
  at-is = omega (arith, lens)

  abbrev elements_seen : ℕ → Elements × (Bool × Text) → Text → List Event
  elements_seen start p rest = elements_events start p.0 ++ close_events ArrayClose (codes "]") (whole - length rest - 1) p.1.0 p.1.1

  abbrev lead : Event
  lead = between Before at (whole - length more)

  element_step : (v : Value) (after : Text) (p : Elements) (q : Bool × Text) (rest : Text)
      → elements_seen at (element (around before after) v p, q) rest
      ≡ lead ∷ [] ++ (value_events (whole - length more) v
      ++ (event After (whole - length more + length (value_text v)) after
      ∷ elements_seen (whole - length more + length (value_text v) + length after + 1) (p, q) rest))
  element_step v after p q rest =
      rw start-is (ap (λ (x : List Event). lead ∷ x) (append_assoc (value_events (whole - length more) v) (event After (whole - length more
      + length (value_text v)) after ∷ elements_events (whole - length more + length (value_text v) + length after + 1) p) _))

  pub element_turn : first more ≢ 0x5D
      → items_read brackets.Array (suc k) level whole comma t
      ≡ followed (head_read brackets.Array whole before more)
      (λ value. followed (value_read k level whole value) (tail_read brackets.Array k level whole))
  unfolding elements_at
  element_turn other =
      rw (found, ne_eqb (first more) 0x5D other, start-is) (
      turn k level whole 0x5D more (lead ∷ []) (λ v after p. element (around before after) v p) no_elements
      (λ a x. elements_at k level a true x) (elements_seen at) elements_seen
      (λ q rest. close_events ArrayClose (codes "]") (whole - length rest - 1) q.0 q.1)
      room (omega (arith, lens)) element_step (λ a q rest. refl)
      ∙ ap (λ (e : Event). preceded (e ∷ []) (followed (value_read k level whole more) (tail_read brackets.Array k level whole)))
      (sym (event_is Before _ at (whole - length more) before (sym at-is) (omega (arith, lens))))
      )

  abbrev pairs_seen : ℕ → Pairs × (Bool × Text) → Text → List Event
  pairs_seen start p rest = pairs_events start p.0 ++ close_events InlineTableClose (codes "}") (whole - length rest - 1) p.1.0 p.1.1

  pair_step : (f : Frame) (value : Text) → frame_at before more ≡ got f value
      → (v : Value) (after : Text) (p : Pairs) (q : Bool × Text) (rest : Text)
      → pairs_seen at (pair (record f { trailing = after }) v p, q) rest
      ≡ frame_events at f ++ (value_events (whole - length value) v
      ++ (event After (whole - length value + length (value_text v)) after
      ∷ pairs_seen (whole - length value + length (value_text v) + length after + 1) (p, q) rest))
  pair_step f value framed v after p q rest =
      let parts = ap length (frame_takes before more value f (trivia_takes t before more found).0 framed).parts in
      let place : value_at_byte at f ≡ whole - length value =
      omega (
        arith,
        lens,
        parts,
        length-append before more,
        length-append (head_text f) value,
        length-append f.leading (path_text f.path ++ (f.before_equals ++ (61 ∷ f.after_equals))),
        length-append (path_text f.path) (f.before_equals ++ (61 ∷ f.after_equals)),
        length-append f.before_equals (61 ∷ f.after_equals),
      ) in
      let close = close_events InlineTableClose (codes "}") (whole - length rest - 1) q.0 q.1 in
      ap (λ (n : ℕ). (frame_events at f ++ (value_events n v
      ++ (event After (n + length (value_text v)) after ∷ pairs_events (n + length (value_text v) + length after + 1) p)))
      ++ close) place
      ∙ regroup (frame_events at f) (value_events (whole - length value) v) (event After (whole - length value
      + length (value_text v)) after) (pairs_events (whole - length value + length (value_text v) + length after + 1) p) close
    where
      regroup : (a b : List Event) (e : Event) (d g : List Event) → (a ++ (b ++ (e ∷ d))) ++ g ≡ a ++ (b ++ (e ∷ (d ++ g)))
      regroup a b e d g = simp append_assoc

  abbrev pairs_tail : Frame → Text → Value → Text → Reading (Pairs × (Bool × Text))
  pairs_tail f value =
      tail k level whole 0x7D value (frame_events at f) (λ v after p. pair (record f { trailing = after }) v p) no_pairs
      (λ a x. pairs_at k level a true x) (pairs_seen at) pairs_seen
      (λ q rest. close_events InlineTableClose (codes "}") (whole - length rest - 1) q.0 q.1)

  by_frame : (r : Reading Frame) → frame_at before more ≡ r
      → seen (pairs_seen at) (follow r (λ f value. behind (frame_events at f)
      (follow (value_from k level (whole - length value) value) (pairs_tail f value))))
      ≡ followed (seen (λ f _. frame_events (whole - length more - length before) f) r)
      (λ value. followed (value_read k level whole value) (tail_read brackets.InlineTable k level whole))
  by_frame wrong framed = refl
  by_frame (deep es) framed = refl
  by_frame (got f value) framed =
      let parts = ap length (frame_takes before more value f (trivia_takes t before more found).0 framed).parts in
      turn k level whole 0x7D value (frame_events at f) (λ v after p. pair (record f { trailing = after }) v p) no_pairs
      (λ a x. pairs_at k level a true x) (pairs_seen at) pairs_seen
      (λ q rest. close_events InlineTableClose (codes "}") (whole - length rest - 1) q.0 q.1)
      room (omega (arith, lens, parts, length-append before more, length-append (head_text f) value)) (pair_step f value framed)
      (λ a q rest. refl)
      ∙ ap (λ (n : ℕ). preceded (frame_events n f) (followed (value_read k level whole value)
      (tail_read brackets.InlineTable k level whole))) at-is

  pub pair_turn : first more ≢ 0x7D
      → items_read brackets.InlineTable (suc k) level whole comma t
      ≡ followed (head_read brackets.InlineTable whole before more)
      (λ value. followed (value_read k level whole value) (tail_read brackets.InlineTable k level whole))
  unfolding pairs_at
  pair_turn other =
      let whole-is : at + (length more + length before) ≡ whole = omega (arith, lens) in
      rw (found, ne_eqb (first more) 0x7D other, whole-is) (by_frame (frame_at before more) refl)
