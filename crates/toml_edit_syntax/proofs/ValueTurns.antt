-- The events of a value by its first byte.
use Rattle.std.proofs.Common.{◌≡◌, ◌≢◌, ℕ, suc, ◌+◌, ◌-◌, ◌≤◌, Bool, false, [], ◌∷◌, ◌++◌, length, drop, codes, refl, ap, ◌∙◌, arith}
use Rattle.std.proofs.lemmas.Bool.{ne_eqb, eq-eqb}
use Rattle.toml_edit_model.specs.Text.{Text}
use Rattle.toml_edit_model.specs.Syntax.{array, inline_table, Elements, Pairs, value_text, nesting_limit}
use Rattle.toml_edit_syntax.specs.declared.event.EventKind.{EventKind}
use Rattle.toml_edit_syntax.specs.declared.event.EventKind.TheVariants.{ArrayOpen, ArrayClose, InlineTableOpen, InlineTableClose, TooDeep}
use Rattle.toml_edit_syntax.specs.declared.event.Event.{Event}
use Rattle.toml_edit_syntax.specs.declared.value.Brackets.{Brackets}
use Rattle.toml_edit_syntax.specs.declared.value.Brackets.TheVariants as brackets
use Rattle.toml_edit_laws.specs.reading.Runs.{first}
use Rattle.toml_edit_syntax.specs.ValueEvents.{event, close_events, value_events, elements_events, pairs_events}
use Rattle.toml_edit_syntax.specs.ValueReading.{Reading, got, deep, changed, behind, value_from, elements_at, pairs_at}
use Rattle.toml_edit_syntax.specs.EventReading.{seen, preceded, opening, opening_byte, scalar_read, value_read, items_read}
use Rattle.toml_edit_syntax.proofs.EventSteps.{between, event_is, seen_behind}
use Rattle.toml_edit_syntax.proofs.ItemTurns.{less_one, value_length}

pub value_scalar : (n level whole : ℕ) (t : Text) → ((b : Brackets) → first t ≢ opening_byte b) → value_read (suc n) level whole t
    ≡ scalar_read whole t
unfolding value_from
value_scalar n level whole t other =
    rw (ne_eqb (first t) 0x5B (other brackets.Array), ne_eqb (first t) 0x7B (other brackets.InlineTable)) refl

module _ (n level whole : ℕ) (t : Text) (fits : length t ≤ whole) where
  bracket_is : (kind : EventKind) (c : ℕ) → first t ≡ c → 1 ≤ c → event kind (whole - length t) (c ∷ [])
      ≡ between kind (whole - length t) (whole - length (drop 1 t))
  bracket_is kind c here some = event_is kind _ _ _ (c ∷ []) refl (omega (arith, less_one t c (eq-eqb (first t) c here) some))

  pub value_sinks : (b : Brackets) → first t ≡ opening_byte b → level ≡ nesting_limit → value_read (suc n) level whole t
      ≡ deep (between TooDeep (whole - length t) (whole - length (drop 1 t)) ∷ [])
  unfolding value_from
  value_sinks brackets.Array here full =
      rw (eq-eqb (first t) 0x5B here, eq-eqb level nesting_limit full)
      (ap (λ (e : Event). deep (e ∷ [])) (bracket_is TooDeep 0x5B here (omega arith)))
  value_sinks brackets.InlineTable here full =
      rw (
        ne_eqb (first t) 0x5B (λ e. omega arith),
        eq-eqb (first t) 0x7B here,
        eq-eqb level nesting_limit full,
      ) (ap (λ (e : Event). deep (e ∷ [])) (bracket_is TooDeep 0x7B here (omega arith)))

  module _ (room : level ≤ nesting_limit) (some : level ≢ nesting_limit) where
    array_is : first t ≡ 0x5B → value_from (suc n) level (whole - length t) t
        ≡ behind (event ArrayOpen (whole - length t) (codes "[")
        ∷ []) (changed (λ p. array p.0 p.1.0 p.1.1) (elements_at n (suc level) (whole - length t + 1) false (drop 1 t)))
    unfolding value_from
    array_is here = rw (eq-eqb (first t) 0x5B here, ne_eqb level nesting_limit some) refl

    table_is : first t ≡ 0x7B → value_from (suc n) level (whole - length t) t
        ≡ behind (event InlineTableOpen (whole - length t) (codes "{")
        ∷ []) (changed (λ p. inline_table p.0 p.1.0 p.1.1) (pairs_at n (suc level) (whole - length t + 1) false (drop 1 t)))
    unfolding value_from
    table_is here = rw (ne_eqb (first t) 0x5B (λ e. omega arith), eq-eqb (first t) 0x7B here, ne_eqb level nesting_limit some) refl

    pub value_opens : (b : Brackets) → first t ≡ opening_byte b
        → value_read (suc n) level whole t ≡ preceded (between (opening b) (whole - length t) (whole - length (drop 1 t))
        ∷ []) (items_read b n (suc level) whole false (drop 1 t))
    value_opens brackets.Array here =
        let at = whole - length t in
        let less = less_one t 0x5B (eq-eqb (first t) 0x5B here) (omega arith) in
        let next : at + 1 ≡ whole - length (drop 1 t) = omega (arith, less) in
        let r = elements_at n (suc level) (at + 1) false (drop 1 t) in
        let made = λ (p : Elements × (Bool × Text)). array p.0 p.1.0 p.1.1 in
        let open_event = event ArrayOpen at (codes "[") in
        let seen_at = λ (m : ℕ) (p : Elements × (Bool × Text)) (rest : Text). elements_events m p.0
        ++ close_events ArrayClose (codes "]") (whole - length rest - 1) p.1.0 p.1.1 in
        let close_at : (p : Elements × (Bool × Text)) (rest : Text) → r ≡ got p rest → at + length (value_text (made p)) - 1
        ≡ whole - length rest - 1 =
        λ p rest e. omega (
          arith,
          value_length (suc n) level at t rest (made p) room (array_is here
              ∙ ap (λ (x : Reading (Elements × (Bool × Text))). behind (open_event ∷ []) (changed made x)) e),
        ) in
        ap (seen (λ v _. value_events at v)) (array_is here)
        ∙ seen_behind (open_event ∷ []) made (λ v _. value_events at v) (seen_at (at + 1)) r
        (λ p rest e. ap (λ (m : ℕ). open_event ∷ elements_events (at + 1) p.0
        ++ close_events ArrayClose (codes "]") m p.1.0 p.1.1) (close_at p rest e))
        ∙ ap (λ (m : ℕ). preceded (open_event ∷ []) (seen (seen_at m) (elements_at n (suc level) m false (drop 1 t)))) next
        ∙ ap (λ (x : Event). preceded (x ∷ []) (items_read brackets.Array n (suc level) whole false (drop 1 t)))
        (bracket_is ArrayOpen 0x5B here (omega arith))
    value_opens brackets.InlineTable here =
        let at = whole - length t in
        let less = less_one t 0x7B (eq-eqb (first t) 0x7B here) (omega arith) in
        let next : at + 1 ≡ whole - length (drop 1 t) = omega (arith, less) in
        let r = pairs_at n (suc level) (at + 1) false (drop 1 t) in
        let made = λ (p : Pairs × (Bool × Text)). inline_table p.0 p.1.0 p.1.1 in
        let open_event = event InlineTableOpen at (codes "{") in
        let seen_at = λ (m : ℕ) (p : Pairs × (Bool × Text)) (rest : Text). pairs_events m p.0
        ++ close_events InlineTableClose (codes "}") (whole - length rest - 1) p.1.0 p.1.1 in
        let close_at : (p : Pairs × (Bool × Text)) (rest : Text) → r ≡ got p rest → at + length (value_text (made p)) - 1
        ≡ whole - length rest - 1 =
        λ p rest e. omega (
          arith,
          value_length (suc n) level at t rest (made p) room (table_is here
              ∙ ap (λ (x : Reading (Pairs × (Bool × Text))). behind (open_event ∷ []) (changed made x)) e),
        ) in
        ap (seen (λ v _. value_events at v)) (table_is here)
        ∙ seen_behind (open_event ∷ []) made (λ v _. value_events at v) (seen_at (at + 1)) r
        (λ p rest e. ap (λ (m : ℕ). open_event ∷ pairs_events (at + 1) p.0
        ++ close_events InlineTableClose (codes "}") m p.1.0 p.1.1) (close_at p rest e))
        ∙ ap (λ (m : ℕ). preceded (open_event ∷ []) (seen (seen_at m) (pairs_at n (suc level) m false (drop 1 t)))) next
        ∙ ap (λ (x : Event). preceded (x ∷ []) (items_read brackets.InlineTable n (suc level) whole false (drop 1 t)))
        (bracket_is InlineTableOpen 0x7B here (omega arith))
