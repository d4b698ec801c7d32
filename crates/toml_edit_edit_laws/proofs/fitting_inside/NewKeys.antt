-- A value below new keys fits anywhere, where the keys leave room for its depth.
use Rattle.std.proofs.Common.{◌≡◌, refl, sym, ◌∙◌, subst, ℕ, suc, ◌+◌, ◌≤◌, arith, true, List, [], ◌∷◌, length}
use Rattle.std.specs.Prelude.{MatchBool}
use Rattle.std.proofs.lemmas.Bool.{leb-true}
use Rattle.toml_edit_model.specs.Mode.{Mode}
use Rattle.toml_edit_model.specs.Trivia.{IsWholeTrivia}
use Rattle.toml_edit_model.specs.Syntax.{Pairs, depth, nesting_limit}
use Rattle.toml_edit_model.specs.Tree.{Key, Node, inline, Slots, no_slots, slot, node_decor, shown_raw, shown_suffix}
use Rattle.toml_edit_model.specs.Print.{is_line_node, value_of, inside_lines, pairs_of_lines}
use Rattle.toml_edit_model.specs.Fits.{LineSuits, Suits}
use Rattle.toml_edit_model.specs.Conversions.{new_inline}
use Rattle.toml_edit_model.specs.Keys.{cleared_key}
use Rattle.toml_edit_model.specs.Slots.{keyed}
use Rattle.toml_edit_laws.specs.Locality.{is_plain_value, value_line}
use Rattle.toml_edit_laws.proofs.common.WhiteSpace.{shown-none}
use Rattle.toml_edit_laws.proofs.locality.Values.{plain-value, plain-undotted, line-value}
use Rattle.toml_edit_edit_laws.specs.CommandLaws.{made_below}
use Rattle.toml_edit_edit_laws.specs.Fitting.{IsSpaced, FitsAnywhere, IsHarmlessSlot}
use Rattle.toml_edit_edit_laws.specs.CallsFit.{IsHarmlessBelow}
use Rattle.toml_edit_edit_laws.proofs.path_calls.Setting.{made-plain}
use Rattle.toml_edit_edit_laws.proofs.fitting.Lines.{white-trivia, white-side}
use Rattle.toml_edit_edit_laws.proofs.fitting_inside.Limits.{LineWithin, limits-within, within-limits, inline-closed, lines-pairs}
use Rattle.toml_edit_edit_laws.proofs.fitting_inside.Parts.{Sound, InsideIsSound, SlotIsSound, sound-slots}

module _ (mode : Mode) where
  made-spaced : (more : List Key) (v : Node) → IsSpaced mode (node_decor v) → IsSpaced mode (node_decor (made_below more v))
  made-spaced [] v h = h
  made-spaced (k ∷ more) v h = (refl, refl)

  -- a value is the one line of an inline table
  one-slot : (d : ℕ) (k : Key) (n : Node) → is_line_node n ≡ true → IsSpaced mode (node_decor n) → Sound mode d n
      → SlotIsSound mode d [] (keyed (cleared_key k) n)
  one-slot d k n is spaced h =
      let suits : LineSuits mode IsWholeTrivia (cleared_key k ∷ []) n = record {
        leading = ([], tt, refl);
        segments = ((refl, refl), tt);
        before_equals = refl;
        after_equals = white-side mode (node_decor n).prefix spaced.0;
        trailing = white-trivia (shown_suffix mode [] (node_decor n)) spaced.1;
      } in
      subst
      (λ b. MatchBool b
      (LineSuits mode IsWholeTrivia (cleared_key k ∷ []) n × Suits mode n × LineWithin mode d (value_line mode (cleared_key k ∷ []) n))
      (InsideIsSound mode d (cleared_key k ∷ []) n)) (sym is) (suits, h.0, (refl, h.1))

  one-sound : (d : ℕ) (k : Key) (n : Node) → is_line_node n ≡ true → IsSpaced mode (node_decor n) → Sound mode d n
      → Sound mode (suc d) (inline new_inline (slot (cleared_key k) n no_slots))
  one-sound d k n is spaced h =
      let inside : Slots = slot (cleared_key k) n no_slots in
      let parts = sound-slots mode d [] (keyed (cleared_key k) n ∷ []) (one-slot d k n is spaced h, tt) in
      let ps : Pairs = pairs_of_lines mode (inside_lines mode inside []) in
      let closed = inline-closed new_inline.comma (shown_raw mode new_inline.trailing) ps in
      let within = lines-pairs mode d (inside_lines mode inside []) parts.1 in
      let a = closed.0 in
      let b = within.0 in
      ((([], tt, shown-none mode), parts.0), (omega (arith, a, b), closed.1 ∙ within.1))

  made-sound : (more : List Key) (v : Node) (d : ℕ) → is_plain_value v ≡ true → IsSpaced mode (node_decor v) → Sound mode d v
      → Sound mode (length more + d) (made_below more v)
  made-sound [] v d plain spaced h = subst (λ e. Sound mode e v) (let e : d ≡ 0 + d = omega arith in e) h
  made-sound (k ∷ more) v d plain spaced h =
      let n : Node = made_below more v in
      let flat = made-plain v more plain in
      let line = line-value n (plain-value n flat) (plain-undotted n flat) in
      subst (λ e. Sound mode e (made_below (k ∷ more) v)) (let e : suc (length more + d) ≡ suc (length more) + d = omega arith in e)
      (one-sound (length more + d) k n line (made-spaced more v spaced) (made-sound more v d plain spaced h))

  up-to : (n : Node) (d : ℕ) → d ≤ nesting_limit → Sound mode d n → FitsAnywhere mode n
  up-to n d h s =
      let a = s.1.0 in
      (s.0, within-limits (value_of mode n) (omega (arith, a, h), s.1.1))

  pub made-harmless : (k : Key) (more : List Key) (v : Node) → is_plain_value v ≡ true → IsHarmlessBelow mode more v
      → IsHarmlessSlot mode (cleared_key k) (made_below more v)
  made-harmless k more v plain h =
      let d : ℕ = depth (value_of mode v) in
      let keeps = limits-within (value_of mode v) h.1.1 in
      let sound = made-sound more v d plain h.0 (h.1.0, (omega arith, keeps.1)) in
      ((refl, refl), (refl, refl), made-spaced more v h.0, up-to (made_below more v) (length more + d) (leb-true _ _ h.2) sound)
