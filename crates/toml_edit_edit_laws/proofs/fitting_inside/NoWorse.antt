-- What is no worse than another item, at its place in a value.
use Rattle.std.proofs.Common.{◌≡◌, refl, sym, ◌∙◌, subst, ℕ, arith, Bool, true, false, List, [], ◌∷◌, ◌++◌}
use Rattle.std.specs.Prelude.{MatchBool}
use Rattle.std.specs.List.{AllByRecursion}
use Rattle.toml_edit_model.specs.Mode.{Mode}
use Rattle.toml_edit_model.specs.Text.{Text}
use Rattle.toml_edit_model.specs.Trivia.{IsWholeTrivia, IsWhiteSpace}
use Rattle.toml_edit_model.specs.Syntax.{Elements, Pairs, elements_depth, pairs_depth}
use Rattle.toml_edit_model.specs.Tree.{Decor, Key, Extent, ArrayFields, InlineFields, TableFields, Node, list, inline, table, tables, Items}
use Rattle.toml_edit_model.specs.Tree.{Slots, node_decor, is_value_node, shown_raw, shown_prefix, shown_suffix}
use Rattle.toml_edit_model.specs.Print.{Line, one_space, is_line_node, elements_of, inside_lines, pairs_of_lines}
use Rattle.toml_edit_model.specs.Fits.{LineSuits, ElementSuits, Suits}
use Rattle.toml_edit_model.specs.Slots.{Slot, keyed}
use Rattle.toml_edit_model.specs.Lists.{slot_list, slots_from, item_list, items_from}
use Rattle.toml_edit_laws.specs.Locality.{value_line}
use Rattle.toml_edit_laws.proofs.common.Each.{all-append, all-front, all-back}
use Rattle.toml_edit_edit_laws.proofs.fitting_inside.Limits.{PairsWithin, LineWithin, array-closed, inline-closed, pairs-lines}
use Rattle.toml_edit_edit_laws.proofs.fitting_inside.Limits.{lines-pairs}
use Rattle.toml_edit_edit_laws.proofs.fitting_inside.Parts.{Sound, ItemIsSound, InsideIsSound, SlotIsSound}
use Rattle.toml_edit_edit_laws.proofs.fitting_inside.Parts.{items-sound, sound-items, slots-sound, sound-slots}

module _ (mode : Mode) where
  -- The second item is of the same kind, with the same decor around it, and fits wherever the first
  -- does.
  pub record NoWorse (old n : Node) : Type 0 where
    pub value : is_value_node n ≡ is_value_node old
    pub line : is_line_node n ≡ is_line_node old
    pub decor : node_decor n ≡ node_decor old
    pub sound : (d : ℕ) → Sound mode d old → Sound mode d n
    pub inside : (d : ℕ) (ks : List Key) → InsideIsSound mode d ks old → InsideIsSound mode d ks n

  -- slots and items, of which each is sound where those before were
  abbrev pub SlotsKeep : List (Slot Node) → List (Slot Node) → Type 0
  SlotsKeep ss ys =
      (d : ℕ) (ks : List Key) → AllByRecursion (SlotIsSound mode d ks) ss → AllByRecursion (SlotIsSound mode d ks) ys

  abbrev pub ItemsKeep : List Node → List Node → Type 0
  ItemsKeep xs ys = (d : ℕ) → AllByRecursion (ItemIsSound mode d) xs → AllByRecursion (ItemIsSound mode d) ys

  -- ---- an item with other parts

  pub inline-no-worse : (f : InlineFields) (ss : Slots) (ys : List (Slot Node)) → SlotsKeep (slot_list ss) ys
      → NoWorse (inline f ss) (inline f (slots_from ys))
  inline-no-worse f ss ys h =
      record {
        value = refl;
        line = refl;
        decor = refl;
        sound = λ d s.
            (let text : Text = shown_raw mode f.trailing in
            let ls : List Line = inside_lines mode ss [] in
            let ps : Pairs = pairs_of_lines mode ls in
            let qs : Pairs = pairs_of_lines mode (inside_lines mode (slots_from ys) []) in
            let e : ℕ = pairs_depth ps in
            let was = inline-closed f.comma text ps in
            let now = inline-closed f.comma text qs in
            let old = slots-sound mode e [] ss s.0.1 (pairs-lines mode e ls (omega arith, sym was.1 ∙ s.1.1)) in
            let new = sound-slots mode e [] ys (h e [] old) in
            let within : PairsWithin e qs = lines-pairs mode e (inside_lines mode (slots_from ys) []) new.1 in
            let a = was.0 in
            let b = now.0 in
            let c = s.1.0 in
            let g = within.0 in
            ((s.0.0, new.0), (omega (arith, a, b, c, g), now.1 ∙ within.1)));
        inside = λ d ks s. sound-slots mode d ks ys (h d ks (slots-sound mode d ks ss s.0 s.1));
      }

  pub table-no-worse : (f : TableFields) (ss : Slots) (ys : List (Slot Node)) → SlotsKeep (slot_list ss) ys
      → NoWorse (table f ss) (table f (slots_from ys))
  table-no-worse f ss ys h =
      record {
        value = refl;
        line = refl;
        decor = refl;
        sound = λ d s. s;
        inside = λ d ks s. sound-slots mode d ks ys (h d ks (slots-sound mode d ks ss s.0 s.1));
      }

  pub list-no-worse : (f : ArrayFields) (xs : Items) (ys : List Node) → ItemsKeep (item_list xs) ys
      → NoWorse (list f xs) (list f (items_from ys))
  list-no-worse f xs ys h =
      record {
        value = refl;
        line = refl;
        decor = refl;
        sound = λ d s.
            (let text : Text = shown_raw mode f.trailing in
            let es : Elements = elements_of mode xs true in
            let gs : Elements = elements_of mode (items_from ys) true in
            let e : ℕ = elements_depth es in
            let was = array-closed f.comma text es in
            let now = array-closed f.comma text gs in
            let old = items-sound mode e xs true s.0.1 (omega arith, sym was.1 ∙ s.1.1) in
            let new = sound-items mode e ys true (h e old) in
            let a = was.0 in
            let b = now.0 in
            let c = s.1.0 in
            let g = new.1.0 in
            ((s.0.0, new.0), (omega (arith, a, b, c, g), now.1 ∙ new.1.1)));
        inside = λ d ks s. s;
      }

  pub tables-no-worse : (e : Extent) (xs ys : Items) → NoWorse (tables e xs) (tables e ys)
  tables-no-worse e xs ys =
      record { value = refl; line = refl; decor = refl; sound = λ d s. s; inside = λ d ks s. s }

  -- ---- one part that is no worse

  module _ (old n : Node) (r : NoWorse old n) where
    item-changed : (d : ℕ) → ItemIsSound mode d old → ItemIsSound mode d n
    item-changed d h = by_test (is_value_node old) (is_value_node n) r.value h
      where
        by_test : (a b : Bool) → b ≡ a → MatchBool a (ElementSuits mode old × Sound mode d old) (Unit {0})
            → MatchBool b (ElementSuits mode n × Sound mode d n) (Unit {0})
        by_test true true e h = (
          subst (λ (x : Decor). IsWholeTrivia (shown_prefix mode [] x) × IsWholeTrivia (shown_suffix mode [] x)) (sym r.decor) h.0,
          r.sound d h.1,
        )
        by_test false false e h = tt
        by_test true false e h = absurd cc
        by_test false true e h = absurd cc

    line-changed : (ks : List Key) → LineSuits mode IsWholeTrivia ks old → LineSuits mode IsWholeTrivia ks n
    line-changed ks h =
        let value = subst
        (λ (x : Decor). IsWhiteSpace (shown_prefix mode one_space x) × IsWholeTrivia (shown_suffix mode [] x)) (sym r.decor)
        (h.after_equals, h.trailing) in
        record { leading = h.leading; segments = h.segments; before_equals = h.before_equals; after_equals = value.0; trailing = value.1 }

    slot-changed : (d : ℕ) (ks : List Key) (k : Key) → SlotIsSound mode d ks (keyed k old) → SlotIsSound mode d ks (keyed k n)
    slot-changed d ks k h = by_test (ks ++ (k ∷ [])) (is_line_node old) (is_line_node n) r.line h
      where
        by_test : (at_end : List Key) (a b : Bool) → b ≡ a
            → MatchBool a (LineSuits mode IsWholeTrivia at_end old × Suits mode old × LineWithin mode d (value_line mode at_end old))
            (InsideIsSound mode d at_end old)
            → MatchBool b (LineSuits mode IsWholeTrivia at_end n × Suits mode n × LineWithin mode d (value_line mode at_end n))
            (InsideIsSound mode d at_end n)
        by_test at_end true true e h =
            let s = r.sound d (h.1, h.2.1) in
            (line-changed at_end h.0, s.0, (h.2.0, s.1))
        by_test at_end false false e h = r.inside d at_end h
        by_test at_end true false e h = absurd cc
        by_test at_end false true e h = absurd cc

    pub slots-changed : (k : Key) (ss before after : List (Slot Node)) → ss ≡ before ++ (keyed k old ∷ after)
        → SlotsKeep ss (before ++ (keyed k n ∷ after))
    slots-changed k ss before after is d ks h =
        let P = SlotIsSound mode d ks in
        let old_ones : AllByRecursion P (before ++ (keyed k old ∷ after)) = subst (AllByRecursion P) is h in
        let rest = all-back P before (keyed k old ∷ after) old_ones in
        all-append P before (keyed k n ∷ after) (all-front P before (keyed k old ∷ after) old_ones) (slot-changed d ks k rest.0, rest.1)

    pub items-changed : (xs before after : List Node) → xs ≡ before ++ (old ∷ after) → ItemsKeep xs (before ++ (n ∷ after))
    items-changed xs before after is d h =
        let P = ItemIsSound mode d in
        let old_ones : AllByRecursion P (before ++ (old ∷ after)) = subst (AllByRecursion P) is h in
        let rest = all-back P before (old ∷ after) old_ones in
        all-append P before (n ∷ after) (all-front P before (old ∷ after) old_ones) (item-changed d rest.0, rest.1)
