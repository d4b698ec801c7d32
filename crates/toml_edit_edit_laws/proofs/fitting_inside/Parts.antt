-- What suits and keeps the limits, by the items of an array and by the slots of an inline table.
use Rattle.std.proofs.Common.{refl, ℕ, arith, Bool, true, false, List, [], ◌∷◌, ◌++◌}
use Rattle.std.specs.Prelude.{MatchBool}
use Rattle.std.specs.List.{AllByRecursion}
use Rattle.toml_edit_model.specs.Mode.{Mode}
use Rattle.toml_edit_model.specs.Trivia.{IsWholeTrivia}
use Rattle.toml_edit_model.specs.Syntax.{element}
use Rattle.toml_edit_model.specs.Tree.{Key, Node, Items, no_items, item, Slots, no_slots, slot, node_decor, is_value_node}
use Rattle.toml_edit_model.specs.Print.{line_of, is_line_node, around_of, value_of, elements_of, inside_lines, lines_inside}
use Rattle.toml_edit_model.specs.Fits.{LineSuits, ElementSuits, Suits, ItemsSuit, InsideSuits, NodeSuitsInside}
use Rattle.toml_edit_model.specs.Slots.{Slot}
use Rattle.toml_edit_model.specs.Lists.{slot_list, slots_from, item_list, items_from}
use Rattle.toml_edit_laws.specs.Locality.{value_line}
use Rattle.toml_edit_laws.proofs.common.Each.{all-append, all-front, all-back}
use Rattle.toml_edit_edit_laws.proofs.fitting_inside.Limits.{Within, ElementsWithin, LineWithin, first-element, more-elements}

module _ (mode : Mode) where
  -- the decors inside suit, and the limits are kept, up to a depth
  abbrev pub Sound : ℕ → Node → Type 0
  Sound d n = Suits mode n × Within d (value_of mode n)

  -- an element of an array
  abbrev pub ItemIsSound : ℕ → Node → Type 0
  ItemIsSound d n = MatchBool (is_value_node n) (ElementSuits mode n × Sound d n) (Unit {0})

  -- what is inside an inline table, after some keys
  abbrev pub InsideIsSound : ℕ → List Key → Node → Type 0
  InsideIsSound d ks n = NodeSuitsInside mode n ks × AllByRecursion (LineWithin mode d) (lines_inside mode n ks)

  -- a slot of an inline table
  abbrev pub SlotIsSound : ℕ → List Key → Slot Node → Type 0
  SlotIsSound d ks s =
      MatchBool (is_line_node s.item)
      (LineSuits mode IsWholeTrivia (ks ++ (s.key ∷ [])) s.item × Suits mode s.item
      × LineWithin mode d (value_line mode (ks ++ (s.key ∷ [])) s.item))
      (InsideIsSound d (ks ++ (s.key ∷ [])) s.item)

  -- ---- items

  pub items-sound : (d : ℕ) (xs : Items) (b : Bool) → ItemsSuit mode xs → ElementsWithin d (elements_of mode xs b)
      → AllByRecursion (ItemIsSound d) (item_list xs)
  items-sound d no_items b s h = tt
  items-sound d (item n xs) b s h = by_test (is_value_node n) s h (λ c. items-sound d xs c s.1)
    where
      by_test : (c : Bool) → MatchBool c (ElementSuits mode n × Suits mode n) (Unit {0}) × ItemsSuit mode xs
          → ElementsWithin d (elim c [
            | true ↦ element (around_of mode b (node_decor n)) (value_of mode n) (elements_of mode xs false)
            | false ↦ elements_of mode xs b
          ])
          → ((a : Bool) → ElementsWithin d (elements_of mode xs a) → AllByRecursion (ItemIsSound d) (item_list xs))
          → MatchBool c (ElementSuits mode n × Sound d n) (Unit {0}) × AllByRecursion (ItemIsSound d) (item_list xs)
      by_test true s h ih =
          let p = first-element d (value_of mode n) (elements_of mode xs false) h.0 h.1 in
          ((s.0.0, (s.0.1, p.0)), ih false p.1)
      by_test false s h ih = (tt, ih b h)

  pub sound-items : (d : ℕ) (ns : List Node) (b : Bool) → AllByRecursion (ItemIsSound d) ns
      → ItemsSuit mode (items_from ns) × ElementsWithin d (elements_of mode (items_from ns) b)
  sound-items d [] b h = (tt, (omega arith, refl))
  sound-items d (n ∷ ns) b h = by_test (is_value_node n) h.0 (λ c. sound-items d ns c h.1)
    where
      by_test : (c : Bool) → MatchBool c (ElementSuits mode n × Sound d n) (Unit {0})
          → ((a : Bool) → ItemsSuit mode (items_from ns) × ElementsWithin d (elements_of mode (items_from ns) a))
          → (MatchBool c (ElementSuits mode n × Suits mode n) (Unit {0}) × ItemsSuit mode (items_from ns))
          × ElementsWithin d (elim c [
            | true ↦ element (around_of mode b (node_decor n)) (value_of mode n) (elements_of mode (items_from ns) false)
            | false ↦ elements_of mode (items_from ns) b
          ])
      by_test true h ih =
          let rest = ih false in
          (((h.0, h.1.0), rest.0), more-elements d (value_of mode n) (elements_of mode (items_from ns) false) h.1.1 rest.1)
      by_test false h ih = let rest = ih b in ((tt, rest.0), rest.1)

  -- ---- slots

  pub slots-sound : (d : ℕ) (ks : List Key) (ss : Slots) → InsideSuits mode ss ks
      → AllByRecursion (LineWithin mode d) (inside_lines mode ss ks) → AllByRecursion (SlotIsSound d ks) (slot_list ss)
  slots-sound d ks no_slots s h = tt
  slots-sound d ks (slot k n ss) s h =
      by_test (ks ++ (k ∷ [])) (is_line_node n) s.0 h (λ g. slots-sound d ks ss s.1 g)
    where
      by_test : (at_end : List Key) (c : Bool)
          → MatchBool c (LineSuits mode IsWholeTrivia at_end n × Suits mode n) (NodeSuitsInside mode n at_end)
          → AllByRecursion (LineWithin mode d) ((elim c [
            | true ↦ line_of at_end n (value_of mode n)
            | false ↦ lines_inside mode n at_end
          ]) ++ inside_lines mode ss ks)
          → (AllByRecursion (LineWithin mode d) (inside_lines mode ss ks) → AllByRecursion (SlotIsSound d ks) (slot_list ss))
          → MatchBool c (LineSuits mode IsWholeTrivia at_end n × Suits mode n × LineWithin mode d (value_line mode at_end n))
          (InsideIsSound d at_end n)
          × AllByRecursion (SlotIsSound d ks) (slot_list ss)
      by_test at_end true s h ih = ((s.0, s.1, h.0), ih h.1)
      by_test at_end false s h ih = (
        (s, all-front (LineWithin mode d) (lines_inside mode n at_end) (inside_lines mode ss ks) h),
        ih (all-back (LineWithin mode d) (lines_inside mode n at_end) (inside_lines mode ss ks) h),
      )

  pub sound-slots : (d : ℕ) (ks : List Key) (xs : List (Slot Node)) → AllByRecursion (SlotIsSound d ks) xs
      → InsideSuits mode (slots_from xs) ks × AllByRecursion (LineWithin mode d) (inside_lines mode (slots_from xs) ks)
  sound-slots d ks [] h = (tt, tt)
  sound-slots d ks (x ∷ xs) h = by_test (ks ++ (x.key ∷ [])) (is_line_node x.item) h.0 (sound-slots d ks xs h.1)
    where
      by_test : (at_end : List Key) (c : Bool)
          → MatchBool c (LineSuits mode IsWholeTrivia at_end x.item × Suits mode x.item × LineWithin mode d (value_line mode at_end x.item))
          (InsideIsSound d at_end x.item)
          → InsideSuits mode (slots_from xs) ks × AllByRecursion (LineWithin mode d) (inside_lines mode (slots_from xs) ks)
          → (MatchBool c (LineSuits mode IsWholeTrivia at_end x.item × Suits mode x.item) (NodeSuitsInside mode x.item at_end)
          × InsideSuits mode (slots_from xs) ks)
          × AllByRecursion (LineWithin mode d) ((elim c [
            | true ↦ line_of at_end x.item (value_of mode x.item)
            | false ↦ lines_inside mode x.item at_end
          ]) ++ inside_lines mode (slots_from xs) ks)
      by_test at_end true h rest = (((h.0, h.1), rest.0), (h.2, rest.1))
      by_test at_end false h rest =
          let P = LineWithin mode d in
          ((h.0, rest.0), all-append P (lines_inside mode x.item at_end) (inside_lines mode (slots_from xs) ks) h.1 rest.1)
