-- Under another name a slot has as many lines, and its blocks are steady as before.
use Rattle.std.proofs.Common.{◌≡◌, refl, sym, ◌∙◌, ap, subst, ℕ, suc, Bool, true, false, List, [], ◌∷◌, ◌++◌}
use Rattle.std.specs.Prelude.{◌&&◌, ◌||◌, not, if◌then◌else◌}
use Rattle.std.specs.List.{AllByRecursion}
use Rattle.toml_edit_model.specs.Mode.{Mode}
use Rattle.toml_edit_model.specs.Text.{is_empty}
use Rattle.toml_edit_model.specs.Paths.{Path, to_key, to_element}
use Rattle.toml_edit_model.specs.Tree.{Key, TableFields, Node, nothing, leaf, list, inline, table, tables, Items, no_items, item, Slots}
use Rattle.toml_edit_model.specs.Tree.{no_slots, slot}
use Rattle.toml_edit_model.specs.HeaderOrder.{Visit, visit_of, node_walk, items_walk, slots_walk}
use Rattle.toml_edit_model.specs.Print.{line_of, value_of, is_line_node, inside_lines, lines_inside, table_lines, dotted_lines}
use Rattle.toml_edit_model.specs.Fits.{has_steady_header}
use Rattle.toml_edit_laws.proofs.common.Each.{all-front, all-back}
use Rattle.toml_edit_laws.proofs.common.Lists.{not_empty-last}
use Rattle.toml_edit_laws.proofs.locality.Blocks.{block_of, blocks, blocks-append, IsSteadyBlock}
use Rattle.toml_edit_laws.proofs.locality.Under.{slot_lines, all-blocks-append}

-- ---- whether there are lines

module _ {A : Type 0} where
  empty-alike : (xs xs' ys ys' : List A) → is_empty xs ≡ is_empty xs' → is_empty ys ≡ is_empty ys' → is_empty (xs ++ ys)
      ≡ is_empty (xs' ++ ys')
  empty-alike [] [] ys ys' e d = d
  empty-alike (x ∷ xs) (x' ∷ xs') ys ys' e d = refl
  empty-alike [] (x' ∷ xs') ys ys' e d = absurd cc
  empty-alike (x ∷ xs) [] ys ys' e d = absurd cc

  pub empty-within : (front xs xs' back : List A) → is_empty xs ≡ is_empty xs' → is_empty (front ++ (xs ++ back))
      ≡ is_empty (front ++ (xs' ++ back))
  empty-within front xs xs' back e = empty-alike front front (xs ++ back) (xs' ++ back) refl (empty-alike xs xs' back back e refl)

  empty-either : (b : Bool) (xs xs' ys ys' : List A) → is_empty xs ≡ is_empty xs' → is_empty ys ≡ is_empty ys'
      → is_empty (elim b [ true ↦ xs | false ↦ ys ]) ≡ is_empty (elim b [ true ↦ xs' | false ↦ ys' ])
  empty-either true xs xs' ys ys' e d = e
  empty-either false xs xs' ys ys' e d = d

module _ (mode : Mode) where
  mutual
    empty-inside : (ss : Slots) (ks js : List Key) → is_empty (inside_lines mode ss ks) ≡ is_empty (inside_lines mode ss js)
    empty-inside no_slots ks js = refl
    empty-inside (slot k n ss) ks js =
        empty-alike (elim (is_line_node n) [
          | true ↦ line_of (ks ++ (k ∷ [])) n (value_of mode n)
          | false ↦
              lines_inside mode n (ks ++ (k ∷ []))
        ])
        (elim (is_line_node n) [ true ↦ line_of (js ++ (k ∷ [])) n (value_of mode n) | false ↦ lines_inside mode n (js ++ (k ∷ [])) ])
        (inside_lines mode ss ks) (inside_lines mode ss js)
        (empty-either (is_line_node n) (line_of (ks ++ (k ∷ [])) n (value_of mode n)) (line_of (js ++ (k ∷ [])) n (value_of mode n))
        (lines_inside mode n (ks ++ (k ∷ []))) (lines_inside mode n (js ++ (k ∷ []))) refl (empty-node_inside n (ks ++ (k ∷ [])) (js
        ++ (k ∷ []))))
        (empty-inside ss ks js)

    empty-node_inside : (n : Node) (ks js : List Key) → is_empty (lines_inside mode n ks) ≡ is_empty (lines_inside mode n js)
    empty-node_inside (inline f ss) ks js = empty-inside ss ks js
    empty-node_inside (table f ss) ks js = empty-inside ss ks js
    empty-node_inside (leaf s r d) ks js = refl
    empty-node_inside (list f xs) ks js = refl
    empty-node_inside (tables e xs) ks js = refl
    empty-node_inside nothing ks js = refl

  mutual
    empty-lines : (ss : Slots) (ks js : List Key) → is_empty (table_lines mode ss ks) ≡ is_empty (table_lines mode ss js)
    empty-lines no_slots ks js = refl
    empty-lines (slot k n ss) ks js =
        empty-alike (slot_lines mode k n ks) (slot_lines mode k n js) (table_lines mode ss ks) (table_lines mode ss js)
        (empty-either (is_line_node n) (line_of (ks ++ (k ∷ [])) n (value_of mode n)) (line_of (js ++ (k ∷ [])) n (value_of mode n))
        (dotted_lines mode n (ks ++ (k ∷ []))) (dotted_lines mode n (js ++ (k ∷ []))) refl (empty-dotted n (ks ++ (k ∷ [])) (js
        ++ (k ∷ []))))
        (empty-lines ss ks js)

    empty-dotted : (n : Node) (ks js : List Key) → is_empty (dotted_lines mode n ks) ≡ is_empty (dotted_lines mode n js)
    empty-dotted (table f ss) ks js = by_test f.is_dotted (empty-lines ss ks js)
      where
        by_test : (b : Bool) → is_empty (table_lines mode ss ks) ≡ is_empty (table_lines mode ss js)
            → is_empty (if b then table_lines mode ss ks else []) ≡ is_empty (if b then table_lines mode ss js else [])
        by_test true e = e
        by_test false e = refl
    empty-dotted (inline f ss) ks js = empty-inside ss ks js
    empty-dotted (leaf s r d) ks js = refl
    empty-dotted (list f xs) ks js = refl
    empty-dotted (tables e xs) ks js = refl
    empty-dotted nothing ks js = refl

  pub empty-slot : (k m : Key) (n : Node) (lk : List Key) → is_empty (slot_lines mode k n lk) ≡ is_empty (slot_lines mode m n lk)
  empty-slot k m n lk =
      empty-either (is_line_node n) (line_of (lk ++ (k ∷ [])) n (value_of mode n)) (line_of (lk ++ (m ∷ [])) n (value_of mode n))
      (dotted_lines mode n (lk ++ (k ∷ []))) (dotted_lines mode n (lk ++ (m ∷ []))) refl (empty-dotted n (lk ++ (k ∷ [])) (lk ++ (m ∷ [])))

  -- ---- steady blocks at another path

  abbrev AreSteady : List Visit → Type 0
  AreSteady vs = AllByRecursion IsSteadyBlock (blocks mode vs)

  same-table : (p q : Path) (ks js : List Key) (b : Bool) (f : TableFields) (ss : Slots) (vs ws : List Visit) → is_empty ks ≡ is_empty js
      → (AreSteady vs → AreSteady ws) → AreSteady (visit_of p ks b f ss ∷ vs) → AreSteady (visit_of q js b f ss ∷ ws)
  same-table p q ks js b f ss vs ws e go h = by_test f.is_dotted h
    where
      steady : IsSteadyBlock (block_of mode (visit_of p ks b f ss)) → IsSteadyBlock (block_of mode (visit_of q js b f ss))
      steady s =
          ap (λ z. not (not z && (b || not (f.is_implicit && is_empty (table_lines mode ss []))))
          || has_steady_header (visit_of q js b f ss)) (sym e) ∙ s

      by_test : (c : Bool) → AllByRecursion IsSteadyBlock (if c then blocks mode vs else block_of mode (visit_of p ks b f ss)
          ∷ blocks mode vs)
          → AllByRecursion IsSteadyBlock (if c then blocks mode ws else block_of mode (visit_of q js b f ss) ∷ blocks mode ws)
      by_test true h = go h
      by_test false h = (steady h.0, go h.1)

  both-parts : (vs ws xs ys : List Visit) → (AreSteady vs → AreSteady xs) → (AreSteady ws → AreSteady ys) → AreSteady (vs ++ ws)
      → AreSteady (xs ++ ys)
  both-parts vs ws xs ys f g h =
      let all : AllByRecursion IsSteadyBlock (blocks mode vs ++ blocks mode ws) =
      subst (λ z. AllByRecursion IsSteadyBlock z) (blocks-append mode vs ws) h in
      all-blocks-append mode IsSteadyBlock xs ys (f (all-front IsSteadyBlock (blocks mode vs) (blocks mode ws) all))
      (g (all-back IsSteadyBlock (blocks mode vs) (blocks mode ws) all))

  mutual
    pub steady-node : (n : Node) (p q : Path) (ks js : List Key) (b : Bool) → is_empty ks ≡ is_empty js → AreSteady (node_walk n p ks b)
        → AreSteady (node_walk n q js b)
    steady-node (table f ss) p q ks js b e h =
        same-table p q ks js b f ss (slots_walk ss p ks) (slots_walk ss q js) e (steady-slots ss p q ks js) h
    steady-node (tables x xs) p q ks js b e h = steady-items xs p q ks js 0 e h
    steady-node (leaf s r d) p q ks js b e h = tt
    steady-node (list f xs) p q ks js b e h = tt
    steady-node (inline f ss) p q ks js b e h = tt
    steady-node nothing p q ks js b e h = tt

    steady-items : (xs : Items) (p q : Path) (ks js : List Key) (n : ℕ) → is_empty ks ≡ is_empty js → AreSteady (items_walk xs p ks n)
        → AreSteady (items_walk xs q js n)
    steady-items no_items p q ks js n e h = tt
    steady-items (item (table f ss) xs) p q ks js n e h =
        let r : Path = to_element p n in
        let s : Path = to_element q n in
        both-parts (visit_of r ks true f ss ∷ slots_walk ss r ks) (items_walk xs p ks (suc n)) (visit_of s js true f ss
        ∷ slots_walk ss s js) (items_walk xs q js (suc n))
        (same-table r s ks js true f ss (slots_walk ss r ks) (slots_walk ss s js) e (steady-slots ss r s ks js))
        (steady-items xs p q ks js (suc n) e) h
    steady-items (item (tables y ys) xs) p q ks js n e h = steady-items xs p q ks js n e h
    steady-items (item (leaf s r d) xs) p q ks js n e h = steady-items xs p q ks js n e h
    steady-items (item (list f ys) xs) p q ks js n e h = steady-items xs p q ks js n e h
    steady-items (item (inline f ss) xs) p q ks js n e h = steady-items xs p q ks js n e h
    steady-items (item nothing xs) p q ks js n e h = steady-items xs p q ks js n e h

    steady-slots : (ss : Slots) (p q : Path) (ks js : List Key) → AreSteady (slots_walk ss p ks) → AreSteady (slots_walk ss q js)
    steady-slots no_slots p q ks js h = tt
    steady-slots (slot k n ss) p q ks js h =
        both-parts (node_walk n (to_key p k.name) (ks ++ (k ∷ [])) false) (slots_walk ss p ks) (node_walk n (to_key q k.name) (js
        ++ (k ∷ [])) false) (slots_walk ss q js)
        (steady-node n (to_key p k.name) (to_key q k.name) (ks ++ (k ∷ [])) (js ++ (k ∷ [])) false (not_empty-last ks k
        ∙ sym (not_empty-last js k)))
        (steady-slots ss p q ks js) h
