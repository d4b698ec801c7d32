-- The walk, the headers in order and the lines of a tree whose spans became texts are those of the tree.
use Rattle.std.proofs.Common.{◌≡◌, refl, sym, ◌∙◌, ap, ℕ, suc, Bool, true, false, List, [], ◌∷◌, ◌++◌}
use Rattle.std.specs.Prelude.{◌&&◌, ◌||◌, not, ℤ, pos, map, filter, if◌then◌else◌}
use Rattle.std.specs.List.{AllByRecursion, list_all}
use Rattle.std.proofs.lemmas.List.{map-append}
use Rattle.toml_edit_model.specs.Mode.{Mode}
use Rattle.toml_edit_model.specs.Text.{Text, one, is_empty}
use Rattle.toml_edit_model.specs.Paths.{Path, to_key, to_element}
use Rattle.toml_edit_model.specs.Tree.{Key, Node, nothing, leaf, list, inline, table, tables, Items, no_items, item, Slots, no_slots, slot}
use Rattle.toml_edit_model.specs.Tree.{Tree}
use Rattle.toml_edit_model.specs.HeaderOrder.{Visit, visit_of, node_walk, items_walk, slots_walk, walk, PlacedVisit, place_of, places_from}
use Rattle.toml_edit_model.specs.HeaderOrder.{is_root, comes_before, in_header_order}
use Rattle.toml_edit_model.specs.Print.{Line, is_line_node, table_lines, dotted_lines, inside_lines, lines_inside, lines_of, line_of}
use Rattle.toml_edit_model.specs.Print.{value_of, has_header}
use Rattle.toml_edit_model.specs.Fits.{is_undotted, is_too_late, none_too_late, headed, elements_are_ordered}
use Rattle.toml_edit_laws.proofs.common.OrderLaws.{sorted-alike, sorted-image}
use Rattle.toml_edit_model.specs.Order.{sorted_by}
use Rattle.toml_edit_model.specs.OwnedForm.{owned_key, owned_fields, owned_node, owned_items, owned_slots, owned_tree}

module _ (mode : Mode) where
  module _ (source : Text) where
    abbrev pub key : Key → Key
    key k = owned_key source k

    abbrev pub visit : Visit → Visit
    visit v = record {
      path = v.path;
      keys = map key v.keys;
      is_element = v.is_element;
      fields = owned_fields source v.fields;
      slots =
          owned_slots source v.slots;
    }

    abbrev pub line : Line → Line
    line l = record { keys = map key l.keys; item = owned_node source l.item; value = value_of mode (owned_node source l.item) }

    more-keys : (ks : List Key) (k : Key) → map key (ks ++ one k) ≡ map key ks ++ one (key k)
    more-keys ks k = map-append key ks (one k)

    -- ---- the walk

    mutual
      node-walk : (n : Node) (p : Path) (ks : List Key) (b : Bool) → node_walk (owned_node source n) p (map key ks) b
          ≡ map visit (node_walk n p ks b)
      node-walk nothing p ks b = refl
      node-walk (leaf s r d) p ks b = refl
      node-walk (list f xs) p ks b = refl
      node-walk (inline f ss) p ks b = refl
      node-walk (table f ss) p ks b = ap (λ vs. visit (visit_of p ks b f ss) ∷ vs) (slots-walk ss p ks)
      node-walk (tables e xs) p ks b = items-walk xs p ks 0

      items-walk : (xs : Items) (p : Path) (ks : List Key) (n : ℕ) → items_walk (owned_items source xs) p (map key ks) n
          ≡ map visit (items_walk xs p ks n)
      items-walk no_items p ks n = refl
      items-walk (item (table f ss) xs) p ks n =
          ap (λ vs. (visit (visit_of (to_element p n) ks true f ss) ∷ vs)
          ++ items_walk (owned_items source xs) p (map key ks) (suc n)) (slots-walk ss (to_element p n) ks)
          ∙ ap (λ vs. map visit (visit_of (to_element p n) ks true f ss ∷ slots_walk ss (to_element p n) ks)
          ++ vs) (items-walk xs p ks (suc n))
          ∙ sym (map-append visit (visit_of (to_element p n) ks true f ss ∷ slots_walk ss (to_element p n) ks) (items_walk xs p ks (suc n)))
      items-walk (item nothing xs) p ks n = items-walk xs p ks n
      items-walk (item (leaf s r d) xs) p ks n = items-walk xs p ks n
      items-walk (item (list f ys) xs) p ks n = items-walk xs p ks n
      items-walk (item (inline f ss) xs) p ks n = items-walk xs p ks n
      items-walk (item (tables e ys) xs) p ks n = items-walk xs p ks n

      slots-walk : (ss : Slots) (p : Path) (ks : List Key) → slots_walk (owned_slots source ss) p (map key ks)
          ≡ map visit (slots_walk ss p ks)
      slots-walk no_slots p ks = refl
      slots-walk (slot k n ss) p ks =
          ap (λ js. node_walk (owned_node source n) (to_key p k.name) js false
          ++ slots_walk (owned_slots source ss) p (map key ks)) (sym (more-keys ks k))
          ∙ ap (λ vs. vs ++ slots_walk (owned_slots source ss) p (map key ks)) (node-walk n (to_key p k.name) (ks ++ one k) false)
          ∙ ap (λ vs. map visit (node_walk n (to_key p k.name) (ks ++ one k) false) ++ vs) (slots-walk ss p ks)
          ∙ sym (map-append visit (node_walk n (to_key p k.name) (ks ++ one k) false) (slots_walk ss p ks))

    pub walk-owned : (t : Tree) → walk (owned_tree source t) ≡ map visit (walk t)
    walk-owned t = ap (λ vs. visit (visit_of [] [] false t.root t.slots) ∷ vs) (slots-walk t.slots [] [])

    -- ---- lines

    one-line : (b : Bool) (ks : List Key) (n : Node) (ls : List Line) (ms : List Line) → ms ≡ map line ls
        → (elim b [ true ↦ line_of (map key ks) (owned_node source n) (value_of mode (owned_node source n)) | false ↦ ms ])
        ≡ map line (elim b [ true ↦ line_of ks n (value_of mode n) | false ↦ ls ])
    one-line true ks n ls ms e = refl
    one-line false ks n ls ms e = e

    line-same : (n : Node) → is_line_node (owned_node source n) ≡ is_line_node n
    line-same nothing = refl
    line-same (leaf s r d) = refl
    line-same (list f xs) = refl
    line-same (inline f ss) = refl
    line-same (table f ss) = refl
    line-same (tables e xs) = refl

    -- a slot's lines and the rest
    slot-lines : (b c : Bool) → b ≡ c → (k : Key) (ks : List Key) (n : Node) (ls more : List Line) (down : List Key
        → List Line) (rest : List Line)
        → down (map key (ks ++ one k)) ≡ map line ls → rest ≡ map line more
        → (elim b [
          | true ↦ line_of (map key ks ++ one (key k)) (owned_node source n) (value_of mode (owned_node source n))
          | false ↦
              down (map key ks ++ one (key k))
        ]) ++ rest
        ≡ map line ((elim c [ true ↦ line_of (ks ++ one k) n (value_of mode n) | false ↦ ls ]) ++ more)
    slot-lines b c e k ks n ls more down rest h g =
        ap (λ js. (elim b [ true ↦ line_of js (owned_node source n) (value_of mode (owned_node source n)) | false ↦ down js ])
        ++ rest) (sym (more-keys ks k))
        ∙ ap (λ d. (elim d [
          | true ↦ line_of (map key (ks ++ one k)) (owned_node source n) (value_of mode (owned_node source n))
          | false ↦
              down (map key (ks ++ one k))
        ]) ++ rest) e
        ∙ ap (λ xs. xs ++ rest) (one-line c (ks ++ one k) n ls (down (map key (ks ++ one k))) h)
        ∙ ap (λ xs. map line (elim c [ true ↦ line_of (ks ++ one k) n (value_of mode n) | false ↦ ls ]) ++ xs) g
        ∙ sym (map-append line (elim c [ true ↦ line_of (ks ++ one k) n (value_of mode n) | false ↦ ls ]) more)

    mutual
      pub inside-owned : (ss : Slots) (ks : List Key) → inside_lines mode (owned_slots source ss) (map key ks)
          ≡ map line (inside_lines mode ss ks)
      inside-owned no_slots ks = refl
      inside-owned (slot k n ss) ks =
          slot-lines (is_line_node (owned_node source n)) (is_line_node n) (line-same n) k ks n (lines_inside mode n (ks ++ one k))
          (inside_lines mode ss ks)
          (lines_inside mode (owned_node source n)) (inside_lines mode (owned_slots source ss) (map key ks)) (node-inside n (ks ++ one k))
          (inside-owned ss ks)

      node-inside : (n : Node) (ks : List Key) → lines_inside mode (owned_node source n) (map key ks) ≡ map line (lines_inside mode n ks)
      node-inside nothing ks = refl
      node-inside (leaf s r d) ks = refl
      node-inside (list f xs) ks = refl
      node-inside (inline f ss) ks = inside-owned ss ks
      node-inside (table f ss) ks = inside-owned ss ks
      node-inside (tables e xs) ks = refl

    mutual
      pub lines-owned : (ss : Slots) (ks : List Key) → table_lines mode (owned_slots source ss) (map key ks)
          ≡ map line (table_lines mode ss ks)
      lines-owned no_slots ks = refl
      lines-owned (slot k n ss) ks =
          slot-lines (is_line_node (owned_node source n)) (is_line_node n) (line-same n) k ks n (dotted_lines mode n (ks ++ one k))
          (table_lines mode ss ks)
          (dotted_lines mode (owned_node source n)) (table_lines mode (owned_slots source ss) (map key ks)) (node-dotted n (ks ++ one k))
          (lines-owned ss ks)

      node-dotted : (n : Node) (ks : List Key) → dotted_lines mode (owned_node source n) (map key ks) ≡ map line (dotted_lines mode n ks)
      node-dotted nothing ks = refl
      node-dotted (leaf s r d) ks = refl
      node-dotted (list f xs) ks = refl
      node-dotted (inline f ss) ks = inside-owned ss ks
      node-dotted (table f ss) ks = by_test f.is_dotted (lines-owned ss ks)
        where
          by_test : (b : Bool) → table_lines mode (owned_slots source ss) (map key ks) ≡ map line (table_lines mode ss ks)
              → (if b then table_lines mode (owned_slots source ss) (map key ks) else [])
              ≡ map line (if b then table_lines mode ss ks else [])
          by_test true h = h
          by_test false h = refl
      node-dotted (tables e xs) ks = refl

    -- ---- headers

    empty-map : {A B : Type 0} (f : A → B) (xs : List A) → is_empty (map f xs) ≡ is_empty xs
    empty-map f [] = refl
    empty-map f (x ∷ xs) = refl

    root-same : (v : Visit) → is_root (visit v) ≡ is_root v
    root-same v = empty-map key v.keys

    pub header-same : (v : Visit) → has_header mode (visit v) ≡ has_header mode v
    header-same v =
        ap (λ b. not b && (v.is_element || not (v.fields.is_implicit && is_empty (lines_of mode (visit v))))) (root-same v)
        ∙ ap (λ ls. not (is_root v) && (v.is_element || not (v.fields.is_implicit && is_empty ls))) (lines-owned v.slots [])
        ∙ ap (λ b. not (is_root v) && (v.is_element || not (v.fields.is_implicit && b))) (empty-map line (lines_of mode v))

    abbrev pub placed_visit : PlacedVisit → PlacedVisit
    placed_visit g = (g.0, visit g.1)

    places-owned : (seen : ℤ) (vs : List Visit) → places_from seen (map visit vs) ≡ map placed_visit (places_from seen vs)
    places-owned seen [] = refl
    places-owned seen (v ∷ vs) = by_test v.fields.is_dotted (places-owned seen vs) (places-owned (place_of seen v) vs)
      where
        by_test : (b : Bool) → places_from seen (map visit vs) ≡ map placed_visit (places_from seen vs)
            → places_from (place_of seen v) (map visit vs) ≡ map placed_visit (places_from (place_of seen v) vs)
            → (if b then places_from seen (map visit vs) else (place_of seen v, visit v) ∷ places_from (place_of seen v) (map visit vs))
            ≡ map placed_visit (if b then places_from seen vs else (place_of seen v, v) ∷ places_from (place_of seen v) vs)
        by_test true a c = a
        by_test false a c = ap (λ gs. (place_of seen v, visit v) ∷ gs) c

    comes-same : (g h : PlacedVisit) → comes_before (placed_visit g) (placed_visit h) ≡ comes_before g h
    comes-same g h =
        ap (λ b. b || (not (is_root (visit h.1)) && Rattle.std.specs.Prelude.int_le g.0 h.0)) (root-same g.1)
        ∙ ap (λ b. is_root g.1 || (not b && Rattle.std.specs.Prelude.int_le g.0 h.0)) (root-same h.1)

    each : {A : Type 0} (xs : List A) → AllByRecursion (λ x. Unit {0}) xs
    each [] = tt
    each (x ∷ xs) = (tt, each xs)

    pub order-owned : (t : Tree) → in_header_order (owned_tree source t) ≡ map placed_visit (in_header_order t)
    order-owned t =
        ap (λ vs. sorted_by comes_before (places_from (pos 0) vs)) (walk-owned t)
        ∙ ap (sorted_by comes_before) (places-owned (pos 0) (walk t))
        ∙ sorted-image placed_visit comes_before (places_from (pos 0) (walk t))
        ∙ ap (map placed_visit)
        (sorted-alike (λ x. Unit {0}) (λ g h. comes_before (placed_visit g) (placed_visit h)) comes_before (λ g h a b. comes-same g h)
        (places_from (pos 0) (walk t)) (each (places_from (pos 0) (walk t))))

    -- ---- elements in order

    headed-owned : (gs : List PlacedVisit) → filter (has_header mode) (map (λ v. v.1) (map placed_visit gs))
        ≡ map visit (filter (has_header mode) (map (λ v. v.1) gs))
    headed-owned [] = refl
    headed-owned (g ∷ gs) =
        ap (λ b. if b then visit g.1 ∷ filter (has_header mode) (map (λ (v : PlacedVisit). v.1) (map placed_visit gs))
        else filter (has_header mode) (map (λ (v : PlacedVisit). v.1) (map placed_visit gs))) (header-same g.1)
        ∙ ap (λ vs. if has_header mode g.1 then visit g.1 ∷ vs else vs) (headed-owned gs)
        ∙ by_test (has_header mode g.1)
      where
        by_test : (b : Bool) → (if b then visit g.1 ∷ map visit (filter (has_header mode) (map (λ (v : PlacedVisit). v.1) gs))
            else map visit (filter (has_header mode) (map (λ (v : PlacedVisit). v.1) gs)))
            ≡ map visit (if b then g.1 ∷ filter (has_header mode) (map (λ (v : PlacedVisit). v.1) gs)
            else filter (has_header mode) (map (λ (v : PlacedVisit). v.1) gs))
        by_test true = refl
        by_test false = refl

    late-owned : (vs : List Visit) → none_too_late (map visit vs) ≡ none_too_late vs
    late-owned [] = refl
    late-owned (v ∷ vs) = ap (λ b. b && none_too_late (map visit vs)) (all vs)
        ∙ ap (λ b. list_all (λ h. not (is_too_late v h)) vs && b) (late-owned vs)
      where
        all : (us : List Visit) → list_all (λ h. not (is_too_late (visit v) h)) (map visit us) ≡ list_all (λ h. not (is_too_late v h)) us
        all [] = refl
        all (u ∷ us) = ap (λ b. not (is_too_late v u) && b) (all us)

    pub ordered-owned : (t : Tree) → elements_are_ordered mode (owned_tree source t) ≡ elements_are_ordered mode t
    ordered-owned t =
        ap (λ gs. none_too_late (filter (has_header mode) (map (λ (v : PlacedVisit). v.1) gs))) (order-owned t)
        ∙ ap none_too_late (headed-owned (in_header_order t)) ∙ late-owned (headed mode t)

    -- ---- dotted tables

    undotted-walk : (vs : List Visit) → list_all (λ v. not (v.is_element && v.fields.is_dotted)) (map visit vs)
        ≡ list_all (λ v. not (v.is_element && v.fields.is_dotted)) vs
    undotted-walk [] = refl
    undotted-walk (v ∷ vs) = ap (λ b. not (v.is_element && v.fields.is_dotted) && b) (undotted-walk vs)

    pub undotted-owned : (t : Tree) → is_undotted (owned_tree source t) ≡ is_undotted t
    undotted-owned t =
        ap (λ vs. not t.root.is_dotted && list_all (λ v. not (v.is_element && v.fields.is_dotted)) vs) (walk-owned t)
        ∙ ap (λ b. not t.root.is_dotted && b) (undotted-walk (walk t))
