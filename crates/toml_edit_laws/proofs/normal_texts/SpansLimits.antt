-- What is printed of a tree whose spans became texts keeps limits where what is printed of the tree does.
use Rattle.std.proofs.Common.{◌≡◌, refl, sym, ◌∙◌, ap, ℕ, suc, Bool, true, false, List, [], ◌∷◌, ◌++◌}
use Rattle.std.specs.Prelude.{◌&&◌, max, nat_le, map, if◌then◌else◌}
use Rattle.std.specs.List.{AllByRecursion, list_all}
use Rattle.std.proofs.lemmas.List.{length-map}
use Rattle.std.proofs.lemmas.List.Folds.{list_all-append}
use Rattle.toml_edit_model.specs.Mode.{Mode}
use Rattle.toml_edit_model.specs.Text.{Text, one, is_empty}
use Rattle.toml_edit_model.specs.Syntax.{Value, Elements, no_elements, element, Pairs, no_pairs, pair, depth, elements_depth, pairs_depth}
use Rattle.toml_edit_model.specs.Syntax.{nesting_limit, is_short, has_short_keys, elements_have_short_keys, pairs_have_short_keys}
use Rattle.toml_edit_model.specs.Syntax.{keeps_limits}
use Rattle.toml_edit_model.specs.Paths.{Path}
use Rattle.toml_edit_model.specs.Tree.{Key, Node, nothing, leaf, list, inline, table, tables, Items, no_items, item, Slots, no_slots, slot}
use Rattle.toml_edit_model.specs.Tree.{Tree, shown_raw, node_decor}
use Rattle.toml_edit_model.specs.HeaderOrder.{PlacedVisit, in_header_order}
use Rattle.toml_edit_model.specs.Print.{Line, segments, is_line_node, table_lines, dotted_lines, inside_lines, lines_inside}
use Rattle.toml_edit_model.specs.Print.{lines_of, line_of, value_of, elements_of, around_of, add_after, close_array, add_after_pairs}
use Rattle.toml_edit_model.specs.Print.{close_inline, pairs_of_lines, line_statement, has_header, header_statement, printed_line}
use Rattle.toml_edit_model.specs.Print.{printed_header, printed_table, printed_tables, statements_of}
use Rattle.toml_edit_laws.proofs.normal_texts.SpansWalk.{key, visit, line, inside-owned, lines-owned, header-same, placed_visit}
use Rattle.toml_edit_laws.proofs.normal_texts.SpansWalk.{order-owned}
use Rattle.toml_edit_laws.proofs.common.Each.{all-append}
use Rattle.toml_edit_laws.proofs.normal_texts.LinesInModes.{Same, SameElements, all-statements, keeps, segments-length}
use Rattle.toml_edit_model.specs.OwnedForm.{owned_node, owned_items, owned_slots, owned_tree}

-- ---- closing texts

after-depth : (t : Text) (es : Elements) → (elements_depth (add_after t es) ≡ elements_depth es)
    × (elements_have_short_keys (add_after t es) ≡ elements_have_short_keys es)
after-depth t no_elements = (refl, refl)
after-depth t (element a v no_elements) = (refl, refl)
after-depth t (element a v (element b w es)) =
    let rest = after-depth t (element b w es) in
    (ap (max (depth v)) rest.0, ap (λ c. has_short_keys v && c) rest.1)

close-depth : (c : Bool) (t : Text) (es : Elements) → (depth (close_array c t es) ≡ suc (elements_depth es))
    × (has_short_keys (close_array c t es) ≡ elements_have_short_keys es)
close-depth c t no_elements = (refl, refl)
close-depth true t (element a v es) = (refl, refl)
close-depth false t (element a v es) = (let rest = after-depth t (element a v es) in (ap suc rest.0, rest.1))

pairs-after : (t : Text) (ps : Pairs) → (pairs_depth (add_after_pairs t ps) ≡ pairs_depth ps)
    × (pairs_have_short_keys (add_after_pairs t ps) ≡ pairs_have_short_keys ps)
pairs-after t no_pairs = (refl, refl)
pairs-after t (pair f v no_pairs) = (refl, refl)
pairs-after t (pair f v (pair g w ps)) =
    let rest = pairs-after t (pair g w ps) in
    (ap (max (depth v)) rest.0, ap (λ c. is_short f.path && (has_short_keys v && c)) rest.1)

close-pairs : (c : Bool) (t : Text) (ps : Pairs) → (depth (close_inline c t ps) ≡ suc (pairs_depth ps))
    × (has_short_keys (close_inline c t ps) ≡ pairs_have_short_keys ps)
close-pairs c t no_pairs = (refl, refl)
close-pairs true t (pair f v ps) = (refl, refl)
close-pairs false t (pair f v ps) = (let rest = pairs-after t (pair f v ps) in (ap suc rest.0, rest.1))

-- ---- lists of lines

abbrev lines_depth : List Line → ℕ
lines_depth [] = 0
lines_depth (l ∷ ls) = max (depth l.value) (lines_depth ls)

module _ (mode : Mode) where
  abbrev lines_short : List Line → Bool
  lines_short [] = true
  lines_short (l ∷ ls) = is_short (segments mode l.keys) && (has_short_keys l.value && lines_short ls)

  pairs-lines : (ls : List Line) → (pairs_depth (pairs_of_lines mode ls) ≡ lines_depth ls)
      × (pairs_have_short_keys (pairs_of_lines mode ls) ≡ lines_short ls)
  pairs-lines [] = (refl, refl)
  pairs-lines (l ∷ []) = (refl, refl)
  pairs-lines (l ∷ m ∷ ls) =
      let rest = pairs-lines (m ∷ ls) in
      (ap (max (depth l.value)) rest.0, ap (λ c. is_short (segments mode l.keys) && (has_short_keys l.value && c)) rest.1)

  module _ (source : Text) where
    short-same : (ks : List Key) → is_short (segments mode (map (key mode source) ks)) ≡ is_short (segments mode ks)
    short-same ks = ap (λ n. nat_le n nesting_limit) (segments-length mode (map (key mode source) ks) ∙ length-map ks (key mode source)
        ∙ sym (segments-length mode ks))

    -- depth and keys stay
    abbrev SameLine : Line → Type 0
    SameLine l = Same (value_of mode (owned_node source l.item)) l.value

    lines-same : (ls : List Line) → AllByRecursion SameLine ls → (lines_depth (map (line mode source) ls) ≡ lines_depth ls)
        × (lines_short (map (line mode source) ls) ≡ lines_short ls)
    lines-same [] h = (refl, refl)
    lines-same (l ∷ ls) h =
        let rest = lines-same ls h.1 in (
          ap (λ n. max n (lines_depth (map (line mode source) ls))) h.0.0 ∙ ap (max (depth l.value)) rest.0,
          ap (λ b. b && (has_short_keys (value_of mode (owned_node source l.item)) && lines_short (map (line mode source) ls)))
              (short-same l.keys)
              ∙ ap (λ b. is_short (segments mode l.keys) && (b && lines_short (map (line mode source) ls))) h.0.1
              ∙ ap (λ b. is_short (segments mode l.keys) && (has_short_keys l.value && b)) rest.1,
        )

    slot-all : (b : Bool) (ks : List Key) (n : Node) (ls rest : List Line) → Same (value_of mode (owned_node source n)) (value_of mode n)
        → AllByRecursion SameLine ls → AllByRecursion SameLine rest
        → AllByRecursion SameLine ((elim b [ true ↦ line_of ks n (value_of mode n) | false ↦ ls ]) ++ rest)
    slot-all true ks n ls rest s h g = (s, g)
    slot-all false ks n ls rest s h g = all-append SameLine ls rest h g

    -- an element more
    more-same : (n : Node) (first other : Bool) (es gs : Elements) → Same (value_of mode (owned_node source n)) (value_of mode n)
        → SameElements es gs
        → SameElements (element (around_of mode first (node_decor (owned_node source n))) (value_of mode (owned_node source n)) es)
        (element (around_of mode other (node_decor n)) (value_of mode n) gs)
    more-same n first other es gs h g = (
      ap (λ k. max k (elements_depth es)) h.0 ∙ ap (max (depth (value_of mode n))) g.0,
      ap (λ b. b && elements_have_short_keys es) h.1 ∙ ap (λ b. has_short_keys (value_of mode n) && b) g.1,
    )

    mutual
      node-same : (n : Node) → Same (value_of mode (owned_node source n)) (value_of mode n)
      node-same nothing = (refl, refl)
      node-same (leaf s r d) = (refl, refl)
      node-same (table f ss) = (refl, refl)
      node-same (tables e xs) = (refl, refl)
      node-same (list f xs) =
          let one = close-depth f.comma (shown_raw mode (Rattle.toml_edit_model.specs.OwnedForm.owned_raw source f.trailing))
          (elements_of mode (owned_items source xs) true) in
          let other = close-depth f.comma (shown_raw mode f.trailing) (elements_of mode xs true) in
          let both = items-same xs true in
          (one.0 ∙ ap suc both.0 ∙ sym other.0, one.1 ∙ both.1 ∙ sym other.1)
      node-same (inline f ss) =
          let one = close-pairs f.comma (shown_raw mode (Rattle.toml_edit_model.specs.OwnedForm.owned_raw source f.trailing))
          (pairs_of_lines mode (inside_lines mode (owned_slots source ss) [])) in
          let other = close-pairs f.comma (shown_raw mode f.trailing) (pairs_of_lines mode (inside_lines mode ss [])) in
          let first = pairs-lines (inside_lines mode (owned_slots source ss) []) in
          let second = pairs-lines (inside_lines mode ss []) in
          let both = lines-same (inside_lines mode ss []) (inside-same ss []) in
          let is = inside-owned mode source ss [] in (
            one.0 ∙ ap suc (first.0 ∙ ap lines_depth is ∙ both.0 ∙ sym second.0) ∙ sym other.0,
            one.1 ∙ first.1 ∙ ap lines_short is ∙ both.1
                ∙ sym second.1 ∙ sym other.1,
          )

      items-same : (xs : Items) (b : Bool) → SameElements (elements_of mode (owned_items source xs) b) (elements_of mode xs b)
      items-same no_items b = (refl, refl)
      items-same (item (leaf s r d) xs) b =
          more-same (leaf s r d) b b (elements_of mode (owned_items source xs) false) (elements_of mode xs false) (node-same (leaf s r d))
          (items-same xs false)
      items-same (item (list f ys) xs) b =
          more-same (list f ys) b b (elements_of mode (owned_items source xs) false) (elements_of mode xs false) (node-same (list f ys))
          (items-same xs false)
      items-same (item (inline f ss) xs) b =
          more-same (inline f ss) b b (elements_of mode (owned_items source xs) false) (elements_of mode xs false) (node-same (inline f ss))
          (items-same xs false)
      items-same (item (table f ss) xs) b = items-same xs b
      items-same (item (tables e ys) xs) b = items-same xs b
      items-same (item nothing xs) b = items-same xs b

      inside-same : (ss : Slots) (ks : List Key) → AllByRecursion SameLine (inside_lines mode ss ks)
      inside-same no_slots ks = tt
      inside-same (slot k n ss) ks =
          slot-all (is_line_node n) (ks ++ one k) n (lines_inside mode n (ks ++ one k)) (inside_lines mode ss ks) (node-same n)
          (node-inside n (ks ++ one k)) (inside-same ss ks)

      node-inside : (n : Node) (ks : List Key) → AllByRecursion SameLine (lines_inside mode n ks)
      node-inside (inline f ss) ks = inside-same ss ks
      node-inside (table f ss) ks = inside-same ss ks
      node-inside nothing ks = tt
      node-inside (leaf s r d) ks = tt
      node-inside (list f xs) ks = tt
      node-inside (tables e xs) ks = tt

    mutual
      table-same : (ss : Slots) (ks : List Key) → AllByRecursion SameLine (table_lines mode ss ks)
      table-same no_slots ks = tt
      table-same (slot k n ss) ks =
          slot-all (is_line_node n) (ks ++ one k) n (dotted_lines mode n (ks ++ one k)) (table_lines mode ss ks) (node-same n)
          (node-dotted n (ks ++ one k)) (table-same ss ks)

      node-dotted : (n : Node) (ks : List Key) → AllByRecursion SameLine (dotted_lines mode n ks)
      node-dotted (inline f ss) ks = inside-same ss ks
      node-dotted (table f ss) ks = by_test f.is_dotted (table-same ss ks)
        where
          by_test : (b : Bool) → AllByRecursion SameLine (table_lines mode ss ks)
              → AllByRecursion SameLine (if b then table_lines mode ss ks else [])
          by_test true h = h
          by_test false h = tt
      node-dotted nothing ks = tt
      node-dotted (leaf s r d) ks = tt
      node-dotted (list f xs) ks = tt
      node-dotted (tables e xs) ks = tt

    -- ---- statements

    abbrev lines_keep : List Line → Bool
    lines_keep [] = true
    lines_keep (l ∷ ls) = keeps_limits (line_statement mode l) && lines_keep ls

    abbrev table_keeps : PlacedVisit → Bool
    table_keeps g = (if has_header mode g.1 then is_short (segments mode g.1.keys) else true) && lines_keep (lines_of mode g.1)

    lines-kept : (p : Path) (ls : List Line) → list_all keeps (map (printed_line mode p) ls) ≡ lines_keep ls
    lines-kept p [] = refl
    lines-kept p (l ∷ ls) = ap (λ b. keeps_limits (line_statement mode l) && b) (lines-kept p ls)

    table-kept : (b : Bool) (g : PlacedVisit) → list_all keeps (printed_table mode b g.1) ≡ table_keeps g
    table-kept b g =
        list_all-append keeps (printed_header mode b g.1) (map (printed_line mode g.1.path) (lines_of mode g.1))
        ∙ ap (λ c. list_all keeps (printed_header mode b g.1) && c) (lines-kept g.1.path (lines_of mode g.1))
        ∙ ap (λ c. c && lines_keep (lines_of mode g.1)) (by_header (has_header mode g.1))
      where
        and-true : (c : Bool) → (c && true) ≡ c
        and-true true = refl
        and-true false = refl

        by_header : (c : Bool)
            → list_all keeps (if c then record { block = g.1.path; path = g.1.path; statement = header_statement mode b g.1 } ∷ [] else [])
            ≡ (if c then is_short (segments mode g.1.keys) else true)
        by_header true = and-true (is_short (segments mode g.1.keys))
        by_header false = refl

    tables-kept : (b : Bool) (gs : List PlacedVisit) → list_all keeps (printed_tables mode b gs) ≡ list_all table_keeps gs
    tables-kept b [] = refl
    tables-kept b (g ∷ gs) =
        let next : Bool = b && is_empty (printed_table mode b g.1) in
        list_all-append keeps (printed_table mode b g.1) (printed_tables mode next gs)
        ∙ ap (λ c. c && list_all keeps (printed_tables mode next gs)) (table-kept b g) ∙ ap (λ c. table_keeps g && c) (tables-kept next gs)

    lines-keep : (ls : List Line) → AllByRecursion SameLine ls → lines_keep (map (line mode source) ls) ≡ lines_keep ls
    lines-keep [] h = refl
    lines-keep (l ∷ ls) h =
        let new : Value = value_of mode (owned_node source l.item) in
        ap (λ b. (b && (nat_le (depth new) nesting_limit && has_short_keys new))
        && lines_keep (map (line mode source) ls)) (short-same l.keys)
        ∙ ap (λ n. (is_short (segments mode l.keys) && (nat_le n nesting_limit && has_short_keys new))
        && lines_keep (map (line mode source) ls)) h.0.0
        ∙ ap (λ b. (is_short (segments mode l.keys) && (nat_le (depth l.value) nesting_limit && b))
        && lines_keep (map (line mode source) ls)) h.0.1
        ∙ ap (λ b. keeps_limits (line_statement mode l) && b) (lines-keep ls h.1)

    table-owned : (g : PlacedVisit) → table_keeps (placed_visit mode source g) ≡ table_keeps g
    table-owned g =
        ap (λ b. (if b then is_short (segments mode (map (key mode source) g.1.keys)) else true)
        && lines_keep (lines_of mode (visit mode source g.1))) (header-same mode source g.1)
        ∙ ap (λ b. (if has_header mode g.1 then b else true) && lines_keep (lines_of mode (visit mode source g.1))) (short-same g.1.keys)
        ∙ ap (λ ls. (if has_header mode g.1 then is_short (segments mode g.1.keys) else true)
        && lines_keep ls) (lines-owned mode source g.1.slots [])
        ∙ ap (λ b. (if has_header mode g.1 then is_short (segments mode g.1.keys) else true)
        && b) (lines-keep (lines_of mode g.1) (table-same g.1.slots []))

    tables-owned : (gs : List PlacedVisit) → list_all table_keeps (map (placed_visit mode source) gs) ≡ list_all table_keeps gs
    tables-owned [] = refl
    tables-owned (g ∷ gs) = ap (λ b. b && list_all table_keeps (map (placed_visit mode source) gs)) (table-owned g)
        ∙ ap (λ b. table_keeps g && b) (tables-owned gs)

    pub limits-owned : (t : Tree) → list_all keeps_limits (statements_of mode (owned_tree source t))
        ≡ list_all keeps_limits (statements_of mode t)
    limits-owned t =
        all-statements (printed_tables mode true (in_header_order (owned_tree source t)))
        ∙ tables-kept true (in_header_order (owned_tree source t))
        ∙ ap (list_all table_keeps) (order-owned mode source t) ∙ tables-owned (in_header_order t)
        ∙ sym (all-statements (printed_tables mode true (in_header_order t)) ∙ tables-kept true (in_header_order t))
