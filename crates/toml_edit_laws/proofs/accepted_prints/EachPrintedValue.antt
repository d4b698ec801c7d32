-- A test that looks at each value in a value passes on a printed value: for the tests of ranges and of agreeing pairs.
use Rattle.std.proofs.Common.{◌≡◌, refl, sym, ◌∙◌, ap, Bool, true, false, List, [], ◌∷◌, ◌++◌}
use Rattle.std.specs.Prelude.{◌&&◌, Option}
use Rattle.std.specs.List.{AllByRecursion}
use Rattle.toml_edit_model.specs.Mode.{Mode}
use Rattle.toml_edit_model.specs.Text.{Text}
use Rattle.toml_edit_model.specs.Scalars.{Scalar}
use Rattle.toml_edit_model.specs.Syntax.{Around, Frame, Value, array, Elements, no_elements, element, Pairs, no_pairs, pair}
use Rattle.toml_edit_model.specs.Tree.{Raw, Decor, Key, InlineFields, Node, nothing, leaf, list, inline, table, tables, Items, no_items}
use Rattle.toml_edit_model.specs.Tree.{item, Slots, no_slots, slot, IsWellMade, ItemsAreWellMade, SlotsAreWellMade, is_value_node}
use Rattle.toml_edit_model.specs.Tree.{shown_raw, node_decor}
use Rattle.toml_edit_model.specs.Print.{Line, line_of, is_line_node, value_of, elements_of, inside_lines, lines_inside, pairs_of_lines}
use Rattle.toml_edit_model.specs.Print.{add_after, close_array, add_after_pairs, around_of}
use Rattle.toml_edit_laws.proofs.common.Tests.{and_both}
use Rattle.toml_edit_laws.proofs.common.Each.{all-append}

-- A test of values, of elements and of pairs looks at each value in them.
pub record LooksAtEach (of_value : Value → Bool) (of_elements : Elements → Bool) (of_pairs : Pairs → Bool) : Type 0 where
  pub in_array : (es : Elements) (comma : Bool) (t : Text) → of_value (array es comma t) ≡ of_elements es
  pub no_element : of_elements no_elements ≡ true
  pub each_element : (a : Around) (v : Value) (es : Elements) → of_elements (element a v es) ≡ (of_value v && of_elements es)
  pub no_pair : of_pairs no_pairs ≡ true
  pub each_pair : (f : Frame) (v : Value) (ps : Pairs) → of_pairs (pair f v ps) ≡ (of_value v && of_pairs ps)

module _ (mode : Mode) where
  module _ (of_value : Value → Bool) (of_elements : Elements → Bool) (of_pairs : Pairs
      → Bool) (each : LooksAtEach of_value of_elements of_pairs) where
    -- ---- closing a list

    after-elements : (t : Text) (es : Elements) → of_elements (add_after t es) ≡ of_elements es
    after-elements t no_elements = refl
    after-elements t (element a v no_elements) = each.each_element (record a { after = a.after ++ t }) v no_elements
        ∙ sym (each.each_element a v no_elements)
    after-elements t (element a v (element b w es)) =
        each.each_element a v (add_after t (element b w es)) ∙ ap (λ r. of_value v && r) (after-elements t (element b w es))
        ∙ sym (each.each_element a v (element b w es))

    close-elements : (comma : Bool) (t : Text) (es : Elements) → of_value (close_array comma t es) ≡ of_elements es
    close-elements comma t no_elements = each.in_array no_elements false t
    close-elements true t (element a v es) = each.in_array (element a v es) true t
    close-elements false t (element a v es) = each.in_array (add_after t (element a v es)) false [] ∙ after-elements t (element a v es)

    pub after-pairs : (t : Text) (ps : Pairs) → of_pairs (add_after_pairs t ps) ≡ of_pairs ps
    after-pairs t no_pairs = refl
    after-pairs t (pair f v no_pairs) = each.each_pair (record f { trailing = f.trailing ++ t }) v no_pairs
        ∙ sym (each.each_pair f v no_pairs)
    after-pairs t (pair f v (pair g w ps)) =
        each.each_pair f v (add_after_pairs t (pair g w ps)) ∙ ap (λ r. of_value v && r) (after-pairs t (pair g w ps))
        ∙ sym (each.each_pair f v (pair g w ps))

    -- ---- lines and elements

    abbrev LinePasses : Line → Type 0
    LinePasses l = of_value l.value ≡ true

    lines-pass : (ls : List Line) → AllByRecursion LinePasses ls → of_pairs (pairs_of_lines mode ls) ≡ true
    lines-pass [] h = each.no_pair
    lines-pass (l ∷ []) h = each.each_pair _ l.value no_pairs ∙ and_both (of_value l.value) (of_pairs no_pairs) h.0 each.no_pair
    lines-pass (l ∷ m ∷ ls) h =
        each.each_pair _ l.value (pairs_of_lines mode (m ∷ ls))
        ∙ and_both (of_value l.value) (of_pairs (pairs_of_lines mode (m ∷ ls))) h.0 (lines-pass (m ∷ ls) h.1)

    by_element : (a : Around) (v : Value) (es rest : Elements) (b : Bool) → of_value v ≡ true → of_elements es ≡ true → of_elements rest
        ≡ true
        → of_elements (elim b [ true ↦ element a v es | false ↦ rest ]) ≡ true
    by_element a v es rest true h g f = each.each_element a v es ∙ and_both (of_value v) (of_elements es) h g
    by_element a v es rest false h g f = f

    by_line : (n : Node) (ks : List Key) (ls : List Line) (b : Bool) → of_value (value_of mode n) ≡ true → AllByRecursion LinePasses ls
        → AllByRecursion LinePasses (elim b [ true ↦ line_of ks n (value_of mode n) | false ↦ ls ])
    by_line n ks ls true h g = (h, tt)
    by_line n ks ls false h g = g

    -- ---- values

    -- The test passes on each printed value, where it passes on scalars, and on inline tables whose pairs pass.
    module _ (on_scalar : (s : Scalar) (r : Option Raw) (d : Decor) → IsWellMade (leaf s r d) → of_value (value_of mode (leaf s r d))
        ≡ true)
        (on_inline : (f : InlineFields) (ss : Slots) → SlotsAreWellMade ss → of_pairs (pairs_of_lines mode (inside_lines mode ss [])) ≡ true
        → of_value (value_of mode (inline f ss)) ≡ true)
        (on_none : of_value (value_of mode nothing) ≡ true) where
      mutual
        pub value-passes : (n : Node) → IsWellMade n → of_value (value_of mode n) ≡ true
        value-passes (leaf s r d) made = on_scalar s r d made
        value-passes (list f xs) made = close-elements f.comma (shown_raw mode f.trailing) (elements_of mode xs true)
            ∙ elements-pass xs true made
        value-passes (inline f ss) made = on_inline f ss made (lines-pass (inside_lines mode ss []) (slots-pass ss [] made))
        value-passes (table f ss) made = on_none
        value-passes (tables e xs) made = on_none
        value-passes nothing made = on_none

        elements-pass : (xs : Items) (is_first : Bool) → ItemsAreWellMade xs → of_elements (elements_of mode xs is_first) ≡ true
        elements-pass no_items is_first made = each.no_element
        elements-pass (item n xs) is_first made =
            by_element (around_of mode is_first (node_decor n)) (value_of mode n) (elements_of mode xs false) (elements_of mode xs is_first)
            (is_value_node n)
            (value-passes n made.0) (elements-pass xs false made.1) (elements-pass xs is_first made.1)

        slots-pass : (ss : Slots) (ks : List Key) → SlotsAreWellMade ss → AllByRecursion LinePasses (inside_lines mode ss ks)
        slots-pass no_slots ks made = tt
        slots-pass (slot k n ss) ks made =
            all-append LinePasses _ (inside_lines mode ss ks)
            (by_line n (ks ++ (k ∷ [])) (lines_inside mode n (ks ++ (k ∷ []))) (is_line_node n) (value-passes n made.2) (node-passes n (ks
            ++ (k ∷ [])) made.2))
            (slots-pass ss ks made.3)

        node-passes : (n : Node) (ks : List Key) → IsWellMade n → AllByRecursion LinePasses (lines_inside mode n ks)
        node-passes (inline f ss) ks made = slots-pass ss ks made
        node-passes (table f ss) ks made = slots-pass ss ks made
        node-passes (leaf s r d) ks made = tt
        node-passes (list f xs) ks made = tt
        node-passes (tables e xs) ks made = tt
        node-passes nothing ks made = tt
