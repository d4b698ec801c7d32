-- The printed syntax of a value is one of the grammar and in range, where the decors in it suit their places.
use Rattle.std.proofs.Common.{◌≡◌, refl, sym, ◌∙◌, ap, Bool, true, false, List, [], ◌∷◌, ◌++◌, append_assoc, inl, inr}
use Rattle.std.specs.Prelude.{MatchBool, flat_map, Option, Some, None}
use Rattle.std.specs.List.{AllByRecursion}
use Rattle.toml_edit_model.specs.Mode.{Mode}
use Rattle.toml_edit_model.specs.Text.{Text}
use Rattle.toml_edit_model.specs.Trivia.{IsWholeTrivia, IsFinalTrivia, Piece, blank, piece_text, IsPiece}
use Rattle.toml_edit_model.specs.Scalars.{Scalar}
use Rattle.toml_edit_model.specs.Spelling.{SpellsKey, SpellsInRange}
use Rattle.toml_edit_model.specs.DefaultSpelling.{key_spelling}
use Rattle.toml_edit_model.specs.Syntax.{Value, Elements, no_elements, element, Pairs, no_pairs, pair, IsSpelledSegment, ends_unspaced}
use Rattle.toml_edit_model.specs.Syntax.{IsPath, IsFrame, IsValue, AreElements, ArePairs, keeps_ranges, elements_keep_ranges}
use Rattle.toml_edit_model.specs.Syntax.{pairs_keep_ranges}
use Rattle.toml_edit_model.specs.Tree.{Raw, owned, span, Decor, Key, Node, nothing, leaf, list, inline, table, tables, Items, no_items}
use Rattle.toml_edit_model.specs.Tree.{item, Slots, no_slots, slot, shown_side, shown_prefix, shown_suffix, shown_raw, shown_spelling}
use Rattle.toml_edit_model.specs.Tree.{scalar_text, key_text, node_decor, is_value_node, HasTrueSpelling, IsRealScalar, IsWellMade}
use Rattle.toml_edit_model.specs.Tree.{ItemsAreWellMade, SlotsAreWellMade}
use Rattle.toml_edit_model.specs.Print.{segments, segments_after, last_leaf, Line, frame_of, add_after, close_array, add_after_pairs}
use Rattle.toml_edit_model.specs.Print.{close_inline, element_default, around_of, pairs_of_lines, line_of, is_line_node, value_of}
use Rattle.toml_edit_model.specs.Print.{elements_of, inside_lines, lines_inside}
use Rattle.toml_edit_model.specs.Print as print
use Rattle.toml_edit_model.specs.Fits.{LineSuits, ElementSuits, Suits, ItemsSuit, InsideSuits, NodeSuitsInside}
use Rattle.toml_edit_laws.proofs.spellings.DefaultLaws.{default_spells}
use Rattle.toml_edit_laws.proofs.spellings.EscapeLaws.{key-spells}
use Rattle.toml_edit_laws.proofs.common.Trivia.{empty-trivia}
use Rattle.toml_edit_laws.proofs.common.Each.{all-append}
use Rattle.toml_edit_laws.proofs.accepted_prints.EachPrintedValue.{LooksAtEach, after-pairs, value-passes}

-- ---- trivia

pieces-append : (ps qs : List Piece) → flat_map piece_text (ps ++ qs) ≡ flat_map piece_text ps ++ flat_map piece_text qs
pieces-append [] qs = refl
pieces-append (p ∷ ps) qs = rw (pieces-append ps qs) (simp append_assoc)

pub whole-append : (t u : Text) → IsWholeTrivia t → IsWholeTrivia u → IsWholeTrivia (t ++ u)
whole-append t u (ps, h, e) (qs, g, f) =
    (ps ++ qs, all-append IsPiece ps qs h g, ap (λ x. x ++ u) e ∙ ap (λ x. flat_map piece_text ps ++ x) f ∙ sym (pieces-append ps qs))

pub final-append : (t u : Text) → IsWholeTrivia t → IsFinalTrivia u → IsFinalTrivia (t ++ u)
final-append t u h (whole, rest, g, opens, e) =
    (t ++ whole, rest, whole-append t whole h g, opens, ap (λ x. t ++ x) e ∙ sym (append_assoc t whole rest))

pub blank-whole : IsWholeTrivia print.one_space
blank-whole = (blank 32 ∷ [], (refl, tt), refl)

-- ---- closing a list

add_after-are : (t : Text) (es : Elements) → IsWholeTrivia t → AreElements es → AreElements (add_after t es)
add_after-are t no_elements h g = tt
add_after-are t (element a v no_elements) h g = (g.0, whole-append a.after t g.1 h, g.2, tt)
add_after-are t (element a v (element b w es)) h g = (g.0, g.1, g.2, add_after-are t (element b w es) h g.3)

close_array-is : (comma : Bool) (t : Text) (es : Elements) → IsWholeTrivia t → AreElements es → IsValue (close_array comma t es)
close_array-is comma t no_elements h g = ((h, inl refl), tt)
close_array-is true t (element a v es) h g = ((h, refl), g)
close_array-is false t (element a v es) h g = ((empty-trivia, inr refl), add_after-are t (element a v es) h g)

add_after_pairs-are : (t : Text) (ps : Pairs) → IsWholeTrivia t → ArePairs ps → ArePairs (add_after_pairs t ps)
add_after_pairs-are t no_pairs h g = tt
add_after_pairs-are t (pair f v no_pairs) h g = (
  (
    record {
      leading = g.0.0.leading;
      segments = g.0.0.segments;
      before_equals = g.0.0.before_equals;
      after_equals = g.0.0.after_equals;
      trailing = whole-append f.trailing t g.0.0.trailing h;
    },
    g.0.1,
  ),
  g.1,
  tt,
)
add_after_pairs-are t (pair f v (pair k w ps)) h g = (g.0, g.1, add_after_pairs-are t (pair k w ps) h g.2)

close_inline-is : (comma : Bool) (t : Text) (ps : Pairs) → IsWholeTrivia t → ArePairs ps → IsValue (close_inline comma t ps)
close_inline-is comma t no_pairs h g = ((h, inl refl), tt)
close_inline-is true t (pair f v ps) h g = ((h, refl), g)
close_inline-is false t (pair f v ps) h g = ((empty-trivia, inr refl), add_after_pairs-are t (pair f v ps) h g)

abbrev pub KeyIsTrue : Key → Type 0
KeyIsTrue k = HasTrueSpelling (SpellsKey k.name) k.spelling

abbrev pub KeysAreTrue : List Key → Type 0
KeysAreTrue ks = AllByRecursion KeyIsTrue ks

pub keys-snoc : (ks : List Key) (k : Key) → KeysAreTrue ks → KeyIsTrue k → KeysAreTrue (ks ++ (k ∷ []))
keys-snoc ks k h g = all-append KeyIsTrue ks (k ∷ []) h (g, tt)

pub line-value : (n : Node) → is_line_node n ≡ true → is_value_node n ≡ true
line-value (leaf s r d) h = refl
line-value (list f xs) h = refl
line-value (inline f ss) h = refl
line-value (table f ss) h = h
line-value (tables e xs) h = h
line-value nothing h = h

scalar_text-spells : (s : Scalar) (r : Option Raw) → HasTrueSpelling (SpellsInRange s) r → IsRealScalar s
    → SpellsInRange s (scalar_text s r)
scalar_text-spells s None h g = default_spells s g
scalar_text-spells s (Some (owned t)) h g = h
scalar_text-spells s (Some (span i j)) h g = default_spells s g

key_text-spells : (k : Key) → KeyIsTrue k → SpellsKey k.name (key_text k)
key_text-spells k h = by_spelling k.spelling h
  where
    by_spelling : (r : Option Raw) → HasTrueSpelling (SpellsKey k.name) r → SpellsKey k.name (shown_spelling (key_spelling k.name) r)
    by_spelling None h = key-spells k.name
    by_spelling (Some (owned t)) h = h
    by_spelling (Some (span i j)) h = key-spells k.name

-- the test of ranges looks at each value
looks : LooksAtEach keeps_ranges elements_keep_ranges pairs_keep_ranges
looks =
    record {
      in_array = λ es comma t. refl;
      no_element = refl;
      each_element = λ a v es. refl;
      no_pair = refl;
      each_pair = λ f v ps. refl;
    }

module _ (mode : Mode) where
  -- ---- sides

  -- a side that suits its place by the empty default suits it by any default that does
  pub side-any : (P : Text → Type 0) (default : Text) (r : Option Raw) → P default → P (shown_side mode [] r)
      → P (shown_side mode default r)
  side-any P default None h g = h
  side-any P default (Some (owned t)) h g = g
  side-any P default (Some (span i j)) h g = h

  -- ---- keys

  after-spelled : (ks : List Key) → KeysAreTrue ks → AllByRecursion IsSpelledSegment (segments_after mode ks)
  after-spelled [] h = tt
  after-spelled (k ∷ []) h = (key_text-spells k h.0, tt)
  after-spelled (k ∷ l ∷ ks) h = (key_text-spells k h.0, after-spelled (l ∷ ks) h.1)

  after-ends : (k : Key) (ks : List Key) → ends_unspaced (segments_after mode (k ∷ ks)) ≡ true
  after-ends k [] = refl
  after-ends k (l ∷ []) = refl
  after-ends k (l ∷ m ∷ ks) = after-ends l (m ∷ ks)

  pub segments-path : (k : Key) (ks : List Key) → KeysAreTrue (k ∷ ks) → IsPath (segments mode (k ∷ ks))
  segments-path k [] h = record { begins = refl; ends = refl; spelled = (key_text-spells k h.0, tt) }
  segments-path k (l ∷ ks) h =
      record { begins = refl; ends = ends l ks; spelled = (key_text-spells k h.0, after-spelled (l ∷ ks) h.1) }
    where
      ends : (l : Key) (ks : List Key) → ends_unspaced (segments mode (k ∷ l ∷ ks)) ≡ true
      ends l [] = refl
      ends l (m ∷ ks) = after-ends l (m ∷ ks)

  pub path-is : (ks : List Key) (k : Key) → KeysAreTrue (ks ++ (k ∷ [])) → IsPath (segments mode (ks ++ (k ∷ [])))
  path-is [] k h = segments-path k [] h
  path-is (l ∷ ks) k h = segments-path l (ks ++ (k ∷ [])) h

  -- ---- lines

  -- the line is a pair of the grammar, whatever defaults its place has
  abbrev IsPair : Line → Type 0
  IsPair l = ((key_default suffix_default : Text) → IsWholeTrivia key_default → IsWholeTrivia suffix_default
      → IsFrame IsWholeTrivia (frame_of mode key_default suffix_default l)) × IsValue l.value

  pairs_of_lines-are : (ls : List Line) → AllByRecursion IsPair ls → ArePairs (pairs_of_lines mode ls)
  pairs_of_lines-are [] h = tt
  pairs_of_lines-are (l ∷ []) h = (h.0.0 print.one_space print.one_space blank-whole blank-whole, h.0.1, tt)
  pairs_of_lines-are (l ∷ m ∷ ls) h = (h.0.0 print.one_space [] blank-whole empty-trivia, h.0.1, pairs_of_lines-are (m ∷ ls) h.1)

  line-is : (ks : List Key) (k : Key) (n : Node) (v : Value) → KeysAreTrue (ks ++ (k ∷ []))
      → LineSuits mode IsWholeTrivia (ks ++ (k ∷ [])) n
      → IsValue v → IsPair (record { keys = ks ++ (k ∷ []); item = n; value = v })
  line-is ks k n v keys suits value = (
    λ key_default suffix_default kd sd. (
      record {
        leading = side-any IsWholeTrivia key_default (last_leaf (ks ++ (k ∷ []))).prefix kd suits.leading;
        segments = suits.segments;
        before_equals = suits.before_equals;
        after_equals = suits.after_equals;
        trailing = side-any IsWholeTrivia suffix_default (node_decor n).suffix sd suits.trailing;
      },
      path-is ks k keys,
    ),
    value,
  )

  element-is : (is_first : Bool) (d : Decor) (v : Value) (es : Elements)
      → IsWholeTrivia (shown_prefix mode [] d) → IsWholeTrivia (shown_suffix mode [] d) → IsValue v → AreElements es
      → AreElements (element (around_of mode is_first d) v es)
  element-is is_first d v es before after value rest =
      (side-any IsWholeTrivia (element_default is_first) d.prefix (default-is is_first) before, after, value, rest)
    where
      default-is : (b : Bool) → IsWholeTrivia (element_default b)
      default-is true = empty-trivia
      default-is false = blank-whole

  -- what holds by the test on a node
  by_value : (n : Node) (is_first : Bool) (es rest : Elements) (b : Bool) → is_value_node n ≡ b
      → MatchBool b (ElementSuits mode n × Suits mode n) (Unit {0})
      → (is_value_node n ≡ true → Suits mode n → IsValue (value_of mode n))
      → AreElements es → AreElements rest
      → AreElements (elim b [ true ↦ element (around_of mode is_first (node_decor n)) (value_of mode n) es | false ↦ rest ])
  by_value n is_first es rest true e h value hs gs = element-is is_first (node_decor n) (value_of mode n) es h.0.0 h.0.1 (value e h.1) hs
  by_value n is_first es rest false e h value hs gs = gs

  by_line : (n : Node) (ks : List Key) (k : Key) (ls : List Line) (b : Bool) → is_line_node n ≡ b
      → MatchBool b (LineSuits mode IsWholeTrivia (ks ++ (k ∷ [])) n × Suits mode n) (NodeSuitsInside mode n (ks ++ (k ∷ [])))
      → KeysAreTrue (ks ++ (k ∷ []))
      → (is_line_node n ≡ true → Suits mode n → IsValue (value_of mode n))
      → (NodeSuitsInside mode n (ks ++ (k ∷ [])) → AllByRecursion IsPair ls)
      → AllByRecursion IsPair (elim b [ true ↦ line_of (ks ++ (k ∷ [])) n (value_of mode n) | false ↦ ls ])
  by_line n ks k ls true e h keys value inner = (line-is ks k n (value_of mode n) keys h.0 (value e h.1), tt)
  by_line n ks k ls false e h keys value inner = inner h

  mutual
    pub value-is : (n : Node) → IsWellMade n → is_value_node n ≡ true → Suits mode n → IsValue (value_of mode n)
    value-is (leaf s r d) made shape h = (scalar_text-spells s r made.0 made.1).0
    value-is (list f xs) made shape h =
        close_array-is f.comma (shown_raw mode f.trailing) (elements_of mode xs true) h.0 (elements-are xs true made h.1)
    value-is (inline f ss) made shape h =
        close_inline-is f.comma (shown_raw mode f.trailing) (pairs_of_lines mode (inside_lines mode ss [])) h.0
        (pairs_of_lines-are (inside_lines mode ss []) (lines-are ss [] made h.1 tt))
    value-is (table f ss) made shape h = absurd cc
    value-is (tables e xs) made shape h = absurd cc
    value-is nothing made shape h = absurd cc

    elements-are : (xs : Items) (is_first : Bool) → ItemsAreWellMade xs → ItemsSuit mode xs → AreElements (elements_of mode xs is_first)
    elements-are no_items is_first made h = tt
    elements-are (item n xs) is_first made h =
        by_value n is_first (elements_of mode xs false) (elements_of mode xs is_first) (is_value_node n) refl h.0
        (value-is n made.0) (elements-are xs false made.1 h.1) (elements-are xs is_first made.1 h.1)

    lines-are : (ss : Slots) (ks : List Key) → SlotsAreWellMade ss → InsideSuits mode ss ks → KeysAreTrue ks
        → AllByRecursion IsPair (inside_lines mode ss ks)
    lines-are no_slots ks made h keys = tt
    lines-are (slot k n ss) ks made h keys =
        let own = keys-snoc ks k keys made.1 in
        all-append IsPair _ (inside_lines mode ss ks)
        (by_line n ks k (lines_inside mode n (ks ++ (k ∷ []))) (is_line_node n) refl h.0 own
        (λ line. value-is n made.2 (line-value n line))
        (λ g. node_lines-are n (ks ++ (k ∷ [])) made.2 g own))
        (lines-are ss ks made.3 h.1 keys)

    node_lines-are : (n : Node) (ks : List Key) → IsWellMade n → NodeSuitsInside mode n ks → KeysAreTrue ks
        → AllByRecursion IsPair (lines_inside mode n ks)
    node_lines-are (inline f ss) ks made h keys = lines-are ss ks made h keys
    node_lines-are (table f ss) ks made h keys = lines-are ss ks made h keys
    node_lines-are (leaf s r d) ks made h keys = tt
    node_lines-are (list f xs) ks made h keys = tt
    node_lines-are (tables e xs) ks made h keys = tt
    node_lines-are nothing ks made h keys = tt

  -- ---- ranges

  close_inline-ranges : (comma : Bool) (t : Text) (ps : Pairs) → keeps_ranges (close_inline comma t ps) ≡ pairs_keep_ranges ps
  close_inline-ranges comma t no_pairs = refl
  close_inline-ranges true t (pair f v ps) = refl
  close_inline-ranges false t (pair f v ps) = after-pairs mode keeps_ranges elements_keep_ranges pairs_keep_ranges looks t (pair f v ps)

  pub value-ranges : (n : Node) → IsWellMade n → keeps_ranges (value_of mode n) ≡ true
  value-ranges =
      value-passes mode keeps_ranges elements_keep_ranges pairs_keep_ranges looks
      (λ s r d made. (scalar_text-spells s r made.0 made.1).1)
      (λ f ss made pass. close_inline-ranges f.comma (shown_raw mode f.trailing) (pairs_of_lines mode (inside_lines mode ss [])) ∙ pass)
      refl
