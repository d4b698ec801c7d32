-- The lines and the headers of a tree, whether it is steady, and whether what it prints keeps limits, are the same in every two modes.
use Rattle.std.proofs.Common.{◌≡◌, refl, sym, ◌∙◌, ap, suc, Bool, true, false, List, [], ◌∷◌, ◌++◌, length}
use Rattle.std.specs.Prelude.{◌&&◌, ◌||◌, not, max, nat_le, map, filter, if◌then◌else◌}
use Rattle.std.specs.List.{list_all}
use Rattle.std.proofs.lemmas.List.Folds.{list_all-append}
use Rattle.toml_edit_model.specs.Mode.{Mode}
use Rattle.toml_edit_model.specs.Text.{Text, one, is_empty}
use Rattle.toml_edit_model.specs.Syntax.{Frame, Around, Value, Elements, no_elements, element, Pairs, no_pairs, pair, depth, elements_depth}
use Rattle.toml_edit_model.specs.Syntax.{pairs_depth, nesting_limit, is_short, has_short_keys, elements_have_short_keys}
use Rattle.toml_edit_model.specs.Syntax.{pairs_have_short_keys, keeps_limits}
use Rattle.toml_edit_model.specs.Paths.{Path}
use Rattle.toml_edit_model.specs.Tree.{Key, Node, nothing, leaf, list, inline, table, tables, Items, no_items, item, Slots, no_slots, slot}
use Rattle.toml_edit_model.specs.Tree.{Tree, shown_raw}
use Rattle.toml_edit_model.specs.HeaderOrder.{Visit, PlacedVisit, is_root, walk, in_header_order}
use Rattle.toml_edit_model.specs.Print.{one_space, Line, segments, segments_after, is_line_node, table_lines, dotted_lines, inside_lines}
use Rattle.toml_edit_model.specs.Print.{lines_inside, lines_of, line_of, value_of, elements_of, around_of, frame_of, add_after, close_array}
use Rattle.toml_edit_model.specs.Print.{add_after_pairs, close_inline, pairs_of_lines, line_statement, has_header, header_statement}
use Rattle.toml_edit_model.specs.Print.{Printed, printed_line, printed_header, printed_table, printed_tables, statements_of}
use Rattle.toml_edit_model.specs.Fits.{none_too_late, elements_are_ordered, has_no_dotted_inline, has_steady_header, is_steady_visit}
use Rattle.toml_edit_model.specs.Fits.{is_undotted}
use Rattle.toml_edit_laws.specs.Locality.{SteadyInEachMode}

-- ---- values of one depth, with keys as short

abbrev pub Same : Value → Value → Type 0
Same v w = (depth v ≡ depth w) × (has_short_keys v ≡ has_short_keys w)

abbrev pub SameElements : Elements → Elements → Type 0
SameElements es gs = (elements_depth es ≡ elements_depth gs) × (elements_have_short_keys es ≡ elements_have_short_keys gs)

abbrev SamePairs : Pairs → Pairs → Type 0
SamePairs ps qs = (pairs_depth ps ≡ pairs_depth qs) × (pairs_have_short_keys ps ≡ pairs_have_short_keys qs)

element-same : (a b : Around) (v w : Value) (es gs : Elements) → Same v w → SameElements es gs
    → SameElements (element a v es) (element b w gs)
element-same a b v w es gs h g = (
  ap (λ k. max k (elements_depth es)) h.0 ∙ ap (max (depth w)) g.0,
  ap (λ c. c && elements_have_short_keys es) h.1 ∙ ap (λ c. has_short_keys w && c) g.1,
)

pair-same : (f g : Frame) (v w : Value) (ps qs : Pairs) → is_short f.path ≡ is_short g.path → Same v w → SamePairs ps qs
    → SamePairs (pair f v ps) (pair g w qs)
pair-same f g v w ps qs e h r = (
  ap (λ k. max k (pairs_depth ps)) h.0 ∙ ap (max (depth w)) r.0,
  ap (λ c. c && (has_short_keys v && pairs_have_short_keys ps)) e
      ∙ ap (λ c. is_short g.path && (c && pairs_have_short_keys ps)) h.1
      ∙ ap (λ c. is_short g.path && (has_short_keys w && c)) r.1,
)

after-depth : (t : Text) (es : Elements) → SameElements (add_after t es) es
after-depth t no_elements = (refl, refl)
after-depth t (element a v no_elements) = (refl, refl)
after-depth t (element a v (element b w es)) =
    element-same a a v v (add_after t (element b w es)) (element b w es) (refl, refl) (after-depth t (element b w es))

close-depth : (c : Bool) (t : Text) (es : Elements) → (depth (close_array c t es) ≡ suc (elements_depth es))
    × (has_short_keys (close_array c t es) ≡ elements_have_short_keys es)
close-depth c t no_elements = (refl, refl)
close-depth true t (element a v es) = (refl, refl)
close-depth false t (element a v es) = (let rest = after-depth t (element a v es) in (ap suc rest.0, rest.1))

pairs-after : (t : Text) (ps : Pairs) → SamePairs (add_after_pairs t ps) ps
pairs-after t no_pairs = (refl, refl)
pairs-after t (pair f v no_pairs) = (refl, refl)
pairs-after t (pair f v (pair g w ps)) =
    pair-same f f v v (add_after_pairs t (pair g w ps)) (pair g w ps) refl (refl, refl) (pairs-after t (pair g w ps))

close-pairs : (c : Bool) (t : Text) (ps : Pairs) → (depth (close_inline c t ps) ≡ suc (pairs_depth ps))
    × (has_short_keys (close_inline c t ps) ≡ pairs_have_short_keys ps)
close-pairs c t no_pairs = (refl, refl)
close-pairs true t (pair f v ps) = (refl, refl)
close-pairs false t (pair f v ps) = (let rest = pairs-after t (pair f v ps) in (ap suc rest.0, rest.1))

-- ---- lines with the same keys and items, and such values

abbrev pub AlikeLine : Line → Line → Type 0
AlikeLine l m = (l.keys ≡ m.keys) × (l.item ≡ m.item) × Same l.value m.value

abbrev pub AlikeLines : List Line → List Line → Type 0
AlikeLines [] [] = Unit {0}
AlikeLines (l ∷ ls) (m ∷ ms) = AlikeLine l m × AlikeLines ls ms
AlikeLines _ _ = ⊥

alike-append : (ls ms ks ns : List Line) → AlikeLines ls ms → AlikeLines ks ns → AlikeLines (ls ++ ks) (ms ++ ns)
alike-append [] [] ks ns h g = g
alike-append (l ∷ ls) (m ∷ ms) ks ns h g = (h.0, alike-append ls ms ks ns h.1 g)
alike-append [] (m ∷ ms) ks ns h g = absurd h
alike-append (l ∷ ls) [] ks ns h g = absurd h

slot-alike : (b : Bool) (ks : List Key) (n : Node) (v w : Value) (ls ms rest more : List Line) → Same v w → AlikeLines ls ms
    → AlikeLines rest more
    → AlikeLines ((elim b [ true ↦ line_of ks n v | false ↦ ls ]) ++ rest) ((elim b [ true ↦ line_of ks n w | false ↦ ms ]) ++ more)
slot-alike true ks n v w ls ms rest more s h g = ((refl, refl, s), g)
slot-alike false ks n v w ls ms rest more s h g = alike-append ls ms rest more h g

empty-alike : (ls ms : List Line) → AlikeLines ls ms → is_empty ls ≡ is_empty ms
empty-alike [] [] h = refl
empty-alike (l ∷ ls) (m ∷ ms) h = refl
empty-alike [] (m ∷ ms) h = absurd h
empty-alike (l ∷ ls) [] h = absurd h

abbrev pub keeps : Printed → Bool
keeps p = keeps_limits p.statement

pub all-statements : (ps : List Printed) → list_all keeps_limits (map (λ p. p.statement) ps) ≡ list_all keeps ps
all-statements [] = refl
all-statements (p ∷ ps) = ap (λ b. keeps_limits p.statement && b) (all-statements ps)

module _ (mode : Mode) where
  after-length : (ks : List Key) → length (segments_after mode ks) ≡ length ks
  after-length [] = refl
  after-length (k ∷ []) = refl
  after-length (k ∷ l ∷ ks) = ap suc (after-length (l ∷ ks))

  pub segments-length : (ks : List Key) → length (segments mode ks) ≡ length ks
  segments-length [] = refl
  segments-length (k ∷ []) = refl
  segments-length (k ∷ l ∷ ks) = ap suc (after-length (l ∷ ks))

module _ (mode other : Mode) where
  short-same : (ks js : List Key) → ks ≡ js → is_short (segments mode ks) ≡ is_short (segments other js)
  short-same ks js e = ap (λ n. nat_le n nesting_limit) (segments-length mode ks ∙ ap length e ∙ sym (segments-length other js))

  pairs-alike : (ls ms : List Line) → AlikeLines ls ms → SamePairs (pairs_of_lines mode ls) (pairs_of_lines other ms)
  pairs-alike [] [] h = (refl, refl)
  pairs-alike (l ∷ []) (m ∷ []) h =
      pair-same (frame_of mode one_space one_space l) (frame_of other one_space one_space m) l.value m.value no_pairs no_pairs
      (short-same l.keys m.keys h.0.0) h.0.2 (refl, refl)
  pairs-alike (l ∷ k ∷ ls) (m ∷ n ∷ ms) h =
      pair-same (frame_of mode one_space [] l) (frame_of other one_space [] m) l.value m.value (pairs_of_lines mode (k ∷ ls))
      (pairs_of_lines other (n ∷ ms))
      (short-same l.keys m.keys h.0.0) h.0.2 (pairs-alike (k ∷ ls) (n ∷ ms) h.1)
  pairs-alike [] (m ∷ ms) h = absurd h
  pairs-alike (l ∷ ls) [] h = absurd h
  pairs-alike (l ∷ []) (m ∷ n ∷ ms) h = absurd h.1
  pairs-alike (l ∷ k ∷ ls) (m ∷ []) h = absurd h.1

  mutual
    value-same : (n : Node) → Same (value_of mode n) (value_of other n)
    value-same nothing = (refl, refl)
    value-same (leaf s r d) = (refl, refl)
    value-same (table f ss) = (refl, refl)
    value-same (tables e xs) = (refl, refl)
    value-same (list f xs) =
        let first = close-depth f.comma (shown_raw mode f.trailing) (elements_of mode xs true) in
        let second = close-depth f.comma (shown_raw other f.trailing) (elements_of other xs true) in
        let both = items-same xs true in
        (first.0 ∙ ap suc both.0 ∙ sym second.0, first.1 ∙ both.1 ∙ sym second.1)
    value-same (inline f ss) =
        let first = close-pairs f.comma (shown_raw mode f.trailing) (pairs_of_lines mode (inside_lines mode ss [])) in
        let second = close-pairs f.comma (shown_raw other f.trailing) (pairs_of_lines other (inside_lines other ss [])) in
        let both = pairs-alike (inside_lines mode ss []) (inside_lines other ss []) (inside-alike ss []) in
        (first.0 ∙ ap suc both.0 ∙ sym second.0, first.1 ∙ both.1 ∙ sym second.1)

    items-same : (xs : Items) (b : Bool) → SameElements (elements_of mode xs b) (elements_of other xs b)
    items-same no_items b = (refl, refl)
    items-same (item (leaf s r d) xs) b =
        element-same (around_of mode b d) (around_of other b d) (value_of mode (leaf s r d)) (value_of other (leaf s r d))
        (elements_of mode xs false) (elements_of other xs false)
        (value-same (leaf s r d)) (items-same xs false)
    items-same (item (list f ys) xs) b =
        element-same (around_of mode b f.decor) (around_of other b f.decor) (value_of mode (list f ys)) (value_of other (list f ys))
        (elements_of mode xs false) (elements_of other xs false)
        (value-same (list f ys)) (items-same xs false)
    items-same (item (inline f ss) xs) b =
        element-same (around_of mode b f.decor) (around_of other b f.decor) (value_of mode (inline f ss)) (value_of other (inline f ss))
        (elements_of mode xs false) (elements_of other xs false)
        (value-same (inline f ss)) (items-same xs false)
    items-same (item (table f ss) xs) b = items-same xs b
    items-same (item (tables e ys) xs) b = items-same xs b
    items-same (item nothing xs) b = items-same xs b

    inside-alike : (ss : Slots) (ks : List Key) → AlikeLines (inside_lines mode ss ks) (inside_lines other ss ks)
    inside-alike no_slots ks = tt
    inside-alike (slot k n ss) ks =
        slot-alike (is_line_node n) (ks ++ one k) n (value_of mode n) (value_of other n) (lines_inside mode n (ks ++ one k))
        (lines_inside other n (ks ++ one k))
        (inside_lines mode ss ks) (inside_lines other ss ks) (value-same n) (node-inside n (ks ++ one k)) (inside-alike ss ks)

    node-inside : (n : Node) (ks : List Key) → AlikeLines (lines_inside mode n ks) (lines_inside other n ks)
    node-inside (inline f ss) ks = inside-alike ss ks
    node-inside (table f ss) ks = inside-alike ss ks
    node-inside nothing ks = tt
    node-inside (leaf s r d) ks = tt
    node-inside (list f xs) ks = tt
    node-inside (tables e xs) ks = tt

  mutual
    lines-alike : (ss : Slots) (ks : List Key) → AlikeLines (table_lines mode ss ks) (table_lines other ss ks)
    lines-alike no_slots ks = tt
    lines-alike (slot k n ss) ks =
        slot-alike (is_line_node n) (ks ++ one k) n (value_of mode n) (value_of other n) (dotted_lines mode n (ks ++ one k))
        (dotted_lines other n (ks ++ one k))
        (table_lines mode ss ks) (table_lines other ss ks) (value-same n) (node-dotted n (ks ++ one k)) (lines-alike ss ks)

    node-dotted : (n : Node) (ks : List Key) → AlikeLines (dotted_lines mode n ks) (dotted_lines other n ks)
    node-dotted (inline f ss) ks = inside-alike ss ks
    node-dotted (table f ss) ks = by_test f.is_dotted (lines-alike ss ks)
      where
        by_test : (b : Bool) → AlikeLines (table_lines mode ss ks) (table_lines other ss ks)
            → AlikeLines (if b then table_lines mode ss ks else []) (if b then table_lines other ss ks else [])
        by_test true h = h
        by_test false h = tt
    node-dotted nothing ks = tt
    node-dotted (leaf s r d) ks = tt
    node-dotted (list f xs) ks = tt
    node-dotted (tables e xs) ks = tt

  -- the lines of a table
  pub table-alike : (v : Visit) → AlikeLines (lines_of mode v) (lines_of other v)
  table-alike v = lines-alike v.slots []

  -- ---- headers

  pub header-same : (v : Visit) → has_header mode v ≡ has_header other v
  header-same v =
      ap (λ b. not (is_root v) && (v.is_element || not (v.fields.is_implicit && b)))
      (empty-alike (lines_of mode v) (lines_of other v) (table-alike v))

  headed-same : (vs : List Visit) → filter (has_header mode) vs ≡ filter (has_header other) vs
  headed-same [] = refl
  headed-same (v ∷ vs) =
      ap (λ b. if b then v ∷ filter (has_header mode) vs else filter (has_header mode) vs) (header-same v)
      ∙ ap (λ us. if has_header other v then v ∷ us else us) (headed-same vs)

  pub ordered-same : (t : Tree) → elements_are_ordered mode t ≡ elements_are_ordered other t
  ordered-same t = ap none_too_late (headed-same (map (λ v. v.1) (in_header_order t)))

  visits-same : (vs : List Visit) → list_all (is_steady_visit mode) vs ≡ list_all (is_steady_visit other) vs
  visits-same [] = refl
  visits-same (v ∷ vs) =
      ap (λ b. (has_no_dotted_inline v.slots && ((v.fields.is_dotted || not b) || has_steady_header v))
      && list_all (is_steady_visit mode) vs) (header-same v)
      ∙ ap (λ b. is_steady_visit other v && b) (visits-same vs)

  -- ---- limits

  line-keeps : (l m : Line) → AlikeLine l m → keeps_limits (line_statement mode l) ≡ keeps_limits (line_statement other m)
  line-keeps l m h =
      ap (λ b. b && (nat_le (depth l.value) nesting_limit && has_short_keys l.value)) (short-same l.keys m.keys h.0)
      ∙ ap (λ n. is_short (segments other m.keys) && (nat_le n nesting_limit && has_short_keys l.value)) h.2.0
      ∙ ap (λ b. is_short (segments other m.keys) && (nat_le (depth m.value) nesting_limit && b)) h.2.1

  lines-keep : (p : Path) (ls ms : List Line) → AlikeLines ls ms → list_all keeps (map (printed_line mode p) ls)
      ≡ list_all keeps (map (printed_line other p) ms)
  lines-keep p [] [] h = refl
  lines-keep p (l ∷ ls) (m ∷ ms) h =
      ap (λ b. b && list_all keeps (map (printed_line mode p) ls)) (line-keeps l m h.0)
      ∙ ap (λ b. keeps_limits (line_statement other m) && b) (lines-keep p ls ms h.1)
  lines-keep p [] (m ∷ ms) h = absurd h
  lines-keep p (l ∷ ls) [] h = absurd h

  abbrev head : (form : Mode) → Bool → Visit → Bool → List Printed
  head form first v b = if b then record { block = v.path; path = v.path; statement = header_statement form first v } ∷ [] else []

  header-keeps : (first second : Bool) (v : Visit) → list_all keeps (printed_header mode first v)
      ≡ list_all keeps (printed_header other second v)
  header-keeps first second v = ap (λ b. list_all keeps (head mode first v b)) (header-same v) ∙ by_header (has_header other v)
    where
      by_header : (b : Bool) → list_all keeps (head mode first v b) ≡ list_all keeps (head other second v b)
      by_header true = ap (λ b. b && true) (short-same v.keys v.keys refl)
      by_header false = refl

  table-keeps : (first second : Bool) (v : Visit) → list_all keeps (printed_table mode first v)
      ≡ list_all keeps (printed_table other second v)
  table-keeps first second v =
      list_all-append keeps (printed_header mode first v) (map (printed_line mode v.path) (lines_of mode v))
      ∙ ap (λ b. b && list_all keeps (map (printed_line mode v.path) (lines_of mode v))) (header-keeps first second v)
      ∙ ap (λ b. list_all keeps (printed_header other second v)
      && b) (lines-keep v.path (lines_of mode v) (lines_of other v) (table-alike v))
      ∙ sym (list_all-append keeps (printed_header other second v) (map (printed_line other v.path) (lines_of other v)))

  tables-keep : (first second : Bool) (vs : List PlacedVisit) → list_all keeps (printed_tables mode first vs)
      ≡ list_all keeps (printed_tables other second vs)
  tables-keep first second [] = refl
  tables-keep first second (v ∷ vs) =
      let third : Bool = first && is_empty (printed_table mode first v.1) in
      let fourth : Bool = second && is_empty (printed_table other second v.1) in
      list_all-append keeps (printed_table mode first v.1) (printed_tables mode third vs)
      ∙ ap (λ b. b && list_all keeps (printed_tables mode third vs)) (table-keeps first second v.1)
      ∙ ap (λ b. list_all keeps (printed_table other second v.1) && b) (tables-keep third fourth vs)
      ∙ sym (list_all-append keeps (printed_table other second v.1) (printed_tables other fourth vs))

  pub limits-same : (t : Tree) → list_all keeps_limits (statements_of mode t) ≡ list_all keeps_limits (statements_of other t)
  limits-same t =
      all-statements (printed_tables mode true (in_header_order t)) ∙ tables-keep true true (in_header_order t)
      ∙ sym (all-statements (printed_tables other true (in_header_order t)))

pub steady_in_each_mode : SteadyInEachMode
steady_in_each_mode mode other t = ap (λ b. is_undotted t && b) (visits-same mode other (walk t))
