-- The printed statements, each read in the block of its table, have the facts of the tables that the walk enters.
use Rattle.std.proofs.Common.{◌≡◌, ℕ, ℤ, pos, refl, sym, ◌∙◌, ap, subst, inl, inr, Bool, true, false, List, [], ◌∷◌, ◌++◌, append_assoc}
use Rattle.std.specs.Prelude.{◌&&◌, not, if◌then◌else◌, flat_map, map}
use Rattle.std.specs.List.{AllByRecursion}
use Rattle.std.proofs.lemmas.List.{map-append}
use Rattle.toml_edit_model.specs.Mode.{Mode}
use Rattle.toml_edit_model.specs.Text.{Text, is_empty}
use Rattle.toml_edit_model.specs.Syntax.{Header, Statement, key_line, header, without_newline}
use Rattle.toml_edit_model.specs.Paths.{at_element, Path, to_element, elements_at, header_path, Context, context_after, start_context}
use Rattle.toml_edit_model.specs.Meaning.{Fact, fact, a_table, an_array, below_keys, value_facts, tables_along, parent}
use Rattle.toml_edit_model.specs.Meaning.{element_header_facts, facts_from, SameFacts, meaning}
use Rattle.toml_edit_model.specs.Tree.{Tree}
use Rattle.toml_edit_model.specs.Shown.{slots_facts, shown_meaning}
use Rattle.toml_edit_model.specs.HeaderOrder.{Visit, PlacedVisit, slots_walk, walk, place_of, places_from, is_root, comes_before}
use Rattle.toml_edit_model.specs.HeaderOrder.{in_header_order}
use Rattle.toml_edit_model.specs.Print.{Line, lines_of, has_header, segments, table_lines, Printed, printed_line, printed_table}
use Rattle.toml_edit_model.specs.Print.{printed_tables, statements_of, add_before, root_prefix, document_in, header_statement, open_last}
use Rattle.toml_edit_model.specs.Print.{leaves_open, written_statements, printed}
use Rattle.toml_edit_laws.specs.AcceptedPrints.{IsFitting}
use Rattle.toml_edit_laws.proofs.accepted_prints.Spots.{Spot, tree_spot}
use Rattle.toml_edit_laws.proofs.accepted_prints.Threads.{arrays_after, block_after, Threads, StandsIn, no-lines, IsPlaced, root_placed}
use Rattle.toml_edit_laws.proofs.accepted_prints.Threads.{after_root, order-is, after-placed, printed-thread}
use Rattle.toml_edit_laws.proofs.common.Tests.{and_left, and_right, not-true}
use Rattle.toml_edit_laws.proofs.common.Members.{among-left, among-right, among-cases, from-contained, to-contained}
use Rattle.toml_edit_laws.proofs.print_meaning.FactSets.{Within, Alike, alike-cons, alike-append, alike-same, alike-then}
use Rattle.toml_edit_laws.proofs.print_meaning.ValueFacts.{line_facts}
use Rattle.toml_edit_laws.proofs.print_meaning.WalkFacts.{own_facts, visit_facts, walk_facts, walk-tells}
use Rattle.toml_edit_laws.proofs.common.Visits.{have_no_dotted}
use Rattle.toml_edit_laws.proofs.common.Each.{all-map}
use Rattle.toml_edit_laws.proofs.common.PathLaws.{parent-last}
use Rattle.toml_edit_laws.proofs.common.Statements.{own_header}
use Rattle.toml_edit_model.specs.Order.{insert_by, sorted_by}

-- ---- the facts of statements, by what the reader keeps

abbrev header_says : List Path → Header → List Fact
header_says arrays h =
    if h.is_array then element_header_facts (header_path arrays [] h.path) (elements_at arrays (header_path arrays [] h.path))
    else tables_along [] (header_path arrays [] h.path)

abbrev facts_by : List Path → Path → List Statement → List Fact
facts_by arrays block [] = []
facts_by arrays block (key_line f v end ∷ rest) = (tables_along [] block ++ below_keys block f.path (value_facts v))
    ++ facts_by arrays block rest
facts_by arrays block (header h end ∷ rest) = header_says arrays h
    ++ facts_by (arrays_after arrays (header h end)) (block_after arrays block (header h end)) rest

facts-by : (c : Context) (ss : List Statement) → facts_from c ss ≡ facts_by c.arrays c.block ss
facts-by c [] = refl
facts-by c (key_line f v end ∷ rest) =
    ap (λ fs. (tables_along [] c.block ++ below_keys c.block f.path (value_facts v))
    ++ fs) (facts-by (context_after c (key_line f v end)) rest)
facts-by c (header h end ∷ rest) = ap (λ fs. header_says c.arrays h ++ fs) (facts-by (context_after c (header h end)) rest)

-- a text before the first of them makes no difference
facts-before : (t : Text) (arrays : List Path) (block : Path) (ss : List Statement) → facts_by arrays block (add_before t ss)
    ≡ facts_by arrays block ss
facts-before t arrays block [] = refl
facts-before t arrays block (key_line f v end ∷ rest) = refl
facts-before t arrays block (header h end ∷ rest) = refl

abbrev statement_list : List Printed → List Statement
statement_list ps = map (λ (p : Printed). p.statement) ps

facts-then : (arrays : List Path) (block : Path) (s : Statement) (ss ts : List Statement)
    → ((A : List Path) (b : Path) → facts_by A b ss ≡ facts_by A b ts) → facts_by arrays block (s ∷ ss) ≡ facts_by arrays block (s ∷ ts)
facts-then arrays block (key_line f v end) ss ts h =
    ap (λ fs. (tables_along [] block ++ below_keys block f.path (value_facts v)) ++ fs) (h arrays block)
facts-then arrays block (header k end) ss ts h =
    ap (λ fs. header_says arrays k ++ fs) (h (arrays_after arrays (header k end)) (block_after arrays block (header k end)))

-- nor does an open end
facts-open : (arrays : List Path) (block : Path) (ps : List Printed) → facts_by arrays block (statement_list (open_last ps))
    ≡ facts_by arrays block (statement_list ps)
facts-open arrays block [] = refl
facts-open arrays block (p ∷ []) = last p.statement
  where
    last : (s : Statement) → facts_by arrays block (without_newline s ∷ []) ≡ facts_by arrays block (s ∷ [])
    last (key_line f v end) = refl
    last (header h end) = refl
facts-open arrays block (p ∷ q ∷ ps) =
    facts-then arrays block p.statement (statement_list (open_last (q ∷ ps))) (statement_list (q ∷ ps)) (λ A b. facts-open A b (q ∷ ps))

facts-written : (b : Bool) (ps : List Printed) → facts_by [] [] (statement_list (if b then open_last ps else ps))
    ≡ facts_by [] [] (statement_list ps)
facts-written true ps = facts-open [] [] ps
facts-written false ps = refl

says : (b : Bool) (p q : Path) (n : ℕ) → (if b then to_element p n else p) ≡ q
    → (if b then element_header_facts p n else tables_along [] p)
    ≡ (if b then tables_along [] (parent (parent q)) ++ (fact (parent q) an_array ∷ fact q a_table ∷ []) else tables_along [] q)
says true p q n h =
    ap (λ r. tables_along [] (parent r) ++ (fact r an_array ∷ fact (to_element p n) a_table ∷ [])) (sym (parent-last p (at_element n)))
    ∙ ap (λ r. tables_along [] (parent (parent r)) ++ (fact (parent r) an_array ∷ fact r a_table ∷ [])) h
says false p q n h = ap (tables_along []) h

swap : (xs ys zs : List Fact) → Within (xs ++ (ys ++ zs)) (ys ++ (xs ++ zs))
swap xs ys zs f m =
    elim (among-cases f xs (ys ++ zs) m) [
      | inl a ↦ among-right f ys (xs ++ zs) (among-left f xs zs a)
      | inr a ↦ elim (among-cases f ys zs a) [
        | inl b ↦ among-left f ys (xs ++ zs) b
        | inr b ↦
            among-right f ys (xs ++ zs) (among-right f xs zs b)
      ]
    ]

module _ {A : Type 0} (g : A → List Fact) (before : A → A → Bool) where
  insert-alike : (a : A) (xs : List A) → Alike (flat_map g (insert_by before a xs)) (g a ++ flat_map g xs)
  insert-alike a [] = alike-same (g a ++ []) (g a ++ []) refl
  insert-alike a (b ∷ xs) = by_test (before a b) (insert-alike a xs)
    where
      by_test : (c : Bool) → Alike (flat_map g (insert_by before a xs)) (g a ++ flat_map g xs)
          → Alike (flat_map g (if c then a ∷ b ∷ xs else b ∷ insert_by before a xs)) (g a ++ (g b ++ flat_map g xs))
      by_test true h = alike-same (g a ++ (g b ++ flat_map g xs)) (g a ++ (g b ++ flat_map g xs)) refl
      by_test false h =
          alike-then (g b ++ flat_map g (insert_by before a xs)) (g b ++ (g a ++ flat_map g xs)) (g a ++ (g b ++ flat_map g xs))
          (alike-append (g b) (g b) (flat_map g (insert_by before a xs)) (g a ++ flat_map g xs) (alike-same (g b) (g b) refl) h)
          (swap (g b) (g a) (flat_map g xs), swap (g a) (g b) (flat_map g xs))

  sorted-alike : (xs : List A) → Alike (flat_map g (sorted_by before xs)) (flat_map g xs)
  sorted-alike [] = alike-same [] [] refl
  sorted-alike (a ∷ xs) =
      alike-then (flat_map g (insert_by before a (sorted_by before xs))) (g a ++ flat_map g (sorted_by before xs)) (g a ++ flat_map g xs)
      (insert-alike a (sorted_by before xs))
      (alike-append (g a) (g a) (flat_map g (sorted_by before xs)) (flat_map g xs) (alike-same (g a) (g a) refl) (sorted-alike xs))

contained : (fs gs : List Fact) → Alike fs gs → SameFacts fs gs
contained fs gs h f = (λ c. to-contained f gs (h.0 f (from-contained f fs c)), λ c. to-contained f fs (h.1 f (from-contained f gs c)))

module _ (mode : Mode) where
  -- the lines of a block
  lines-say : (arrays : List Path) (block q : Path) (ls : List Line) (rest : List Statement)
      → facts_by arrays block (statement_list (map (printed_line mode q) ls) ++ rest) ≡ line_facts mode (tables_along [] block) block ls
      ++ facts_by arrays block rest
  lines-say arrays block q [] rest = refl
  lines-say arrays block q (l ∷ ls) rest =
      let one = tables_along [] block ++ below_keys block (segments mode l.keys) (value_facts l.value) in
      ap (λ fs. one ++ fs) (lines-say arrays block q ls rest)
      ∙ sym (append_assoc one (line_facts mode (tables_along [] block) block ls) (facts_by arrays block rest))

  -- ---- statements that leave the block of their table

  module _ (K : Path → Spot) where
    lines-through : (arrays : List Path) (block q : Path) (ls : List Line) (later : List Printed)
        → Threads (StandsIn mode K) arrays block (map (printed_line mode q) ls ++ later)
        → Threads (StandsIn mode K) arrays block later
    lines-through arrays block q [] later h = h
    lines-through arrays block q (l ∷ ls) later h = lines-through arrays block q ls later h.1

    table-says : (b : Bool) (arrays : List Path) (block : Path) (first : Bool) (v : Visit) (later : List Printed) (facts : List Fact)
        → (b ≡ false → lines_of mode v ≡ [])
        → Threads (StandsIn mode K) arrays block (((if b then own_header mode first v ∷ [] else [])
        ++ map (printed_line mode v.path) (lines_of mode v)) ++ later)
        → ((xs : List Path) (q : Path) → Threads (StandsIn mode K) xs q later → facts_by xs q (statement_list later) ≡ facts)
        → facts_by arrays block (statement_list ((if b then own_header mode first v ∷ [] else [])
        ++ map (printed_line mode v.path) (lines_of mode v)) ++ statement_list later)
        ≡ ((if b then own_facts v else []) ++ line_facts mode (tables_along [] v.path) v.path (lines_of mode v)) ++ facts
    table-says true arrays block first v later facts none h ih =
        let read = header_path arrays [] (segments mode v.keys) in
        let after = arrays_after arrays (header_statement mode first v) in
        let lines = line_facts mode (tables_along [] v.path) v.path (lines_of mode v) in
        let printed = map (printed_line mode v.path) (lines_of mode v) in
        let below = statement_list printed ++ statement_list later in
        ap (λ fs. fs ++ facts_by after (block_after arrays block (header_statement mode first v)) below)
        (says v.is_element read v.path (elements_at arrays read) h.0.block)
        ∙ ap (λ q. own_facts v ++ facts_by after q below) h.0.block
        ∙ ap (λ fs. own_facts v ++ fs) (lines-say after v.path v.path (lines_of mode v) (statement_list later))
        ∙ ap (λ fs. own_facts v ++ (lines ++ fs))
        (ih after v.path (lines-through after v.path v.path (lines_of mode v) later
        (subst (λ q. Threads (StandsIn mode K) after q (printed ++ later)) h.0.block h.1)))
        ∙ sym (append_assoc (own_facts v) lines facts)
    table-says false arrays block first v later facts none h ih =
        ap (λ ls. facts_by arrays block (statement_list (map (printed_line mode v.path) ls) ++ statement_list later)) (none refl)
        ∙ ih arrays block (lines-through arrays block v.path (lines_of mode v) later h)
        ∙ ap (λ ls. line_facts mode (tables_along [] v.path) v.path ls ++ facts) (sym (none refl))

    tables-say : (arrays : List Path) (block : Path) (first : Bool) (vs : List PlacedVisit)
        → AllByRecursion (λ (v : PlacedVisit). is_root v.1 ≡ false) vs
        → Threads (StandsIn mode K) arrays block (printed_tables mode first vs)
        → facts_by arrays block (statement_list (printed_tables mode first vs)) ≡ flat_map (λ (v : PlacedVisit). visit_facts mode v.1) vs
    tables-say arrays block first [] r h = refl
    tables-say arrays block first (v ∷ vs) r h =
        let next = first && is_empty (printed_table mode first v.1) in
        ap (facts_by arrays block) (map-append (λ (p : Printed). p.statement) (printed_table mode first v.1) (printed_tables mode next vs))
        ∙ table-says (has_header mode v.1) arrays block first v.1 (printed_tables mode next vs)
        (flat_map (λ (v : PlacedVisit). visit_facts mode v.1) vs) (no-lines mode v.1 r.0) h (λ xs q g. tables-say xs q next vs r.1 g)

  -- ---- the order of headers makes no difference

  places-facts : (seen : ℤ) (vs : List Visit) → flat_map (λ (v : PlacedVisit). visit_facts mode v.1) (places_from seen vs)
      ≡ walk_facts mode vs
  places-facts seen [] = refl
  places-facts seen (v ∷ vs) = by_test v.fields.is_dotted (places-facts seen vs) (places-facts (place_of seen v) vs)
    where
      by_test : (b : Bool) → flat_map (λ (v : PlacedVisit). visit_facts mode v.1) (places_from seen vs) ≡ walk_facts mode vs
          → flat_map (λ (v : PlacedVisit). visit_facts mode v.1) (places_from (place_of seen v) vs) ≡ walk_facts mode vs
          → flat_map (λ (v : PlacedVisit). visit_facts mode v.1) (if b then places_from seen vs else (place_of seen v, v)
          ∷ places_from (place_of seen v) vs)
          ≡ (if b then [] else visit_facts mode v) ++ walk_facts mode vs
      by_test true h g = h
      by_test false h g = ap (λ fs. visit_facts mode v ++ fs) g

  -- ---- the document

  -- the printed statements have the facts of the tables in order
  printed-say : (t : Tree) → IsFitting mode t → facts_by [] [] (statements_of mode t)
      ≡ flat_map (λ (v : PlacedVisit). visit_facts mode v.1) (in_header_order t)
  printed-say t fitting =
      let K = tree_spot t.slots in
      let order = order-is mode t fitting in
      let rest = after_root t in
      let next = true && is_empty (printed_table mode true (root_placed t).1) in
      let threads : Threads (StandsIn mode K) [] [] (printed_tables mode true (root_placed t ∷ rest)) =
      subst (λ vs. Threads (StandsIn mode K) [] [] (printed_tables mode true vs)) order (printed-thread mode t fitting) in
      let keyed : AllByRecursion (λ (v : PlacedVisit). is_root v.1 ≡ false) rest =
      all-map (λ (v : PlacedVisit). IsPlaced mode t fitting v.1) (λ (v : PlacedVisit). is_root v.1
      ≡ false) rest (λ v h. h.1) (after-placed mode t fitting) in
      ap (λ vs. facts_by [] [] (statement_list (printed_tables mode true vs))) order
      ∙ ap (facts_by [] []) (map-append (λ (p : Printed). p.statement) (map (printed_line mode []) (table_lines mode t.slots []))
      (printed_tables mode next rest))
      ∙ lines-say [] [] [] (table_lines mode t.slots []) (statement_list (printed_tables mode next rest))
      ∙ ap (λ fs. line_facts mode [] [] (table_lines mode t.slots []) ++ fs)
      (tables-say K [] [] next rest keyed (lines-through K [] [] [] (table_lines mode t.slots []) (printed_tables mode next rest) threads))
      ∙ ap (λ vs. flat_map (λ (v : PlacedVisit). visit_facts mode v.1) vs) (sym order)

  -- The print of a tree that fits means what the tree shows.
  pub meaning-of-print : (is_open : Bool) (t : Tree) → IsFitting mode t → SameFacts (meaning (document_in mode is_open t)) (shown_meaning t)
  unfolding meaning shown_meaning
  meaning-of-print is_open t fitting =
      let u = fitting.fits.undotted in
      let d = not-true t.root.is_dotted (and_left (not t.root.is_dotted) (have_no_dotted (walk t)) u) in
      let elements = and_right (not (false && t.root.is_dotted)) (have_no_dotted (slots_walk t.slots [] []))
      (and_right (not t.root.is_dotted) (have_no_dotted (walk t)) u) in
      let said = facts_from (start_context (document_in mode is_open t)) (document_in mode is_open t).statements in
      let same : said ≡ flat_map (λ (v : PlacedVisit). visit_facts mode v.1) (in_header_order t) =
      facts-by (start_context (document_in mode is_open t)) (document_in mode is_open t).statements
      ∙ facts-before (root_prefix mode t) [] [] (written_statements mode is_open t)
      ∙ facts-written (leaves_open mode is_open t) (printed mode t) ∙ printed-say t fitting in
      contained (fact [] a_table ∷ said) (fact [] a_table ∷ slots_facts t.slots [])
      (alike-cons (fact [] a_table) said (slots_facts t.slots [])
      (alike-then said (walk_facts mode (walk t)) (slots_facts t.slots [])
      (alike-then said (flat_map (λ (v : PlacedVisit). visit_facts mode v.1) (in_header_order t)) (walk_facts mode (walk t))
      (alike-same said (flat_map (λ (v : PlacedVisit). visit_facts mode v.1) (in_header_order t)) same)
      (alike-then (flat_map (λ (v : PlacedVisit). visit_facts mode v.1) (in_header_order t))
      (flat_map (λ (v : PlacedVisit). visit_facts mode v.1) (places_from (pos 0) (walk t))) (walk_facts mode (walk t))
      (sorted-alike (λ (v : PlacedVisit). visit_facts mode v.1) comes_before (places_from (pos 0) (walk t)))
      (alike-same (flat_map (λ (v : PlacedVisit). visit_facts mode v.1) (places_from (pos 0) (walk t))) (walk_facts mode (walk t))
      (places-facts (pos 0) (walk t)))))
      (walk-tells mode t d elements)))
