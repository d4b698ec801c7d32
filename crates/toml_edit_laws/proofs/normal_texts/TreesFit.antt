-- Every tree of an accepted cut, in owned form, fits.
use Rattle.std.proofs.Common.{◌≡◌, refl, sym, ◌∙◌, ap, subst, Bool, true, false, List, [], ◌∷◌}
use Rattle.std.specs.Prelude.{◌&&◌, ◌||◌, not, ℤ, pos, negsuc, map, filter, Option, Some, None, if◌then◌else◌, is_some}
use Rattle.std.specs.List.{AllByRecursion, list_all}
use Rattle.toml_edit_model.specs.Mode.{Mode, plain, exact}
use Rattle.toml_edit_model.specs.Syntax.{Statement, key_line, Header, header, Document, open_statements, IsDocument, keeps_limits}
use Rattle.toml_edit_model.specs.Syntax.{is_ranged}
use Rattle.toml_edit_model.specs.Paths.{header_role_of, Mention, Source, Context, context_after, placed_from, placed, start_context}
use Rattle.toml_edit_model.specs.Paths.{all_mentions}
use Rattle.toml_edit_model.specs.Accepted.{has_agreeing_tables, is_sound, is_accepted}
use Rattle.toml_edit_model.specs.Normal.{has_open_end, normal_last, normal_in}
use Rattle.toml_edit_model.specs.Tree.{TableFields, Tree, shown_prefix}
use Rattle.toml_edit_model.specs.TreeOf.{owned_in, IsTreeOf}
use Rattle.toml_edit_model.specs.HeaderOrder.{Visit, walk, slots_walk, places_from, place_of, comes_before, in_header_order, PlacedVisit}
use Rattle.toml_edit_model.specs.Print.{has_header, statements_of, written_statements, add_before}
use Rattle.toml_edit_model.specs.Fits.{is_too_late, none_too_late, headed, elements_are_ordered, is_steady_visit, has_steady_header}
use Rattle.toml_edit_model.specs.Fits.{has_own_prefix, has_no_dotted_inline, FitsIn}
use Rattle.toml_edit_laws.specs.TextsFit.{TextsFit}
use Rattle.toml_edit_laws.proofs.common.Tests.{and_left, and_right, and_both, true-false}
use Rattle.toml_edit_laws.proofs.common.OrderLaws.{all-sorted}
use Rattle.toml_edit_laws.proofs.print_of_read.Chunks.{Chunk, chunks}
use Rattle.toml_edit_laws.proofs.print_of_read.HeadedTables.{HasTable, tables_of}
use Rattle.toml_edit_laws.proofs.print_of_read.HeadersInOrder.{has_number}
use Rattle.toml_edit_laws.proofs.print_of_read.PrintOfRead.{tables, headers_once, written-last, printed_normal}
use Rattle.toml_edit_laws.proofs.normal_texts.Agreeing.{IsSound, from-right}
use Rattle.toml_edit_laws.proofs.normal_texts.NormalAccepted.{normal-accepted}
use Rattle.toml_edit_laws.proofs.normal_texts.SteadyTrees.{is_counted, walk-fine, steady-tree, undotted-tree}
use Rattle.toml_edit_laws.proofs.normal_texts.TreeDecors.{decors-suit}
use Rattle.toml_edit_laws.proofs.normal_texts.HeadersFollow.{is_element_header, is_element_chunk, too_late, NotLate, chunks-follow}
use Rattle.toml_edit_laws.proofs.common.Statements.{add-nothing}
use Rattle.toml_edit_laws.proofs.common.Pairs.{AllPairs, pairs-filter}
use Rattle.toml_edit_laws.proofs.mentions.Placed.{source-statement}
use Rattle.toml_edit_laws.proofs.one_by_one.Together.{accepted-right}
use Rattle.toml_edit_model.specs.Roles.{header_role, array_role, is_array_role}

-- ---- limits

sound-limits : (c : Context) (ss : List Statement) → AllByRecursion IsSound (placed_from c ss) → list_all keeps_limits ss ≡ true
sound-limits c [] h = refl
sound-limits c (s ∷ ss) h =
    let sound : is_sound s ≡ true = ap is_sound (sym (source-statement c s)) ∙ h.0 in
    and_both (keeps_limits s) (list_all keeps_limits ss)
    (and_left (keeps_limits s) (is_ranged s) (and_left (keeps_limits s && is_ranged s) (has_agreeing_tables s) sound))
    (sound-limits (context_after c s) ss h.1)

accepted-limits : (d : Document) → is_accepted d ≡ true → list_all keeps_limits d.statements ≡ true
accepted-limits d h = sound-limits (start_context d) d.statements (from-right [] (placed d) (accepted-right d h)).0

-- limits ask for no newline
open-limits : (ss : List Statement) → list_all keeps_limits (open_statements ss) ≡ list_all keeps_limits ss
open-limits [] = refl
open-limits (key_line f v end ∷ []) = refl
open-limits (header h end ∷ []) = refl
open-limits (s ∷ r ∷ rest) = ap (λ b. keeps_limits s && b) (open-limits (r ∷ rest))

last-limits : (mode : Mode) (d : Document) (ss : List Statement) → list_all keeps_limits (normal_last mode d ss) ≡ list_all keeps_limits ss
last-limits plain d ss = refl
last-limits exact d ss = by_test (has_open_end d.statements)
  where
    by_test : (b : Bool) → list_all keeps_limits (if b then open_statements ss else ss) ≡ list_all keeps_limits ss
    by_test true = open-limits ss
    by_test false = refl

some-number : (v : Visit) (o : Option ℤ) → v.fields.position ≡ o → is_some o ≡ true → is_counted o ≡ true → has_number v ≡ true
some-number v None e h c = absurd cc
some-number v (Some (pos n)) e h c = subst (λ o. has_number (record v { fields = record v.fields { position = o } }) ≡ true) (sym e) refl
some-number v (Some (negsuc n)) e h c = absurd cc

array-is : (h : Header) → is_array_role (header_role_of h) ≡ h.is_array
array-is h = by_kind h.is_array
  where
    by_kind : (b : Bool) → is_array_role (if b then array_role else header_role) ≡ b
    by_kind true = refl
    by_kind false = refl

abbrev VisitNotLate : Visit → Visit → Type 0
VisitNotLate g h = is_too_late g h ≡ false

none-late : (vs : List Visit) → AllPairs VisitNotLate vs → none_too_late vs ≡ true
none-late [] h = refl
none-late (v ∷ vs) h = and_both (list_all (λ u. not (is_too_late v u)) vs) (none_too_late vs) (each vs h.0) (none-late vs h.1)
  where
    each : (us : List Visit) → AllByRecursion (VisitNotLate v) us → list_all (λ u. not (is_too_late v u)) us ≡ true
    each [] g = refl
    each (u ∷ us) g = and_both (not (is_too_late v u)) (list_all (λ u. not (is_too_late v u)) us) (ap not g.0) (each us g.1)

module _ (mode : Mode) where
  printed-limits : (d : Document) → IsDocument d → is_accepted d ≡ true → (t : Tree) → IsTreeOf (owned_in mode) d t
      → list_all keeps_limits (statements_of mode t) ≡ true
  printed-limits d h g t is =
      let written = written_statements mode (has_open_end d.statements) t in
      let same : normal_last mode d (statements_of mode t) ≡ (normal_in mode d).statements =
      sym (written-last mode d h t is.root is.trailing)
      ∙ sym (add-nothing written) ∙ ap (λ (f : TableFields). add_before (shown_prefix mode [] f.decor) written) (sym is.root)
      ∙ ap (λ (e : Document). e.statements) (printed_normal mode d h g t is) in
      sym (last-limits mode d (statements_of mode t)) ∙ ap (list_all keeps_limits) same
      ∙ accepted-limits (normal_in mode d) (normal-accepted mode d h g).1

  -- ---- headers

  abbrev HeadsNumbered : Visit → Type 0
  HeadsNumbered v = has_header mode v ≡ true → has_number v ≡ true

  steady-number : (v : Visit) → is_steady_visit mode v ≡ true → is_counted v.fields.position ≡ true → v.fields.is_dotted ≡ false
      → HeadsNumbered v
  steady-number v h c d e =
      let part = and_right (has_no_dotted_inline v.slots) ((v.fields.is_dotted || not (has_header mode v)) || has_steady_header v) h in
      let steady : has_steady_header v ≡ true = by_tests v.fields.is_dotted (has_header mode v) (has_steady_header v) d e part in
      some-number v v.fields.position refl
      (and_left (is_some v.fields.position) (has_own_prefix v.fields.decor.prefix)
      (and_left (is_some v.fields.position && has_own_prefix v.fields.decor.prefix) (v.is_element || not v.fields.is_implicit) steady))
      c
    where
      by_tests : (a b c : Bool) → a ≡ false → b ≡ true → ((a || not b) || c) ≡ true → c ≡ true
      by_tests true b c p q r = absurd cc
      by_tests false true c p q r = r
      by_tests false false c p q r = absurd cc

  places-numbered : (seen : ℤ) (vs : List Visit) → list_all (is_steady_visit mode) vs ≡ true
      → list_all (λ v. is_counted v.fields.position) vs ≡ true
      → AllByRecursion (λ g. HeadsNumbered g.1) (places_from seen vs)
  places-numbered seen [] h k = tt
  places-numbered seen (v ∷ vs) h k =
      let rest = and_right (is_steady_visit mode v) (list_all (is_steady_visit mode) vs) h in
      let more = and_right (is_counted v.fields.position) (list_all (λ u. is_counted u.fields.position) vs) k in
      by_test v.fields.is_dotted refl (places-numbered seen vs rest more) (places-numbered (place_of seen v) vs rest more)
    where
      by_test : (b : Bool) → v.fields.is_dotted ≡ b → AllByRecursion (λ g. HeadsNumbered g.1) (places_from seen vs)
          → AllByRecursion (λ g. HeadsNumbered g.1) (places_from (place_of seen v) vs)
          → AllByRecursion (λ g. HeadsNumbered g.1) (if b then places_from seen vs else (place_of seen v, v)
          ∷ places_from (place_of seen v) vs)
      by_test true e a c = a
      by_test false e a c = (
        steady-number v (and_left (is_steady_visit mode v) (list_all (is_steady_visit mode) vs) h)
            (and_left (is_counted v.fields.position) (list_all (λ u. is_counted u.fields.position) vs) k) e,
        c,
      )

  -- the headed tables are among those with numbers
  headed-numbered : (gs : List PlacedVisit) → AllByRecursion (λ g. HeadsNumbered g.1) gs
      → filter (has_header mode) (map (λ g. g.1) gs) ≡ filter (has_header mode) (map (λ g. g.1) (filter (λ g. has_number g.1) gs))
  headed-numbered [] h = refl
  headed-numbered (g ∷ gs) h = by_tests (has_header mode g.1) refl (has_number g.1) refl (headed-numbered gs h.1)
    where
      all : List Visit
      all = filter (has_header mode) (map (λ (x : PlacedVisit). x.1) gs)

      kept : List PlacedVisit
      kept = filter (λ (x : PlacedVisit). has_number x.1) gs

      by_tests : (a : Bool) → has_header mode g.1 ≡ a → (b : Bool) → has_number g.1 ≡ b → all
          ≡ filter (has_header mode) (map (λ (x : PlacedVisit). x.1) kept)
          → (if a then g.1 ∷ all else all) ≡ filter (has_header mode) (map (λ (x : PlacedVisit). x.1) (if b then g ∷ kept else kept))
      by_tests true p true q ih =
          sym (ap (λ c. if c then g.1 ∷ filter (has_header mode) (map (λ (x : PlacedVisit). x.1) kept)
          else filter (has_header mode) (map (λ (x : PlacedVisit). x.1) kept)) p ∙ ap (λ vs. g.1 ∷ vs) (sym ih))
      by_tests true p false q ih = true-false (has_number g.1) (h.0 p) q
      by_tests false p true q ih =
          sym (ap (λ c. if c then g.1 ∷ filter (has_header mode) (map (λ (x : PlacedVisit). x.1) kept)
          else filter (has_header mode) (map (λ (x : PlacedVisit). x.1) kept)) p ∙ sym ih)
      by_tests false p false q ih = ih

  -- ---- the tables of headers follow one another

  table-element : (all : List (Mention Source)) (vs : List Visit) (ch : Chunk) (h : HasTable mode all vs ch) → h.visit.is_element
      ≡ is_element_chunk ch
  table-element all vs ch h =
      h.visit_is.element ∙ ap is_array_role h.is.last_role ∙ array-is h.is.header_is ∙ ap is_element_header (sym h.is.statement)

  tables-follow : (all : List (Mention Source)) (vs : List Visit) (cs : List Chunk) (h : AllByRecursion (HasTable mode all vs) cs)
      → AllPairs NotLate cs → AllPairs VisitNotLate (tables_of mode all vs cs h)
  tables-follow all vs [] h g = tt
  tables-follow all vs (ch ∷ cs) h g = (each cs h.1 g.0, tables-follow all vs cs h.1 g.1)
    where
      each : (xs : List Chunk) (k : AllByRecursion (HasTable mode all vs) xs) → AllByRecursion (NotLate ch) xs
          → AllByRecursion (VisitNotLate h.0.visit) (tables_of mode all vs xs k)
      each [] k f = tt
      each (x ∷ xs) k f = (
        ap (λ e. too_late e h.0.visit.path k.0.visit.is_element k.0.visit.path) (table-element all vs ch h.0)
            ∙ ap (λ p. too_late (is_element_chunk ch) p k.0.visit.is_element k.0.visit.path) h.0.visit_is.path
            ∙ ap (λ e. too_late (is_element_chunk ch) ch.block e k.0.visit.path) (table-element all vs x k.0)
            ∙ ap (λ p. too_late (is_element_chunk ch) ch.block (is_element_chunk x) p) k.0.visit_is.path
            ∙ f.0,
        each xs k.1 f.1,
      )

  ordered-tree : (d : Document) → IsDocument d → is_accepted d ≡ true → (t : Tree) → IsTreeOf (owned_in mode) d t
      → elements_are_ordered mode t ≡ true
  ordered-tree d h g t is =
      let fine = walk-fine mode d t is in
      let numbered : AllByRecursion (λ (x : PlacedVisit). HeadsNumbered x.1) (in_header_order t) =
      all-sorted (λ (x : PlacedVisit). HeadsNumbered x.1) comes_before (places_from (pos 0) (walk t))
      (places-numbered (pos 0) (walk t) fine.0 fine.2) in
      let cs : List Chunk = chunks (start_context d) d.statements in
      let vs : List Visit = slots_walk t.slots [] [] in
      let heads : headed mode t ≡ filter (has_header mode) (tables_of mode (all_mentions d) vs cs (tables mode d h g t is)) =
      headed-numbered (in_header_order t) numbered ∙ ap (filter (has_header mode)) (headers_once mode d h g t is) in
      ap none_too_late heads
      ∙ none-late (filter (has_header mode) (tables_of mode (all_mentions d) vs cs (tables mode d h g t is)))
      (pairs-filter VisitNotLate (has_header mode) (tables_of mode (all_mentions d) vs cs (tables mode d h g t is))
      (tables-follow (all_mentions d) vs cs (tables mode d h g t is) (chunks-follow (start_context d) d.statements)))

  -- Every tree of an accepted cut, in owned form, fits.
  pub tree-fits : (d : Document) → IsDocument d → is_accepted d ≡ true → (t : Tree) → IsTreeOf (owned_in mode) d t → FitsIn mode t
  tree-fits d h g t is =
      record {
        decors = decors-suit mode d h t is;
        undotted = undotted-tree mode d t is;
        ordered = ordered-tree d h g t is;
        limits = printed-limits d h g t is;
      }

  -- Every tree of an accepted text, with owned texts, fits and is steady.
  pub texts_fit : TextsFit mode
  texts_fit t d h tree is = (tree-fits d h.0.0 h.1 tree is, steady-tree mode d tree is)
