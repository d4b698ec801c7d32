-- The tree of an accepted document, in owned form, prints the normal text.
use Rattle.std.proofs.Common.{◌≡◌, refl, sym, ◌∙◌, ap, subst, suc, true, false, List, [], ◌∷◌, ◌++◌, inl, inr, Bool, ◌⊎◌}
use Rattle.std.specs.Prelude.{map, filter, flat_map, ◌&&◌, if◌then◌else◌}
use Rattle.std.specs.List.{AllByRecursion}
use Rattle.std.proofs.lemmas.List.{map-append}
use Rattle.std.proofs.lemmas.List.Folds.{flat_map-map}
use Rattle.toml_edit_laws.proofs.accepted_prints.PrintedCut.{open-statements, document-text}
use Rattle.toml_edit_laws.proofs.common.LineEnds.{IsEnd}
use Rattle.toml_edit_model.specs.Trivia.{IsNewline, lf, crlf}
use Rattle.toml_edit_model.specs.Mode.{Mode, shown_text, plain, exact, is_exact}
use Rattle.toml_edit_model.specs.Text.{Text, one, is_empty}
use Rattle.toml_edit_model.specs.Syntax.{Header, Statement, header, Document, IsDocument, IsHeader, open_statements, AreStatements}
use Rattle.toml_edit_model.specs.Syntax.{document_text, key_line}
use Rattle.toml_edit_model.specs.Paths.{Step, at_key, at_element, Path, Mention, Source, Placed, start_context, placed, all_mentions}
use Rattle.toml_edit_model.specs.Accepted.{is_accepted}
use Rattle.toml_edit_model.specs.Normal.{is_line, ordered, normal_statement, normal_in, normal_text_in, has_open_end, normal_last}
use Rattle.toml_edit_model.specs.Tree.{Tree, TableFields, shown_prefix, shown_suffix, shown_raw, owned}
use Rattle.toml_edit_model.specs.TreeOf.{owned_in, IsTreeOf, root_fields}
use Rattle.toml_edit_model.specs.HeaderOrder.{Visit, slots_walk, is_root, in_header_order}
use Rattle.toml_edit_model.specs.Print.{Line, lines_of, table_lines, line_statement, Printed, printed_line, printed_header, printed_table}
use Rattle.toml_edit_model.specs.Print.{printed, statements_of, print_in, add_before, final_of, document_in, leaves_open, open_last}
use Rattle.toml_edit_model.specs.Print.{written_statements}
use Rattle.toml_edit_laws.proofs.print_of_read.NoVisits.{numbered}
use Rattle.toml_edit_laws.proofs.common.Members.{Among, among-left, among-right, all-among, all-of-among}
use Rattle.toml_edit_laws.proofs.mentions.KeptOrder.{HaveOneHeader}
use Rattle.toml_edit_laws.proofs.mentions.OneHeaderLaws.{document-header}
use Rattle.toml_edit_laws.proofs.mentions.RankLaws.{RanksFollow, document-follow}
use Rattle.toml_edit_laws.proofs.clashes.ClashContext.{HasKey, keyed_statements, document-statements}
use Rattle.toml_edit_laws.proofs.clashes.ClashMentions.{AreOfStatements, statements-under_path}
use Rattle.toml_edit_laws.proofs.mentions.GatheredLines.{AllPart}
use Rattle.toml_edit_laws.proofs.print_of_read.LevelFacts.{map-among}
use Rattle.toml_edit_laws.proofs.print_of_read.Blocks.{HaveLines, of_root}
use Rattle.toml_edit_laws.proofs.print_of_read.Chunks.{place_path, Chunk, lead_lines, chunks, chunk_places, placed-chunks, lines_before}
use Rattle.toml_edit_laws.proofs.print_of_read.Chunks.{ordered_chunk, ordered-chunks}
use Rattle.toml_edit_laws.proofs.print_of_read.ChunkFacts.{lead-facts, own-lines, OpensAt, opens_table, opens_element, IsChunk, AgreeAfter}
use Rattle.toml_edit_laws.proofs.print_of_read.ChunkFacts.{right-agree, document-chunks}
use Rattle.toml_edit_laws.proofs.print_of_read.DocumentFacts.{IsRightStatement, document-right, mentions-right, document-spaced}
use Rattle.toml_edit_laws.proofs.print_of_read.DocumentFacts.{document-openings, document-lines}
use Rattle.toml_edit_laws.proofs.print_of_read.UnderPaths.{path-header}
use Rattle.toml_edit_laws.proofs.print_of_read.HeaderWalk.{walk-one}
use Rattle.toml_edit_laws.proofs.print_of_read.WalkFacts.{IsEntered, walk-read}
use Rattle.toml_edit_laws.proofs.print_of_read.HeadersInOrder.{has_number, order-of-headers, printed-in-order}
use Rattle.toml_edit_laws.proofs.print_of_read.PrintedLines.{lines-printed, lead-part, chunk-parts}
use Rattle.toml_edit_laws.proofs.print_of_read.PrintedHeader.{header-printed}
use Rattle.toml_edit_laws.proofs.print_of_read.HeadedTables.{HasTable, tables_of, table-among, tables-numbers, tables-ascending}
use Rattle.toml_edit_laws.proofs.print_of_read.HeadedTables.{tables-same, chunk-numbers}
use Rattle.toml_edit_laws.proofs.mentions.RoleTests.{is_bracket_role}
use Rattle.toml_edit_laws.proofs.common.Statements.{add-nothing, final-nothing}
use Rattle.toml_edit_laws.proofs.mentions.Placed.{path-ends}
use Rattle.toml_edit_laws.proofs.common.Each.{all-map}
use Rattle.toml_edit_laws.proofs.print_of_read.Seats.{IsSeat, seat-first, seat-slots}
use Rattle.toml_edit_laws.proofs.one_by_one.Together.{accepted-right}
use Rattle.toml_edit_model.specs.Order.{sorted_by}
use Rattle.toml_edit_laws.specs.KeptKeys.{under_path}
use Rattle.toml_edit_model.specs.Kept.{rank}
use Rattle.toml_edit_model.specs.TableMentions.{kept}

right-header : (s : Statement) (h : Header) (end : Text) → s ≡ header h end → IsRightStatement s → IsHeader h × IsEnd end
right-header s h end e r = subst IsRightStatement e r

-- a document of its parts
abbrev made : Text → Text → Text → List Statement → Document
made before after trailing ss =
    record { has_mark = false; statements = add_before before ss; final = final_of before ss (after ++ trailing) }

-- a newline isn't empty
end-final : (final end : Text) → IsNewline end ⊎ ((end ≡ []) × (final ≡ [])) → is_empty end ≡ true → final ≡ []
end-final final end (inl (lf, n)) e = (let clash : false ≡ true = sym (ap is_empty n) ∙ e in cc)
end-final final end (inl (crlf, n)) e = (let clash : false ≡ true = sym (ap is_empty n) ∙ e in cc)
end-final final end (inr p) e = p.1

pub open-end-final : (final : Text) (ss : List Statement) → AreStatements final ss → has_open_end ss ≡ true → final ≡ []
open-end-final final [] h e = absurd cc
open-end-final final (key_line f v end ∷ []) h e = end-final final end h.2 e
open-end-final final (header k end ∷ []) h e = end-final final end h.1 e
open-end-final final (s ∷ r ∷ ss) h e = open-end-final final (r ∷ ss) h.1 e

module _ (mode : Mode) where
  -- a block's path isn't empty
  block-full : (all : List (Mention Source)) (b : Path) (m : Mention Source) (q : Path) (s : Step) → OpensAt all b m → m.path ≡ q ++ one s
      → is_empty b ≡ false
  block-full all b m q s (opens_table role path) e = ap is_empty (sym path ∙ e) ∙ full q s
    where
      full : (q : Path) (s : Step) → is_empty (q ++ one s) ≡ false
      full [] s = refl
      full (t ∷ q) s = refl
  block-full all b m q s (opens_element i role path place) e = ap is_empty path ∙ full m.path (at_element i)
    where
      full : (q : Path) (s : Step) → is_empty (q ++ one s) ≡ false
      full [] s = refl
      full (t ∷ q) s = refl

  -- the statements of printed lines
  line-statements : (p : Path) (ls : List Line) → map (λ (x : Printed). x.statement) (map (printed_line mode p) ls)
      ≡ map (line_statement mode) ls
  line-statements p [] = refl
  line-statements p (l ∷ ls) = ap (λ ts. line_statement mode l ∷ ts) (line-statements p ls)

  module _ (d : Document) (is_document : IsDocument d) (accepted : is_accepted d ≡ true) where
    abbrev pub all : List (Mention Source)
    all = all_mentions d

    abbrev mss : List (List (Mention Source))
    mss = map (λ (s : Placed). s.mentions) (placed d)

    abbrev pub cs : List Chunk
    cs = chunks (start_context d) d.statements

    abbrev lead : List Placed
    lead = lead_lines (start_context d) d.statements

    abbrev normal_of : Placed → Statement
    normal_of s = normal_statement mode all s s.source.statement

    keyed : AllByRecursion HasKey d.statements
    keyed = keyed_statements d.final d.statements is_document.0

    right : AllByRecursion (λ (s : Placed). IsRightStatement s.source.statement) (placed d)
    right = document-right d is_document.0 accepted

    are : AreOfStatements all
    are = document-statements d keyed accepted

    one_header : HaveOneHeader all
    one_header = document-header d accepted

    seat : IsSeat all [] all
    seat = seat-first all are one_header (document-spaced d right)

    lines : HaveLines all
    lines = document-lines d keyed accepted

    follow : RanksFollow (rank mss) [] all
    follow = document-follow d

    heads : (m : Mention Source) → Among m all → is_bracket_role m.role ≡ true → is_line m.source.statement ≡ false
    heads = document-openings d

    agrees : AgreeAfter [] (placed d)
    agrees = right-agree [] (placed d) (accepted-right d accepted)

    are_chunks : AllByRecursion (IsChunk all) cs
    are_chunks = document-chunks d keyed accepted

    -- the statements of chunks are among all
    chunk-right : (ch : Chunk) → Among ch cs → AllByRecursion (λ (s : Placed). IsRightStatement s.source.statement) (chunk_places ch)
    chunk-right ch a =
        all-of-among (λ (s : Placed). IsRightStatement s.source.statement) (chunk_places ch) (λ s b.
        all-among (λ (x : Placed). IsRightStatement x.source.statement) s (placed d) right
        (subst (Among s) (sym (placed-chunks (start_context d) d.statements))
        (among-right s lead (flat_map chunk_places cs) (map-among chunk_places s ch cs a b))))

    lead_right : AllByRecursion (λ (s : Placed). IsRightStatement s.source.statement) lead
    lead_right =
        all-of-among (λ (s : Placed). IsRightStatement s.source.statement) lead (λ s b.
        all-among (λ (x : Placed). IsRightStatement x.source.statement) s (placed d) right
        (subst (Among s) (sym (placed-chunks (start_context d) d.statements)) (among-left s lead (flat_map chunk_places cs) b)))

    module _ (t : Tree) (is : IsTreeOf (owned_in mode) d t) where
      abbrev pub vs : List Visit
      vs = slots_walk t.slots [] []

      -- each header has its table
      chunk-table : (ch : Chunk) → IsChunk all ch → HasTable mode all vs ch
      chunk-table ch c =
          let ends = path-ends c.arrays [] c.header_is.path c.filled in
          let found =
          walk-one mode all ch.block (suc c.number) c.last [] [] all t.slots seat tt c.reached
          (block-full all ch.block c.last ends.0 (at_key ends.1) c.opens (c.last_path ∙ c.path ∙ ends.2)) c.only c.opens
          (ap (λ (s : Source). is_line s.statement) c.last_source ∙ ap is_line c.statement) is.slots in
          record {
            is = c;
            visit = found.0;
            walk = ap (λ n. filter (numbered n) vs) c.numbered ∙ found.1;
            visit_is = found.2;
          }

      pub tables : AllByRecursion (HasTable mode all vs) cs
      tables = all-map (IsChunk all) (HasTable mode all vs) cs chunk-table are_chunks

      entered : AllByRecursion (IsEntered mode) vs
      entered = walk-read mode all (rank mss) follow are lines heads [] all (kept all) t.slots [] seat (seat-slots all [] all seat) is.slots

      printed_is : printed mode t ≡ map (printed_line mode []) (table_lines mode t.slots [])
          ++ flat_map (printed_table mode true) (tables_of mode all vs cs tables)
      printed_is =
          printed-in-order mode t (tables_of mode all vs cs tables) is.root entered (tables-numbers mode all vs cs tables)
          (tables-ascending mode all vs 0 cs tables (chunk-numbers (start_context d) d.statements))
          (λ n. tables-same mode (start_context d) d.statements t.slots [] is.slots tables n)

      -- Each header of the text has one table, and no other table has a number: in header order they stand as in the text.
      pub headers_once : map (λ g. g.1) (filter (λ g. has_number g.1) (in_header_order t)) ≡ tables_of mode all vs cs tables
      headers_once =
          order-of-headers mode t (tables_of mode all vs cs tables) is.root entered (tables-numbers mode all vs cs tables)
          (tables-ascending mode all vs 0 cs tables (chunk-numbers (start_context d) d.statements))
          (λ n. tables-same mode (start_context d) d.statements t.slots [] is.slots tables n)

      -- the root's lines
      lead_printed : map (line_statement mode) (table_lines mode t.slots []) ≡ map normal_of (sorted_by (lines_before mss) lead)
      lead_printed =
          lines-printed mode all mss [] 0 lead all t.slots seat follow are one_header lines (of_root refl refl)
          (lead-facts (start_context d) d.statements keyed)
          (lead-part (start_context d) d.statements [] (lead-facts (start_context d) d.statements keyed) agrees) lead_right
          (own-lines (start_context d) d.statements) is.slots

      -- a header and its lines
      chunk-printed : (ch : Chunk) → Among ch cs → AllPart place_path ch.lines → (h : HasTable mode all vs ch)
          → map (λ (p : Printed). p.statement) (printed_table mode true h.visit) ≡ map normal_of (ordered_chunk mss ch)
      chunk-printed ch a part h =
          let c : IsChunk all ch = h.is in
          let seat_here : IsSeat all ch.block (under_path ch.block all) =
          record {
            is = refl;
            are = statements-under_path ch.block all are;
            one_header = path-header ch.block all one_header;
            spaced =
                seat.spaced;
          } in
          let root : is_root h.visit ≡ false = (all-among (IsEntered mode) h.visit vs entered (table-among mode all vs ch h)).0 in
          map-append (λ (p : Printed). p.statement) (printed_header mode true h.visit)
          (map (printed_line mode h.visit.path) (lines_of mode h.visit))
          ∙ ap (λ ts. ts ++ map (λ (p : Printed). p.statement) (map (printed_line mode h.visit.path) (lines_of mode h.visit)))
          (header-printed mode all ch h.visit c h.visit_is (mentions-right d right) heads
          (right-header ch.head.source.statement c.header_is c.end c.statement (chunk-right ch a).0) root)
          ∙ ap (λ ts. normal_of ch.head ∷ ts)
          (line-statements h.visit.path (lines_of mode h.visit)
          ∙ lines-printed mode all mss ch.block (suc c.number) ch.lines (under_path ch.block all) h.visit.slots seat_here follow are
          one_header lines c.block c.lines part
          (chunk-right ch a).1 c.own h.visit_is.slots)

      chunks-printed : (xs : List Chunk) → ((ch : Chunk) → Among ch xs → Among ch cs)
          → AllByRecursion (λ (ch : Chunk). AllPart place_path ch.lines) xs
          → (h : AllByRecursion (HasTable mode all vs) xs)
          → map (λ (p : Printed). p.statement) (flat_map (printed_table mode true) (tables_of mode all vs xs h))
          ≡ map normal_of (flat_map (ordered_chunk mss) xs)
      chunks-printed [] within part h = refl
      chunks-printed (ch ∷ xs) within part h =
          map-append (λ (p : Printed). p.statement) (printed_table mode true h.0.visit)
          (flat_map (printed_table mode true) (tables_of mode all vs xs h.1))
          ∙ ap (λ ts. ts ++ map (λ (p : Printed). p.statement) (flat_map (printed_table mode true) (tables_of mode all vs xs h.1)))
          (chunk-printed ch (within ch (inl refl)) part.0 h.0)
          ∙ ap (λ ts. map normal_of (ordered_chunk mss ch) ++ ts) (chunks-printed xs (λ c a. within c (inr a)) part.1 h.1)
          ∙ sym (map-append normal_of (ordered_chunk mss ch) (flat_map (ordered_chunk mss) xs))

      statements_are : statements_of mode t ≡ map normal_of (ordered mss (placed d))
      statements_are =
          ap (map (λ (p : Printed). p.statement)) printed_is
          ∙ map-append (λ (p : Printed). p.statement) (map (printed_line mode []) (table_lines mode t.slots []))
          (flat_map (printed_table mode true) (tables_of mode all vs cs tables))
          ∙ ap (λ ts. ts ++ map (λ (p : Printed). p.statement) (flat_map (printed_table mode true) (tables_of mode all vs cs tables)))
          (line-statements [] (table_lines mode t.slots []) ∙ lead_printed)
          ∙ ap (λ ts. map normal_of (sorted_by (lines_before mss) lead) ++ ts)
          (chunks-printed cs (λ ch a. a) (chunk-parts (start_context d) d.statements [] keyed agrees) tables)
          ∙ sym (map-append normal_of (sorted_by (lines_before mss) lead) (flat_map (ordered_chunk mss) cs))
          ∙ ap (map normal_of) (sym (ordered-chunks mss (start_context d) d.statements))

  -- the statements of the normal form
  normal_statements : Document → List Statement
  normal_statements d =
      let mss : List (List (Mention Source)) = map (λ (s : Placed). s.mentions) (placed d) in
      map (λ s. normal_statement mode (flat_map (λ m. m) mss) s s.source.statement) (ordered mss (placed d))

  are-normal : (d : Document) → IsDocument d → is_accepted d ≡ true → (t : Tree) → IsTreeOf (owned_in mode) d t → statements_of mode t
      ≡ normal_statements d
  unfolding normal_statements
  are-normal d is_document accepted t is =
      statements_are d is_document accepted t is
      ∙ ap (λ ms. map (λ (s : Placed). normal_statement mode ms s s.source.statement)
      (ordered (map (λ (s : Placed). s.mentions) (placed d)) (placed d)))
      (sym (flat_map-map (λ (m : List (Mention Source)). m) (λ (s : Placed). s.mentions) (placed d)))

  -- ---- an open end

  -- what is written of a tree with the root and the trailing of the text's: the printed statements, the last of them without a newline
  -- where that of the text has none
  pub written-last : (d : Document) → IsDocument d → (u : Tree) → u.root ≡ root_fields (owned_in mode) → u.trailing ≡ owned d.final
      → written_statements mode (has_open_end d.statements) u ≡ normal_last mode d (statements_of mode u)
  written-last d is_document u root_is trailing_is =
      let ss = statements_of mode u in
      written (leaves_open mode is_open u) (printed mode u)
      ∙ ap (λ (f : TableFields). if (is_exact mode && is_open)
      && (is_empty (shown_suffix mode [] f.decor) && is_empty (shown_raw mode u.trailing)) then open_statements ss else ss) root_is
      ∙ ap (λ r. if (is_exact mode && is_open) && (true && is_empty (shown_raw mode r)) then open_statements ss else ss) trailing_is
      ∙ same mode ss
    where
      is_open : Bool
      is_open = has_open_end d.statements

      written : (b : Bool) (ps : List Printed) → map (λ (p : Printed). p.statement) (if b then open_last ps else ps)
          ≡ (if b then open_statements (map (λ (p : Printed). p.statement) ps) else map (λ (p : Printed). p.statement) ps)
      written true ps = open-statements ps
      written false ps = refl

      closing : (b : Bool) → has_open_end d.statements ≡ b → (xs : List Statement)
          → (if b && (true && is_empty d.final) then open_statements xs else xs) ≡ (if b then open_statements xs else xs)
      closing true e xs = ap (λ f. if true && (true && is_empty f) then open_statements xs
          else xs) (open-end-final d.final d.statements is_document.0 e)
      closing false e xs = refl

      same : (m : Mode) (xs : List Statement)
          → (if ((is_exact m && is_open) && (true && is_empty (shown_text m d.final))) then open_statements xs else xs) ≡ normal_last m d xs
      same plain xs = refl
      same exact xs = closing is_open refl xs

  written-are : (d : Document) → IsDocument d → is_accepted d ≡ true → (t : Tree) → IsTreeOf (owned_in mode) d t
      → written_statements mode (has_open_end d.statements) t ≡ normal_last mode d (normal_statements d)
  written-are d is_document accepted t is =
      written-last d is_document t is.root is.trailing ∙ ap (normal_last mode d) (are-normal d is_document accepted t is)

  -- The cut of the print is the normal form.
  pub printed_normal : (d : Document) → IsDocument d → is_accepted d ≡ true → (t : Tree) → IsTreeOf (owned_in mode) d t
      → document_in mode (has_open_end d.statements) t ≡ normal_in mode d
  unfolding normal_statements
  printed_normal d is_document accepted t is =
      let ss = normal_last mode d (normal_statements d) in
      ap (λ (f : TableFields). made (shown_prefix mode [] f.decor) (shown_suffix mode [] f.decor) (shown_raw mode t.trailing)
      (written_statements mode (has_open_end d.statements) t)) is.root
      ∙ ap (λ r. made [] [] (shown_raw mode r) (written_statements mode (has_open_end d.statements) t)) is.trailing
      ∙ ap (made [] [] (shown_text mode d.final)) (written-are d is_document accepted t is)
      ∙ ap (λ xs. record { has_mark = false; statements = xs; final = final_of [] ss (shown_text mode d.final) }) (add-nothing ss)
      ∙ ap (λ t. record { has_mark = false; statements = ss; final = t }) (final-nothing ss (shown_text mode d.final))

  -- The tree of an accepted document, in owned form, prints the normal text.
  pub print_normal : (d : Document) → IsDocument d → is_accepted d ≡ true → (t : Tree) → IsTreeOf (owned_in mode) d t
      → print_in mode (has_open_end d.statements) t ≡ normal_text_in mode d
  print_normal d is_document accepted t is =
      sym (document-text mode (has_open_end d.statements) t) ∙ ap document_text (printed_normal d is_document accepted t is)
