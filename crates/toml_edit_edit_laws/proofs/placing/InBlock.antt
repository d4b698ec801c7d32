-- An edit of the slots of a table with a block changes the lines of that block, where the tables below stay.
use Rattle.std.proofs.Common.{◌≡◌, refl, sym, ◌∙◌, ap, subst, Bool, true, false, List, [], ◌∷◌, ◌++◌, append_assoc, append-nil, inl, inr}
use Rattle.std.specs.Prelude.{◌&&◌, ◌||◌, not, map, if◌then◌else◌, is_some}
use Rattle.std.specs.List.{AllByRecursion}
use Rattle.std.proofs.lemmas.Bool.{cases_Bool}
use Rattle.std.proofs.lemmas.List.{map-append}
use Rattle.toml_edit_model.specs.Mode.{Mode}
use Rattle.toml_edit_model.specs.Text.{is_empty}
use Rattle.toml_edit_model.specs.Paths.{Step, Path}
use Rattle.toml_edit_model.specs.Tree.{Key, Node, Slots, SlotsAreWellMade, Tree}
use Rattle.toml_edit_model.specs.HeaderOrder.{Visit, slots_walk, is_root}
use Rattle.toml_edit_model.specs.Print.{Line, table_lines, lines_of, below, is_line_node, has_header, header_statement, Printed, printed}
use Rattle.toml_edit_model.specs.Print.{printed_line, printed_header, printed_table}
use Rattle.toml_edit_model.specs.Fits.{has_own_prefix}
use Rattle.toml_edit_model.specs.Slots.{Slot, keyed}
use Rattle.toml_edit_model.specs.Lists.{slots_from}
use Rattle.toml_edit_laws.specs.Locality.{Turn, Leads, root_visit, edited, value_line, has_block}
use Rattle.toml_edit_laws.proofs.common.Tests.{and_left, and_right, not-true, true-false}
use Rattle.toml_edit_laws.proofs.common.PathLaws.{is_front}
use Rattle.toml_edit_laws.proofs.common.Each.{all-append, all-back}
use Rattle.toml_edit_laws.proofs.locality.Slots.{slots_under, lines-append}
use Rattle.toml_edit_laws.proofs.locality.Blocks.{Block, block_of, blocks, is_headed, block_printed, IsSteadyBlock, IsSteadyTable}
use Rattle.toml_edit_laws.proofs.locality.Under.{IsBlockOut}
use Rattle.toml_edit_laws.proofs.locality.Splice.{LineSplice, BlockSplice, lines-split}
use Rattle.toml_edit_laws.proofs.locality.Along.{Whole, tree_blocks, whole-tree}
use Rattle.toml_edit_laws.proofs.locality.Sound.{Steady, SlotsAreSound, along-sound}
use Rattle.toml_edit_laws.proofs.locality.Printing.{printed_all, with_lines, printed-tree, IsOut, Parted, parted, headed-behind}
use Rattle.toml_edit_laws.proofs.locality.Edited.{firm-visits, steady-tree, steady-same, whole-steady}
use Rattle.toml_edit_laws.proofs.locality.Replacing.{itself, map-itself}
use Rattle.toml_edit_laws.proofs.locality.Values.{slot-line}
use Rattle.toml_edit_laws.proofs.locality.Ways.{entered}
use Rattle.toml_edit_laws.proofs.locality.Adding.{leads-root}
use Rattle.toml_edit_edit_laws.specs.Placing.{on_list, statement_in}

-- ---- the root alone has no keys

-- a steady block with a header has one whatever its lines are
pub headed-always : (b : Block) (ls : List Line) → IsSteadyBlock b → is_headed b ≡ true → is_headed (with_lines b ls) ≡ true
headed-always b ls s h =
    by_tests (is_empty b.keys) b.is_element b.fields.is_implicit (is_empty b.lines) (is_empty ls)
    (is_some b.fields.position && has_own_prefix b.fields.decor.prefix) s h
  where
    by_tests : (k e i l m x : Bool) → (not (not k && (e || not (i && l))) || (x && (e || not i))) ≡ true
        → (not k && (e || not (i && l))) ≡ true
        → (not k && (e || not (i && m))) ≡ true
    by_tests true e i l m x s h = h
    by_tests false true i l m x s h = refl
    by_tests false false false l m x s h = refl
    by_tests false false true true m x s h = true-false false h refl
    by_tests false false true false m x s h = true-false false (and_right x false s) refl

module _ (mode : Mode) where
  -- a table with a block isn't dotted
  pub block-undotted : (way : List Turn) (t : Tree) (v : Visit) → t.root.is_dotted ≡ false → Leads way (root_visit t) v
      → has_block mode v ≡ true
      → v.fields.is_dotted ≡ false
  block-undotted way t v root e h = by_test (is_root v) refl h
    where
      by_test : (b : Bool) → is_root v ≡ b → (b || (not v.fields.is_dotted && has_header mode v)) ≡ true → v.fields.is_dotted ≡ false
      by_test true d g = subst (λ (x : Visit). x.fields.is_dotted ≡ false) (leads-root way t v e d) root
      by_test false d g = not-true v.fields.is_dotted (and_left (not v.fields.is_dotted) (has_header mode v) g)

  block-headed : (v : Visit) → is_root v ≡ false → has_block mode v ≡ true → has_header mode v ≡ true
  block-headed v r h = by_test (is_root v) r h
    where
      by_test : (b : Bool) → b ≡ false → (b || (not v.fields.is_dotted && has_header mode v)) ≡ true → has_header mode v ≡ true
      by_test true e g = absurd cc
      by_test false e g = and_right (not v.fields.is_dotted) (has_header mode v) g

  -- ---- its header stays

  pub steady-table : (t : Tree) (way : List Turn) (v : Visit) → SlotsAreWellMade t.slots → Steady mode t → Leads way (root_visit t) v
      → IsSteadyTable mode v
  steady-table t way v made st leads =
      let stands = entered t way v made leads in
      (all-back (IsSteadyTable mode) stands.0 (v ∷ stands.1) (subst (AllByRecursion (IsSteadyTable mode)) stands.2 st.tables)).0

  -- whatever its slots are
  header-always : (v : Visit) (ss : Slots) → IsSteadyTable mode v → has_block mode v ≡ true
      → has_header mode (record v { slots = ss }) ≡ has_header mode v
  header-always v ss s h =
      by_tests (is_root v) v.fields.is_dotted v.is_element v.fields.is_implicit (is_empty (lines_of mode v))
      (is_empty (table_lines mode ss []))
      (is_some v.fields.position && has_own_prefix v.fields.decor.prefix) s h
    where
      by_tests : (r d e i l m x : Bool) → ((d || not (not r && (e || not (i && l)))) || (x && (e || not i))) ≡ true
          → (r || (not d && (not r && (e || not (i && l))))) ≡ true → (not r && (e || not (i && m))) ≡ (not r && (e || not (i && l)))
      by_tests true d e i l m x s h = refl
      by_tests false d true i l m x s h = refl
      by_tests false d false false l m x s h = refl
      by_tests false d false true true m x s h = true-false false (and_right (not d) false h) refl
      by_tests false true false true false m x s h = true-false false h refl
      by_tests false false false true false m x s h = true-false false (and_right x false s) refl

  abbrev pub KeepsHeader : Visit → Type 0
  KeepsHeader v = (ss : Slots) → printed_header mode true (record v { slots = ss }) ≡ printed_header mode true v

  pub header-kept : (t : Tree) (way : List Turn) (v : Visit) → SlotsAreWellMade t.slots → Steady mode t → Leads way (root_visit t) v
      → has_block mode v ≡ true
      → KeepsHeader v
  header-kept t way v made st leads has ss =
      ap (λ b. if b then one_header else []) (header-always v ss (steady-table t way v made st leads) has)
    where
      one_header : List Printed
      one_header = record { block = v.path; path = v.path; statement = header_statement mode true v } ∷ []

  -- ---- its statements in parts

  module _ (v : Visit) (kept : KeepsHeader v) (xs ys : List (Slot Node)) where
    abbrev lines : List (Slot Node) → List Printed
    lines zs = map (printed_line mode v.path) (table_lines mode (slots_from zs) [])

    abbrev first : List Printed
    first = printed_header mode true (record v { slots = slots_from xs })

    pub table-apart : printed_table mode true (record v { slots = slots_from (xs ++ ys) })
        ≡ printed_table mode true (record v { slots = slots_from xs }) ++ lines ys
    table-apart =
        ap (λ z. z ++ lines (xs ++ ys)) (kept (slots_from (xs ++ ys)) ∙ sym (kept (slots_from xs)))
        ∙ ap (λ z. first ++ map (printed_line mode v.path) z) (lines-append mode xs ys [])
        ∙ ap (λ z. first ++ z)
        (map-append (printed_line mode v.path) (table_lines mode (slots_from xs) []) (table_lines mode (slots_from ys) []))
        ∙ sym (append_assoc first (lines xs) (lines ys))

    pub table-between : (k : Key) (n : Node) → is_line_node n ≡ true
        → printed_table mode true (record v { slots = slots_from (xs ++ (keyed k n ∷ ys)) })
        ≡ printed_table mode true (record v { slots = slots_from xs }) ++ (statement_in mode v k n ∷ lines ys)
    table-between k n line =
        let x : Line = value_line mode (k ∷ []) n in
        ap (λ z. z ++ lines (xs ++ (keyed k n ∷ ys))) (kept (slots_from (xs ++ (keyed k n ∷ ys))) ∙ sym (kept (slots_from xs)))
        ∙ ap (λ z. first ++ map (printed_line mode v.path) z)
        (lines-split mode xs (keyed k n) ys []
        ∙ ap (λ z. table_lines mode (slots_from xs) [] ++ (z ++ table_lines mode (slots_from ys) [])) (slot-line mode k n [] line))
        ∙ ap (λ z. first ++ z)
        (map-append (printed_line mode v.path) (table_lines mode (slots_from xs) []) (x ∷ table_lines mode (slots_from ys) []))
        ∙ sym (append_assoc first (lines xs) (printed_line mode v.path x ∷ lines ys))

  -- ---- the block changed

  -- the statements of the table give way to those of the table with other slots
  pub record BlockChanges (q : Path) (t u : Tree) (v w : Visit) : Type 0 where
    pub before : List Printed
    pub after : List Printed
    pub first : printed mode t ≡ before ++ (printed_table mode true v ++ after)
    pub second : printed mode u ≡ before ++ (printed_table mode true w ++ after)
    pub out_before : AllByRecursion (IsOut q) before
    pub out_after : AllByRecursion (IsOut q) after

  module _ (t : Tree) (way : List Turn) (v : Visit) (g : List (Slot Node) → List (Slot Node)) (q : Path) (x : Step)
      (made : SlotsAreWellMade t.slots) (st : Steady mode t) (leads : Leads way (root_visit t) v) (has : has_block mode v ≡ true)
      (above : is_front (v.path ++ (x ∷ [])) q ≡ true)
      (same : blocks mode (slots_walk (slots_under g v.slots) v.path v.keys) ≡ blocks mode (slots_walk v.slots v.path v.keys))
      (out : AllByRecursion (IsBlockOut q) (blocks mode (slots_walk v.slots v.path v.keys)))
      (sound : SlotsAreSound v.slots → SlotsAreSound (slots_under g v.slots)) where
    abbrev u : Tree
    u = edited way g t

    abbrev M : List Key → List Line
    M lk = table_lines mode v.slots lk

    abbrev N : List Key → List Line
    N lk = table_lines mode (slots_under g v.slots) lk

    edit-lines : (bp : Path) (lk : List Key) → below bp lk ≡ v.path
        → LineSplice mode q bp (M lk) (N lk) (table_lines mode v.slots lk) (table_lines mode (slots_under g v.slots) lk)
    edit-lines bp lk at =
        record { front = []; back = []; first = sym (append-nil (M lk)); second = sym (append-nil (N lk)); out_front = tt; out_back = tt }

    edit-blocks : BlockSplice mode q itself [] [] (blocks mode (slots_walk v.slots v.path v.keys))
        (blocks mode (slots_walk (slots_under g v.slots) v.path v.keys))
    edit-blocks =
        let bs : List Block = blocks mode (slots_walk v.slots v.path v.keys) in
        record {
          front = bs;
          back = [];
          first = sym (append-nil bs);
          second = ap (map itself) (same ∙ sym (append-nil bs));
          out_front = out;
          out_back = tt;
        }

    whole : Whole mode q itself v g M N [] [] (tree_blocks mode t) (tree_blocks mode u)
    whole = whole-tree mode q itself v g M N [] [] x above edit-lines edit-blocks way t made (firm-visits mode t st) leads

    own : (whole.block ≡ block_of mode v) × (whole.lines ≡ table_lines mode (slots_under g v.slots) []) × (whole.keys ≡ [])
    own = elim whole.own [ inl e ↦ e | inr e ↦ true-false v.fields.is_dotted e (block-undotted way t v st.root leads has) ]

    abbrev changed_block : Block
    changed_block = with_lines whole.block whole.lines

    own-steady : IsSteadyBlock whole.block
    own-steady =
        (all-back IsSteadyBlock whole.front (whole.block ∷ (whole.middle ++ whole.back))
        (subst (λ z. AllByRecursion IsSteadyBlock z) whole.first (steady-tree mode t st))).0

    headed : is_empty whole.block.keys ≡ false → (is_headed whole.block ≡ true) × (is_headed changed_block ≡ true)
    headed r =
        let h : is_headed whole.block ≡ true =
        ap is_headed own.0 ∙ block-headed v (ap (λ (z : Block). is_empty z.keys) (sym own.0) ∙ r) has in
        (h, headed-always whole.block whole.lines own-steady h)

    as-before : is_headed changed_block ≡ is_headed whole.block
    as-before =
        elim (cases_Bool (is_empty whole.block.keys)) [
          | inl e ↦ no-header whole.block whole.lines e
          | inr e ↦ (headed e).1 ∙ sym (headed e).0
        ]
      where
        no-header : (b : Block) (ls : List Line) → is_empty b.keys ≡ true → is_headed (with_lines b ls) ≡ is_headed b
        no-header b ls e =
            ap (λ z. not z && (b.is_element || not (b.fields.is_implicit && is_empty ls))) e
            ∙ ap (λ z. not z && (b.is_element || not (b.fields.is_implicit && is_empty b.lines))) (sym e)

    new-sound : SlotsAreSound u.slots
    new-sound = along-sound way g (root_visit t) v made st.sound leads (λ w s. sound s)

    pub block-steady : Steady mode u
    block-steady =
        whole-steady mode q itself v g M N [] [] (λ b s. s) (λ b s. s) way t st new-sound whole
        (steady-same whole.block whole.lines as-before) tt

    two-blocks : Parted mode q whole.block changed_block (printed_all mode (whole.front ++ (whole.block ∷ (whole.middle ++ whole.back))))
        (printed_all mode (whole.front ++ (changed_block ∷ (whole.middle ++ whole.back))))
    two-blocks =
        parted mode q whole.block whole.lines whole.front (whole.middle ++ whole.back)
        (headed-behind mode t whole.front whole.block changed_block (whole.middle ++ whole.back) whole.first headed)
        whole.out_front (all-append _ whole.middle whole.back whole.out_middle whole.out_back)

    pub block-changes : BlockChanges q t u v (on_list g v)
    block-changes =
        let p = two-blocks in
        record {
          before = p.front;
          after = p.back;
          first = printed-tree mode t st ∙ ap (printed_all mode) whole.first ∙ p.first
              ∙ ap (λ z. p.front ++ (block_printed mode z ++ p.back)) own.0;
          second = printed-tree mode u block-steady
              ∙ ap (printed_all mode)
              (sym (map-itself (tree_blocks mode u)) ∙ whole.second
              ∙ map-itself (whole.front ++ (changed_block ∷ (whole.middle ++ whole.back))))
              ∙ p.second
              ∙ ap (λ z. p.front ++ (block_printed mode (with_lines whole.block z) ++ p.back)) own.1
              ∙ ap (λ (z : Block). p.front ++ (block_printed mode (with_lines z (table_lines mode (slots_under g v.slots) []))
              ++ p.back)) own.0;
          out_before = p.out_front;
          out_after = p.out_back;
        }
