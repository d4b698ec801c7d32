-- A value added under a new key: one statement more, after the others of its block.
use Rattle.std.proofs.Common.{◌≡◌, refl, sym, ◌∙◌, ap, subst, Bool, true, false, List, [], ◌∷◌, ◌++◌, append_assoc, append-nil, inl, inr}
use Rattle.std.proofs.Common.{None}
use Rattle.std.specs.Prelude.{◌&&◌, ◌||◌, not, map}
use Rattle.std.specs.List.{AllByRecursion}
use Rattle.std.proofs.lemmas.List.{map-append}
use Rattle.std.proofs.lemmas.Bool.{cases_Bool}
use Rattle.toml_edit_model.specs.Mode.{Mode}
use Rattle.toml_edit_model.specs.Text.{is_empty}
use Rattle.toml_edit_model.specs.Paths.{at_key, Path, to_key, to_element}
use Rattle.toml_edit_model.specs.Tree.{Key, Node, SlotsAreWellMade, Tree}
use Rattle.toml_edit_model.specs.HeaderOrder.{Visit, visit_of, node_walk, slots_walk, is_root}
use Rattle.toml_edit_model.specs.Print.{Line, table_lines, below, is_line_node, has_header, Printed, printed, printed_line, printed_table}
use Rattle.toml_edit_model.specs.Slots.{Slot, keyed, lookup_slot}
use Rattle.toml_edit_model.specs.Lists.{slot_list}
use Rattle.toml_edit_laws.proofs.locality.Slots.{slots_under}
use Rattle.toml_edit_laws.specs.Locality.{Turn, into_table, into_element, Leads, root_visit, edited, value_line, is_plain_value, has_block}
use Rattle.toml_edit_laws.specs.Locality.{OneMore, Added, element_count, texts, framed}
use Rattle.toml_edit_laws.proofs.common.Tests.{and_left, and_right, not-true, true-false}
use Rattle.toml_edit_laws.proofs.common.PathLaws.{front-refl}
use Rattle.toml_edit_laws.proofs.locality.Blocks.{Block, block_of, blocks, blocks-append, is_headed, block_header, block_printed}
use Rattle.toml_edit_laws.proofs.locality.Under.{slot_lines, IsLineOut, IsBlockOut, apart-above}
use Rattle.toml_edit_laws.proofs.locality.Slots.{HaveOtherKeys, none-there, slots_from-list, lines-append, walk-append}
use Rattle.toml_edit_laws.proofs.locality.Splice.{LineSplice, BlockSplice, other-lines-out, other-blocks-out}
use Rattle.toml_edit_laws.proofs.locality.Along.{Whole, tree_blocks, whole-tree}
use Rattle.toml_edit_laws.proofs.locality.Sound.{Steady, SlotsAreSound, steady-parts, along-sound, sound-append}
use Rattle.toml_edit_laws.proofs.locality.Printing.{printed_all, with_lines, printed-tree, are-outside, block-out, Parted, parted}
use Rattle.toml_edit_laws.proofs.locality.Printing.{header-same, lined, headed-behind}
use Rattle.toml_edit_laws.proofs.locality.Edited.{firm-visits, steady-same, whole-steady, stays-steady}
use Rattle.toml_edit_laws.proofs.locality.Texts.{print-framed, edited-framed, texts-append}
use Rattle.toml_edit_laws.proofs.locality.Values.{plain-value, plain-undotted, line-value, no-value-walk, value-sound, slot-line}
use Rattle.toml_edit_laws.proofs.locality.Replacing.{itself, map-itself}
use Rattle.toml_edit_laws.proofs.common.Lists.{not_empty-last}
use Rattle.toml_edit_laws.proofs.common.Each.{all-append}

-- ---- the root alone has no keys

pub leads-keys : (way : List Turn) (s v : Visit) → is_empty s.keys ≡ false → Leads way s v → is_root v ≡ false
leads-keys [] s v h e = subst (λ (x : Visit). is_empty x.keys ≡ false) e h
leads-keys (into_table k ∷ way) s v h (l, f, ss, eq, rest) =
    leads-keys way (visit_of (to_key s.path l.name) (s.keys ++ (l ∷ [])) false f ss) v (not_empty-last s.keys l) rest
leads-keys (into_element k i ∷ way) s v h (l, e, xs, before, f, ss, after, eq, items, place, rest) =
    leads-keys way (visit_of (to_element (to_key s.path l.name) (element_count before)) (s.keys ++ (l ∷ [])) true f ss) v
    (not_empty-last s.keys l) rest

pub leads-root : (way : List Turn) (t : Tree) (v : Visit) → Leads way (root_visit t) v → is_root v ≡ true → root_visit t ≡ v
leads-root [] t v e h = e
leads-root (into_table k ∷ way) t v (l, f, ss, eq, rest) h =
    true-false (is_root v) h (leads-keys way (visit_of (to_key [] l.name) (l ∷ []) false f ss) v refl rest)
leads-root (into_element k i ∷ way) t v (l, e, xs, before, f, ss, after, eq, items, place, rest) h =
    true-false (is_root v) h (leads-keys way (visit_of (to_element (to_key [] l.name) (element_count before)) (l ∷ []) true f ss) v refl
    rest)

module _ (mode : Mode) where
  -- a table with a block isn't dotted
  block-undotted : (way : List Turn) (t : Tree) (v : Visit) → t.root.is_dotted ≡ false → Leads way (root_visit t) v → has_block mode v
      ≡ true
      → v.fields.is_dotted ≡ false
  block-undotted way t v root e h = by_test (is_root v) refl h
    where
      by_test : (b : Bool) → is_root v ≡ b → (b || (not v.fields.is_dotted && has_header mode v)) ≡ true → v.fields.is_dotted ≡ false
      by_test true d g = subst (λ (x : Visit). x.fields.is_dotted ≡ false) (leads-root way t v e d) root
      by_test false d g = not-true v.fields.is_dotted (and_left (not v.fields.is_dotted) (has_header mode v) g)

  block-headed : (v : Visit) → is_root v ≡ false → has_block mode v ≡ true → has_header mode v ≡ true
  block-headed v r h = by_test (is_root v) r h
    where
      by_test : (b : Bool) → b ≡ false → (b || (not v.fields.is_dotted && has_header mode v)) ≡ true → has_header mode v ≡ true
      by_test true e g = absurd cc
      by_test false e g = and_right (not v.fields.is_dotted) (has_header mode v) g

  -- a block with one line more
  more-line : (b : Block) (ls : List Line) (x : Line) (before after : List Printed) → ls ≡ b.lines ++ (x ∷ [])
      → block_header mode (with_lines b ls) ≡ block_header mode b
      → before ++ (block_printed mode (with_lines b ls) ++ after) ≡ before ++ (block_printed mode b ++ (printed_line mode b.path x ∷ after))
  more-line b ls x before after e d =
      ap (λ z. before ++ ((z ++ map (printed_line mode b.path) ls) ++ after)) d
      ∙ ap (λ z. before ++ ((block_header mode b ++ map (printed_line mode b.path) z) ++ after)) e
      ∙ ap (λ z. before ++ ((block_header mode b ++ z) ++ after)) (map-append (printed_line mode b.path) b.lines (x ∷ []))
      ∙ simp append_assoc

  module _ (t : Tree) (way : List Turn) (v : Visit) (k : Key) (n : Node)
      (made : SlotsAreWellMade t.slots) (st : Steady mode t) (leads : Leads way (root_visit t) v)
      (is_new : lookup_slot k.name (slot_list v.slots) ≡ None) (plain : is_plain_value n ≡ true) (has : has_block mode v ≡ true) where
    abbrev g : List (Slot Node) → List (Slot Node)
    g = λ ss. ss ++ (keyed k n ∷ [])

    abbrev u : Tree
    u = edited way g t

    abbrev q : Path
    q = to_key v.path k.name

    abbrev M : List Key → List Line
    M lk = []

    abbrev N : List Key → List Line
    N lk = value_line mode (lk ++ (k ∷ [])) n ∷ []

    others : HaveOtherKeys k.name (slot_list v.slots)
    others = none-there k.name (slot_list v.slots) is_new

    new-line : is_line_node n ≡ true
    new-line = line-value n (plain-value n plain) (plain-undotted n plain)

    more-lines : (lk : List Key) → table_lines mode (slots_under g v.slots) lk ≡ table_lines mode v.slots lk
        ++ (value_line mode (lk ++ (k ∷ [])) n ∷ [])
    more-lines lk =
        lines-append mode (slot_list v.slots) (keyed k n ∷ []) lk
        ∙ ap (λ z. table_lines mode z lk ++ (slot_lines mode k n lk ++ [])) (slots_from-list v.slots)
        ∙ ap (λ z. table_lines mode v.slots lk ++ z) (append-nil (slot_lines mode k n lk) ∙ slot-line mode k n lk new-line)

    lines-are-out : (bp : Path) (lk : List Key) → below bp lk ≡ v.path → AllByRecursion (IsLineOut q bp) (table_lines mode v.slots lk)
    lines-are-out bp lk at =
        subst (λ z. AllByRecursion (IsLineOut q bp) (table_lines mode z lk)) (slots_from-list v.slots)
        (other-lines-out mode q v.path k.name (front-refl q) bp lk (slot_list v.slots) at others)

    edit-lines : (bp : Path) (lk : List Key) → below bp lk ≡ v.path
        → LineSplice mode q bp (M lk) (N lk) (table_lines mode v.slots lk) (table_lines mode (slots_under g v.slots) lk)
    edit-lines bp lk at =
        record {
          front = table_lines mode v.slots lk;
          back = [];
          first = sym (append-nil (table_lines mode v.slots lk));
          second = more-lines lk;
          out_front = lines-are-out bp lk at;
          out_back = tt;
        }

    edit-blocks : BlockSplice mode q itself [] [] (blocks mode (slots_walk v.slots v.path v.keys))
        (blocks mode (slots_walk (slots_under g v.slots) v.path v.keys))
    edit-blocks =
        let own = node_walk n q (v.keys ++ (k ∷ [])) false in
        record {
          front = blocks mode (slots_walk v.slots v.path v.keys);
          back = [];
          first = sym (append-nil (blocks mode (slots_walk v.slots v.path v.keys)));
          second = ap (λ z. map itself (blocks mode z))
              (walk-append (slot_list v.slots) (keyed k n ∷ []) v.path v.keys
              ∙ ap (λ z. slots_walk z v.path v.keys ++ (own ++ [])) (slots_from-list v.slots)
              ∙ ap (λ z. slots_walk v.slots v.path v.keys ++ (z ++ [])) (no-value-walk n q (v.keys
              ++ (k ∷ [])) false (plain-value n plain)))
              ∙ ap (map itself) (blocks-append mode (slots_walk v.slots v.path v.keys) []);
          out_front = subst (λ z. AllByRecursion (IsBlockOut q) (blocks mode (slots_walk z v.path v.keys))) (slots_from-list v.slots)
              (other-blocks-out mode q v.path k.name (front-refl q) v.keys (slot_list v.slots) others);
          out_back = tt;
        }

    whole : Whole mode q itself v g M N [] [] (tree_blocks mode t) (tree_blocks mode u)
    whole = whole-tree mode q itself v g M N [] [] (at_key k.name) (front-refl q) edit-lines edit-blocks way t made (firm-visits mode t st)
        leads

    own : (whole.block ≡ block_of mode v) × (whole.lines ≡ table_lines mode (slots_under g v.slots) []) × (whole.keys ≡ [])
    own = elim whole.own [ inl e ↦ e | inr e ↦ true-false v.fields.is_dotted e (block-undotted way t v st.root leads has) ]

    abbrev changed_block : Block
    changed_block = with_lines whole.block whole.lines

    one-line : whole.lines ≡ whole.block.lines ++ (value_line mode (k ∷ []) n ∷ [])
    one-line = own.1 ∙ more-lines [] ∙ ap (λ (z : Block). z.lines ++ (value_line mode (k ∷ []) n ∷ [])) (sym own.0)

    some-lines : (xs : List Line) (x : Line) → is_empty (xs ++ (x ∷ [])) ≡ false
    some-lines [] x = refl
    some-lines (y ∷ xs) x = refl

    new-lines : is_empty whole.lines ≡ false
    new-lines = ap is_empty one-line ∙ some-lines whole.block.lines (value_line mode (k ∷ []) n)

    headed : is_empty whole.block.keys ≡ false → (is_headed whole.block ≡ true) × (is_headed changed_block ≡ true)
    headed r = (
      ap is_headed own.0 ∙ block-headed v (ap (λ (z : Block). is_empty z.keys) (sym own.0) ∙ r) has,
      lined changed_block r new-lines,
    )

    as-before : is_headed changed_block ≡ is_headed whole.block
    as-before =
        elim (cases_Bool (is_empty whole.block.keys)) [
          | inl e ↦ no-header whole.block whole.lines e
          | inr e ↦ (headed e).1 ∙ sym (headed e).0
        ]
      where
        no-header : (b : Block) (ls : List Line) → is_empty b.keys ≡ true → is_headed (with_lines b ls) ≡ is_headed b
        no-header b ls e =
            ap (λ z. not z && (b.is_element || not (b.fields.is_implicit && is_empty ls))) e
            ∙ ap (λ z. not z && (b.is_element || not (b.fields.is_implicit && is_empty b.lines))) (sym e)

    new-sound : SlotsAreSound u.slots
    new-sound =
        along-sound way g (root_visit t) v made st.sound leads
        (λ w s. sound-append (slot_list v.slots) (keyed k n ∷ []) (subst SlotsAreSound (sym (slots_from-list v.slots)) s)
        (plain-undotted n plain, value-sound n (plain-value n plain), tt))

    new-steady : Steady mode u
    new-steady = whole-steady mode q itself v g M N [] [] (λ b s. s) (λ b s. s) way t st new-sound whole
        (steady-same whole.block whole.lines as-before) tt

    two-blocks : Parted mode q whole.block changed_block (printed_all mode (whole.front ++ (whole.block ∷ (whole.middle ++ whole.back))))
        (printed_all mode (whole.front ++ (changed_block ∷ (whole.middle ++ whole.back))))
    two-blocks =
        parted mode q whole.block whole.lines whole.front (whole.middle ++ whole.back)
        (headed-behind mode t whole.front whole.block changed_block (whole.middle ++ whole.back) whole.first headed)
        whole.out_front (all-append _ whole.middle whole.back whole.out_middle whole.out_back)

    abbrev new_line : Line
    new_line = value_line mode (k ∷ []) n

    first-list : printed mode t ≡ two-blocks.front ++ (printed_table mode true v ++ two-blocks.back)
    first-list =
        let p = two-blocks in
        printed-tree mode t st ∙ ap (printed_all mode) whole.first ∙ p.first ∙ ap (λ z. p.front ++ (block_printed mode z ++ p.back)) own.0

    second-list : printed mode u ≡ two-blocks.front ++ (printed_table mode true v ++ (printed_line mode v.path new_line ∷ two-blocks.back))
    second-list =
        let p = two-blocks in
        printed-tree mode u new-steady
        ∙ ap (printed_all mode) (sym (map-itself (tree_blocks mode u)) ∙ whole.second
        ∙ map-itself (whole.front ++ (changed_block ∷ (whole.middle ++ whole.back))))
        ∙ p.second ∙ more-line whole.block whole.lines new_line p.front p.back one-line (header-same mode whole.block whole.lines as-before)
        ∙ ap (λ (z : Block). p.front ++ (block_printed mode z ++ (printed_line mode z.path new_line ∷ p.back))) own.0

    one-statement : OneMore mode t u v k n
    one-statement =
        let p = two-blocks in
        record {
          before = p.front;
          after = p.back;
          first = first-list;
          second = second-list;
          others_before = are-outside q p.front p.out_front;
          others_in = are-outside q (printed_table mode true v)
              (block-out mode q (block_of mode v) (apart-above v.path q (at_key k.name) (front-refl q), lines-are-out v.path [] refl));
          others_after = are-outside q p.back p.out_back;
          text = print-framed mode t ∙ ap (λ z. framed mode t (texts z)) first-list
              ∙ ap (framed mode t) (texts-append p.front (printed_table mode true v ++ p.back)
              ∙ ap (λ z. texts p.front ++ z) (texts-append (printed_table mode true v) p.back));
          other_text = edited-framed mode way g t ∙ ap (λ z. framed mode t (texts z)) second-list
              ∙ ap (framed mode t) (texts-append p.front (printed_table mode true v ++ (printed_line mode v.path new_line ∷ p.back))
              ∙ ap (λ z. texts p.front ++ z) (texts-append (printed_table mode true v) (printed_line mode v.path new_line ∷ p.back)));
        }

  pub added : Added mode
  added t way v k n made steady leads is_new plain has =
      let st : Steady mode t = steady-parts mode t steady in (
        one-statement t way v k n made st leads is_new plain has,
        stays-steady mode way (λ ss. ss ++ (keyed k n ∷ [])) t (new-steady t way v k n made st leads is_new plain has),
      )
