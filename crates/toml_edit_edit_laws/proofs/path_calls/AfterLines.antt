-- A value added after the lines of a table: one statement more.
use Rattle.std.proofs.Common.{◌≡◌, refl, sym, ◌∙◌, ap, subst, Bool, true, false, List, [], ◌∷◌, ◌++◌, append_assoc, append-nil, None}
use Rattle.std.specs.Prelude.{if◌then◌else◌, map}
use Rattle.std.specs.List.{AllByRecursion}
use Rattle.std.proofs.lemmas.List.{map-append}
use Rattle.toml_edit_model.specs.Mode.{Mode}
use Rattle.toml_edit_model.specs.Text.{is_empty}
use Rattle.toml_edit_model.specs.Paths.{at_key, Path, to_key}
use Rattle.toml_edit_model.specs.Tree.{Key, Node, nothing, leaf, list, inline, table, tables, Slots, no_slots, slot, SlotsAreWellMade, Tree}
use Rattle.toml_edit_model.specs.HeaderOrder.{Visit, node_walk, slots_walk}
use Rattle.toml_edit_model.specs.Print.{Line, table_lines, dotted_lines, inside_lines, lines_inside, line_of, value_of, lines_of, below, is_line_node, Printed, printed, printed_line}
use Rattle.toml_edit_model.specs.Slots.{Slot, keyed, lookup_slot}
use Rattle.toml_edit_model.specs.Lists.{slot_list}
use Rattle.toml_edit_laws.specs.Locality.{Turn, Leads, root_visit, edited, value_line, is_plain_value, texts, framed}
use Rattle.toml_edit_laws.proofs.common.Each.{all-append}
use Rattle.toml_edit_laws.proofs.common.PathLaws.{front-refl, below-last}
use Rattle.toml_edit_laws.proofs.locality.Along.{Whole, tree_blocks, whole-tree}
use Rattle.toml_edit_laws.proofs.locality.Blocks.{Block, blocks, blocks-append, is_headed, block_header, block_printed}
use Rattle.toml_edit_laws.proofs.locality.Edited.{firm-visits, steady-same, whole-steady, stays-steady}
use Rattle.toml_edit_laws.proofs.locality.Printing.{printed_all, with_lines, printed-tree, IsOut, are-outside, header-out, map-lines-out}
use Rattle.toml_edit_laws.proofs.locality.Printing.{Parted, parted, header-same, headed-same, lined, headed-behind}
use Rattle.toml_edit_laws.proofs.locality.Replacing.{itself, map-itself}
use Rattle.toml_edit_laws.proofs.locality.Slots.{HaveOtherKeys, none-there, slots_under, slots_from-list, lines-append, walk-append}
use Rattle.toml_edit_laws.proofs.locality.Sound.{Steady, SlotsAreSound, steady-parts, along-sound, sound-append}
use Rattle.toml_edit_laws.proofs.locality.Splice.{LineSplice, BlockSplice, other-lines-out, other-blocks-out}
use Rattle.toml_edit_laws.proofs.locality.Texts.{print-framed, edited-framed, texts-append}
use Rattle.toml_edit_laws.proofs.locality.Under.{slot_lines, IsLineOut, IsBlockOut}
use Rattle.toml_edit_laws.proofs.locality.Values.{plain-value, plain-undotted, line-value, no-value-walk, value-sound, slot-line}
use Rattle.toml_edit_edit_laws.specs.DottedAdds.{lines_in, OneLineMore, AddedAfterLines}

module _ (mode : Mode) where
  -- ---- whether there are lines doesn't depend on the keys before them

  either-empty : (a b : List Line) (c d : List Line) → is_empty a ≡ is_empty b → is_empty c ≡ is_empty d
      → is_empty (a ++ c) ≡ is_empty (b ++ d)
  either-empty [] [] c d e f = f
  either-empty [] (y ∷ b) c d e f = absurd cc
  either-empty (x ∷ a) [] c d e f = absurd cc
  either-empty (x ∷ a) (y ∷ b) c d e f = refl

  -- a line, or the lines of what is inside
  either-alike : (b : Bool) (k : Key) (n : Node) (ks js : List Key) (xs ys : List Line) → is_empty xs ≡ is_empty ys
      → is_empty (elim b [ true ↦ line_of (ks ++ (k ∷ [])) n (value_of mode n) | false ↦ xs ])
      ≡ is_empty (elim b [ true ↦ line_of (js ++ (k ∷ [])) n (value_of mode n) | false ↦ ys ])
  either-alike true k n ks js xs ys h = refl
  either-alike false k n ks js xs ys h = h

  mutual
    inside-alike : (ss : Slots) (ks js : List Key) → is_empty (inside_lines mode ss ks) ≡ is_empty (inside_lines mode ss js)
    inside-alike no_slots ks js = refl
    inside-alike (slot k n ss) ks js =
        either-empty _ _ (inside_lines mode ss ks) (inside_lines mode ss js)
        (either-alike (is_line_node n) k n ks js (lines_inside mode n (ks ++ (k ∷ []))) (lines_inside mode n (js ++ (k ∷ [])))
        (node-inside n (ks ++ (k ∷ [])) (js ++ (k ∷ []))))
        (inside-alike ss ks js)

    node-inside : (n : Node) (ks js : List Key) → is_empty (lines_inside mode n ks) ≡ is_empty (lines_inside mode n js)
    node-inside (inline f ss) ks js = inside-alike ss ks js
    node-inside (table f ss) ks js = inside-alike ss ks js
    node-inside (leaf s r d) ks js = refl
    node-inside (list f xs) ks js = refl
    node-inside (tables e xs) ks js = refl
    node-inside nothing ks js = refl

  mutual
    pub empty-alike : (ss : Slots) (ks js : List Key) → is_empty (table_lines mode ss ks) ≡ is_empty (table_lines mode ss js)
    empty-alike no_slots ks js = refl
    empty-alike (slot k n ss) ks js =
        either-empty _ _ (table_lines mode ss ks) (table_lines mode ss js)
        (either-alike (is_line_node n) k n ks js (dotted_lines mode n (ks ++ (k ∷ []))) (dotted_lines mode n (js ++ (k ∷ [])))
        (dotted-alike n (ks ++ (k ∷ [])) (js ++ (k ∷ []))))
        (empty-alike ss ks js)

    dotted-alike : (n : Node) (ks js : List Key) → is_empty (dotted_lines mode n ks) ≡ is_empty (dotted_lines mode n js)
    dotted-alike (table f ss) ks js = by_test f.is_dotted (empty-alike ss ks js)
      where
        by_test : (b : Bool) → is_empty (table_lines mode ss ks) ≡ is_empty (table_lines mode ss js)
            → is_empty (if b then table_lines mode ss ks else []) ≡ is_empty (if b then table_lines mode ss js else [])
        by_test true h = h
        by_test false h = refl
    dotted-alike (inline f ss) ks js = inside-alike ss ks js
    dotted-alike (leaf s r d) ks js = refl
    dotted-alike (list f xs) ks js = refl
    dotted-alike (tables e xs) ks js = refl
    dotted-alike nothing ks js = refl

  some-in : (a b c : List Line) → is_empty b ≡ false → is_empty (a ++ (b ++ c)) ≡ false
  some-in [] [] c h = absurd cc
  some-in [] (x ∷ b) c h = refl
  some-in (x ∷ a) b c h = refl

  some-last : (a : List Line) (x : Line) → is_empty (a ++ (x ∷ [])) ≡ false
  some-last [] x = refl
  some-last (y ∷ a) x = refl

  -- a block with some lines among others
  among : (b : Block) (xs ms ys : List Line) (before after : List Printed) → b.lines ≡ xs ++ (ms ++ ys)
      → before ++ (block_printed mode b ++ after)
      ≡ (before ++ (block_header mode b ++ map (printed_line mode b.path) xs))
      ++ (map (printed_line mode b.path) ms ++ (map (printed_line mode b.path) ys ++ after))
  among b xs ms ys before after e =
      ap (λ z. before ++ ((block_header mode b ++ map (printed_line mode b.path) z) ++ after)) e
      ∙ ap (λ z. before ++ ((block_header mode b ++ z) ++ after)) (map-append (printed_line mode b.path) xs (ms ++ ys))
      ∙ ap (λ z. before ++ ((block_header mode b ++ (map (printed_line mode b.path) xs ++ z)) ++ after))
      (map-append (printed_line mode b.path) ms ys)
      ∙ simp append_assoc

  module _ (t : Tree) (way : List Turn) (v : Visit) (k : Key) (n : Node)
      (made : SlotsAreWellMade t.slots) (st : Steady mode t) (leads : Leads way (root_visit t) v)
      (is_new : lookup_slot k.name (slot_list v.slots) ≡ None) (plain : is_plain_value n ≡ true) where
    abbrev g : List (Slot Node) → List (Slot Node)
    g = λ ss. ss ++ (keyed k n ∷ [])

    abbrev u : Tree
    u = edited way g t

    abbrev q : Path
    q = to_key v.path k.name

    abbrev pub new_line : List Key → Line
    new_line lk = value_line mode (lk ++ (k ∷ [])) n

    abbrev pub M : List Key → List Line
    M lk = table_lines mode v.slots lk

    abbrev pub N : List Key → List Line
    N lk = table_lines mode v.slots lk ++ (new_line lk ∷ [])

    others : HaveOtherKeys k.name (slot_list v.slots)
    others = none-there k.name (slot_list v.slots) is_new

    is-line : is_line_node n ≡ true
    is-line = line-value n (plain-value n plain) (plain-undotted n plain)

    more-lines : (lk : List Key) → table_lines mode (slots_under g v.slots) lk ≡ N lk
    more-lines lk =
        lines-append mode (slot_list v.slots) (keyed k n ∷ []) lk
        ∙ ap (λ z. table_lines mode z lk ++ (slot_lines mode k n lk ++ [])) (slots_from-list v.slots)
        ∙ ap (λ z. table_lines mode v.slots lk ++ z) (append-nil (slot_lines mode k n lk) ∙ slot-line mode k n lk is-line)

    lines-are-out : (bp : Path) (lk : List Key) → below bp lk ≡ v.path → AllByRecursion (IsLineOut q bp) (table_lines mode v.slots lk)
    lines-are-out bp lk at =
        subst (λ z. AllByRecursion (IsLineOut q bp) (table_lines mode z lk)) (slots_from-list v.slots)
        (other-lines-out mode q v.path k.name (front-refl q) bp lk (slot_list v.slots) at others)

    edit-lines : (bp : Path) (lk : List Key) → below bp lk ≡ v.path
        → LineSplice mode q bp (M lk) (N lk) (table_lines mode v.slots lk) (table_lines mode (slots_under g v.slots) lk)
    edit-lines bp lk at =
        record {
          front = [];
          back = [];
          first = sym (append-nil (table_lines mode v.slots lk));
          second = more-lines lk ∙ sym (append-nil (N lk));
          out_front = tt;
          out_back = tt;
        }

    edit-blocks : BlockSplice mode q itself [] [] (blocks mode (slots_walk v.slots v.path v.keys))
        (blocks mode (slots_walk (slots_under g v.slots) v.path v.keys))
    edit-blocks =
        let own = node_walk n q (v.keys ++ (k ∷ [])) false in
        record {
          front = blocks mode (slots_walk v.slots v.path v.keys);
          back = [];
          first = sym (append-nil (blocks mode (slots_walk v.slots v.path v.keys)));
          second = ap (λ z. map itself (blocks mode z))
              (walk-append (slot_list v.slots) (keyed k n ∷ []) v.path v.keys
              ∙ ap (λ z. slots_walk z v.path v.keys ++ (own ++ [])) (slots_from-list v.slots)
              ∙ ap (λ z. slots_walk v.slots v.path v.keys ++ (z ++ [])) (no-value-walk n q (v.keys
              ++ (k ∷ [])) false (plain-value n plain)))
              ∙ ap (map itself) (blocks-append mode (slots_walk v.slots v.path v.keys) []);
          out_front = subst (λ z. AllByRecursion (IsBlockOut q) (blocks mode (slots_walk z v.path v.keys))) (slots_from-list v.slots)
              (other-blocks-out mode q v.path k.name (front-refl q) v.keys (slot_list v.slots) others);
          out_back = tt;
        }

    pub whole : Whole mode q itself v g M N [] [] (tree_blocks mode t) (tree_blocks mode u)
    whole = whole-tree mode q itself v g M N [] [] (at_key k.name) (front-refl q) edit-lines edit-blocks way t made (firm-visits mode t st)
        leads

    abbrev changed_block : Block
    changed_block = with_lines whole.block whole.lines

    pub new-lines : is_empty whole.lines ≡ false
    new-lines = ap is_empty whole.changes.second
        ∙ some-in whole.changes.front (N whole.keys) whole.changes.back (some-last (M whole.keys) (new_line whole.keys))

    new-sound : SlotsAreSound u.slots
    new-sound =
        along-sound way g (root_visit t) v made st.sound leads
        (λ w s. sound-append (slot_list v.slots) (keyed k n ∷ []) (subst SlotsAreSound (sym (slots_from-list v.slots)) s)
        (plain-undotted n plain, value-sound n (plain-value n plain), tt))

    module _ (some : is_empty (lines_of mode v) ≡ false) where
      old-lines : is_empty whole.block.lines ≡ false
      old-lines = ap is_empty whole.changes.first
          ∙ some-in whole.changes.front (M whole.keys) whole.changes.back (empty-alike v.slots whole.keys [] ∙ some)

      pub as-before : is_headed changed_block ≡ is_headed whole.block
      as-before = headed-same whole.block whole.lines (new-lines ∙ sym old-lines)

      pub new-steady : Steady mode u
      new-steady = whole-steady mode q itself v g M N [] [] (λ b s. s) (λ b s. s) way t st new-sound whole
          (steady-same whole.block whole.lines as-before) tt

      two-blocks : Parted mode q whole.block changed_block (printed_all mode (whole.front ++ (whole.block ∷ (whole.middle ++ whole.back))))
          (printed_all mode (whole.front ++ (changed_block ∷ (whole.middle ++ whole.back))))
      two-blocks =
          parted mode q whole.block whole.lines whole.front (whole.middle ++ whole.back)
          (headed-behind mode t whole.front whole.block changed_block (whole.middle ++ whole.back) whole.first
          (λ r. (lined whole.block r old-lines, lined changed_block r new-lines)))
          whole.out_front (all-append _ whole.middle whole.back whole.out_middle whole.out_back)

      abbrev line : Printed
      line = printed_line mode whole.block.path (new_line whole.keys)

      abbrev own : List Printed
      own = lines_in mode whole.block.path whole.keys v

      abbrev before_it : List Printed
      before_it = two-blocks.front ++ (block_header mode whole.block ++ map (printed_line mode whole.block.path) whole.changes.front)

      abbrev after_it : List Printed
      after_it = map (printed_line mode whole.block.path) whole.changes.back ++ two-blocks.back

      first-list : printed mode t ≡ before_it ++ (own ++ after_it)
      first-list =
          let c = whole.changes in
          let p = two-blocks in
          printed-tree mode t st ∙ ap (printed_all mode) whole.first ∙ p.first
          ∙ among whole.block c.front (M whole.keys) c.back p.front p.back c.first

      second-list : printed mode u ≡ before_it ++ (own ++ (line ∷ after_it))
      second-list =
          let c = whole.changes in
          let p = two-blocks in
          let b = whole.block in
          printed-tree mode u new-steady
          ∙ ap (printed_all mode) (sym (map-itself (tree_blocks mode u)) ∙ whole.second
          ∙ map-itself (whole.front ++ (changed_block ∷ (whole.middle ++ whole.back))))
          ∙ p.second ∙ among changed_block c.front (N whole.keys) c.back p.front p.back c.second
          ∙ ap (λ z. (p.front ++ (z ++ map (printed_line mode b.path) c.front))
          ++ (map (printed_line mode b.path) (N whole.keys) ++ (map (printed_line mode b.path) c.back ++ p.back)))
          (header-same mode b whole.lines as-before)
          ∙ ap (λ z. before_it ++ (z ++ after_it)) (map-append (printed_line mode b.path) (M whole.keys) (new_line whole.keys ∷ []))
          ∙ ap (λ z. before_it ++ z) (append_assoc own (line ∷ []) after_it)

      pub one-line-more : OneLineMore mode t u v k n
      one-line-more =
          let c = whole.changes in
          let p = two-blocks in
          let b = whole.block in
          record {
            before = before_it;
            after = after_it;
            block = b.path;
            keys = whole.keys;
            first = first-list;
            second = second-list;
            path = below-last b.path whole.keys k ∙ ap (λ z. to_key z k.name) whole.at;
            others_before = are-outside q before_it
                (all-append (IsOut q) p.front (block_header mode b ++ map (printed_line mode b.path) c.front) p.out_front
                (all-append (IsOut q) (block_header mode b) (map (printed_line mode b.path) c.front) (header-out mode q b whole.out_path)
                (map-lines-out mode q b.path c.front c.out_front)));
            others_in = are-outside q own (map-lines-out mode q b.path (M whole.keys) (lines-are-out b.path whole.keys whole.at));
            others_after = are-outside q after_it
                (all-append (IsOut q) (map (printed_line mode b.path) c.back) p.back (map-lines-out mode q b.path c.back c.out_back)
                p.out_back);
            text = print-framed mode t ∙ ap (λ z. framed mode t (texts z)) first-list
                ∙ ap (framed mode t) (texts-append before_it (own ++ after_it) ∙ ap (λ z. texts before_it ++ z) (texts-append own after_it));
            other_text = edited-framed mode way g t ∙ ap (λ z. framed mode t (texts z)) second-list
                ∙ ap (framed mode t) (texts-append before_it (own ++ (line ∷ after_it))
                ∙ ap (λ z. texts before_it ++ z) (texts-append own (line ∷ after_it)));
          }

  pub added_after_lines : AddedAfterLines mode
  added_after_lines t way v k n made steady leads is_new plain some =
      let st : Steady mode t = steady-parts mode t steady in (
        one-line-more t way v k n made st leads is_new plain some,
        stays-steady mode way (λ ss. ss ++ (keyed k n ∷ [])) t (new-steady t way v k n made st leads is_new plain some),
      )
