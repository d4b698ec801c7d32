-- A value replaced: one statement changes.
use Rattle.std.proofs.Common.{◌≡◌, refl, sym, ◌∙◌, ap, subst, true, false, List, [], ◌∷◌, ◌++◌, append_assoc, Some}
use Rattle.std.specs.Prelude.{map}
use Rattle.std.proofs.lemmas.List.{map-append}
use Rattle.toml_edit_model.specs.Mode.{Mode}
use Rattle.toml_edit_model.specs.Text.{Text, is_empty}
use Rattle.toml_edit_model.specs.Paths.{at_key, Path, to_key}
use Rattle.toml_edit_model.specs.Tree.{Key, Node, SlotsAreWellMade, Tree, is_value_node}
use Rattle.toml_edit_model.specs.HeaderOrder.{Visit, slots_walk}
use Rattle.toml_edit_model.specs.Print.{Line, table_lines, below, is_line_node, Printed, printed, printed_line}
use Rattle.toml_edit_model.specs.Slots.{Slot, keyed, lookup_slot, changed}
use Rattle.toml_edit_model.specs.Lists.{slot_list, slots_from}
use Rattle.toml_edit_laws.proofs.locality.Slots.{slots_under}
use Rattle.toml_edit_laws.specs.Locality.{Turn, Leads, root_visit, edited, value_line, is_plain_value, OneChanges, Replaced, texts, framed}
use Rattle.toml_edit_laws.proofs.common.PathLaws.{front-refl, below-last}
use Rattle.toml_edit_laws.proofs.locality.Blocks.{Block, blocks, is_headed, block_header, block_printed}
use Rattle.toml_edit_laws.proofs.locality.Slots.{Found, found}
use Rattle.toml_edit_laws.proofs.locality.Splice.{LineSplice, BlockSplice, Around, around}
use Rattle.toml_edit_laws.proofs.locality.Along.{Whole, tree_blocks, whole-tree}
use Rattle.toml_edit_laws.proofs.locality.Sound.{Steady, SlotsAreSound, steady-parts, along-sound, leads-made, leads-sound, sound-slot}
use Rattle.toml_edit_laws.proofs.locality.Sound.{sound-append}
use Rattle.toml_edit_laws.proofs.locality.Printing.{printed_all, with_lines, printed-tree, IsOut, are-outside, header-out, map-lines-out}
use Rattle.toml_edit_laws.proofs.locality.Printing.{Parted, parted, headed-same, header-same, lined, headed-behind}
use Rattle.toml_edit_laws.proofs.locality.Edited.{firm-visits, steady-same, whole-steady, stays-steady}
use Rattle.toml_edit_laws.proofs.locality.Texts.{print-framed, edited-framed, texts-append}
use Rattle.toml_edit_laws.proofs.locality.Values.{plain-value, plain-undotted, line-value, no-value-walk, value-sound, slot-line}
use Rattle.toml_edit_laws.proofs.common.Each.{all-append}

-- a block as it is
abbrev pub itself : Block → Block
itself b = b

pub map-itself : (bs : List Block) → map itself bs ≡ bs
map-itself [] = refl
map-itself (b ∷ bs) = ap (λ z. b ∷ z) (map-itself bs)

module _ (mode : Mode) where
  module _ (t : Tree) (way : List Turn) (v : Visit) (k : Text) (f : Key → Key) (l : Key) (old n : Node)
      (made : SlotsAreWellMade t.slots) (st : Steady mode t) (leads : Leads way (root_visit t) v)
      (is_there : lookup_slot k (slot_list v.slots) ≡ Some (keyed l old)) (value : is_value_node old ≡ true) (plain : is_plain_value n
      ≡ true)
      (name : (f l).name ≡ l.name) where
    abbrev g : List (Slot Node) → List (Slot Node)
    g = changed k (λ s. (keyed (f s.key) n))

    abbrev u : Tree
    u = edited way g t

    abbrev q : Path
    q = to_key v.path l.name

    abbrev M : List Key → List Line
    M lk = value_line mode (lk ++ (l ∷ [])) old ∷ []

    abbrev N : List Key → List Line
    N lk = value_line mode (lk ++ (f l ∷ [])) n ∷ []

    well : SlotsAreWellMade v.slots
    well = leads-made way (root_visit t) v made leads

    sound : SlotsAreSound v.slots
    sound = leads-sound way (root_visit t) v made st.sound leads

    fd : Found k (keyed l old) (slot_list v.slots)
    fd = found k v.slots (keyed l old) well is_there

    is_new : slots_under g v.slots ≡ slots_from (fd.front ++ (keyed (f l) n ∷ fd.back))
    is_new = ap slots_from (fd.change (λ s. (keyed (f s.key) n)))

    beside : (bp : Path) (lk : List Key) → below bp lk ≡ v.path
        → Around mode q v bp lk (keyed l old) (keyed (f l) n) (slots_under g v.slots)
    beside bp lk at = around mode q v bp lk k (keyed l old) (keyed (f l) n) (slots_under g v.slots) at (front-refl q) fd is_new

    old-line : is_line_node old ≡ true
    old-line = line-value old value (sound-slot k (keyed l old) v.slots fd sound).1

    new-line : is_line_node n ≡ true
    new-line = line-value n (plain-value n plain) (plain-undotted n plain)

    edit-lines : (bp : Path) (lk : List Key) → below bp lk ≡ v.path
        → LineSplice mode q bp (M lk) (N lk) (table_lines mode v.slots lk) (table_lines mode (slots_under g v.slots) lk)
    edit-lines bp lk at =
        let a = beside bp lk at in
        record {
          front = a.lines_front;
          back = a.lines_back;
          first = a.old_lines ∙ ap (λ z. a.lines_front ++ (z ++ a.lines_back)) (slot-line mode l old lk old-line);
          second = a.new_lines ∙ ap (λ z. a.lines_front ++ (z ++ a.lines_back)) (slot-line mode (f l) n lk new-line);
          out_front = a.out_lines_front;
          out_back = a.out_lines_back;
        }

    edit-blocks : BlockSplice mode q itself [] [] (blocks mode (slots_walk v.slots v.path v.keys))
        (blocks mode (slots_walk (slots_under g v.slots) v.path v.keys))
    edit-blocks =
        let a = beside v.path [] refl in
        record {
          front = a.front;
          back = a.back;
          first = a.old_blocks ∙ ap (λ z. a.front ++ (blocks mode z ++ a.back)) (no-value-walk old (to_key v.path l.name) (v.keys
              ++ (l ∷ [])) false value);
          second = ap (map itself)
              (a.new_blocks ∙ ap (λ z. a.front ++ (blocks mode z ++ a.back)) (no-value-walk n (to_key v.path (f l).name) (v.keys
              ++ (f l ∷ [])) false (plain-value n plain)));
          out_front = a.out_front;
          out_back = a.out_back;
        }

    whole : Whole mode q itself v g M N [] [] (tree_blocks mode t) (tree_blocks mode u)
    whole = whole-tree mode q itself v g M N [] [] (at_key l.name) (front-refl q) edit-lines edit-blocks way t made (firm-visits mode t st)
        leads

    abbrev changed_block : Block
    changed_block = with_lines whole.block whole.lines

    some-lines : (xs ys : List Line) (x : Line) → is_empty (xs ++ (x ∷ ys)) ≡ false
    some-lines [] ys x = refl
    some-lines (y ∷ xs) ys x = refl

    old-lines : is_empty whole.block.lines ≡ false
    old-lines = ap is_empty whole.changes.first ∙ some-lines whole.changes.front whole.changes.back (value_line mode (whole.keys
        ++ (l ∷ [])) old)

    new-lines : is_empty whole.lines ≡ false
    new-lines = ap is_empty whole.changes.second ∙ some-lines whole.changes.front whole.changes.back (value_line mode (whole.keys
        ++ (f l ∷ [])) n)

    as-before : is_headed changed_block ≡ is_headed whole.block
    as-before = headed-same whole.block whole.lines (new-lines ∙ sym old-lines)

    new-sound : SlotsAreSound u.slots
    new-sound =
        along-sound way g (root_visit t) v made st.sound leads
        (λ w s.
        let parts = sound-slot k (keyed l old) v.slots fd s in
        subst SlotsAreSound (sym is_new)
        (sound-append fd.front (keyed (f l) n ∷ fd.back) parts.0 (plain-undotted n plain, value-sound n (plain-value n plain), parts.3)))

    new-steady : Steady mode u
    new-steady = whole-steady mode q itself v g M N [] [] (λ b s. s) (λ b s. s) way t st new-sound whole
        (steady-same whole.block whole.lines as-before) tt

    two-blocks : Parted mode q whole.block changed_block (printed_all mode (whole.front ++ (whole.block ∷ (whole.middle ++ whole.back))))
        (printed_all mode (whole.front ++ (changed_block ∷ (whole.middle ++ whole.back))))
    two-blocks =
        parted mode q whole.block whole.lines whole.front (whole.middle ++ whole.back)
        (headed-behind mode t whole.front whole.block changed_block (whole.middle ++ whole.back) whole.first
        (λ r. (lined whole.block r old-lines, lined changed_block r new-lines)))
        whole.out_front (all-append _ whole.middle whole.back whole.out_middle whole.out_back)

    -- a block with one line among others
    among : (b : Block) (xs ys : List Line) (x : Line) (before after : List Printed) → b.lines ≡ xs ++ (x ∷ ys)
        → before ++ (block_printed mode b ++ after)
        ≡ (before ++ (block_header mode b ++ map (printed_line mode b.path) xs))
        ++ (printed_line mode b.path x ∷ (map (printed_line mode b.path) ys ++ after))
    among b xs ys x before after e =
        ap (λ z. before ++ ((block_header mode b ++ map (printed_line mode b.path) z) ++ after)) e
        ∙ ap (λ z. before ++ ((block_header mode b ++ z) ++ after)) (map-append (printed_line mode b.path) xs (x ∷ ys))
        ∙ simp append_assoc

    abbrev old_line : Line
    old_line = value_line mode (whole.keys ++ (l ∷ [])) old

    abbrev new_line : Line
    new_line = value_line mode (whole.keys ++ (f l ∷ [])) n

    abbrev before_it : List Printed
    before_it = two-blocks.front ++ (block_header mode whole.block ++ map (printed_line mode whole.block.path) whole.changes.front)

    abbrev after_it : List Printed
    after_it = map (printed_line mode whole.block.path) whole.changes.back ++ two-blocks.back

    first-list : printed mode t ≡ before_it ++ (printed_line mode whole.block.path old_line ∷ after_it)
    first-list =
        let c = whole.changes in
        let p = two-blocks in
        printed-tree mode t st ∙ ap (printed_all mode) whole.first ∙ p.first
        ∙ among whole.block c.front c.back old_line p.front p.back c.first

    second-list : printed mode u ≡ before_it ++ (printed_line mode whole.block.path new_line ∷ after_it)
    second-list =
        let c = whole.changes in
        let p = two-blocks in
        let b = whole.block in
        printed-tree mode u new-steady
        ∙ ap (printed_all mode) (sym (map-itself (tree_blocks mode u)) ∙ whole.second
        ∙ map-itself (whole.front ++ (changed_block ∷ (whole.middle ++ whole.back))))
        ∙ p.second ∙ among changed_block c.front c.back new_line p.front p.back c.second
        ∙ ap (λ z. (p.front ++ (z ++ map (printed_line mode b.path) c.front))
        ++ (printed_line mode b.path new_line ∷ (map (printed_line mode b.path) c.back ++ p.back)))
        (header-same mode b whole.lines as-before)

    one-changes : OneChanges mode t u q l (f l) old n
    one-changes =
        let c = whole.changes in
        let p = two-blocks in
        let b = whole.block in
        record {
          before = before_it;
          after = after_it;
          block = b.path;
          keys = whole.keys;
          first = first-list;
          second = second-list;
          path = below-last b.path whole.keys l ∙ ap (λ z. to_key z l.name) whole.at;
          other_path = below-last b.path whole.keys (f l) ∙ ap (λ z. to_key z (f l).name) whole.at ∙ ap (λ z. to_key v.path z) name;
          others_before = are-outside q before_it
              (all-append (IsOut q) p.front (block_header mode b ++ map (printed_line mode b.path) c.front) p.out_front
              (all-append (IsOut q) (block_header mode b) (map (printed_line mode b.path) c.front) (header-out mode q b whole.out_path)
              (map-lines-out mode q b.path c.front c.out_front)));
          others_after = are-outside q after_it
              (all-append (IsOut q) (map (printed_line mode b.path) c.back) p.back (map-lines-out mode q b.path c.back c.out_back)
              p.out_back);
          text = print-framed mode t ∙ ap (λ z. framed mode t (texts z)) first-list
              ∙ ap (framed mode t) (texts-append before_it (printed_line mode b.path old_line ∷ after_it));
          other_text = edited-framed mode way g t ∙ ap (λ z. framed mode t (texts z)) second-list
              ∙ ap (framed mode t) (texts-append before_it (printed_line mode b.path new_line ∷ after_it));
        }

  pub replaced : Replaced mode
  replaced t way v k f l old n made steady leads is_there value plain name =
      let st : Steady mode t = steady-parts mode t steady in (
        one-changes t way v k f l old n made st leads is_there value plain name,
        stays-steady mode way (changed k (λ s. (keyed (f s.key) n))) t
            (new-steady t way v k f l old n made st leads is_there value plain name),
      )
