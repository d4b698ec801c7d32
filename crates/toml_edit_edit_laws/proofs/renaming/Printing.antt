-- A slot under another name: the tree is steady, and of a value one statement changes.
use Rattle.std.proofs.Common.{◌≡◌, refl, sym, ◌∙◌, ap, subst, true, false, List, [], ◌∷◌, ◌++◌, append_assoc, Some}
use Rattle.std.specs.Prelude.{map}
use Rattle.std.specs.List.{AllByRecursion}
use Rattle.std.proofs.lemmas.List.{map-append}
use Rattle.toml_edit_model.specs.Mode.{Mode}
use Rattle.toml_edit_model.specs.Text.{Text, is_empty}
use Rattle.toml_edit_model.specs.Paths.{at_key, Path, to_key}
use Rattle.toml_edit_model.specs.Tree.{Key, Node, SlotsAreWellMade, Tree, is_value_node}
use Rattle.toml_edit_model.specs.HeaderOrder.{Visit, node_walk, slots_walk}
use Rattle.toml_edit_model.specs.Print.{Line, table_lines, below, is_line_node, Printed, printed, printed_line}
use Rattle.toml_edit_model.specs.Slots.{Slot, keyed, on_key, lookup_slot}
use Rattle.toml_edit_model.specs.Lists.{slot_list, slots_from}
use Rattle.toml_edit_model.specs.Rearranging.{renamed_key, is_free, renamed_slot}
use Rattle.toml_edit_laws.specs.Locality.{Turn, Leads, root_visit, edited, value_line}
use Rattle.toml_edit_laws.proofs.common.Each.{all-append, all-front, all-back}
use Rattle.toml_edit_laws.proofs.common.Lists.{not_empty-last}
use Rattle.toml_edit_laws.proofs.common.PathLaws.{front-refl}
use Rattle.toml_edit_laws.proofs.locality.Along.{Whole, tree_blocks, whole-tree}
use Rattle.toml_edit_laws.proofs.locality.Blocks.{Block, blocks, is_headed, block_header, block_printed, IsSteadyBlock}
use Rattle.toml_edit_laws.proofs.locality.Edited.{firm-visits, steady-tree, steady-same, whole-steady}
use Rattle.toml_edit_laws.proofs.locality.Printing.{printed_all, with_lines, printed-tree, IsOut, are-outside, header-out, map-lines-out}
use Rattle.toml_edit_laws.proofs.locality.Printing.{Parted, parted, headed-same, header-same, lined, headed-behind}
use Rattle.toml_edit_laws.proofs.locality.Replacing.{itself, map-itself}
use Rattle.toml_edit_laws.proofs.locality.Slots.{slots_under, Found, found}
use Rattle.toml_edit_laws.proofs.locality.Sound.{Steady, SlotsAreSound, along-sound, leads-made, leads-sound, sound-slot, sound-append}
use Rattle.toml_edit_laws.proofs.locality.Splice.{LineSplice, BlockSplice, Around, around}
use Rattle.toml_edit_laws.proofs.locality.Under.{slot_lines}
use Rattle.toml_edit_laws.proofs.locality.Values.{line-value, no-value-walk, slot-line}
use Rattle.toml_edit_laws.specs.Locality.{AreOutside}
use Rattle.toml_edit_edit_laws.proofs.renaming.Blocks.{empty-within, empty-slot, steady-node}
use Rattle.toml_edit_edit_laws.proofs.renaming.Names.{renamed-is}

module _ (mode : Mode) where
  module _ (t : Tree) (way : List Turn) (v : Visit) (k u : Text) (s : Slot Node)
      (made : SlotsAreWellMade t.slots) (st : Steady mode t) (leads : Leads way (root_visit t) v)
      (is_there : lookup_slot k (slot_list v.slots) ≡ Some s) (free : is_free k u (slot_list v.slots) ≡ true) where
    abbrev g : List (Slot Node) → List (Slot Node)
    g = renamed_slot k u

    abbrev r : Tree
    r = edited way g t

    abbrev z : Slot Node
    z = on_key (renamed_key u) s

    abbrev q : Path
    q = to_key v.path s.key.name

    abbrev M : List Key → List Line
    M lk = slot_lines mode s.key s.item lk

    abbrev N : List Key → List Line
    N lk = slot_lines mode z.key s.item lk

    abbrev m : List Block
    m = blocks mode (node_walk s.item q (v.keys ++ (s.key ∷ [])) false)

    abbrev n : List Block
    n = blocks mode (node_walk s.item (to_key v.path u) (v.keys ++ (z.key ∷ [])) false)

    fd : Found k s (slot_list v.slots)
    fd = found k v.slots s (leads-made way (root_visit t) v made leads) is_there

    is_new : slots_under g v.slots ≡ slots_from (fd.front ++ (z ∷ fd.back))
    is_new = ap slots_from (renamed-is k u s v.slots fd free)

    beside : (bp : Path) (lk : List Key) → below bp lk ≡ v.path → Around mode q v bp lk s z (slots_under g v.slots)
    beside bp lk at = around mode q v bp lk k s z (slots_under g v.slots) at (front-refl q) fd is_new

    edit-lines : (bp : Path) (lk : List Key) → below bp lk ≡ v.path
        → LineSplice mode q bp (M lk) (N lk) (table_lines mode v.slots lk) (table_lines mode (slots_under g v.slots) lk)
    edit-lines bp lk at =
        let a = beside bp lk at in
        record {
          front = a.lines_front;
          back = a.lines_back;
          first = a.old_lines;
          second = a.new_lines;
          out_front = a.out_lines_front;
          out_back = a.out_lines_back;
        }

    edit-blocks : BlockSplice mode q itself m n (blocks mode (slots_walk v.slots v.path v.keys))
        (blocks mode (slots_walk (slots_under g v.slots) v.path v.keys))
    edit-blocks =
        let a = beside v.path [] refl in
        record {
          front = a.front;
          back = a.back;
          first = a.old_blocks;
          second = ap (map itself) a.new_blocks;
          out_front = a.out_front;
          out_back = a.out_back;
        }

    pub whole : Whole mode q itself v g M N m n (tree_blocks mode t) (tree_blocks mode r)
    whole = whole-tree mode q itself v g M N m n (at_key s.key.name) (front-refl q) edit-lines edit-blocks way t made
        (firm-visits mode t st) leads

    pub same-emptiness : is_empty whole.lines ≡ is_empty whole.block.lines
    same-emptiness =
        let c = whole.changes in
        ap is_empty c.second
        ∙ empty-within c.front (N whole.keys) (M whole.keys) c.back (empty-slot mode z.key s.key s.item whole.keys)
        ∙ ap is_empty (sym c.first)

    pub as-before : is_headed (with_lines whole.block whole.lines) ≡ is_headed whole.block
    as-before = headed-same whole.block whole.lines same-emptiness

    new-sound : SlotsAreSound r.slots
    new-sound =
        along-sound way g (root_visit t) v made st.sound leads
        (λ w d.
        let parts = sound-slot k s v.slots fd d in
        subst SlotsAreSound (sym is_new) (sound-append fd.front (z ∷ fd.back) parts.0 (parts.1, parts.2, parts.3)))

    moved-steady : AllByRecursion IsSteadyBlock n
    moved-steady =
        let w = whole in
        let all : AllByRecursion IsSteadyBlock (w.front ++ (w.block ∷ (w.middle ++ (m ++ w.back)))) =
        subst (λ x. AllByRecursion IsSteadyBlock x) w.first (steady-tree mode t st) in
        let rest = all-back IsSteadyBlock w.front (w.block ∷ (w.middle ++ (m ++ w.back))) all in
        steady-node mode s.item q (to_key v.path u) (v.keys ++ (s.key ∷ [])) (v.keys ++ (z.key ∷ [])) false (not_empty-last v.keys s.key
        ∙ sym (not_empty-last v.keys z.key))
        (all-front IsSteadyBlock m w.back (all-back IsSteadyBlock w.middle (m ++ w.back) rest.1))

    pub new-steady : Steady mode r
    new-steady = whole-steady mode q itself v g M N m n (λ b d. d) (λ b d. d) way t st new-sound whole
        (steady-same whole.block whole.lines as-before) moved-steady

  -- ---- a value

  -- a block with one line among others
  among : (b : Block) (xs ys : List Line) (x : Line) (before after : List Printed) → b.lines ≡ xs ++ (x ∷ ys)
      → before ++ (block_printed mode b ++ after)
      ≡ (before ++ (block_header mode b ++ map (printed_line mode b.path) xs))
      ++ (printed_line mode b.path x ∷ (map (printed_line mode b.path) ys ++ after))
  among b xs ys x before after e =
      ap (λ z. before ++ ((block_header mode b ++ map (printed_line mode b.path) z) ++ after)) e
      ∙ ap (λ z. before ++ ((block_header mode b ++ z) ++ after)) (map-append (printed_line mode b.path) xs (x ∷ ys))
      ∙ simp append_assoc

  some-lines : (xs ys : List Line) (x : Line) → is_empty (xs ++ (x ∷ ys)) ≡ false
  some-lines [] ys x = refl
  some-lines (y ∷ xs) ys x = refl

  -- one statement of the first list gives way to another
  pub record NameApart (t r : Tree) (q : Path) (l m : Key) (x : Node) : Type 0 where
    pub before : List Printed
    pub after : List Printed
    pub block : Path
    pub keys : List Key
    pub at : below block keys ≡ q
    pub first : printed mode t ≡ before ++ (printed_line mode block (value_line mode (keys ++ (l ∷ [])) x) ∷ after)
    pub second : printed mode r ≡ before ++ (printed_line mode block (value_line mode (keys ++ (m ∷ [])) x) ∷ after)
    pub others_before : AreOutside (to_key q l.name) before
    pub others_after : AreOutside (to_key q l.name) after

  module _ (t : Tree) (way : List Turn) (v : Visit) (k u : Text) (l : Key) (x : Node)
      (made : SlotsAreWellMade t.slots) (st : Steady mode t) (leads : Leads way (root_visit t) v)
      (is_there : lookup_slot k (slot_list v.slots) ≡ Some (keyed l x)) (free : is_free k u (slot_list v.slots) ≡ true)
      (value : is_value_node x ≡ true) where
    abbrev new_key : Key
    new_key = renamed_key u l

    abbrev there : Path
    there = to_key v.path l.name

    abbrev to : Tree
    to = edited way (renamed_slot k u) t

    abbrev w : Whole mode there itself v (renamed_slot k u) (λ lk. slot_lines mode l x lk) (λ lk. slot_lines mode new_key x lk)
        (blocks mode (node_walk x there (v.keys ++ (l ∷ [])) false))
        (blocks mode (node_walk x (to_key v.path u) (v.keys ++ (new_key ∷ [])) false))
        (tree_blocks mode t) (tree_blocks mode to)
    w = whole t way v k u (keyed l x) made st leads is_there free

    own : Found k (keyed l x) (slot_list v.slots)
    own = found k v.slots (keyed l x) (leads-made way (root_visit t) v made leads) is_there

    is-line : is_line_node x ≡ true
    is-line = line-value x value (sound-slot k (keyed l x) v.slots own (leads-sound way (root_visit t) v made st.sound leads)).1

    abbrev old_line : Line
    old_line = value_line mode (w.keys ++ (l ∷ [])) x

    abbrev new_line : Line
    new_line = value_line mode (w.keys ++ (new_key ∷ [])) x

    abbrev changed_block : Block
    changed_block = with_lines w.block w.lines

    old-lines : w.block.lines ≡ w.changes.front ++ (old_line ∷ w.changes.back)
    old-lines = w.changes.first ∙ ap (λ ls. w.changes.front ++ (ls ++ w.changes.back)) (slot-line mode l x w.keys is-line)

    new-lines : w.lines ≡ w.changes.front ++ (new_line ∷ w.changes.back)
    new-lines = w.changes.second ∙ ap (λ ls. w.changes.front ++ (ls ++ w.changes.back)) (slot-line mode new_key x w.keys is-line)

    has-lines : is_empty w.block.lines ≡ false
    has-lines = ap is_empty old-lines ∙ some-lines w.changes.front w.changes.back old_line

    still-lines : is_empty w.lines ≡ false
    still-lines = ap is_empty new-lines ∙ some-lines w.changes.front w.changes.back new_line

    same-head : is_headed changed_block ≡ is_headed w.block
    same-head = headed-same w.block w.lines (still-lines ∙ sym has-lines)

    -- no table is below a value
    old-blocks : tree_blocks mode t ≡ w.front ++ (w.block ∷ (w.middle ++ w.back))
    old-blocks = w.first ∙ ap (λ vs. w.front ++ (w.block ∷ (w.middle ++ (blocks mode vs ++ w.back)))) (no-value-walk x there (v.keys
        ++ (l ∷ [])) false value)

    new-blocks : tree_blocks mode to ≡ w.front ++ (changed_block ∷ (w.middle ++ w.back))
    new-blocks =
        sym (map-itself (tree_blocks mode to)) ∙ w.second
        ∙ ap (λ vs. map itself (w.front ++ (changed_block ∷ (w.middle ++ (blocks mode vs ++ w.back)))))
        (no-value-walk x (to_key v.path u) (v.keys ++ (new_key ∷ [])) false value)
        ∙ map-itself (w.front ++ (changed_block ∷ (w.middle ++ w.back)))

    two-blocks : Parted mode there w.block changed_block (printed_all mode (w.front ++ (w.block ∷ (w.middle ++ w.back))))
        (printed_all mode (w.front ++ (changed_block ∷ (w.middle ++ w.back))))
    two-blocks =
        parted mode there w.block w.lines w.front (w.middle ++ w.back)
        (headed-behind mode t w.front w.block changed_block (w.middle ++ w.back) old-blocks
        (λ e. (lined w.block e has-lines, lined changed_block e still-lines)))
        w.out_front (all-append _ w.middle w.back w.out_middle w.out_back)

    pub name-apart : NameApart t to v.path l new_key x
    name-apart =
        let c = w.changes in
        let p = two-blocks in
        let b = w.block in
        record {
          before = p.front ++ (block_header mode b ++ map (printed_line mode b.path) c.front);
          after = map (printed_line mode b.path) c.back ++ p.back;
          block = b.path;
          keys = w.keys;
          at = w.at;
          first = printed-tree mode t st ∙ ap (printed_all mode) old-blocks ∙ p.first
              ∙ among b c.front c.back old_line p.front p.back old-lines;
          second = printed-tree mode to (new-steady t way v k u (keyed l x) made st leads is_there free) ∙ ap (printed_all mode) new-blocks
              ∙ p.second
              ∙ among changed_block c.front c.back new_line p.front p.back new-lines
              ∙ ap (λ ls. (p.front ++ (ls ++ map (printed_line mode b.path) c.front))
              ++ (printed_line mode b.path new_line ∷ (map (printed_line mode b.path) c.back ++ p.back)))
              (header-same mode b w.lines same-head);
          others_before = are-outside there (p.front ++ (block_header mode b ++ map (printed_line mode b.path) c.front))
              (all-append (IsOut there) p.front (block_header mode b ++ map (printed_line mode b.path) c.front) p.out_front
              (all-append (IsOut there) (block_header mode b) (map (printed_line mode b.path) c.front) (header-out mode there b w.out_path)
              (map-lines-out mode there b.path c.front c.out_front)));
          others_after = are-outside there (map (printed_line mode b.path) c.back ++ p.back)
              (all-append (IsOut there) (map (printed_line mode b.path) c.back) p.back (map-lines-out mode there b.path c.back c.out_back)
              p.out_back);
        }
