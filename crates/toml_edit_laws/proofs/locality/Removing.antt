-- A slot removed: the print without the statements of that slot and of all below it.
use Rattle.std.proofs.Common.{◌≡◌, refl, sym, ◌∙◌, ap, subst, true, false, List, [], ◌∷◌, ◌++◌, Some}
use Rattle.std.specs.Prelude.{filter, map}
use Rattle.std.specs.List.{AllByRecursion}
use Rattle.toml_edit_model.specs.Mode.{Mode}
use Rattle.toml_edit_model.specs.Text.{Text}
use Rattle.toml_edit_model.specs.Paths.{Step, at_key, Path, to_key}
use Rattle.toml_edit_model.specs.Tree.{Node, Key, SlotsAreWellMade, Tree}
use Rattle.toml_edit_model.specs.HeaderOrder.{Visit, node_walk, slots_walk}
use Rattle.toml_edit_model.specs.Print.{Line, table_lines, below, printed}
use Rattle.toml_edit_model.specs.Slots.{Slot, lookup_slot, without}
use Rattle.toml_edit_model.specs.Lists.{slot_list, slots_from}
use Rattle.toml_edit_laws.proofs.locality.Slots.{slots_under}
use Rattle.toml_edit_laws.specs.Locality.{Turn, Leads, root_visit, edited, outside, Removed, texts, framed}
use Rattle.toml_edit_laws.proofs.common.Tests.{false-by, true-false}
use Rattle.toml_edit_laws.proofs.common.PathLaws.{is_front, front-refl, front-through, below-last}
use Rattle.toml_edit_laws.proofs.locality.Blocks.{Block, blocks, blocks-append, is_headed, IsSteadyBlock}
use Rattle.toml_edit_laws.proofs.locality.Under.{slot_lines, IsLineUnder, IsBlockUnder, slot-lines-under, node-under}
use Rattle.toml_edit_laws.proofs.locality.Slots.{Found, found, slots_from-list, lines-append, walk-append}
use Rattle.toml_edit_laws.proofs.locality.Splice.{LineSplice, BlockSplice, lines-split, blocks-split, other-lines-out, other-blocks-out}
use Rattle.toml_edit_laws.proofs.locality.Along.{Whole, tree_blocks, whole-tree}
use Rattle.toml_edit_laws.proofs.locality.Sound.{Steady, SlotsAreSound, steady-parts, along-sound, leads-made, sound-slot, sound-append}
use Rattle.toml_edit_laws.proofs.locality.Printing.{printed_all, with_lines, printed-tree}
use Rattle.toml_edit_laws.proofs.locality.Edited.{firm-visits, steady-same, whole-steady, stays-steady}
use Rattle.toml_edit_laws.proofs.locality.Texts.{edited-framed}
use Rattle.toml_edit_laws.proofs.locality.Filtering.{keeps_line, keeps_block, trim, outside-is, trim-headed, tree-trim, spliced-kept}
use Rattle.toml_edit_laws.proofs.locality.Filtering.{lines-spliced}
use Rattle.toml_edit_laws.proofs.locality.Replacing.{itself, map-itself}
use Rattle.toml_edit_laws.proofs.common.Each.{all-map}

module _ (mode : Mode) where
  pub not-at-root : (p q : Path) (x : Step) → is_front (p ++ (x ∷ [])) q ≡ true → is_front q [] ≡ false
  not-at-root p q x h =
      false-by (is_front q []) (λ g. true-false (is_front (p ++ (x ∷ [])) []) (front-through (p ++ (x ∷ [])) q [] h g) (longer p))
    where
      longer : (p : Path) → is_front (p ++ (x ∷ [])) [] ≡ false
      longer [] = refl
      longer (s ∷ p) = refl

  -- what is left is what is kept
  module _ (q : Path) (h : Block → Block) (v : Visit) (g : List (Slot Node) → List (Slot Node)) (M : List Key → List Line) (m : List Block)
      (there : (b : Block) → IsSteadyBlock b → IsSteadyBlock (h b)) (back : (b : Block) → IsSteadyBlock (h b) → IsSteadyBlock b)
      (x : Step) (above : is_front (v.path ++ (x ∷ [])) q ≡ true)
      (edit-lines : (bp : Path) (lk : List Key) → below bp lk ≡ v.path
      → LineSplice mode q bp (M lk) [] (table_lines mode v.slots lk) (table_lines mode (slots_under g v.slots) lk))
      (edit-blocks : BlockSplice mode q h m [] (blocks mode (slots_walk v.slots v.path v.keys))
      (blocks mode (slots_walk (slots_under g v.slots) v.path v.keys)))
      (lines-in : (bp : Path) (lk : List Key) → below bp lk ≡ v.path → AllByRecursion (IsLineUnder q bp) (M lk))
      (blocks-in : AllByRecursion (λ b. is_front q b.path ≡ true) m)
      (t : Tree) (way : List Turn) (made : SlotsAreWellMade t.slots) (st : Steady mode t) (leads : Leads way (root_visit t) v)
      (sound : SlotsAreSound (edited way g t).slots) where
    abbrev N : List Key → List Line
    N lk = []

    whole : Whole mode q h v g M N m [] (tree_blocks mode t) (tree_blocks mode (edited way g t))
    whole = whole-tree mode q h v g M N m [] x above edit-lines edit-blocks way t made (firm-visits mode t st) leads

    lines-are : whole.lines ≡ filter (keeps_line mode q whole.block.path) whole.block.lines
    lines-are =
        let c = whole.changes in
        c.second
        ∙ sym (lines-spliced mode q whole.block.path c.front (M whole.keys) c.back c.out_front
        (lines-in whole.block.path whole.keys whole.at) c.out_back)
        ∙ ap (filter (keeps_line mode q whole.block.path)) (sym c.first)

    pub left-kept : map h (tree_blocks mode (edited way g t)) ≡ map h (map (trim mode q) (filter (keeps_block mode q) (tree_blocks mode t)))
    left-kept =
        let w = whole in
        w.second
        ∙ ap (λ z. map h (w.front ++ (with_lines w.block z ∷ (w.middle ++ w.back)))) lines-are
        ∙ ap (map h)
        (sym (spliced-kept mode q w.front w.middle m w.back w.block w.out_front w.out_path w.out_middle blocks-in w.out_back)
        ∙ ap (λ z. map (trim mode q) (filter (keeps_block mode q) z)) (sym w.first))

    pub left-steady : Steady mode (edited way g t)
    left-steady =
        whole-steady mode q h v g M N m [] there back way t st sound whole
        (λ s. steady-same whole.block whole.lines (ap (λ z. is_headed (with_lines whole.block z)) lines-are
        ∙ trim-headed mode q whole.block s) s) tt

  -- ---- a slot

  module _ (t : Tree) (way : List Turn) (v : Visit) (k : Text) (s : Slot Node)
      (made : SlotsAreWellMade t.slots) (st : Steady mode t) (leads : Leads way (root_visit t) v)
      (is_there : lookup_slot k (slot_list v.slots) ≡ Some s) where
    abbrev g : List (Slot Node) → List (Slot Node)
    g = without k

    abbrev u : Tree
    u = edited way g t

    abbrev q : Path
    q = to_key v.path s.key.name

    abbrev M : List Key → List Line
    M lk = slot_lines mode s.key s.item lk

    abbrev m : List Block
    m = blocks mode (node_walk s.item q (v.keys ++ (s.key ∷ [])) false)

    fd : Found k s (slot_list v.slots)
    fd = found k v.slots s (leads-made way (root_visit t) v made leads) is_there

    is_new : slots_under g v.slots ≡ slots_from (fd.front ++ fd.back)
    is_new = ap slots_from fd.remove

    is_old : v.slots ≡ slots_from (fd.front ++ (s ∷ fd.back))
    is_old = sym (slots_from-list v.slots) ∙ ap slots_from fd.is

    edit-lines : (bp : Path) (lk : List Key) → below bp lk ≡ v.path
        → LineSplice mode q bp (M lk) [] (table_lines mode v.slots lk) (table_lines mode (slots_under g v.slots) lk)
    edit-lines bp lk at =
        record {
          front = table_lines mode (slots_from fd.front) lk;
          back = table_lines mode (slots_from fd.back) lk;
          first = ap (λ z. table_lines mode z lk) is_old ∙ lines-split mode fd.front s fd.back lk;
          second = ap (λ z. table_lines mode z lk) is_new ∙ lines-append mode fd.front fd.back lk;
          out_front = other-lines-out mode q v.path s.key.name (front-refl q) bp lk fd.front at fd.others_front;
          out_back = other-lines-out mode q v.path s.key.name (front-refl q) bp lk fd.back at fd.others_back;
        }

    edit-blocks : BlockSplice mode q itself m [] (blocks mode (slots_walk v.slots v.path v.keys))
        (blocks mode (slots_walk (slots_under g v.slots) v.path v.keys))
    edit-blocks =
        record {
          front = blocks mode (slots_walk (slots_from fd.front) v.path v.keys);
          back = blocks mode (slots_walk (slots_from fd.back) v.path v.keys);
          first = ap (λ z. blocks mode (slots_walk z v.path v.keys)) is_old ∙ blocks-split mode fd.front s fd.back v.path v.keys;
          second = ap (map itself)
              (ap (λ z. blocks mode (slots_walk z v.path v.keys)) is_new ∙ ap (blocks mode) (walk-append fd.front fd.back v.path v.keys)
              ∙ blocks-append mode (slots_walk (slots_from fd.front) v.path v.keys) (slots_walk (slots_from fd.back) v.path v.keys));
          out_front = other-blocks-out mode q v.path s.key.name (front-refl q) v.keys fd.front fd.others_front;
          out_back = other-blocks-out mode q v.path s.key.name (front-refl q) v.keys fd.back fd.others_back;
        }

    lines-in : (bp : Path) (lk : List Key) → below bp lk ≡ v.path → AllByRecursion (IsLineUnder q bp) (M lk)
    lines-in bp lk at =
        slot-lines-under mode bp q s.key s.item lk
        (subst (λ z. is_front q z ≡ true) (sym (below-last bp lk s.key ∙ ap (λ z. to_key z s.key.name) at)) (front-refl q))

    blocks-in : AllByRecursion (λ (b : Block). is_front q b.path ≡ true) m
    blocks-in =
        all-map (IsBlockUnder q) (λ (b : Block). is_front q b.path
        ≡ true) m (λ b d. d.0) (node-under mode q s.item q (v.keys ++ (s.key ∷ [])) false (front-refl q))

    new-sound : SlotsAreSound u.slots
    new-sound =
        along-sound way g (root_visit t) v made st.sound leads
        (λ w d.
        let parts = sound-slot k s v.slots fd d in
        subst SlotsAreSound (sym is_new) (sound-append fd.front fd.back parts.0 parts.3))

    slot-steady : Steady mode u
    slot-steady =
        left-steady q itself v g M m (λ b e. e) (λ b e. e) (at_key s.key.name) (front-refl q) edit-lines edit-blocks lines-in blocks-in t
        way made st leads new-sound

    slot-removed : printed mode u ≡ outside mode q t
    slot-removed =
        printed-tree mode u slot-steady
        ∙ ap (printed_all mode)
        (sym (map-itself (tree_blocks mode u))
        ∙ left-kept q itself v g M m (λ b e. e) (λ b e. e) (at_key s.key.name) (front-refl q) edit-lines edit-blocks lines-in blocks-in t
        way made st leads new-sound
        ∙ map-itself (map (trim mode q) (filter (keeps_block mode q) (tree_blocks mode t))))
        ∙ tree-trim mode q t st (not-at-root v.path q (at_key s.key.name) (front-refl q))
        ∙ sym (outside-is mode q t)

  pub removed : Removed mode
  removed t way v k s made steady leads is_there =
      let st : Steady mode t = steady-parts mode t steady in
      let list : printed mode (edited way (without k) t) ≡ outside mode (to_key v.path s.key.name) t =
      slot-removed t way v k s made st leads is_there in (
        list,
        edited-framed mode way (without k) t ∙ ap (λ z. framed mode t (texts z)) list,
        stays-steady mode way (without k) t (slot-steady t way v k s made st leads is_there),
      )
