-- A header with another decor: one statement changes.
use Rattle.std.proofs.Common.{◌≡◌, refl, sym, ◌∙◌, ap, subst, Bool, true, false, List, [], ◌∷◌, ◌++◌, append_assoc}
use Rattle.std.specs.Prelude.{◌&&◌, ◌||◌, not, filter, map, flat_map, is_some}
use Rattle.std.specs.List.{AllByRecursion}
use Rattle.std.proofs.lemmas.Grind.{flat_map-append}
use Rattle.std.proofs.lemmas.List.Elements.{filter-append}
use Rattle.toml_edit_model.specs.Mode.{Mode}
use Rattle.toml_edit_model.specs.Paths.{at_key, Path, to_key}
use Rattle.toml_edit_model.specs.Tree.{Key, Decor, Node, SlotsAreWellMade, Tree}
use Rattle.toml_edit_model.specs.HeaderOrder.{Visit, node_walk, slots_walk}
use Rattle.toml_edit_model.specs.Shown.{shown_meaning}
use Rattle.toml_edit_model.specs.Print.{Line, table_lines, below, has_header, Printed, printed, printed_line}
use Rattle.toml_edit_model.specs.Fits.{has_own_prefix, has_steady_header}
use Rattle.toml_edit_model.specs.Order.{sorted_by}
use Rattle.toml_edit_model.specs.Slots.{Slot, keyed}
use Rattle.toml_edit_model.specs.Lists.{slot_list, slots_from}
use Rattle.toml_edit_laws.specs.Locality.{Turn, Leads, root_visit, edited, texts, framed}
use Rattle.toml_edit_laws.proofs.common.Each.{all-append, all-back, all-front, trivially}
use Rattle.toml_edit_laws.proofs.common.PathLaws.{front-refl}
use Rattle.toml_edit_laws.proofs.common.Sorting.{OneApart, sorted-apart}
use Rattle.toml_edit_laws.proofs.common.Tests.{if-true, if-false, and_left, and_right, and_both, not-true, or-true}
use Rattle.toml_edit_laws.proofs.locality.Along.{Whole, tree_blocks, whole-tree}
use Rattle.toml_edit_laws.proofs.locality.Blocks.{Block, block_of, blocks, is_headed, block_printed, stands_first, printed_blocks}
use Rattle.toml_edit_laws.proofs.locality.Blocks.{IsSteadyBlock}
use Rattle.toml_edit_laws.proofs.locality.Edited.{firm-visits, steady-tree, whole-steady, stays-steady}
use Rattle.toml_edit_laws.proofs.locality.Printing.{printed_all, with_lines, printed-tree}
use Rattle.toml_edit_laws.proofs.locality.Replacing.{itself, map-itself}
use Rattle.toml_edit_laws.proofs.locality.Slots.{slots_under, Found, found}
use Rattle.toml_edit_laws.proofs.locality.Sound.{Steady, steady-parts, steady-whole, SlotsAreSound, along-sound, leads-made, sound-slot}
use Rattle.toml_edit_laws.proofs.locality.Sound.{sound-append}
use Rattle.toml_edit_laws.proofs.locality.Splice.{LineSplice, BlockSplice, Around, around}
use Rattle.toml_edit_laws.proofs.locality.Texts.{print-framed, edited-framed, texts-append}
use Rattle.toml_edit_laws.proofs.locality.Under.{slot_lines}
use Rattle.toml_edit_edit_laws.specs.Comments.{recommented, header_edited, visit_with, header_line, HeaderChanges, HeaderRecommented}
use Rattle.toml_edit_edit_laws.specs.Comments.{HiddenRecommented, KeepsHeader, RootRecommented}
use Rattle.toml_edit_edit_laws.proofs.comments.HeaderSlots.{BlockChange, Slotted, slotted}

-- some blocks give way to others, behind a first one
pub record Swapped (m n old new : List Block) : Type 0 where
  pub front : List Block
  pub block : Block
  pub middle : List Block
  pub back : List Block
  pub first : old ≡ front ++ (block ∷ (middle ++ (m ++ back)))
  pub second : new ≡ front ++ (block ∷ (middle ++ (n ++ back)))

module _ (mode : Mode) where
  pub keeps_header : KeepsHeader mode
  keeps_header v d = refl

  -- ---- one block in print

  -- the second list of statements is the first with one block in the place of another
  pub record Printeds (b c : Block) (xs ys : List Printed) : Type 0 where
    pub front : List Printed
    pub back : List Printed
    pub first : xs ≡ front ++ (block_printed mode b ++ back)
    pub second : ys ≡ front ++ (block_printed mode c ++ back)

  abbrev other : Decor → Block → Block
  other d b = record b { fields = recommented d b.fields }

  two-prints : (d : Decor) (b : Block) (front back : List Block) → is_headed b ≡ true
      → Printeds b (other d b) (printed_all mode (front ++ (b ∷ back))) (printed_all mode (front ++ (other d b ∷ back)))
  two-prints d b [] back h = record { front = []; back = printed_blocks mode back; first = refl; second = refl }
  two-prints d b (r ∷ front) back h =
      let c : Block = other d b in
      let a : OneApart (λ (_ : Block). Unit {0}) b c (sorted_by stands_first (filter is_headed front ++ (b ∷ filter is_headed back)))
      (sorted_by stands_first (filter is_headed front ++ (c ∷ filter is_headed back))) =
      sorted-apart stands_first (λ _. Unit {0}) b c (λ x. refl) (λ x. refl) (filter is_headed front) (filter is_headed back)
      (trivially (filter is_headed front)) (trivially (filter is_headed back)) in
      record {
        front = block_printed mode r ++ flat_map (block_printed mode) a.front;
        back = flat_map (block_printed mode) a.back;
        first = ap (λ z. block_printed mode r ++ flat_map (block_printed mode) (sorted_by stands_first z)) (among b h)
            ∙ ap (λ z. block_printed mode r ++ flat_map (block_printed mode) z) a.first ∙ there b a.front a.back;
        second = ap (λ z. block_printed mode r ++ flat_map (block_printed mode) (sorted_by stands_first z)) (among c h)
            ∙ ap (λ z. block_printed mode r ++ flat_map (block_printed mode) z) a.second ∙ there c a.front a.back;
      }
    where
      among : (x : Block) → is_headed x ≡ true → filter is_headed (front ++ (x ∷ back)) ≡ filter is_headed front
          ++ (x ∷ filter is_headed back)
      among x h = filter-append is_headed front (x ∷ back)
          ∙ ap (λ z. filter is_headed front ++ z) (if-true (is_headed x) (x ∷ filter is_headed back) (filter is_headed back) h)

      there : (x : Block) (xs bs : List Block)
          → block_printed mode r ++ flat_map (block_printed mode) (xs ++ (x ∷ bs))
          ≡ (block_printed mode r ++ flat_map (block_printed mode) xs) ++ (block_printed mode x ++ flat_map (block_printed mode) bs)
      there x xs bs =
          ap (λ z. block_printed mode r ++ z) (flat_map-append (block_printed mode) xs (x ∷ bs))
          ∙ sym (append_assoc (block_printed mode r) (flat_map (block_printed mode) xs) (block_printed mode x
          ++ flat_map (block_printed mode) bs))

  -- a block whose header is printed
  headed-print : (v : Visit) → has_header mode v ≡ true → block_printed mode (block_of mode v) ≡ header_line mode v
      ∷ map (printed_line mode v.path) (table_lines mode v.slots [])
  headed-print v h = ap (λ z. z ++ map (printed_line mode v.path) (table_lines mode v.slots []))
      (if-true (has_header mode v) (header_line mode v ∷ []) [] h)

  -- without headers neither is printed
  unprinted : (front middle back : List Block) (r b c : Block) → is_headed b ≡ false → is_headed c ≡ false
      → printed_all mode ((front ++ (r ∷ middle)) ++ (b ∷ back)) ≡ printed_all mode ((front ++ (r ∷ middle)) ++ (c ∷ back))
  unprinted front middle back r b c hb hc = by_front front
    where
      left : (xs : List Block) (x : Block) → is_headed x ≡ false → filter is_headed (xs ++ (x ∷ back)) ≡ filter is_headed xs
          ++ filter is_headed back
      left xs x h = filter-append is_headed xs (x ∷ back)
          ∙ ap (λ z. filter is_headed xs ++ z) (if-false (is_headed x) (x ∷ filter is_headed back) (filter is_headed back) h)

      same : (xs : List Block) → printed_blocks mode (xs ++ (b ∷ back)) ≡ printed_blocks mode (xs ++ (c ∷ back))
      same xs = ap (λ z. flat_map (block_printed mode) (sorted_by stands_first z)) (left xs b hb ∙ sym (left xs c hc))

      by_front : (front : List Block) → printed_all mode ((front ++ (r ∷ middle)) ++ (b ∷ back))
          ≡ printed_all mode ((front ++ (r ∷ middle)) ++ (c ∷ back))
      by_front [] = ap (λ z. block_printed mode r ++ z) (same middle)
      by_front (x ∷ front) = ap (λ z. block_printed mode x ++ z) (same (front ++ (r ∷ middle)))

  -- a header with another decor is steady
  still-steady : (v : Visit) (d : Decor) → has_own_prefix d.prefix ≡ true → IsSteadyBlock (block_of mode v)
      → IsSteadyBlock (block_of mode (visit_with d v))
  still-steady v d own h =
      by_tests (has_header mode v) (is_some v.fields.position) (has_own_prefix v.fields.decor.prefix) (has_own_prefix d.prefix)
      (v.is_element || not v.fields.is_implicit) own h
    where
      by_tests : (c p a b r : Bool) → b ≡ true → (not c || ((p && a) && r)) ≡ true → (not c || ((p && b) && r)) ≡ true
      by_tests false p a b r e h = refl
      by_tests true p a b r e h =
          and_both (p && b) r (and_both p b (and_left p a (and_left (p && a) r h)) e) (and_right (p && a) r h)

  no-header : (v : Visit) (d : Decor) → has_header mode v ≡ false → IsSteadyBlock (block_of mode (visit_with d v))
  no-header v d h = ap (λ b. not b || has_steady_header (visit_with d v)) h

  -- ---- the tree

  module _ (t : Tree) (way : List Turn) (s v : Visit) (x : Turn) (d : Decor) (made : SlotsAreWellMade t.slots) (st : Steady mode t)
      (leads : Leads way (root_visit t) s) (turn : Leads (x ∷ []) s v) where
    abbrev g : List (Slot Node) → List (Slot Node)
    g = header_edited x d

    abbrev u : Tree
    u = edited way g t

    abbrev c : Slotted g s v d
    c = slotted x s v d turn

    abbrev q : Path
    q = to_key s.path c.key.name

    abbrev M : List Key → List Line
    M lk = slot_lines mode c.key c.old lk

    abbrev N : List Key → List Line
    N lk = slot_lines mode c.key c.new lk

    fd : Found c.name (keyed c.key c.old) (slot_list s.slots)
    fd = found c.name s.slots (keyed c.key c.old) (leads-made way (root_visit t) s made leads) c.is_there

    is_new : slots_under g s.slots ≡ slots_from (fd.front ++ (keyed c.key c.new ∷ fd.back))
    is_new = ap slots_from (c.change fd)

    beside : (bp : Path) (lk : List Key) → below bp lk ≡ s.path
        → Around mode q s bp lk (keyed c.key c.old) (keyed c.key c.new) (slots_under g s.slots)
    beside bp lk at = around mode q s bp lk c.name (keyed c.key c.old) (keyed c.key c.new) (slots_under g s.slots) at (front-refl q) fd
        is_new

    edit-lines : (bp : Path) (lk : List Key) → below bp lk ≡ s.path
        → LineSplice mode q bp (M lk) (N lk) (table_lines mode s.slots lk) (table_lines mode (slots_under g s.slots) lk)
    edit-lines bp lk at =
        let a = beside bp lk at in
        record {
          front = a.lines_front;
          back = a.lines_back;
          first = a.old_lines;
          second = a.new_lines;
          out_front = a.out_lines_front;
          out_back = a.out_lines_back;
        }

    new-sound : SlotsAreSound u.slots
    new-sound =
        along-sound way g (root_visit t) s made st.sound leads
        (λ w a.
        let parts = sound-slot c.name (keyed c.key c.old) s.slots fd a in
        subst SlotsAreSound (sym is_new) (sound-append fd.front (keyed c.key c.new ∷ fd.back) parts.0 (c.inline, c.sound parts.2, parts.3)))

    -- the blocks of the slot give way to others
    module _ (m n : List Block) (old : blocks mode (node_walk c.old q (s.keys ++ (c.key ∷ [])) false) ≡ m)
        (new : blocks mode (node_walk c.new q (s.keys ++ (c.key ∷ [])) false) ≡ n) where
      edit-blocks : BlockSplice mode q itself m n (blocks mode (slots_walk s.slots s.path s.keys))
          (blocks mode (slots_walk (slots_under g s.slots) s.path s.keys))
      edit-blocks =
          let a = beside s.path [] refl in
          record {
            front = a.front;
            back = a.back;
            first = a.old_blocks ∙ ap (λ z. a.front ++ (z ++ a.back)) old;
            second = ap (map itself) (a.new_blocks ∙ ap (λ z. a.front ++ (z ++ a.back)) new);
            out_front = a.out_front;
            out_back = a.out_back;
          }

      whole : Whole mode q itself s g M N m n (tree_blocks mode t) (tree_blocks mode u)
      whole = whole-tree mode q itself s g M N m n (at_key c.key.name) (front-refl q) edit-lines edit-blocks way t made
          (firm-visits mode t st) leads

      same-block : with_lines whole.block whole.lines ≡ whole.block
      same-block =
          ap (with_lines whole.block)
          (whole.changes.second ∙ ap (λ z. whole.changes.front ++ (z ++ whole.changes.back)) (c.lines mode whole.keys)
          ∙ sym whole.changes.first)

      pub swapped : Swapped m n (tree_blocks mode t) (tree_blocks mode u)
      swapped =
          record {
            front = whole.front;
            block = whole.block;
            middle = whole.middle;
            back = whole.back;
            first = whole.first;
            second = sym (map-itself (tree_blocks mode u)) ∙ whole.second
                ∙ map-itself (whole.front ++ (with_lines whole.block whole.lines ∷ (whole.middle ++ (n ++ whole.back))))
                ∙ ap (λ z. whole.front ++ (z ∷ (whole.middle ++ (n ++ whole.back)))) same-block;
          }

      pub swapped-steady : (AllByRecursion IsSteadyBlock m → AllByRecursion IsSteadyBlock n) → Steady mode u
      swapped-steady go =
          let all = subst (λ z. AllByRecursion IsSteadyBlock z) whole.first (steady-tree mode t st) in
          let rest = all-back IsSteadyBlock whole.front (whole.block ∷ (whole.middle ++ (m ++ whole.back))) all in
          let mine : AllByRecursion IsSteadyBlock m =
          all-front IsSteadyBlock m whole.back (all-back IsSteadyBlock whole.middle (m ++ whole.back) rest.1) in
          whole-steady mode q itself s g M N m n (λ b a. a) (λ b a. a) way t st new-sound whole
          (λ a. subst IsSteadyBlock (sym same-block) a) (go mine)

    -- ---- a table that isn't dotted

    module _ (undotted : v.fields.is_dotted ≡ false) where
      abbrev e : BlockChange (blocks mode (node_walk c.old q (s.keys ++ (c.key ∷ [])) false))
          (blocks mode (node_walk c.new q (s.keys ++ (c.key ∷ [])) false))
          (block_of mode v) (block_of mode (visit_with d v))
      e = c.changes mode undotted

      abbrev m : List Block
      m = e.front ++ (block_of mode v ∷ e.back)

      abbrev n : List Block
      n = e.front ++ (block_of mode (visit_with d v) ∷ e.back)

      abbrev w : Swapped m n (tree_blocks mode t) (tree_blocks mode u)
      w = swapped m n e.first e.second

      abbrev ahead : List Block
      ahead = w.front ++ (w.block ∷ (w.middle ++ e.front))

      regroup : (b : Block) → w.front ++ (w.block ∷ (w.middle ++ ((e.front ++ (b ∷ e.back)) ++ w.back))) ≡ ahead ++ (b ∷ (e.back ++ w.back))
      regroup b = simp append_assoc

      old-blocks : tree_blocks mode t ≡ ahead ++ (block_of mode v ∷ (e.back ++ w.back))
      old-blocks = w.first ∙ regroup (block_of mode v)

      new-blocks : tree_blocks mode u ≡ ahead ++ (block_of mode (visit_with d v) ∷ (e.back ++ w.back))
      new-blocks = w.second ∙ regroup (block_of mode (visit_with d v))

      pub header-steady : (IsSteadyBlock (block_of mode v) → IsSteadyBlock (block_of mode (visit_with d v))) → Steady mode u
      header-steady go =
          swapped-steady m n e.first e.second
          (λ a.
          let rest = all-back IsSteadyBlock e.front (block_of mode v ∷ e.back) a in
          all-append IsSteadyBlock e.front (block_of mode (visit_with d v)
          ∷ e.back) (all-front IsSteadyBlock e.front (block_of mode v ∷ e.back) a) (go rest.0, rest.1))

      pub header-changes : Steady mode u → has_header mode v ≡ true → HeaderChanges mode t u v (visit_with d v)
      header-changes su h =
          let p : Printeds (block_of mode v) (block_of mode (visit_with d v)) (printed_all mode (ahead
          ++ (block_of mode v ∷ (e.back ++ w.back))))
          (printed_all mode (ahead ++ (block_of mode (visit_with d v) ∷ (e.back ++ w.back)))) =
          two-prints d (block_of mode v) ahead (e.back ++ w.back) h in
          let after : List Printed = map (printed_line mode v.path) (table_lines mode v.slots []) ++ p.back in
          let first : printed mode t ≡ p.front ++ (header_line mode v ∷ after) =
          printed-tree mode t st ∙ ap (printed_all mode) old-blocks ∙ p.first ∙ ap (λ z. p.front ++ (z ++ p.back)) (headed-print v h) in
          let second : printed mode u ≡ p.front ++ (header_line mode (visit_with d v) ∷ after) =
          printed-tree mode u su ∙ ap (printed_all mode) new-blocks ∙ p.second
          ∙ ap (λ z. p.front ++ (z ++ p.back)) (headed-print (visit_with d v) h) in
          record {
            before = p.front;
            after = after;
            first = first;
            second = second;
            text = print-framed mode t ∙ ap (λ z. framed mode t (texts z)) first
                ∙ ap (framed mode t) (texts-append p.front (header_line mode v ∷ after));
            other_text = edited-framed mode way g t ∙ ap (λ z. framed mode t (texts z)) second
                ∙ ap (framed mode t) (texts-append p.front (header_line mode (visit_with d v) ∷ after));
          }

      pub unheaded-print : Steady mode u → has_header mode v ≡ false → printed mode u ≡ printed mode t
      unheaded-print su h =
          printed-tree mode u su
          ∙ ap (printed_all mode) new-blocks
          ∙ unprinted w.front (w.middle ++ e.front) (e.back ++ w.back) w.block (block_of mode (visit_with d v)) (block_of mode v) h h
          ∙ ap (printed_all mode) (sym old-blocks)
          ∙ sym (printed-tree mode t st)

    -- ---- a dotted table

    module _ (dotted : v.fields.is_dotted ≡ true) where
      abbrev kept_blocks : List Block
      kept_blocks = blocks mode (node_walk c.old q (s.keys ++ (c.key ∷ [])) false)

      pub dotted-steady : Steady mode u
      dotted-steady = swapped-steady kept_blocks kept_blocks refl (c.kept mode dotted) (λ a. a)

      pub dotted-print : printed mode u ≡ printed mode t
      dotted-print =
          let w : Swapped kept_blocks kept_blocks (tree_blocks mode t) (tree_blocks mode u) =
          swapped kept_blocks kept_blocks refl (c.kept mode dotted) in
          printed-tree mode u dotted-steady ∙ ap (printed_all mode) (w.second ∙ sym w.first) ∙ sym (printed-tree mode t st)

  -- ---- the laws

  pub header_recommented : HeaderRecommented mode
  header_recommented t way s v x d made is_steady leads turn undotted h own =
      let st : Steady mode t = steady-parts mode t is_steady in
      let su : Steady mode (edited way (header_edited x d) t) =
      header-steady t way s v x d made st leads turn undotted (still-steady v d own) in
      (header-changes t way s v x d made st leads turn undotted su h, stays-steady mode way (header_edited x d) t su)

  hidden-or : (t : Tree) (way : List Turn) (s v : Visit) (x : Turn) (d : Decor) → SlotsAreWellMade t.slots → Steady mode t
      → Leads way (root_visit t) s → Leads (x ∷ []) s v
      → (b : Bool) → v.fields.is_dotted ≡ b → (b || not (has_header mode v)) ≡ true
      → (printed mode (edited way (header_edited x d) t) ≡ printed mode t) × Steady mode (edited way (header_edited x d) t)
  hidden-or t way s v x d made st leads turn true dotted h =
      (dotted-print t way s v x d made st leads turn dotted, dotted-steady t way s v x d made st leads turn dotted)
  hidden-or t way s v x d made st leads turn false undotted h =
      let none : has_header mode v ≡ false = not-true (has_header mode v) h in
      let su : Steady mode (edited way (header_edited x d) t) =
      header-steady t way s v x d made st leads turn undotted (λ a. no-header v d none) in
      (unheaded-print t way s v x d made st leads turn undotted su none, su)

  pub hidden_recommented : HiddenRecommented mode
  hidden_recommented t way s v x d made is_steady leads turn hidden =
      let g : List (Slot Node) → List (Slot Node) = header_edited x d in
      let same = hidden-or t way s v x d made (steady-parts mode t is_steady) leads turn v.fields.is_dotted refl hidden in (
        same.0,
        edited-framed mode way g t ∙ ap (λ z. framed mode t (texts z)) same.0 ∙ sym (print-framed mode t),
        stays-steady mode way g t same.1,
      )

  pub root_recommented : RootRecommented mode
  unfolding shown_meaning
  root_recommented t d is_steady =
      let r : Tree = record t { root = recommented d t.root } in
      let st : Steady mode t = steady-parts mode t is_steady in
      let su : Steady mode r =
      record {
        root = st.root;
        sound = st.sound;
        tables = (ap (λ b. b || has_steady_header (root_visit r)) (or-true t.root.is_dotted), st.tables.1);
      } in
      let list : printed mode r ≡ printed mode t = printed-tree mode r su ∙ sym (printed-tree mode t st) in
      (list, print-framed mode r ∙ ap (λ z. framed mode r (texts z)) list, steady-whole mode r su, refl)
