-- An edit of the table at the end of a way changes a part of the lines of one block, and a part of the blocks behind it.
use Rattle.std.proofs.Common.{◌≡◌, refl, sym, ◌∙◌, ap, subst, ℕ, suc, ◌+◌, arith, true, false, List, [], ◌∷◌, ◌++◌, append_assoc, inl, inr}
use Rattle.std.specs.Prelude.{◌⊎◌, ◌&&◌, if◌then◌else◌, map}
use Rattle.std.specs.List.{AllByRecursion}
use Rattle.std.proofs.lemmas.Bool.{cases_Bool}
use Rattle.toml_edit_model.specs.Mode.{Mode}
use Rattle.toml_edit_model.specs.Paths.{Step, at_key, at_element, Path, to_key, to_element}
use Rattle.toml_edit_model.specs.Tree.{Key, Extent, TableFields, Node, table, tables, Items, Slots, ItemsAreWellMade, SlotsAreWellMade}
use Rattle.toml_edit_model.specs.Tree.{Tree}
use Rattle.toml_edit_model.specs.HeaderOrder.{Visit, visit_of, node_walk, items_walk, slots_walk}
use Rattle.toml_edit_model.specs.Print.{Line, table_lines, below}
use Rattle.toml_edit_model.specs.Slots.{Slot, keyed, on_item, changed_at}
use Rattle.toml_edit_model.specs.Lists.{slot_list, slots_from, items_from, on_slots, on_items}
use Rattle.toml_edit_laws.proofs.locality.Slots.{slots_under, items_under}
use Rattle.toml_edit_laws.specs.Locality.{Turn, into_table, into_element, Leads, along, edited, root_visit, element_count}
use Rattle.toml_edit_laws.proofs.common.Tests.{if-false, false-by, true-false}
use Rattle.toml_edit_laws.proofs.common.PathLaws.{is_front, front-refl, front-more, front-through, below-last}
use Rattle.toml_edit_laws.proofs.locality.Blocks.{Block, block_of, blocks, blocks-append}
use Rattle.toml_edit_laws.proofs.locality.Under.{not-longer, slot_lines, IsLineOut, IsBlockOut}
use Rattle.toml_edit_laws.proofs.locality.Slots.{items_from-list, Found, found, change-item}
use Rattle.toml_edit_laws.proofs.locality.Elements.{counted, counted-more, items-append, item-made, later-out, earlier-out}
use Rattle.toml_edit_laws.proofs.locality.Splice.{map-widened, node-all, LineSplice, BlockSplice, widen-lines, widen-blocks, Around, around}
use Rattle.toml_edit_laws.proofs.common.Each.{all-append, all-front, all-back}

-- no element is dotted
abbrev pub IsFirmVisit : Visit → Type 0
IsFirmVisit v = (v.is_element && v.fields.is_dotted) ≡ false

pub leads-front : (way : List Turn) (s v : Visit) → Leads way s v → is_front s.path v.path ≡ true
leads-front [] s v e = subst (λ (x : Visit). is_front s.path x.path ≡ true) e (front-refl s.path)
leads-front (into_table k ∷ way) s v (l, f, ss, e, rest) =
    let p : Path = to_key s.path l.name in
    front-through s.path p v.path (front-more s.path (at_key l.name ∷ []))
    (leads-front way (visit_of p (s.keys ++ (l ∷ [])) false f ss) v rest)
leads-front (into_element k i ∷ way) s v (l, e, xs, before, f, ss, after, d, c, b, rest) =
    let r : Path = to_key s.path l.name in
    let p : Path = to_element r (element_count before) in
    front-through s.path p v.path
    (front-through s.path r p (front-more s.path (at_key l.name ∷ [])) (front-more r (at_element (element_count before) ∷ [])))
    (leads-front way (visit_of p (s.keys ++ (l ∷ [])) true f ss) v rest)

-- the visits on a way to a table, beside a path below that table
module _ (q : Path) (v : Visit) (x : Step) (above : is_front (v.path ++ (x ∷ [])) q ≡ true) where
  pub leads-above : (way : List Turn) (s : Visit) → Leads way s v → is_front s.path q ≡ true
  leads-above way s e =
      front-through s.path (v.path ++ (x ∷ [])) q
      (front-through s.path v.path (v.path ++ (x ∷ [])) (leads-front way s v e) (front-more v.path (x ∷ []))) above

  pub leads-out : (way : List Turn) (s : Visit) → Leads way s v → is_front q s.path ≡ false
  leads-out way s e =
      false-by (is_front q s.path)
      (λ d. true-false (is_front (v.path ++ (x ∷ [])) v.path)
      (front-through (v.path ++ (x ∷ [])) q v.path above (front-through q s.path v.path d (leads-front way s v e)))
      (not-longer v.path x))

module _ (mode : Mode) where
  abbrev pub tree_blocks : Tree → List Block
  tree_blocks t = block_of mode (root_visit t) ∷ blocks mode (slots_walk t.slots [] [])

  module _ (q : Path) (h : Block → Block) (v : Visit) (g : List (Slot Node) → List (Slot Node)) (M N : List Key
      → List Line) (m n : List Block) where
    -- the lines change in the block in which the table itself has lines
    pub record Here (s : Visit) (bp : Path) (lk : List Key) (ss : Slots) : Type 0 where
      pub keys : List Key
      pub at : below bp keys ≡ v.path
      pub lines : LineSplice mode q bp (M keys) (N keys) (table_lines mode s.slots lk) (table_lines mode ss lk)
      pub below_it : BlockSplice mode q h m n (blocks mode (slots_walk s.slots s.path s.keys)) (blocks mode (slots_walk ss s.path s.keys))
      pub own : ((s ≡ v) × (ss ≡ slots_under g v.slots) × (keys ≡ lk)) ⊎ (v.fields.is_dotted ≡ true)

    -- one of the blocks has other lines, and a part of the blocks behind it gives way to others
    pub record Whole (old new : List Block) : Type 0 where
      pub block : Block
      pub lines : List Line
      pub keys : List Key
      pub at : below block.path keys ≡ v.path
      pub changes : LineSplice mode q block.path (M keys) (N keys) block.lines lines
      pub front : List Block
      pub middle : List Block
      pub back : List Block
      pub first : old ≡ front ++ (block ∷ (middle ++ (m ++ back)))
      pub second : map h new ≡ map h (front ++ (record block { lines = lines } ∷ (middle ++ (n ++ back))))
      pub out_path : is_front q block.path ≡ false
      pub out_front : AllByRecursion (IsBlockOut q) front
      pub out_middle : AllByRecursion (IsBlockOut q) middle
      pub out_back : AllByRecursion (IsBlockOut q) back
      pub own : ((block ≡ block_of mode v) × (lines ≡ table_lines mode (slots_under g v.slots) []) × (keys ≡ []))
          ⊎ (v.fields.is_dotted ≡ true)

    -- the lines change in a block further below
    pub record Deep (s : Visit) (bp : Path) (lk : List Key) (ss : Slots) : Type 0 where
      pub same : table_lines mode ss lk ≡ table_lines mode s.slots lk
      pub out : AllByRecursion (IsLineOut q bp) (table_lines mode s.slots lk)
      pub whole : Whole (blocks mode (slots_walk s.slots s.path s.keys)) (blocks mode (slots_walk ss s.path s.keys))

    abbrev pub Changes : Visit → Path → List Key → Slots → Type 0
    Changes s bp lk ss = Here s bp lk ss ⊎ Deep s bp lk ss

    widen-whole : (old new x y all more : List Block) → all ≡ x ++ (old ++ y) → more ≡ x ++ (new ++ y)
        → AllByRecursion (IsBlockOut q) x → AllByRecursion (IsBlockOut q) y → Whole old new → Whole all more
    widen-whole old new x y all more e d ox oy w =
        let other : Block = record w.block { lines = w.lines } in
        record {
          block = w.block;
          lines = w.lines;
          keys = w.keys;
          at = w.at;
          changes = w.changes;
          front = x ++ w.front;
          middle = w.middle;
          back = w.back ++ y;
          first = e ∙ ap (λ z. x ++ (z ++ y)) w.first ∙ regroup w.block m w;
          second = ap (map h) d ∙ map-widened h x new (w.front ++ (other ∷ (w.middle ++ (n ++ w.back)))) y w.second
              ∙ ap (map h) (regroup other n w);
          out_path = w.out_path;
          out_front = all-append (IsBlockOut q) x w.front ox w.out_front;
          out_middle = w.out_middle;
          out_back = all-append (IsBlockOut q) w.back y w.out_back oy;
          own = w.own;
        }
      where
        regroup : (b : Block) (p : List Block) (w : Whole old new) → x ++ ((w.front ++ (b ∷ (w.middle ++ (p ++ w.back)))) ++ y)
            ≡ (x ++ w.front) ++ (b ∷ (w.middle ++ (p ++ (w.back ++ y))))
        regroup b p w = simp append_assoc

    -- a table that isn't dotted has the block that changes, or it is further below
    pub close : (s : Visit) (ss : Slots) → is_front q s.path ≡ false → Changes s s.path [] ss
        → Whole (block_of mode s ∷ blocks mode (slots_walk s.slots s.path s.keys))
        (block_of mode (visit_of s.path s.keys s.is_element s.fields ss) ∷ blocks mode (slots_walk ss s.path s.keys))
    close s ss out (inl c) =
        record {
          block = block_of mode s;
          lines = table_lines mode ss [];
          keys = c.keys;
          at = c.at;
          changes = c.lines;
          front = [];
          middle = c.below_it.front;
          back = c.below_it.back;
          first = ap (λ z. block_of mode s ∷ z) c.below_it.first;
          second = ap (λ z. h (block_of mode (visit_of s.path s.keys s.is_element s.fields ss)) ∷ z) c.below_it.second;
          out_path = out;
          out_front = tt;
          out_middle = c.below_it.out_front;
          out_back = c.below_it.out_back;
          own = elim c.own [
            | inl e ↦ inl (ap (block_of mode) e.0, ap (λ z. table_lines mode z []) e.1, e.2)
            | inr e ↦ inr e
          ];
        }
    close s ss out (inr d) =
        let w = d.whole in
        let other : Block = record w.block { lines = w.lines } in
        let stays : block_of mode (visit_of s.path s.keys s.is_element s.fields ss) ≡ block_of mode s =
        ap (λ z. record (block_of mode s) { lines = z }) d.same in
        record {
          block = w.block;
          lines = w.lines;
          keys = w.keys;
          at = w.at;
          changes = w.changes;
          front = block_of mode s ∷ w.front;
          middle = w.middle;
          back = w.back;
          first = ap (λ z. block_of mode s ∷ z) w.first;
          second = ap (λ z. h z ∷ map h (blocks mode (slots_walk ss s.path s.keys))) stays ∙ ap (λ z. h (block_of mode s) ∷ z) w.second;
          out_path = w.out_path;
          out_front = ((out, d.out), w.out_front);
          out_middle = w.out_middle;
          out_back = w.out_back;
          own = w.own;
        }

    -- ---- one step of the way

    module _ (s : Visit) (bp : Path) (lk : List Key) (l : Key) (new : Slots) where
      -- into a dotted table: its lines are of the same block
      dotted-step : (f : TableFields) (ss us : Slots) → f.is_dotted ≡ true
          → Around mode q s bp lk (keyed l (table f ss)) (keyed l (table f us)) new
          → Changes (visit_of (to_key s.path l.name) (s.keys ++ (l ∷ [])) false f ss) bp (lk ++ (l ∷ [])) us
          → Changes s bp lk new
      dotted-step f ss us e a (inl c) =
          let p : Path = to_key s.path l.name in
          let ks : List Key = s.keys ++ (l ∷ []) in
          let deeper : List Key = lk ++ (l ∷ []) in
          inl (record {
            keys = c.keys;
            at = c.at;
            lines = widen-lines mode q bp (M c.keys) (N c.keys) (table_lines mode ss deeper) (table_lines mode us deeper) a.lines_front
                a.lines_back (table_lines mode s.slots lk) (table_lines mode new lk)
                (a.old_lines ∙ ap (λ b. a.lines_front ++ ((if b then table_lines mode ss deeper else []) ++ a.lines_back)) e)
                (a.new_lines ∙ ap (λ b. a.lines_front ++ ((if b then table_lines mode us deeper else []) ++ a.lines_back)) e)
                a.out_lines_front a.out_lines_back c.lines;
            below_it = widen-blocks mode q h m n (blocks mode (slots_walk ss p ks)) (blocks mode (slots_walk us p ks)) a.front a.back
                (blocks mode (slots_walk s.slots s.path s.keys)) (blocks mode (slots_walk new s.path s.keys))
                (a.old_blocks ∙ ap (λ b. a.front ++ ((if b then blocks mode (slots_walk ss p ks)
                else block_of mode (visit_of p ks false f ss) ∷ blocks mode (slots_walk ss p ks)) ++ a.back)) e)
                (a.new_blocks ∙ ap (λ b. a.front ++ ((if b then blocks mode (slots_walk us p ks)
                else block_of mode (visit_of p ks false f us) ∷ blocks mode (slots_walk us p ks)) ++ a.back)) e)
                a.out_front a.out_back c.below_it;
            own = elim c.own [
              | inl d ↦ inr (subst (λ (x : Visit). x.fields.is_dotted ≡ true) d.0 e)
              | inr d ↦ inr d
            ];
          })
      dotted-step f ss us e a (inr d) =
          let p : Path = to_key s.path l.name in
          let ks : List Key = s.keys ++ (l ∷ []) in
          let deeper : List Key = lk ++ (l ∷ []) in
          let old : table_lines mode s.slots lk ≡ a.lines_front ++ (table_lines mode ss deeper ++ a.lines_back) =
          a.old_lines ∙ ap (λ b. a.lines_front ++ ((if b then table_lines mode ss deeper else []) ++ a.lines_back)) e in
          inr (record {
            same = a.new_lines ∙ ap (λ b. a.lines_front ++ ((if b then table_lines mode us deeper else []) ++ a.lines_back)) e
                ∙ ap (λ z. a.lines_front ++ (z ++ a.lines_back)) d.same ∙ sym old;
            out = subst (λ z. AllByRecursion (IsLineOut q bp) z) (sym old)
                (all-append (IsLineOut q bp) a.lines_front (table_lines mode ss deeper ++ a.lines_back) a.out_lines_front
                (all-append (IsLineOut q bp) (table_lines mode ss deeper) a.lines_back d.out a.out_lines_back));
            whole = widen-whole (blocks mode (slots_walk ss p ks)) (blocks mode (slots_walk us p ks)) a.front a.back
                (blocks mode (slots_walk s.slots s.path s.keys)) (blocks mode (slots_walk new s.path s.keys))
                (a.old_blocks ∙ ap (λ b. a.front ++ ((if b then blocks mode (slots_walk ss p ks)
                else block_of mode (visit_of p ks false f ss) ∷ blocks mode (slots_walk ss p ks)) ++ a.back)) e)
                (a.new_blocks ∙ ap (λ b. a.front ++ ((if b then blocks mode (slots_walk us p ks)
                else block_of mode (visit_of p ks false f us) ∷ blocks mode (slots_walk us p ks)) ++ a.back)) e)
                a.out_front a.out_back d.whole;
          })

      -- a slot without lines, of whose blocks a part changes
      deep-step : (y z : Slot Node) (old other : List Block) → Around mode q s bp lk y z new
          → slot_lines mode y.key y.item lk ≡ [] → slot_lines mode z.key z.item lk ≡ []
          → blocks mode (node_walk y.item (to_key s.path y.key.name) (s.keys ++ (y.key ∷ [])) false) ≡ old
          → blocks mode (node_walk z.item (to_key s.path z.key.name) (s.keys ++ (z.key ∷ [])) false) ≡ other
          → Whole old other → Deep s bp lk new
      deep-step y z old other a ey ez by bz w =
          let was : table_lines mode s.slots lk ≡ a.lines_front ++ a.lines_back = a.old_lines
          ∙ ap (λ x. a.lines_front ++ (x ++ a.lines_back)) ey in
          record {
            same = a.new_lines ∙ ap (λ x. a.lines_front ++ (x ++ a.lines_back)) ez ∙ sym was;
            out = subst (λ x. AllByRecursion (IsLineOut q bp) x) (sym was)
                (all-append (IsLineOut q bp) a.lines_front a.lines_back a.out_lines_front a.out_lines_back);
            whole = widen-whole old other a.front a.back (blocks mode (slots_walk s.slots s.path s.keys))
                (blocks mode (slots_walk new s.path s.keys))
                (a.old_blocks ∙ ap (λ x. a.front ++ (x ++ a.back)) by) (a.new_blocks ∙ ap (λ x. a.front ++ (x ++ a.back)) bz)
                a.out_front a.out_back w;
          }

      -- into a table with a block of its own
      table-step : (f : TableFields) (ss us : Slots) → f.is_dotted ≡ false
          → Around mode q s bp lk (keyed l (table f ss)) (keyed l (table f us)) new
          → is_front q (to_key s.path l.name) ≡ false
          → Changes (visit_of (to_key s.path l.name) (s.keys ++ (l ∷ [])) false f ss) (to_key s.path l.name) [] us
          → Deep s bp lk new
      table-step f ss us e a out c =
          let p : Path = to_key s.path l.name in
          let ks : List Key = s.keys ++ (l ∷ []) in
          let deeper : List Key = lk ++ (l ∷ []) in
          deep-step (keyed l (table f ss)) (keyed l (table f us)) (block_of mode (visit_of p ks false f ss)
          ∷ blocks mode (slots_walk ss p ks)) (block_of mode (visit_of p ks false f us) ∷ blocks mode (slots_walk us p ks)) a
          (if-false f.is_dotted (table_lines mode ss deeper) [] e)
          (if-false f.is_dotted (table_lines mode us deeper) [] e)
          (if-false f.is_dotted (blocks mode (slots_walk ss p ks)) (block_of mode (visit_of p ks false f ss)
          ∷ blocks mode (slots_walk ss p ks)) e)
          (if-false f.is_dotted (blocks mode (slots_walk us p ks)) (block_of mode (visit_of p ks false f us)
          ∷ blocks mode (slots_walk us p ks)) e)
          (close (visit_of p ks false f ss) us out c)

      -- into an element
      element-step : (e : Extent) (xs : Items) (before : List Node) (f : TableFields) (ss us : Slots) (after : List Node)
          → f.is_dotted ≡ false → xs ≡ items_from (before ++ (table f ss ∷ after))
          → Around mode q s bp lk (keyed l (tables e xs)) (keyed l (tables e (items_from (before ++ (table f us ∷ after))))) new
          → is_front (to_element (to_key s.path l.name) (element_count before)) q ≡ true
          → is_front q (to_element (to_key s.path l.name) (element_count before)) ≡ false
          → Changes (visit_of (to_element (to_key s.path l.name) (element_count before)) (s.keys ++ (l ∷ [])) true f ss)
          (to_element (to_key s.path l.name) (element_count before)) [] us
          → Deep s bp lk new
      element-step e xs before f ss us after d ex a above out c =
          let other : Items = items_from (before ++ (table f us ∷ after)) in
          deep-step (keyed l (tables e xs)) (keyed l (tables e other)) (blocks mode (items_walk xs r ks 0))
          (blocks mode (items_walk other r ks 0)) a refl refl refl refl
          (widen-whole (block_of mode (visit_of p ks true f ss) ∷ blocks mode (slots_walk ss p ks)) (block_of mode (visit_of p ks true f us)
          ∷ blocks mode (slots_walk us p ks))
          (blocks mode (items_walk (items_from before) r ks 0))
          (blocks mode (items_walk (items_from after) r ks (suc (element_count before))))
          (blocks mode (items_walk xs r ks 0)) (blocks mode (items_walk other r ks 0))
          (ap (λ z. blocks mode (items_walk z r ks 0)) ex ∙ split ss) (split us)
          (earlier-out mode q r (element_count before) above before ks 0 (omega (arith, count)))
          (later-out mode q r (element_count before) above (items_from after) ks (suc (element_count before)) (omega arith))
          (close (visit_of p ks true f ss) us out c))
        where
          r : Path
          r = to_key s.path l.name

          ks : List Key
          ks = s.keys ++ (l ∷ [])

          p : Path
          p = to_element r (element_count before)

          count : counted 0 before ≡ element_count before
          count = let n : counted 0 before ≡ 0 + element_count before = counted-more 0 before in omega arith

          split : (ss : Slots) → blocks mode (items_walk (items_from (before ++ (table f ss ∷ after))) r ks 0)
              ≡ blocks mode (items_walk (items_from before) r ks 0)
              ++ ((block_of mode (visit_of p ks true f ss) ∷ blocks mode (slots_walk ss p ks))
              ++ blocks mode (items_walk (items_from after) r ks (suc (element_count before))))
          split ss =
              let here : ℕ → List Visit = λ z. visit_of (to_element r z) ks true f ss ∷ slots_walk ss (to_element r z) ks in
              ap (blocks mode) (items-append before (table f ss ∷ after) r ks 0)
              ∙ ap (λ z. blocks mode (items_walk (items_from before) r ks 0 ++ (here z ++ items_walk (items_from after) r ks (suc z))))
              count
              ∙ blocks-append mode (items_walk (items_from before) r ks 0) (here (element_count before)
              ++ items_walk (items_from after) r ks (suc (element_count before)))
              ∙ ap (λ z. blocks mode (items_walk (items_from before) r ks 0)
              ++ z) (blocks-append mode (here (element_count before)) (items_walk (items_from after) r ks (suc (element_count before))))
              ∙ ap (λ z. blocks mode (items_walk (items_from before) r ks 0)
              ++ (z ++ blocks mode (items_walk (items_from after) r ks (suc (element_count before)))))
              (if-false f.is_dotted (blocks mode (slots_walk ss p ks)) (block_of mode (visit_of p ks true f ss)
              ∷ blocks mode (slots_walk ss p ks)) d)

    -- ---- the whole way

    module _ (x : Step) (above : is_front (v.path ++ (x ∷ [])) q ≡ true)
        (edit_lines : (bp : Path) (lk : List Key) → below bp lk ≡ v.path
        → LineSplice mode q bp (M lk) (N lk) (table_lines mode v.slots lk) (table_lines mode (slots_under g v.slots) lk))
        (edit_blocks : BlockSplice mode q h m n (blocks mode (slots_walk v.slots v.path v.keys))
        (blocks mode (slots_walk (slots_under g v.slots) v.path v.keys))) where
      pub along-changes : (way : List Turn) (s : Visit) (bp : Path) (lk : List Key) → below bp lk ≡ s.path → SlotsAreWellMade s.slots
          → AllByRecursion IsFirmVisit (slots_walk s.slots s.path s.keys) → Leads way s v
          → Changes s bp lk (slots_under (along way g) s.slots)
      along-changes [] s bp lk at w firm e =
          subst (λ (s : Visit). below bp lk ≡ s.path → Changes s bp lk (slots_under g s.slots)) (sym e)
          (λ at. inl (record { keys = lk; at = at; lines = edit_lines bp lk at; below_it = edit_blocks; own = inl (refl, refl, refl) })) at
      along-changes (into_table k ∷ way) s bp lk at w firm (l, f, ss, eq, rest) =
          let p : Path = to_key s.path l.name in
          let ks : List Key = s.keys ++ (l ∷ []) in
          let t : Visit = visit_of p ks false f ss in
          let us : Slots = slots_under (along way g) ss in
          let fd : Found k (keyed l (table f ss)) (slot_list s.slots) = found k s.slots (keyed l (table f ss)) w eq in
          let new : Slots = slots_under (along (into_table k ∷ way) g) s.slots in
          let a : Around mode q s bp lk (keyed l (table f ss)) (keyed l (table f us)) new =
          around mode q s bp lk k (keyed l (table f ss)) (keyed l (table f us)) new at (leads-above q v x above way t rest) fd
          (ap slots_from (fd.change (on_item (on_slots (along way g))))) in
          let firmer : AllByRecursion IsFirmVisit (slots_walk ss p ks) =
          (node-all IsFirmVisit k (keyed l (table f ss)) s.slots s.path s.keys fd firm).1 in
          elim (cases_Bool f.is_dotted) [
            | inl d ↦ dotted-step s bp lk l new f ss us d a
                (along-changes way t bp (lk ++ (l ∷ [])) (below-last bp lk l ∙ ap (λ z. to_key z l.name) at) fd.made firmer rest)
            | inr d ↦ inr (table-step s bp lk l new f ss us d a (leads-out q v x above way t rest)
                (along-changes way t p [] refl fd.made firmer rest))
          ]
      along-changes (into_element k i ∷ way) s bp lk at w firm (l, e, xs, before, f, ss, after, eq, items, place, rest) =
          let r : Path = to_key s.path l.name in
          let ks : List Key = s.keys ++ (l ∷ []) in
          let p : Path = to_element r (element_count before) in
          let t : Visit = visit_of p ks true f ss in
          let us : Slots = slots_under (along way g) ss in
          let fd : Found k (keyed l (tables e xs)) (slot_list s.slots) = found k s.slots (keyed l (tables e xs)) w eq in
          let new : Slots = slots_under (along (into_element k i ∷ way) g) s.slots in
          let ex : xs ≡ items_from (before ++ (table f ss ∷ after)) = sym (items_from-list xs) ∙ ap items_from items in
          let other : items_under (changed_at i (on_slots (along way g))) xs ≡ items_from (before ++ (table f us ∷ after)) =
          ap (λ z. items_from (changed_at i (on_slots (along way g)) z)) items
          ∙ ap items_from (change-item before (table f ss) after i (on_slots (along way g)) place) in
          let is_new : new ≡ slots_from (fd.front ++ ((keyed l (tables e (items_from (before ++ (table f us ∷ after))))) ∷ fd.back)) =
          ap slots_from (fd.change (on_item (on_items (changed_at i (on_slots (along way g))))))
          ∙ ap (λ z. slots_from (fd.front ++ (keyed l (tables e z) ∷ fd.back))) other in
          let higher : is_front r q ≡ true =
          front-through r p q (front-more r (at_element (element_count before) ∷ [])) (leads-above q v x above way t rest) in
          let a : Around mode q s bp lk (keyed l (tables e xs)) (keyed l (tables e (items_from (before ++ (table f us ∷ after))))) new =
          around mode q s bp lk k (keyed l (tables e xs)) (keyed l (tables e (items_from (before ++ (table f us ∷ after))))) new at higher
          fd is_new in
          let inside : AllByRecursion IsFirmVisit (items_walk (items_from (before ++ (table f ss ∷ after))) r ks 0) =
          subst (λ z. AllByRecursion IsFirmVisit (items_walk z r ks 0)) ex
          (node-all IsFirmVisit k (keyed l (tables e xs)) s.slots s.path s.keys fd firm) in
          let count : counted 0 before ≡ element_count before =
          (let n : counted 0 before ≡ 0 + element_count before = counted-more 0 before in omega arith) in
          let mine : AllByRecursion IsFirmVisit ((t ∷ slots_walk ss p ks)
          ++ items_walk (items_from after) r ks (suc (element_count before))) =
          subst (λ z. AllByRecursion IsFirmVisit ((visit_of (to_element r z) ks true f ss ∷ slots_walk ss (to_element r z) ks)
          ++ items_walk (items_from after) r ks (suc z))) count
          (all-back IsFirmVisit (items_walk (items_from before) r ks 0)
          (items_walk (items_from (table f ss ∷ after)) r ks (counted 0 before))
          (subst (λ z. AllByRecursion IsFirmVisit z) (items-append before (table f ss ∷ after) r ks 0) inside)) in
          let firmer : AllByRecursion IsFirmVisit (slots_walk ss p ks) =
          all-front IsFirmVisit (slots_walk ss p ks) (items_walk (items_from after) r ks (suc (element_count before))) mine.1 in
          let made : SlotsAreWellMade ss = item-made before (table f ss) after (subst ItemsAreWellMade ex fd.made) in
          inr (element-step s bp lk l new e xs before f ss us after mine.0 ex a (leads-above q v x above way t rest)
          (leads-out q v x above way t rest)
          (along-changes way t p [] refl made firmer rest))

      -- the blocks of the tree, that of the root first
      pub whole-tree : (way : List Turn) (t : Tree) → SlotsAreWellMade t.slots → AllByRecursion IsFirmVisit (slots_walk t.slots [] [])
          → Leads way (root_visit t) v → Whole (tree_blocks t) (tree_blocks (edited way g t))
      whole-tree way t w firm e =
          close (root_visit t) (slots_under (along way g) t.slots) (leads-out q v x above way (root_visit t) e)
          (along-changes way (root_visit t) [] [] refl w firm e)
