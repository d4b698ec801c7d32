-- An edit of one table, by what it puts in the place of a part of the lines of one block, and of a part of the blocks.
use Rattle.std.proofs.Common.{◌≡◌, sym, ◌∙◌, ap, subst, true, false, List, [], ◌∷◌, ◌++◌, append_assoc}
use Rattle.std.specs.Prelude.{map}
use Rattle.std.specs.List.{AllByRecursion}
use Rattle.std.proofs.lemmas.List.{map-append}
use Rattle.toml_edit_model.specs.Mode.{Mode}
use Rattle.toml_edit_model.specs.Text.{Text}
use Rattle.toml_edit_model.specs.Paths.{Path, to_key}
use Rattle.toml_edit_model.specs.Tree.{Node, Key, Slots}
use Rattle.toml_edit_model.specs.HeaderOrder.{Visit, node_walk, slots_walk}
use Rattle.toml_edit_model.specs.Print.{Line, table_lines, below}
use Rattle.toml_edit_model.specs.Slots.{Slot}
use Rattle.toml_edit_model.specs.Lists.{slot_list, slots_from}
use Rattle.toml_edit_laws.proofs.common.PathLaws.{is_front, front-refl, below-last}
use Rattle.toml_edit_laws.proofs.locality.Blocks.{Block, blocks, blocks-append}
use Rattle.toml_edit_laws.proofs.locality.Under.{apart-keys, slot_lines, IsLineOut, IsBlockOut, slot-lines-under, node-under, lines-out}
use Rattle.toml_edit_laws.proofs.locality.Under.{blocks-out, all-blocks-append}
use Rattle.toml_edit_laws.proofs.locality.Slots.{slots_from-list, lines-append, walk-append, HaveOtherKeys, Found}
use Rattle.toml_edit_laws.proofs.common.Each.{all-append, all-front, all-back}

-- ---- lists

pub widened : {A : Type 0} (x f m b y : List A) → x ++ ((f ++ (m ++ b)) ++ y) ≡ (x ++ f) ++ (m ++ (b ++ y))
widened x f m b y = simp append_assoc

pub map-widened : {A B : Type 0} (h : A → B) (x a b y : List A) → map h a ≡ map h b → map h (x ++ (a ++ y)) ≡ map h (x ++ (b ++ y))
map-widened h x a b y e =
    map-append h x (a ++ y)
    ∙ ap (λ z. map h x ++ z) (map-append h a y ∙ ap (λ z. z ++ map h y) e ∙ sym (map-append h b y))
    ∙ sym (map-append h x (b ++ y))

-- the visits below a slot are among those below its table
pub node-all : (P : Visit → Type 0) (k : Text) (s : Slot Node) (ss : Slots) (p : Path) (ks : List Key) → Found k s (slot_list ss)
    → AllByRecursion P (slots_walk ss p ks) → AllByRecursion P (node_walk s.item (to_key p s.key.name) (ks ++ (s.key ∷ [])) false)
node-all P k s ss p ks fd h =
    let own = node_walk s.item (to_key p s.key.name) (ks ++ (s.key ∷ [])) false in
    let all : AllByRecursion P (slots_walk (slots_from (fd.front ++ (s ∷ fd.back))) p ks) =
    subst (λ z. AllByRecursion P (slots_walk z p ks)) (sym (slots_from-list ss) ∙ ap slots_from fd.is) h in
    all-front P own (slots_walk (slots_from fd.back) p ks)
    (all-back P (slots_walk (slots_from fd.front) p ks) (own ++ slots_walk (slots_from fd.back) p ks)
    (subst (λ z. AllByRecursion P z) (walk-append fd.front (s ∷ fd.back) p ks) all))

module _ (mode : Mode) where
  -- ---- the slots around one of them

  -- the other slots of a table stand outside of a path at or below one of its slots
  module _ (q p : Path) (k : Text) (above : is_front (to_key p k) q ≡ true) where
    pub other-lines-out : (bp : Path) (lk : List Key) (xs : List (Slot Node)) → below bp lk ≡ p → HaveOtherKeys k xs
        → AllByRecursion (IsLineOut q bp) (table_lines mode (slots_from xs) lk)
    other-lines-out bp lk [] e h = tt
    other-lines-out bp lk (x ∷ xs) e h =
        let r : Path = to_key p x.key.name in
        let there : below bp (lk ++ (x.key ∷ [])) ≡ r = below-last bp lk x.key ∙ ap (λ z. to_key z x.key.name) e in
        let under : is_front r (below bp (lk ++ (x.key ∷ []))) ≡ true = subst (λ z. is_front r z ≡ true) (sym there) (front-refl r) in
        all-append (IsLineOut q bp) (slot_lines mode x.key x.item lk) (table_lines mode (slots_from xs) lk)
        (lines-out q r bp (slot_lines mode x.key x.item lk) (apart-keys p q k x.key.name above h.0)
        (slot-lines-under mode bp r x.key x.item lk under))
        (other-lines-out bp lk xs e h.1)

    pub other-blocks-out : (ks : List Key) (xs : List (Slot Node)) → HaveOtherKeys k xs
        → AllByRecursion (IsBlockOut q) (blocks mode (slots_walk (slots_from xs) p ks))
    other-blocks-out ks [] h = tt
    other-blocks-out ks (x ∷ xs) h =
        let r : Path = to_key p x.key.name in
        let own = node_walk x.item r (ks ++ (x.key ∷ [])) false in
        all-blocks-append mode (IsBlockOut q) own (slots_walk (slots_from xs) p ks)
        (blocks-out q r (blocks mode own) (apart-keys p q k x.key.name above h.0) (node-under mode r x.item r (ks
        ++ (x.key ∷ [])) false (front-refl r)))
        (other-blocks-out ks xs h.1)

  pub lines-split : (xs : List (Slot Node)) (y : Slot Node) (ys : List (Slot Node)) (lk : List Key)
      → table_lines mode (slots_from (xs ++ (y ∷ ys))) lk ≡ table_lines mode (slots_from xs) lk
      ++ (slot_lines mode y.key y.item lk ++ table_lines mode (slots_from ys) lk)
  lines-split xs y ys lk = lines-append mode xs (y ∷ ys) lk

  pub blocks-split : (xs : List (Slot Node)) (y : Slot Node) (ys : List (Slot Node)) (p : Path) (ks : List Key)
      → blocks mode (slots_walk (slots_from (xs ++ (y ∷ ys))) p ks)
      ≡ blocks mode (slots_walk (slots_from xs) p ks) ++ (blocks mode (node_walk y.item (to_key p y.key.name) (ks ++ (y.key ∷ [])) false)
      ++ blocks mode (slots_walk (slots_from ys) p ks))
  blocks-split xs y ys p ks =
      let own = node_walk y.item (to_key p y.key.name) (ks ++ (y.key ∷ [])) false in
      ap (blocks mode) (walk-append xs (y ∷ ys) p ks)
      ∙ blocks-append mode (slots_walk (slots_from xs) p ks) (own ++ slots_walk (slots_from ys) p ks)
      ∙ ap (λ bs. blocks mode (slots_walk (slots_from xs) p ks) ++ bs) (blocks-append mode own (slots_walk (slots_from ys) p ks))

  -- ---- splices

  module _ (q : Path) where
    -- a part of the lines of a block gives way to others; the rest is outside of the path
    pub record LineSplice (bp : Path) (m n old new : List Line) : Type 0 where
      pub front : List Line
      pub back : List Line
      pub first : old ≡ front ++ (m ++ back)
      pub second : new ≡ front ++ (n ++ back)
      pub out_front : AllByRecursion (IsLineOut q bp) front
      pub out_back : AllByRecursion (IsLineOut q bp) back

    -- the same of blocks, of which the later ones are seen through a function
    pub record BlockSplice (h : Block → Block) (m n old new : List Block) : Type 0 where
      pub front : List Block
      pub back : List Block
      pub first : old ≡ front ++ (m ++ back)
      pub second : map h new ≡ map h (front ++ (n ++ back))
      pub out_front : AllByRecursion (IsBlockOut q) front
      pub out_back : AllByRecursion (IsBlockOut q) back

    pub widen-lines : (bp : Path) (m n old new x y all more : List Line) → all ≡ x ++ (old ++ y) → more ≡ x ++ (new ++ y)
        → AllByRecursion (IsLineOut q bp) x → AllByRecursion (IsLineOut q bp) y → LineSplice bp m n old new → LineSplice bp m n all more
    widen-lines bp m n old new x y all more e d ox oy s =
        record {
          front = x ++ s.front;
          back = s.back ++ y;
          first = e ∙ ap (λ z. x ++ (z ++ y)) s.first ∙ widened x s.front m s.back y;
          second = d ∙ ap (λ z. x ++ (z ++ y)) s.second ∙ widened x s.front n s.back y;
          out_front = all-append (IsLineOut q bp) x s.front ox s.out_front;
          out_back = all-append (IsLineOut q bp) s.back y s.out_back oy;
        }

    pub widen-blocks : (h : Block → Block) (m n old new x y all more : List Block) → all ≡ x ++ (old ++ y) → more ≡ x ++ (new ++ y)
        → AllByRecursion (IsBlockOut q) x → AllByRecursion (IsBlockOut q) y → BlockSplice h m n old new → BlockSplice h m n all more
    widen-blocks h m n old new x y all more e d ox oy s =
        record {
          front = x ++ s.front;
          back = s.back ++ y;
          first = e ∙ ap (λ z. x ++ (z ++ y)) s.first ∙ widened x s.front m s.back y;
          second = ap (map h) d ∙ map-widened h x new (s.front ++ (n ++ s.back)) y s.second ∙ ap (map h) (widened x s.front n s.back y);
          out_front = all-append (IsBlockOut q) x s.front ox s.out_front;
          out_back = all-append (IsBlockOut q) s.back y s.out_back oy;
        }

    -- One slot of a table has another in its place, at a block and below its line keys.
    pub record Around (s : Visit) (bp : Path) (lk : List Key) (y z : Slot Node) (ss : Slots) : Type 0 where
      pub lines_front : List Line
      pub lines_back : List Line
      pub old_lines : table_lines mode s.slots lk ≡ lines_front ++ (slot_lines mode y.key y.item lk ++ lines_back)
      pub new_lines : table_lines mode ss lk ≡ lines_front ++ (slot_lines mode z.key z.item lk ++ lines_back)
      pub out_lines_front : AllByRecursion (IsLineOut q bp) lines_front
      pub out_lines_back : AllByRecursion (IsLineOut q bp) lines_back
      pub front : List Block
      pub back : List Block
      pub old_blocks : blocks mode (slots_walk s.slots s.path s.keys)
          ≡ front ++ (blocks mode (node_walk y.item (to_key s.path y.key.name) (s.keys ++ (y.key ∷ [])) false) ++ back)
      pub new_blocks : blocks mode (slots_walk ss s.path s.keys)
          ≡ front ++ (blocks mode (node_walk z.item (to_key s.path z.key.name) (s.keys ++ (z.key ∷ [])) false) ++ back)
      pub out_front : AllByRecursion (IsBlockOut q) front
      pub out_back : AllByRecursion (IsBlockOut q) back

    pub around : (s : Visit) (bp : Path) (lk : List Key) (k : Text) (y z : Slot Node) (ss : Slots) → below bp lk ≡ s.path
        → is_front (to_key s.path y.key.name) q ≡ true → (fd : Found k y (slot_list s.slots)) → ss ≡ slots_from (fd.front ++ (z ∷ fd.back))
        → Around s bp lk y z ss
    around s bp lk k y z ss e above fd d =
        let old : s.slots ≡ slots_from (fd.front ++ (y ∷ fd.back)) = sym (slots_from-list s.slots) ∙ ap slots_from fd.is in
        record {
          lines_front = table_lines mode (slots_from fd.front) lk;
          lines_back = table_lines mode (slots_from fd.back) lk;
          old_lines = ap (λ x. table_lines mode x lk) old ∙ lines-split fd.front y fd.back lk;
          new_lines = ap (λ x. table_lines mode x lk) d ∙ lines-split fd.front z fd.back lk;
          out_lines_front = other-lines-out q s.path y.key.name above bp lk fd.front e fd.others_front;
          out_lines_back = other-lines-out q s.path y.key.name above bp lk fd.back e fd.others_back;
          front = blocks mode (slots_walk (slots_from fd.front) s.path s.keys);
          back = blocks mode (slots_walk (slots_from fd.back) s.path s.keys);
          old_blocks = ap (λ x. blocks mode (slots_walk x s.path s.keys)) old ∙ blocks-split fd.front y fd.back s.path s.keys;
          new_blocks = ap (λ x. blocks mode (slots_walk x s.path s.keys)) d ∙ blocks-split fd.front z fd.back s.path s.keys;
          out_front = other-blocks-out q s.path y.key.name above s.keys fd.front fd.others_front;
          out_back = other-blocks-out q s.path y.key.name above s.keys fd.back fd.others_back;
        }
