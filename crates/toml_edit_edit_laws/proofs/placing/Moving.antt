-- A slot moved to a place among the others: their statements stay, and its own.
use Rattle.std.proofs.Common.{◌≡◌, refl, sym, ◌∙◌, ap, subst, ℕ, Bool, true, false, List, [], ◌∷◌, ◌++◌, append-nil, Some}
use Rattle.std.specs.Prelude.{◌&&◌, map, take, drop}
use Rattle.std.specs.List.{AllByRecursion}
use Rattle.std.proofs.lemmas.List.{take-append-drop}
use Rattle.toml_edit_model.specs.Mode.{Mode}
use Rattle.toml_edit_model.specs.Text.{Text, is_empty}
use Rattle.toml_edit_model.specs.Paths.{at_key, Path, to_key}
use Rattle.toml_edit_model.specs.Tree.{Key, Node, SlotsAreWellMade, Tree}
use Rattle.toml_edit_model.specs.HeaderOrder.{Visit, slots_walk}
use Rattle.toml_edit_model.specs.Print.{Line, table_lines, below, printed}
use Rattle.toml_edit_model.specs.Slots.{Slot, lookup_slot, without}
use Rattle.toml_edit_model.specs.Lists.{slot_list, slots_from}
use Rattle.toml_edit_model.specs.Rearranging.{inserted_slot, moved_slot}
use Rattle.toml_edit_laws.specs.Locality.{Turn, Leads, root_visit, edited}
use Rattle.toml_edit_laws.proofs.common.PathLaws.{front-refl}
use Rattle.toml_edit_laws.proofs.common.Each.{all-append, all-front, all-back}
use Rattle.toml_edit_laws.proofs.locality.Blocks.{Block, blocks, blocks-append, IsSteadyBlock}
use Rattle.toml_edit_laws.proofs.locality.Under.{slot_lines}
use Rattle.toml_edit_laws.proofs.locality.Slots.{HaveOtherKeys, Found, found, slots_under, slots_from-list, slot_list-from, lines-append}
use Rattle.toml_edit_laws.proofs.locality.Slots.{walk-append}
use Rattle.toml_edit_laws.proofs.locality.Splice.{LineSplice, BlockSplice, lines-split}
use Rattle.toml_edit_laws.proofs.locality.Along.{Whole, tree_blocks, whole-tree}
use Rattle.toml_edit_laws.proofs.locality.Sound.{Steady, SlotsAreSound, steady-parts, along-sound, leads-made, sound-append, sound-front}
use Rattle.toml_edit_laws.proofs.locality.Sound.{sound-back}
use Rattle.toml_edit_laws.proofs.locality.Printing.{headed-same}
use Rattle.toml_edit_laws.proofs.locality.Edited.{firm-visits, steady-tree, steady-same, whole-steady, stays-steady}
use Rattle.toml_edit_laws.proofs.locality.Removing.{removed}
use Rattle.toml_edit_laws.proofs.locality.Replacing.{itself}
use Rattle.toml_edit_laws.proofs.locality.Texts.{edited-framed}
use Rattle.toml_edit_laws.proofs.locality.Twice.{with_slots, leads-edited, edited-twice}
use Rattle.toml_edit_edit_laws.specs.Placing.{MovedOthers, MovedStaysMade}
use Rattle.toml_edit_edit_laws.proofs.placing.Lists.{Taken, taken, without-moved, lookup-there, lookup-at, others-inserted, made-moved}
use Rattle.toml_edit_edit_laws.proofs.placing.Along.{along-made}
use Rattle.toml_edit_edit_laws.proofs.placing.Inserting.{sound-between}

-- ---- sound slots

sound-at : (xs : List (Slot Node)) (s : Slot Node) (ys : List (Slot Node)) → SlotsAreSound (slots_from (xs ++ (s ∷ ys)))
    → SlotsAreSound (slots_from (s ∷ [])) × SlotsAreSound (slots_from (xs ++ ys))
sound-at xs s ys h =
    let back = sound-back xs (s ∷ ys) h in
    ((back.0, back.1, tt), sound-append xs ys (sound-front xs (s ∷ ys) h) back.2)

pub sound-moved : (i j : ℕ) (s : Slot Node) (es : List (Slot Node)) → SlotsAreSound (slots_from (inserted_slot j s es))
    → SlotsAreSound (slots_from (inserted_slot i s es))
sound-moved i j s es h =
    let own = sound-at (take j es) s (drop j es) h in
    sound-between (take i es) (drop i es) s own.0
    (subst (λ z. SlotsAreSound (slots_from z)) (take-append-drop j es ∙ sym (take-append-drop i es)) own.1)

module _ (mode : Mode) where
  -- ---- blocks

  module _ (P : Block → Type 0) (p : Path) (ks : List Key) where
    abbrev All : List (Slot Node) → Type 0
    All es = AllByRecursion P (blocks mode (slots_walk (slots_from es) p ks))

    split : (xs ys : List (Slot Node)) → blocks mode (slots_walk (slots_from (xs ++ ys)) p ks)
        ≡ blocks mode (slots_walk (slots_from xs) p ks) ++ blocks mode (slots_walk (slots_from ys) p ks)
    split xs ys =
        ap (blocks mode) (walk-append xs ys p ks) ∙ blocks-append mode (slots_walk (slots_from xs) p ks) (slots_walk (slots_from ys) p ks)

    together : (xs ys : List (Slot Node)) → All xs → All ys → All (xs ++ ys)
    together xs ys a b =
        subst (AllByRecursion P) (sym (split xs ys))
        (all-append P (blocks mode (slots_walk (slots_from xs) p ks)) (blocks mode (slots_walk (slots_from ys) p ks)) a b)

    apart : (xs ys : List (Slot Node)) → All (xs ++ ys) → All xs × All ys
    apart xs ys h =
        let both = subst (AllByRecursion P) (split xs ys) h in (
          all-front P (blocks mode (slots_walk (slots_from xs) p ks)) (blocks mode (slots_walk (slots_from ys) p ks)) both,
          all-back P (blocks mode (slots_walk (slots_from xs) p ks)) (blocks mode (slots_walk (slots_from ys) p ks)) both,
        )

    -- what holds of all blocks holds of them where a slot has moved
    all-moved : (i j : ℕ) (s : Slot Node) (es : List (Slot Node)) → All (inserted_slot j s es) → All (inserted_slot i s es)
    all-moved i j s es h =
        let old = apart (take j es) (s ∷ drop j es) h in
        let own = apart (s ∷ []) (drop j es) old.1 in
        let rest =
        apart (take i es) (drop i es)
        (subst All (take-append-drop j es ∙ sym (take-append-drop i es)) (together (take j es) (drop j es) old.0 own.1)) in
        together (take i es) (s ∷ drop i es) rest.0 (together (s ∷ []) (drop i es) own.0 rest.1)

  -- ---- lines

  empty-append : (xs ys : List Line) → is_empty (xs ++ ys) ≡ (is_empty xs && is_empty ys)
  empty-append [] ys = refl
  empty-append (x ∷ xs) ys = refl

  -- there are none where a slot and the others have none
  empty-inserted : (i : ℕ) (s : Slot Node) (es : List (Slot Node)) (lk : List Key)
      → is_empty (table_lines mode (slots_from (inserted_slot i s es)) lk)
      ≡ (is_empty (slot_lines mode s.key s.item lk) && is_empty (table_lines mode (slots_from es) lk))
  empty-inserted i s es lk =
      let own : List Line = slot_lines mode s.key s.item lk in
      let front : List Line = table_lines mode (slots_from (take i es)) lk in
      let back : List Line = table_lines mode (slots_from (drop i es)) lk in
      ap is_empty (lines-split mode (take i es) s (drop i es) lk)
      ∙ empty-append front (own ++ back) ∙ ap (λ b. is_empty front && b) (empty-append own back)
      ∙ turned (is_empty front) (is_empty own) (is_empty back)
      ∙ ap (λ b. is_empty own && b)
      (sym (empty-append front back) ∙ ap is_empty (sym (lines-append mode (take i es) (drop i es) lk))
      ∙ ap (λ z. is_empty (table_lines mode (slots_from z) lk)) (take-append-drop i es))
    where
      turned : (a b c : Bool) → (a && (b && c)) ≡ (b && (a && c))
      turned true b c = refl
      turned false true c = refl
      turned false false c = refl

  empty-around : (xs m n ys : List Line) → is_empty n ≡ is_empty m → is_empty (xs ++ (n ++ ys)) ≡ is_empty (xs ++ (m ++ ys))
  empty-around (x ∷ xs) m n ys e = refl
  empty-around [] m n ys e = empty-append n ys ∙ ap (λ b. b && is_empty ys) e ∙ sym (empty-append m ys)

  -- ---- the tree is steady

  module _ (t : Tree) (way : List Turn) (v : Visit) (k : Text) (i : ℕ) (s : Slot Node)
      (made : SlotsAreWellMade t.slots) (st : Steady mode t) (leads : Leads way (root_visit t) v)
      (is_there : lookup_slot k (slot_list v.slots) ≡ Some s) where
    abbrev g : List (Slot Node) → List (Slot Node)
    g = moved_slot k i

    abbrev u : Tree
    u = edited way g t

    abbrev q : Path
    q = to_key v.path s.key.name

    abbrev M : List Key → List Line
    M lk = table_lines mode v.slots lk

    abbrev N : List Key → List Line
    N lk = table_lines mode (slots_under g v.slots) lk

    abbrev m : List Block
    m = blocks mode (slots_walk v.slots v.path v.keys)

    abbrev n : List Block
    n = blocks mode (slots_walk (slots_under g v.slots) v.path v.keys)

    fd : Found k s (slot_list v.slots)
    fd = found k v.slots s (leads-made way (root_visit t) v made leads) is_there

    abbrev rest : List (Slot Node)
    rest = slot_list (slots_from (without k (slot_list v.slots)))

    tk : Taken k s (slot_list v.slots) rest
    tk = taken k s v.slots is_there fd

    is_old : v.slots ≡ slots_from (inserted_slot tk.at s rest)
    is_old = sym (slots_from-list v.slots) ∙ ap slots_from tk.is

    is_new : slots_under g v.slots ≡ slots_from (inserted_slot i s rest)
    is_new = ap slots_from (tk.moved i)

    edit-lines : (bp : Path) (lk : List Key) → below bp lk ≡ v.path
        → LineSplice mode q bp (M lk) (N lk) (table_lines mode v.slots lk) (table_lines mode (slots_under g v.slots) lk)
    edit-lines bp lk at =
        record { front = []; back = []; first = sym (append-nil (M lk)); second = sym (append-nil (N lk)); out_front = tt; out_back = tt }

    edit-blocks : BlockSplice mode q itself m n (blocks mode (slots_walk v.slots v.path v.keys))
        (blocks mode (slots_walk (slots_under g v.slots) v.path v.keys))
    edit-blocks =
        record {
          front = [];
          back = [];
          first = sym (append-nil m);
          second = ap (map itself) (sym (append-nil n));
          out_front = tt;
          out_back = tt;
        }

    pub moved-whole : Whole mode q itself v g M N m n (tree_blocks mode t) (tree_blocks mode u)
    moved-whole =
        whole-tree mode q itself v g M N m n (at_key s.key.name) (front-refl q) edit-lines edit-blocks way t made
        (firm-visits mode t st) leads

    new-sound : SlotsAreSound u.slots
    new-sound =
        along-sound way g (root_visit t) v made st.sound leads
        (λ w d. subst SlotsAreSound (sym is_new) (sound-moved i tk.at s rest (subst SlotsAreSound is_old d)))

    same-empty : (lk : List Key) → is_empty (N lk) ≡ is_empty (M lk)
    same-empty lk =
        ap (λ z. is_empty (table_lines mode z lk)) is_new ∙ empty-inserted i s rest lk
        ∙ sym (ap (λ z. is_empty (table_lines mode z lk)) is_old ∙ empty-inserted tk.at s rest lk)

    pub lines-empty : is_empty moved-whole.lines ≡ is_empty moved-whole.block.lines
    lines-empty =
        let c = moved-whole.changes in
        ap is_empty c.second ∙ empty-around c.front (M moved-whole.keys) (N moved-whole.keys) c.back (same-empty moved-whole.keys)
        ∙ ap is_empty (sym c.first)

    old-steady : AllByRecursion IsSteadyBlock m
    old-steady =
        let w = moved-whole in
        let all =
        all-back IsSteadyBlock w.front (w.block ∷ (w.middle ++ (m ++ w.back)))
        (subst (λ z. AllByRecursion IsSteadyBlock z) w.first (steady-tree mode t st)) in
        all-front IsSteadyBlock m w.back (all-back IsSteadyBlock w.middle (m ++ w.back) all.1)

    blocks-steady : AllByRecursion IsSteadyBlock n
    blocks-steady =
        subst (λ z. AllByRecursion IsSteadyBlock (blocks mode (slots_walk z v.path v.keys))) (sym is_new)
        (all-moved IsSteadyBlock v.path v.keys i tk.at s rest
        (subst (λ z. AllByRecursion IsSteadyBlock (blocks mode (slots_walk z v.path v.keys))) is_old old-steady))

    pub moved-steady : Steady mode u
    moved-steady =
        whole-steady mode q itself v g M N m n (λ b e. e) (λ b e. e) way t st new-sound moved-whole
        (λ e. steady-same moved-whole.block moved-whole.lines (headed-same moved-whole.block moved-whole.lines lines-empty) e) blocks-steady

    -- the slot is in its table as before
    pub moved-there : lookup_slot k (slot_list (slots_under g v.slots)) ≡ Some s
    moved-there =
        let others : HaveOtherKeys k rest = subst (λ z. HaveOtherKeys z rest) (sym fd.named) tk.others in
        ap (lookup_slot k) (slot_list-from (g (slot_list v.slots)) ∙ tk.moved i)
        ∙ lookup-there k (take i rest) s (drop i rest) (others-inserted k i rest others).0 (lookup-at k (slot_list v.slots) s is_there)

pub moved_stays_made : MovedStaysMade
moved_stays_made t way v k i s made leads is_there =
    along-made way (moved_slot k i) (root_visit t) v made leads
    (λ w.
    let fd : Found k s (slot_list v.slots) = found k v.slots s w is_there in
    let rest : List (Slot Node) = slot_list (slots_from (without k (slot_list v.slots))) in
    let tk : Taken k s (slot_list v.slots) rest = taken k s v.slots is_there fd in
    subst SlotsAreWellMade (sym (ap slots_from (tk.moved i)))
    (made-moved i tk.at s rest tk.others (subst SlotsAreWellMade (sym (slots_from-list v.slots) ∙ ap slots_from tk.is) w)))

module _ (mode : Mode) where
  -- without the slot, the tree is as it was without it
  pub moved_others : MovedOthers mode
  moved_others t way v k i s made steady leads is_there =
      let st : Steady mode t = steady-parts mode t steady in
      let g : List (Slot Node) → List (Slot Node) = moved_slot k i in
      let u : Tree = edited way g t in
      let stays = stays-steady mode way g t (moved-steady mode t way v k i s made st leads is_there) in
      let new_made : SlotsAreWellMade u.slots = moved_stays_made t way v k i s made leads is_there in
      let law = removed mode t way v k s made steady leads is_there in
      let other =
      removed mode u way (with_slots g v) k s new_made stays.2 (leads-edited way g (root_visit t) v leads)
      (moved-there mode t way v k i s made st leads is_there) in
      let same : edited way (without k) u ≡ edited way (without k) t = edited-twice way (without k) g (without k) (without-moved k i) t in
      (sym other.0 ∙ ap (printed mode) same ∙ law.0, edited-framed mode way g t, stays)
