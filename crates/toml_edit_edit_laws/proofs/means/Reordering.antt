-- What slots mean in another order.
use Rattle.std.proofs.Common.{◌≡◌, ◌⊎◌, refl, sym, ◌∙◌, ap, subst, Bool, true, false, List, [], ◌∷◌, ◌++◌, append-nil, inl, inr}
use Rattle.std.proofs.Common.{IsPermutation, arith}
use Rattle.std.specs.Prelude.{◌||◌, not, if◌then◌else◌, MatchBool}
use Rattle.std.specs.List.{list_any}
use Rattle.std.proofs.lemmas.List.Sorted.{IsPermutation-refl, IsPermutation-sym, IsPermutation-trans, IsPermutation-cons, IsPermutation-swap}
use Rattle.std.proofs.lemmas.List.Sorted.{Contains-permutation, list_any-IsPermutation}
use Rattle.toml_edit_model.specs.Paths.{Path, to_key}
use Rattle.toml_edit_model.specs.Meaning.{Fact, fact, a_table, SameFacts}
use Rattle.toml_edit_model.specs.Tree.{Key, InlineFields, TableFields, Node, nothing, leaf, list, inline, table, tables, Slots, no_slots, slot}
use Rattle.toml_edit_model.specs.Tree.{is_value_node}
use Rattle.toml_edit_model.specs.Shown.{is_table_node, shown_meaning}
use Rattle.toml_edit_model.specs.Order.{insert_by}
use Rattle.toml_edit_model.specs.Slots.{Slot, keyed}
use Rattle.toml_edit_model.specs.Sorting.{IsSortOf, name_lt, ReordersItem, ReordersItems, Reorders, sorted_item, sorted_slots}
use Rattle.toml_edit_model.specs.Lists.{slot_list, slots_from}
use Rattle.toml_edit_edit_laws.specs.Commands.{mapped, replaced_below, root_item, with_slots}
use Rattle.toml_edit_edit_laws.specs.Means.{meant_at, IsReordered, OrderMeans, ReorderMeans, SortMeans, SortedReorders}
use Rattle.toml_edit_laws.proofs.common.Members.{Among, among-left, among-right, among-cases, from-contained, to-contained}
use Rattle.toml_edit_laws.proofs.common.PathLaws.{front-refl}
use Rattle.toml_edit_laws.proofs.locality.Slots.{slots_from-list}
use Rattle.toml_edit_laws.proofs.print_meaning.FactSets.{Alike, alike-cons, alike-append, alike-same, alike-then}
use Rattle.toml_edit_laws.proofs.slots.DeepSorts.{item-stays}
use Rattle.toml_edit_edit_laws.proofs.commands.Setting.{done-is}
use Rattle.toml_edit_edit_laws.proofs.means.Facts.{facts_in, told, slots_in, any_told, slot_in, slots-cons, told-cons, slots-none, told-none}
use Rattle.toml_edit_edit_laws.proofs.means.Parts.{shown_in, seen, Replaces, ReplaceSlots}
use Rattle.toml_edit_edit_laws.proofs.means.Along.{table-facts, inline-facts, text-changes, same-facts}
use Rattle.toml_edit_edit_laws.proofs.means.Outside.{stays_at, becomes-mapped}

-- ---- the same slots in another order

-- a fact of slots is one of a slot's
slots-pick : (w : Bool) (xs : List (Slot Node)) (p : Path) (f : Fact) → Among f (slots_in w (slots_from xs) p)
    → (s : Slot Node) × Among s xs × Among f (slot_in w s p)
slots-pick w [] p f m = absurd (subst (Among f) (slots-none w p) m)
slots-pick w (x ∷ xs) p f m =
    elim (among-cases f (slot_in w x p) (slots_in w (slots_from xs) p) (subst (Among f) (slots-cons w x (slots_from xs) p) m)) [
      | inl a ↦ (x, inl refl, a)
      | inr a ↦ (let r = slots-pick w xs p f a in (r.0, inr r.1, r.2))
    ]

slots-put : (w : Bool) (xs : List (Slot Node)) (p : Path) (f : Fact) (s : Slot Node) → Among s xs → Among f (slot_in w s p)
    → Among f (slots_in w (slots_from xs) p)
slots-put w [] p f s a m = absurd a
slots-put w (x ∷ xs) p f s (inl e) m =
    subst (Among f) (sym (slots-cons w x (slots_from xs) p))
    (among-left f (slot_in w x p) (slots_in w (slots_from xs) p) (subst (λ (z : Slot Node). Among f (slot_in w z p)) e m))
slots-put w (x ∷ xs) p f s (inr a) m =
    subst (Among f) (sym (slots-cons w x (slots_from xs) p))
    (among-right f (slot_in w x p) (slots_in w (slots_from xs) p) (slots-put w xs p f s a m))

slots-told : (w : Bool) (xs : List (Slot Node)) → any_told w (slots_from xs) ≡ list_any (λ (s : Slot Node). told w s.item) xs
slots-told w [] = told-none w
slots-told w (x ∷ xs) = told-cons w x (slots_from xs) ∙ ap (λ b. told w x.item || b) (slots-told w xs)

-- an item with the same facts, and shown as the other is
record IsSame (a b : Node) : Type 0 where
  facts : (w : Bool) (p : Path) → Alike (facts_in w a p) (facts_in w b p)
  shown : (w : Bool) → told w b ≡ told w a
  is_value : is_value_node b ≡ is_value_node a
  is_table : is_table_node b ≡ is_table_node a

-- so with slots
pub record AreSame (ss us : Slots) : Type 0 where
  pub facts : (w : Bool) (p : Path) → Alike (slots_in w ss p) (slots_in w us p)
  pub shown : (w : Bool) → any_told w us ≡ any_told w ss

same-self : (a b : Node) → a ≡ b → IsSame a b
same-self a b e =
    subst (IsSame a) e
    (record { facts = λ w p. alike-same (facts_in w a p) (facts_in w a p) refl; shown = λ w. refl; is_value = refl; is_table = refl })

slots-then : (ss us vs : Slots) → AreSame ss us → AreSame us vs → AreSame ss vs
slots-then ss us vs h g =
    record {
      facts = λ w p. alike-then (slots_in w ss p) (slots_in w us p) (slots_in w vs p) (h.facts w p) (g.facts w p);
      shown = λ w. g.shown w ∙ h.shown w;
    }

pub permuted : (xs ys : List (Slot Node)) → IsPermutation xs ys → AreSame (slots_from xs) (slots_from ys)
permuted xs ys h =
    record {
      facts = λ w p. (one_way xs ys h w p, one_way ys xs (IsPermutation-sym xs ys h) w p);
      shown = λ w. slots-told w ys ∙ sym (list_any-IsPermutation (λ (s : Slot Node). told w s.item) xs ys h) ∙ sym (slots-told w xs);
    }
  where
    one_way : (xs ys : List (Slot Node)) → IsPermutation xs ys → (w : Bool) (p : Path) (f : Fact) → Among f (slots_in w (slots_from xs) p)
        → Among f (slots_in w (slots_from ys) p)
    one_way xs ys h w p f m =
        let r = slots-pick w xs p f m in
        slots-put w ys p f r.0 (from-contained r.0 ys (Contains-permutation xs ys r.0 h (to-contained r.0 xs r.1))) r.2

-- in their place
pub same-slots : (ss us : Slots) (q : Path) (w : Bool) (p : Path) → AreSame ss us → ReplaceSlots (stays_at q) w ss us p
same-slots ss us q w p h =
    record {
      facts = becomes-mapped (stays_at q) (slots_in w ss p) (slots_in w us p) refl ((h.facts w p).1, (h.facts w p).0);
      up = λ e. sym (h.shown w) ∙ e;
      down = inl (λ e. h.shown w ∙ e);
    }

table-same : (f : TableFields) (ss us : Slots) → AreSame ss us → IsSame (table f ss) (table f us)
table-same f ss us h =
    record {
      facts = λ w p.
          subst (λ z. Alike z (facts_in w (table f us) p)) (sym (table-facts w f ss p))
          (subst (λ z. Alike (fact p a_table ∷ slots_in w ss p) z) (sym (table-facts w f us p))
          (alike-cons (fact p a_table) (slots_in w ss p) (slots_in w us p) (h.facts w p)));
      shown = by_kind;
      is_value = refl;
      is_table = refl;
    }
  where
    by_kind : (w : Bool) → told w (table f us) ≡ told w (table f ss)
    by_kind true = h.shown true
    by_kind false = ap (λ b. not (f.is_dotted || f.is_implicit) || b) (h.shown false)

inline-same : (f : InlineFields) (ss us : Slots) → AreSame ss us → IsSame (inline f ss) (inline f us)
inline-same f ss us h =
    record {
      facts = λ w p.
          subst (λ z. Alike z (facts_in w (inline f us) p)) (sym (inline-facts w f ss p))
          (subst (λ z. Alike (fact p a_table ∷ slots_in true ss p) z) (sym (inline-facts w f us p))
          (alike-cons (fact p a_table) (slots_in true ss p) (slots_in true us p) (h.facts true p)));
      shown = by_kind;
      is_value = refl;
      is_table = refl;
    }
  where
    by_kind : (w : Bool) → told w (inline f us) ≡ told w (inline f ss)
    by_kind true = ap (λ b. not f.is_dotted || b) (h.shown true)
    by_kind false = ap (λ b. not f.is_dotted || b) (h.shown true)

slot-same : (x : Slot Node) (k : Key) (n : Node) (xs : List (Slot Node)) (ss : Slots) → x.key ≡ k → IsSame x.item n → AreSame (slots_from xs) ss
    → AreSame (slots_from (x ∷ xs)) (slot k n ss)
slot-same x k n xs ss e h g =
    subst (λ z. AreSame (slots_from (x ∷ xs)) (slot z n ss)) e
    (record {
      facts = λ w p.
          subst (λ z. Alike z (slots_in w (slot x.key n ss) p)) (sym (slots-cons w x (slots_from xs) p))
          (subst (λ z. Alike (slot_in w x p ++ slots_in w (slots_from xs) p) z) (sym (slots-cons w (keyed x.key n) ss p))
          (alike-append (slot_in w x p) (slot_in w (keyed x.key n) p) (slots_in w (slots_from xs) p) (slots_in w ss p)
          (by_test w p (told w x.item) (told w n) (h.shown w)) (g.facts w p)));
      shown = λ w.
          told-cons w (keyed x.key n) ss ∙ ap (λ b. b || any_told w ss) (h.shown w) ∙ ap (λ b. told w x.item || b) (g.shown w)
          ∙ sym (told-cons w x (slots_from xs));
    })
  where
    by_test : (w : Bool) (p : Path) (a b : Bool) → b ≡ a
        → Alike (if a then facts_in w x.item (to_key p x.key.name) else []) (if b then facts_in w n (to_key p x.key.name) else [])
    by_test w p true b e = subst (λ z. Alike (facts_in w x.item (to_key p x.key.name)) (if z then facts_in w n (to_key p x.key.name) else [])) (sym e)
        (h.facts w (to_key p x.key.name))
    by_test w p false b e = alike-same [] (if b then facts_in w n (to_key p x.key.name) else []) (ap (λ z. if z then facts_in w n (to_key p x.key.name) else []) (sym e))

cases : (b : Bool) (A C : Type 0) → MatchBool b A C → A ⊎ C
cases true A C h = inl h
cases false A C h = inr h

module _ (enters : Node → Bool) (R : List (Slot Node) → List (Slot Node) → Type 0)
    (permutes : (xs ys : List (Slot Node)) → R xs ys → IsPermutation xs ys) where
  mutual
    item-same : (before after : Node) → ReordersItem enters R before after → IsSame before after
    item-same before (table f ss) h =
        elim (cases (enters before) _ _ h) [
          | inl x ↦
              subst (λ z. IsSame z (table f ss)) (sym x.2)
              (table-same f x.0 ss
              (subst (λ z. AreSame z ss) (slots_from-list x.0) (slots-then (slots_from (slot_list x.0)) (slots_from x.1) ss (permuted (slot_list x.0) x.1 (permutes (slot_list x.0) x.1 x.3)) (items-same x.1 ss x.4))))
          | inr e ↦ same-self before (table f ss) e
        ]
    item-same before (inline f ss) h =
        elim (cases (enters before) _ _ h) [
          | inl x ↦
              subst (λ z. IsSame z (inline f ss)) (sym x.2)
              (inline-same f x.0 ss
              (subst (λ z. AreSame z ss) (slots_from-list x.0) (slots-then (slots_from (slot_list x.0)) (slots_from x.1) ss (permuted (slot_list x.0) x.1 (permutes (slot_list x.0) x.1 x.3)) (items-same x.1 ss x.4))))
          | inr e ↦ same-self before (inline f ss) e
        ]
    item-same before (leaf s r d) h = same-self before (leaf s r d) h
    item-same before (list f xs) h = same-self before (list f xs) h
    item-same before (tables e xs) h = same-self before (tables e xs) h
    item-same before nothing h = same-self before nothing h

    items-same : (mid : List (Slot Node)) (ss : Slots) → ReordersItems enters R mid ss → AreSame (slots_from mid) ss
    items-same mid no_slots h =
        subst (λ z. AreSame (slots_from z) no_slots) (sym h)
        (record { facts = λ w p. alike-same (slots_in w no_slots p) (slots_in w no_slots p) refl; shown = λ w. refl })
    items-same mid (slot k n ss) h =
        subst (λ z. AreSame (slots_from z) (slot k n ss)) (sym h.2)
        (slot-same h.0 k n h.1 ss h.3 (item-same h.0.item n h.4) (items-same h.1 ss h.5))

  slots-same : (ss us : Slots) → Reorders enters R (slot_list ss) (slot_list us) → AreSame ss us
  slots-same ss us h =
      subst (λ z. AreSame z us) (slots_from-list ss)
      (slots-then (slots_from (slot_list ss)) (slots_from h.0) us (permuted (slot_list ss) h.0 (permutes (slot_list ss) h.0 h.1))
      (items-same h.0 us (subst (ReordersItems enters R h.0) (slots_from-list us) h.2)))

  reordered-same : (n m : Node) → IsReordered enters R n m → IsSame n m
  reordered-same (table f ss) m h =
      subst (IsSame (table f ss)) (sym h.1) (table-same f ss h.0 (slots-same ss h.0 h.2))
  reordered-same (inline f ss) m h =
      subst (IsSame (inline f ss)) (sym h.1) (inline-same f ss h.0 (slots-same ss h.0 h.2))
  reordered-same (leaf s r d) m h = absurd h
  reordered-same (list f xs) m h = absurd h
  reordered-same (tables e xs) m h = absurd h
  reordered-same nothing m h = absurd h

same-replaces : (a b : Node) (q : Path) (s v : Bool) → IsSame a b → Replaces (stays_at q) s v a b q
same-replaces a b q s v h =
    let same : shown_in s v b ≡ shown_in s v a = ap (λ z. s || z) (h.shown v) in
    record {
      facts = becomes-mapped (stays_at q) (seen s v a q) (seen s v b q) refl (by_test (shown_in s v a) (shown_in s v b) same);
      up = λ e. sym same ∙ e;
      down = inl (λ e. same ∙ e);
      is_value = h.is_value;
      is_table = h.is_table;
    }
  where
    by_test : (x y : Bool) → y ≡ x → Alike (if y then facts_in v b q else []) (if x then facts_in v a q else [])
    by_test x true e =
        subst (λ z. Alike (facts_in v b q) (if z then facts_in v a q else [])) e ((h.facts v q).1, (h.facts v q).0)
    by_test x false e = subst (λ z. Alike [] (if z then facts_in v a q else [])) e (alike-same [] [] refl)

order_means : (R : List (Slot Node) → List (Slot Node) → Type 0) → ((xs ys : List (Slot Node)) → R xs ys → IsPermutation xs ys) → OrderMeans R
order_means R permutes t u path enters n m made at h is =
    let q : Path = meant_at t path in
    subst (SameFacts (shown_meaning u)) (append-nil (shown_meaning t))
    (same-facts (stays_at q) (shown_meaning t) (shown_meaning u) (λ f e. e)
    (text-changes (stays_at q) t u path (front-refl q) (λ p. replaced_below p m) [] (λ k p y. refl) n
    (λ y s v g w one see.
    subst (λ z. Replaces (stays_at q) s v n z q) (done-is m y g) (same-replaces n m q s v (reordered-same enters R permutes n m h)))
    made at (inl refl) (ap (λ z. mapped (with_slots t) (replaced_below z m (root_item t))) (append-nil path) ∙ is)))

pub reorder_means : ReorderMeans
reorder_means = order_means IsPermutation (λ xs ys h. h)

pub sort_means : SortMeans
sort_means lt = order_means (IsSortOf lt) (λ xs ys h. h.permutation)

-- ---- the sort by names

module _ (enters : Node → Bool) where
  abbrev before : Slot Node → Slot Node → Bool
  before s r = not (name_lt r s)

  abbrev Reordered : List (Slot Node) → List (Slot Node) → Type 0
  Reordered xs es = (mid : List (Slot Node)) × IsPermutation xs mid × ReordersItems enters IsPermutation mid (slots_from es)

  inserted : (k : Key) (n m : Node) → ReordersItem enters IsPermutation n m → (mid es : List (Slot Node))
      → ReordersItems enters IsPermutation mid (slots_from es) → Reordered (keyed k n ∷ mid) (insert_by before (keyed k m) es)
  inserted k n m h mid [] g = (keyed k n ∷ mid, IsPermutation-refl (keyed k n ∷ mid), (keyed k n, mid, refl, refl, h, g))
  inserted k n m h mid (y ∷ es) g =
      by_test (before (keyed k m) y) (inserted k n m h g.1 es g.5)
    where
      by_test : (b : Bool) → Reordered (keyed k n ∷ g.1) (insert_by before (keyed k m) es)
          → Reordered (keyed k n ∷ mid) (if b then keyed k m ∷ y ∷ es else y ∷ insert_by before (keyed k m) es)
      by_test true ih = (keyed k n ∷ mid, IsPermutation-refl (keyed k n ∷ mid), (keyed k n, mid, refl, refl, h, g))
      by_test false ih = (
        g.0 ∷ ih.0,
        subst (λ z. IsPermutation (keyed k n ∷ z) (g.0 ∷ ih.0)) (sym g.2)
            (IsPermutation-trans (keyed k n ∷ g.0 ∷ g.1) (g.0 ∷ keyed k n ∷ g.1) (g.0 ∷ ih.0)
            (IsPermutation-swap (keyed k n ∷ g.0 ∷ g.1) (g.0 ∷ keyed k n ∷ g.1) 0 1 (omega arith) (omega arith) refl)
            (IsPermutation-cons g.0 (keyed k n ∷ g.1) ih.0 ih.1)),
        (g.0, ih.0, refl, g.3, g.4, ih.2),
      )

  table-either : (b : Bool) (f : TableFields) (ss : Slots) → enters (table f ss) ≡ b → Reordered (slot_list ss) (sorted_slots enters ss)
      → ReordersItem enters IsPermutation (table f ss) (if b then table f (slots_from (sorted_slots enters ss)) else table f ss)
  table-either true f ss e h =
      subst (λ b. MatchBool b ((old : Slots) × (mid : List (Slot Node)) × (table f ss ≡ table f old) × IsPermutation (slot_list old) mid
      × ReordersItems enters IsPermutation mid (slots_from (sorted_slots enters ss))) (table f ss ≡ table f (slots_from (sorted_slots enters ss)))) (sym e)
      (ss, h.0, refl, h.1, h.2)
  table-either false f ss e h = item-stays enters IsPermutation (λ es. IsPermutation-refl es) (table f ss)

  inline-either : (b : Bool) (f : InlineFields) (ss : Slots) → enters (inline f ss) ≡ b → Reordered (slot_list ss) (sorted_slots enters ss)
      → ReordersItem enters IsPermutation (inline f ss) (if b then inline f (slots_from (sorted_slots enters ss)) else inline f ss)
  inline-either true f ss e h =
      subst (λ b. MatchBool b ((old : Slots) × (mid : List (Slot Node)) × (inline f ss ≡ inline f old) × IsPermutation (slot_list old) mid
      × ReordersItems enters IsPermutation mid (slots_from (sorted_slots enters ss))) (inline f ss ≡ inline f (slots_from (sorted_slots enters ss)))) (sym e)
      (ss, h.0, refl, h.1, h.2)
  inline-either false f ss e h = item-stays enters IsPermutation (λ es. IsPermutation-refl es) (inline f ss)

  mutual
    sorted-item : (n : Node) → ReordersItem enters IsPermutation n (sorted_item enters n)
    sorted-item (table f ss) = table-either (enters (table f ss)) f ss refl (sorted-slots ss)
    sorted-item (inline f ss) = inline-either (enters (inline f ss)) f ss refl (sorted-slots ss)
    sorted-item (leaf s r d) = refl
    sorted-item (list f xs) = refl
    sorted-item (tables e xs) = refl
    sorted-item nothing = refl

    sorted-slots : (ss : Slots) → Reordered (slot_list ss) (sorted_slots enters ss)
    sorted-slots no_slots = ([], IsPermutation-refl [], refl)
    sorted-slots (slot k n ss) =
        let h = sorted-slots ss in
        let r = inserted k n (sorted_item enters n) (sorted-item n) h.0 (sorted_slots enters ss) h.2 in (
          r.0,
          IsPermutation-trans (keyed k n ∷ slot_list ss) (keyed k n ∷ h.0) r.0 (IsPermutation-cons (keyed k n) (slot_list ss) h.0 h.1) r.1,
          r.2,
        )

pub sorted_reorders : SortedReorders
sorted_reorders enters ss = sorted-slots enters ss
