-- Sorts that go into tables, where the tables inside come in turn, place by place.
use Rattle.std.proofs.Common.{◌≡◌, ℕ, zero, suc, ◌<◌, ◌≤◌, Bool, true, false, List, [], ◌∷◌, length, get_or, set, refl, sym, subst}
use Rattle.std.proofs.Common.{arith}
use Rattle.toml_edit_model.specs.Tree.{InlineFields, TableFields, Node, nothing, leaf, list, inline, table, tables, Slots, no_slots, slot}
use Rattle.toml_edit_model.specs.Slots.{Slot}
use Rattle.toml_edit_model.specs.Lists.{slot_list, slots_from}
use Rattle.toml_edit_model.specs.Sorting.{ReordersItem, ReordersItems}

-- ---- what stays as it is

module _ (enters : Node → Bool) (R : List (Slot Node) → List (Slot Node) → Type 0) (rests : (es : List (Slot Node)) → R es es) where
  table_either : (b : Bool) (f : TableFields) (ss : Slots) → b ≡ enters (table f ss) → ReordersItems enters R (slot_list ss) ss
      → ReordersItem enters R (table f ss) (table f ss)
  table_either true f ss e q = rw (← e) (ss, slot_list ss, refl, rests (slot_list ss), q)
  table_either false f ss e q = rw (← e) refl

  inline_either : (b : Bool) (f : InlineFields) (ss : Slots) → b ≡ enters (inline f ss) → ReordersItems enters R (slot_list ss) ss
      → ReordersItem enters R (inline f ss) (inline f ss)
  inline_either true f ss e q = rw (← e) (ss, slot_list ss, refl, rests (slot_list ss), q)
  inline_either false f ss e q = rw (← e) refl

  mutual
    pub item-stays : (n : Node) → ReordersItem enters R n n
    item-stays (table f ss) = table_either (enters (table f ss)) f ss refl (slots-stay ss)
    item-stays (inline f ss) = inline_either (enters (inline f ss)) f ss refl (slots-stay ss)
    item-stays (leaf s spelling d) = refl
    item-stays (list f xs) = refl
    item-stays (tables e xs) = refl
    item-stays nothing = refl

    slots-stay : (ss : Slots) → ReordersItems enters R (slot_list ss) ss
    slots-stay no_slots = refl
    slots-stay (slot k n ss) = (record { key = k; item = n }, slot_list ss, refl, refl, item-stays n, slots-stay ss)

  pub list-stays : (es : List (Slot Node)) → ReordersItems enters R es (slots_from es)
  list-stays [] = refl
  list-stays (s ∷ es) = (s, es, refl, refl, item-stays s.item, list-stays es)

-- ---- the items before a place have been changed, by Q, and the others are as they were

abbrev pub Turned : (Node → Node → Type 0) → ℕ → List (Slot Node) → List (Slot Node) → Type 0
Turned Q zero mid es = mid ≡ es
Turned Q (suc n) [] [] = Unit {0}
Turned Q (suc n) [] (e ∷ es) = ⊥
Turned Q (suc n) (s ∷ mid) [] = ⊥
Turned Q (suc n) (s ∷ mid) (e ∷ es) = (s.key ≡ e.key) × Q s.item e.item × Turned Q n mid es

module _ (Q : Node → Node → Type 0) where
  first-turned : (es : List (Slot Node)) → 0 < length es → (d : Slot Node) (y : Node) → Q (get_or es 0 d).item y
      → Turned Q 1 es (set es 0 (record { key = (get_or es 0 d).key; item = y }))
  first-turned [] l d y q = absurd (omega (arith, l))
  first-turned (e ∷ es) l d y q = (refl, q, refl)

  -- the item at the place changed too
  pub turn : (n : ℕ) (mid es : List (Slot Node)) → Turned Q n mid es → n < length es → (d : Slot Node) (y : Node) → Q (get_or es n d).item y
      → Turned Q (suc n) mid (set es n (record { key = (get_or es n d).key; item = y }))
  turn zero mid es t l d y q =
      subst (λ m. Turned Q 1 m (set es 0 (record { key = (get_or es 0 d).key; item = y }))) (sym t) (first-turned es l d y q)
  turn (suc n) [] [] t l d y q = absurd (omega (arith, l))
  turn (suc n) [] (e ∷ es) t l d y q = absurd t
  turn (suc n) (s ∷ mid) [] t l d y q = absurd t
  turn (suc n) (s ∷ mid) (e ∷ es) t l d y q = (t.0, t.1, turn n mid es t.2 (omega (arith, l)) d y q)

module _ (enters : Node → Bool) (R : List (Slot Node) → List (Slot Node) → Type 0) where
  -- past the last place all are changed
  pub all-turned : (n : ℕ) (mid es : List (Slot Node)) → Turned (ReordersItem enters R) n mid es → length es ≤ n
      → ReordersItems enters R mid (slots_from es)
  all-turned zero mid [] t l = t
  all-turned zero mid (e ∷ es) t l = absurd (omega (arith, l))
  all-turned (suc n) [] [] t l = refl
  all-turned (suc n) [] (e ∷ es) t l = absurd t
  all-turned (suc n) (s ∷ mid) [] t l = absurd t
  all-turned (suc n) (s ∷ mid) (e ∷ es) t l = (s, mid, refl, t.0, t.1, all-turned n mid es t.2 (omega (arith, l)))

  -- at any place, where what is not changed counts as changed too
  pub some-turned : ((es : List (Slot Node)) → R es es) → (n : ℕ) (mid es : List (Slot Node)) → Turned (ReordersItem enters R) n mid es
      → ReordersItems enters R mid (slots_from es)
  some-turned rests zero mid es t = subst (λ m. ReordersItems enters R m (slots_from es)) (sym t) (list-stays enters R rests es)
  some-turned rests (suc n) [] [] t = refl
  some-turned rests (suc n) [] (e ∷ es) t = absurd t
  some-turned rests (suc n) (s ∷ mid) [] t = absurd t
  some-turned rests (suc n) (s ∷ mid) (e ∷ es) t = (s, mid, refl, t.0, t.1, some-turned rests n mid es t.2)
