-- A command changes no item at a path apart from its own.
use Rattle.std.proofs.Common.{◌≡◌, refl, sym, ◌∙◌, ap, subst, ℕ, zero, suc, Bool, true, false, List, [], ◌∷◌, ◌++◌, map, Option, Some, None}
use Rattle.std.specs.Prelude.{slice_get, if◌then◌else◌}
use Rattle.std.specs.Fmt.{decimal}
use Rattle.std.specs.Str.Parse.{digits_value}
use Rattle.toml_edit_model.specs.Text.{Text, same_text}
use Rattle.toml_edit_model.specs.Tree.{Key, Node, nothing, leaf, list, inline, table, tables, Items, Slots, no_slots, slot, Tree}
use Rattle.toml_edit_model.specs.Tree.{is_value_node}
use Rattle.toml_edit_model.specs.Conversions.{new_inline}
use Rattle.toml_edit_model.specs.Keys.{cleared_key, new_key}
use Rattle.toml_edit_model.specs.Slots.{Slot, keyed, with_item, changed_at, lookup_slot, changed}
use Rattle.toml_edit_model.specs.Lists.{slot_list, slots_from, item_list, items_from}
use Rattle.toml_edit_model.specs.ArrayCalls.{written_at}
use Rattle.toml_edit_model.specs.Shown.{is_table_node}
use Rattle.toml_edit_edit_laws.specs.Commands.{Answer, done, mapped, number_of, kept_item, at_number, element_of, present, second, child}
use Rattle.toml_edit_edit_laws.specs.Commands.{and_then, item_below, missing, change_slot, change_element, child_changed, set_below}
use Rattle.toml_edit_edit_laws.specs.Commands.{remove_below, root_item, root_slots, with_slots, item_at}
use Rattle.toml_edit_edit_laws.specs.CommandLaws.{are_apart, SetKeepsItems, RemoveKeepsItems}
use Rattle.toml_edit_laws.proofs.common.Tests.{if-true, if-false, same_text-refl, same_text-is}
use Rattle.toml_edit_laws.proofs.locality.Slots.{slot_list-from, item_list-from}
use Rattle.toml_edit_edit_laws.proofs.commands.Going.{made-names}
use Rattle.toml_edit_edit_laws.proofs.commands.Setting.{was-mapped}
use Rattle.toml_edit_edit_laws.proofs.commands.Removing.{remove-goes-down}
use Rattle.toml_edit_laws.proofs.common.OptionSteps.{some-is}

-- ---- numbers

-- a text that names a number is its decimal
pub number-text : (x : Text) (i : ℕ) → number_of x ≡ Some i → decimal i ≡ x
number-text x i h = by_test (same_text (decimal (digits_value 10 x)) x) refl h
  where
    by_test : (b : Bool) → same_text (decimal (digits_value 10 x)) x ≡ b → (if b then Some (digits_value 10 x) else None) ≡ Some i
        → decimal i ≡ x
    by_test true e h = subst (λ n. decimal n ≡ x) (some-is (digits_value 10 x) i h) (same_text-is (decimal (digits_value 10 x)) x e)
    by_test false e h = absurd cc

one-text : (x y : Text) (i : ℕ) → number_of x ≡ Some i → number_of y ≡ Some i → x ≡ y
one-text x y i h g = sym (number-text x i h) ∙ number-text y i g

-- ---- slots

slot-other : (j k : Text) (m : Node) (ss : List (Slot Node)) → same_text j k ≡ false → lookup_slot j (changed k (with_item m) ss)
    ≡ lookup_slot j ss
slot-other j k m [] d = refl
slot-other j k m (x ∷ ss) d = by_test (same_text k x.key.name) refl (slot-other j k m ss d)
  where
    by_test : (b : Bool) → same_text k x.key.name ≡ b → lookup_slot j (changed k (with_item m) ss) ≡ lookup_slot j ss
        → lookup_slot j ((if b then with_item m x else x) ∷ changed k (with_item m) ss) ≡ lookup_slot j (x ∷ ss)
    by_test true e ih =
        let away : same_text j x.key.name ≡ false = subst (λ y. same_text j y ≡ false) (same_text-is k x.key.name e) d in
        if-false (same_text j x.key.name) (Some (keyed x.key m)) (lookup_slot j (changed k (with_item m) ss)) away ∙ ih
        ∙ sym (if-false (same_text j x.key.name) (Some x) (lookup_slot j ss) away)
    by_test false e ih = ap (λ o. if same_text j x.key.name then Some x else o) ih

pub slot-same : (k : Text) (m : Node) (ss : List (Slot Node)) (s : Slot Node) → lookup_slot k ss ≡ Some s
    → lookup_slot k (changed k (with_item m) ss) ≡ Some (keyed s.key m)
slot-same k m [] s h = absurd cc
slot-same k m (x ∷ ss) s h = by_test (same_text k x.key.name) refl h (slot-same k m ss s)
  where
    by_test : (b : Bool) → same_text k x.key.name ≡ b → (if b then Some x else lookup_slot k ss) ≡ Some s
        → (lookup_slot k ss ≡ Some s → lookup_slot k (changed k (with_item m) ss) ≡ Some (keyed s.key m))
        → lookup_slot k ((if b then with_item m x else x) ∷ changed k (with_item m) ss) ≡ Some (keyed s.key m)
    by_test true e h ih =
        if-true (same_text k x.key.name) (Some (keyed x.key m)) (lookup_slot k (changed k (with_item m) ss)) e
        ∙ ap (λ (y : Slot Node). Some (keyed y.key m)) (some-is x s h)
    by_test false e h ih = if-false (same_text k x.key.name) (Some x) (lookup_slot k (changed k (with_item m) ss)) e ∙ ih h

slot-last-other : (j : Text) (k : Key) (m : Node) (ss : List (Slot Node)) → same_text j k.name ≡ false → lookup_slot j (ss ++ (keyed (cleared_key k) m ∷ []))
    ≡ lookup_slot j ss
slot-last-other j k m [] d = if-false (same_text j k.name) (Some (keyed (cleared_key k) m)) None d
slot-last-other j k m (x ∷ ss) d = ap (λ o. if same_text j x.key.name then Some x else o) (slot-last-other j k m ss d)

pub slot-last : (k : Key) (m : Node) (ss : List (Slot Node)) → lookup_slot k.name ss ≡ None → lookup_slot k.name (ss ++ (keyed (cleared_key k) m ∷ []))
    ≡ Some (keyed (cleared_key k) m)
slot-last k m [] h = if-true (same_text k.name k.name) (Some (keyed (cleared_key k) m)) None (same_text-refl k.name)
slot-last k m (x ∷ ss) h = by_test (same_text k.name x.key.name) h (slot-last k m ss)
  where
    by_test : (b : Bool) → (if b then Some x else lookup_slot k.name ss) ≡ None
        → (lookup_slot k.name ss ≡ None → lookup_slot k.name (ss ++ (keyed (cleared_key k) m ∷ [])) ≡ Some (keyed (cleared_key k) m))
        → (if b then Some x else lookup_slot k.name (ss ++ (keyed (cleared_key k) m ∷ []))) ≡ Some (keyed (cleared_key k) m)
    by_test true h ih = absurd cc
    by_test false h ih = ih h

-- ---- elements

place-other : (i j : ℕ) (g : Node → Node) (ns : List Node) → (j ≡ i → ⊥) → slice_get (changed_at i g ns) j ≡ slice_get ns j
place-other i j g [] d = refl
place-other zero zero g (n ∷ ns) d = absurd (d refl)
place-other zero (suc j) g (n ∷ ns) d = refl
place-other (suc i) zero g (n ∷ ns) d = refl
place-other (suc i) (suc j) g (n ∷ ns) d = place-other i j g ns (λ e. d (ap suc e))

pub place-same : (i : ℕ) (g : Node → Node) (ns : List Node) (n : Node) → slice_get ns i ≡ Some n → slice_get (changed_at i g ns) i
    ≡ Some (g n)
place-same i g [] n h = absurd cc
place-same zero g (x ∷ ns) n h = ap (λ y. Some (g y)) (some-is x n h)
place-same (suc i) g (x ∷ ns) n h = place-same i g ns n h

pub record Named (is : Node → Bool) (k : Text) (ns : List Node) (x : ℕ × Node) : Type 0 where
  pub number : number_of k ≡ Some x.0
  pub item : slice_get ns x.0 ≡ Some x.1
  pub kind : is x.1 ≡ true

pub named : (is : Node → Bool) (k : Text) (ns : List Node) (x : ℕ × Node) → element_of is k ns ≡ Some x → Named is k ns x
named is k ns x h = by_number (number_of k) refl h
  where
    by_kind : (i : ℕ) (n : Node) (b : Bool) → is n ≡ b → number_of k ≡ Some i → slice_get ns i ≡ Some n → (if b then Some (i, n) else None)
        ≡ Some x → Named is k ns x
    by_kind i n true z e g h = subst (λ (y : ℕ × Node). Named is k ns y) (some-is (i, n) x h) (record { number = e; item = g; kind = z })
    by_kind i n false z e g h = absurd cc

    by_item : (i : ℕ) (o : Option Node) → number_of k ≡ Some i → slice_get ns i ≡ o → kept_item is i o ≡ Some x → Named is k ns x
    by_item i None e g h = absurd cc
    by_item i (Some n) e g h = by_kind i n (is n) refl e g h

    by_number : (o : Option ℕ) → number_of k ≡ o → at_number is ns o ≡ Some x → Named is k ns x
    by_number None e h = absurd cc
    by_number (Some i) e h = by_item i (slice_get ns i) e refl h

pub names : (is : Node → Bool) (k : Text) (ns : List Node) (i : ℕ) (n : Node) → number_of k ≡ Some i → slice_get ns i ≡ Some n → is n ≡ true
    → element_of is k ns ≡ Some (i, n)
names is k ns i n e g z = ap (at_number is ns) e ∙ ap (kept_item is i) g ∙ if-true (is n) (Some (i, n)) None z

element-other : (is : Node → Bool) (j k : Text) (g : Node → Node) (ns : List Node) (i : ℕ) → number_of k ≡ Some i → same_text j k ≡ false
    → element_of is j (changed_at i g ns) ≡ element_of is j ns
element-other is j k g ns i e d = by_number (number_of j) refl
  where
    by_number : (o : Option ℕ) → number_of j ≡ o → at_number is (changed_at i g ns) o ≡ at_number is ns o
    by_number None h = refl
    by_number (Some a) h =
        ap (kept_item is a) (place-other i a g ns (λ z. differ (one-text j k i (h ∙ ap (λ y. Some y) z) e)))
      where
        differ : j ≡ k → ⊥
        differ z = clash (subst (λ y. same_text j y ≡ false) (sym z) d)
          where
            clash : same_text j j ≡ false → ⊥
            clash c = let r : same_text j j ≡ true = same_text-refl j in absurd cc

-- ---- one segment

-- with a segment more to go, a placeholder is as good as absent
pub skip : (x : Text) (q : List Text) (l : Key) (a : Node) → and_then (item_below (x ∷ q)) (present (Some (keyed l a)))
    ≡ item_below (x ∷ q) a
skip x q l nothing = refl
skip x q l (leaf s r d) = refl
skip x q l (list f xs) = refl
skip x q l (inline f ss) = refl
skip x q l (table f ss) = refl
skip x q l (tables e xs) = refl

module _ (makes : Bool) (k : Key) (go : Node → Answer Node) where
  -- what other segments lead to
  slots-other : (j : Text) → same_text j k.name ≡ false → (ss : Slots) (o : Option (Slot Node)) (xs : List (Slot Node))
      → change_slot makes k go (slot_list ss) o ≡ done xs → lookup_slot j xs ≡ lookup_slot j (slot_list ss)
  slots-other j d ss None xs h = by_makes makes h
    where
      by_makes : (b : Bool) → mapped (λ m. slot_list ss ++ (keyed (cleared_key k) m ∷ [])) (missing b (go nothing)) ≡ done xs → lookup_slot j xs
          ≡ lookup_slot j (slot_list ss)
      by_makes false h = absurd cc
      by_makes true h =
          let m = was-mapped (λ m. slot_list ss ++ (keyed (cleared_key k) m ∷ [])) (go nothing) xs h in
          ap (lookup_slot j) m.gives ∙ slot-last-other j k m.from (slot_list ss) d
  slots-other j d ss (Some s) xs h =
      let m = was-mapped (λ m. changed k.name (with_item m) (slot_list ss)) (go s.item) xs h in
      ap (lookup_slot j) m.gives ∙ slot-other j k.name m.from (slot_list ss) d

  items-other : (is : Node → Bool) (j : Text) → same_text j k.name ≡ false → (xs : Items) (o : Option (ℕ × Node)) (ys : List Node)
      → element_of is k.name (item_list xs) ≡ o
      → change_element go (item_list xs) o ≡ done ys → element_of is j ys ≡ element_of is j (item_list xs)
  items-other is j d xs None ys e h = absurd cc
  items-other is j d xs (Some x) ys e h =
      let m = was-mapped (λ m. written_at x.0 m (item_list xs)) (go x.1) ys h in
      ap (element_of is j) m.gives ∙ element-other is j k.name (λ old. m.from) (item_list xs) x.0 (named is k.name (item_list xs) x e).number d

  child-other : (j : Text) → same_text j k.name ≡ false → (n m : Node) → child_changed makes k go n ≡ done m → child j m ≡ child j n
  child-other j d (table f ss) m h =
      let b = was-mapped (λ xs. table f (slots_from xs)) (change_slot makes k go (slot_list ss) (lookup_slot k.name (slot_list ss))) m h in
      ap (child j) b.gives ∙ ap (λ xs. present (lookup_slot j xs)) (slot_list-from b.from)
      ∙ ap present (slots-other j d ss (lookup_slot k.name (slot_list ss)) b.from b.is)
  child-other j d (inline f ss) m h =
      let b = was-mapped (λ xs. inline f (slots_from xs)) (change_slot makes k go (slot_list ss) (lookup_slot k.name (slot_list ss))) m h in
      ap (child j) b.gives ∙ ap (λ xs. present (lookup_slot j xs)) (slot_list-from b.from)
      ∙ ap present (slots-other j d ss (lookup_slot k.name (slot_list ss)) b.from b.is)
  child-other j d (list f xs) m h =
      let b = was-mapped (λ ns. list f (items_from ns)) (change_element go (item_list xs) (element_of is_value_node k.name (item_list xs))) m
      h in
      ap (child j) b.gives ∙ ap (λ ys. second (element_of is_value_node j ys)) (item_list-from b.from)
      ∙ ap second (items-other is_value_node j d xs (element_of is_value_node k.name (item_list xs)) b.from refl b.is)
  child-other j d (tables e xs) m h =
      let b = was-mapped (λ ns. tables e (items_from ns)) (change_element go (item_list xs) (element_of is_table_node k.name (item_list xs))) m
      h in
      ap (child j) b.gives ∙ ap (λ ys. second (element_of is_table_node j ys)) (item_list-from b.from)
      ∙ ap second (items-other is_table_node j d xs (element_of is_table_node k.name (item_list xs)) b.from refl b.is)
  child-other j d (leaf s r e) m h = absurd cc
  child-other j d nothing m h = by_makes makes h
    where
      by_makes : (b : Bool) → mapped (λ x. inline new_inline (slot (cleared_key k) x no_slots)) (missing b (go nothing)) ≡ done m → child j m
          ≡ None
      by_makes false h = absurd cc
      by_makes true h =
          let b = was-mapped (λ x. inline new_inline (slot (cleared_key k) x no_slots)) (go nothing) m h in
          ap (child j) b.gives ∙ ap present (if-false (same_text j k.name) (Some (keyed (cleared_key k) b.from)) None d)

  -- a value stays a value, and a table a table
  pub value-stays : (n m : Node) → child_changed makes k go n ≡ done m → is_value_node n ≡ true → is_value_node m ≡ true
  value-stays (table f ss) m h v = absurd cc
  value-stays (tables e xs) m h v = absurd cc
  value-stays (leaf s r d) m h v = absurd cc
  value-stays nothing m h v = absurd cc
  value-stays (inline f ss) m h v =
      ap is_value_node (was-mapped (λ xs. inline f (slots_from xs)) (change_slot makes k go (slot_list ss) (lookup_slot k.name (slot_list ss))) m
      h).gives
  value-stays (list f xs) m h v =
      ap is_value_node (was-mapped (λ ns. list f (items_from ns))
      (change_element go (item_list xs) (element_of is_value_node k.name (item_list xs))) m h).gives

  pub table-stays : (n m : Node) → child_changed makes k go n ≡ done m → is_table_node n ≡ true → is_table_node m ≡ true
  table-stays (table f ss) m h v =
      ap is_table_node (was-mapped (λ xs. table f (slots_from xs)) (change_slot makes k go (slot_list ss) (lookup_slot k.name (slot_list ss))) m
      h).gives
  table-stays (tables e xs) m h v = absurd cc
  table-stays (leaf s r d) m h v = absurd cc
  table-stays nothing m h v = absurd cc
  table-stays (inline f ss) m h v = absurd cc
  table-stays (list f xs) m h v = absurd cc

-- what the segment itself leads to, further down
module _ (makes : Bool) (k : Key) (go : Node → Answer Node) (x : Text) (q : List Text)
    (each : (a b : Node) → go a ≡ done b → item_below (x ∷ q) b ≡ item_below (x ∷ q) a)
    (keeps_value : (a b : Node) → go a ≡ done b → is_value_node a ≡ true → is_value_node b ≡ true)
    (keeps_table : (a b : Node) → go a ≡ done b → is_table_node a ≡ true → is_table_node b ≡ true) where
  abbrev further : Option Node → Option Node
  further o = and_then (item_below (x ∷ q)) o

  slots-same : (ss : Slots) (o : Option (Slot Node)) (xs : List (Slot Node)) → lookup_slot k.name (slot_list ss) ≡ o
      → change_slot makes k go (slot_list ss) o ≡ done xs
      → further (present (lookup_slot k.name xs)) ≡ further (present o)
  slots-same ss None xs e h = by_makes makes h
    where
      by_makes : (b : Bool) → mapped (λ m. slot_list ss ++ (keyed (cleared_key k) m ∷ [])) (missing b (go nothing)) ≡ done xs
          → further (present (lookup_slot k.name xs)) ≡ None
      by_makes false h = absurd cc
      by_makes true h =
          let m = was-mapped (λ m. slot_list ss ++ (keyed (cleared_key k) m ∷ [])) (go nothing) xs h in
          ap (λ ys. further (present (lookup_slot k.name ys))) m.gives ∙ ap (λ o. further (present o)) (slot-last k m.from (slot_list ss) e)
          ∙ skip x q (cleared_key k) m.from ∙ each nothing m.from m.is
  slots-same ss (Some s) xs e h =
      let m = was-mapped (λ m. changed k.name (with_item m) (slot_list ss)) (go s.item) xs h in
      ap (λ ys. further (present (lookup_slot k.name ys))) m.gives ∙ ap (λ o. further (present o)) (slot-same k.name m.from (slot_list ss) s e)
      ∙ skip x q s.key m.from ∙ each s.item m.from m.is ∙ sym (skip x q s.key s.item)

  items-same : (is : Node → Bool) → ((a b : Node) → go a ≡ done b → is a ≡ true → is b ≡ true)
      → (xs : Items) (o : Option (ℕ × Node)) (ys : List Node)
      → element_of is k.name (item_list xs) ≡ o → change_element go (item_list xs) o ≡ done ys → further (second (element_of is k.name ys))
      ≡ further (second o)
  items-same is keeps xs None ys e h = absurd cc
  items-same is keeps xs (Some y) ys e h =
      let m = was-mapped (λ m. written_at y.0 m (item_list xs)) (go y.1) ys h in
      let r = named is k.name (item_list xs) y e in
      ap (λ zs. further (second (element_of is k.name zs))) m.gives
      ∙ ap (λ o. further (second o))
      (names is k.name (written_at y.0 m.from (item_list xs)) y.0 m.from r.number (place-same y.0 (λ old. m.from) (item_list xs) y.1 r.item)
      (keeps y.1 m.from m.is r.kind))
      ∙ each y.1 m.from m.is

  child-same : (n m : Node) → child_changed makes k go n ≡ done m → further (child k.name m) ≡ further (child k.name n)
  child-same (table f ss) m h =
      let b = was-mapped (λ xs. table f (slots_from xs)) (change_slot makes k go (slot_list ss) (lookup_slot k.name (slot_list ss))) m h in
      ap (λ n. further (child k.name n)) b.gives ∙ ap (λ xs. further (present (lookup_slot k.name xs))) (slot_list-from b.from)
      ∙ slots-same ss (lookup_slot k.name (slot_list ss)) b.from refl b.is
  child-same (inline f ss) m h =
      let b = was-mapped (λ xs. inline f (slots_from xs)) (change_slot makes k go (slot_list ss) (lookup_slot k.name (slot_list ss))) m h in
      ap (λ n. further (child k.name n)) b.gives ∙ ap (λ xs. further (present (lookup_slot k.name xs))) (slot_list-from b.from)
      ∙ slots-same ss (lookup_slot k.name (slot_list ss)) b.from refl b.is
  child-same (list f xs) m h =
      let b = was-mapped (λ ns. list f (items_from ns)) (change_element go (item_list xs) (element_of is_value_node k.name (item_list xs))) m
      h in
      ap (λ n. further (child k.name n)) b.gives ∙ ap (λ ys. further (second (element_of is_value_node k.name ys))) (item_list-from b.from)
      ∙ items-same is_value_node keeps_value xs (element_of is_value_node k.name (item_list xs)) b.from refl b.is
  child-same (tables e xs) m h =
      let b = was-mapped (λ ns. tables e (items_from ns)) (change_element go (item_list xs) (element_of is_table_node k.name (item_list xs))) m
      h in
      ap (λ n. further (child k.name n)) b.gives ∙ ap (λ ys. further (second (element_of is_table_node k.name ys))) (item_list-from b.from)
      ∙ items-same is_table_node keeps_table xs (element_of is_table_node k.name (item_list xs)) b.from refl b.is
  child-same (leaf s r d) m h = absurd cc
  child-same nothing m h = by_makes makes h
    where
      by_makes : (b : Bool) → mapped (λ x. inline new_inline (slot (cleared_key k) x no_slots)) (missing b (go nothing)) ≡ done m
          → further (child k.name m) ≡ None
      by_makes false h = absurd cc
      by_makes true h =
          let b = was-mapped (λ x. inline new_inline (slot (cleared_key k) x no_slots)) (go nothing) m h in
          ap (λ n. further (child k.name n)) b.gives
          ∙ ap (λ o. further (present o)) (if-true (same_text k.name k.name) (Some (keyed (cleared_key k) b.from)) None (same_text-refl k.name))
          ∙ skip x q (cleared_key k) b.from ∙ each nothing b.from b.is

-- ---- the whole path

module _ {A : Type 0} (key_of : A → Key) (makes : Bool) (run : List A → Node → Answer Node)
    (goes_down : (k : A) (path : List A) (n : Node) → run (k ∷ path) n ≡ child_changed makes (key_of k) (run path) n) where
  abbrev names_of : List A → List Text
  names_of path = map (λ k. (key_of k).name) path

  down : (k : A) (path : List A) (a b : Node) → run (k ∷ path) a ≡ done b → child_changed makes (key_of k) (run path) a ≡ done b
  down k path a b h = sym (goes_down k path a) ∙ h

  pub apart-same : (path : List A) (q : List Text) (n m : Node) → are_apart q (names_of path) ≡ true → run path n ≡ done m → item_below q m ≡ item_below q n
  apart-same [] [] n m d h = absurd cc
  apart-same [] (j ∷ q) n m d h = absurd cc
  apart-same (k ∷ path) [] n m d h = absurd cc
  apart-same (k ∷ path) (j ∷ q) n m d h = by_test (same_text j (key_of k).name) refl d (apart-same path q)
    where
      further_down : (path : List A) (q : List Text) → are_apart q (names_of path) ≡ true
          → ((a b : Node) → are_apart q (names_of path) ≡ true → run path a ≡ done b → item_below q b ≡ item_below q a)
          → child_changed makes (key_of k) (run path) n ≡ done m
          → and_then (item_below q) (child (key_of k).name m) ≡ and_then (item_below q) (child (key_of k).name n)
      further_down [] [] d ih g = absurd cc
      further_down [] (x ∷ q) d ih g = absurd cc
      further_down (p ∷ path) [] d ih g = absurd cc
      further_down (p ∷ path) (x ∷ q) d ih g =
          child-same makes (key_of k) (run (p ∷ path)) x q (λ a b c. ih a b d c)
          (λ a b c. value-stays makes (key_of p) (run path) a b (down p path a b c))
          (λ a b c. table-stays makes (key_of p) (run path) a b (down p path a b c)) n m g

      by_test : (b : Bool) → same_text j (key_of k).name ≡ b → (if b then are_apart q (names_of path) else true) ≡ true
          → ((a b : Node) → are_apart q (names_of path) ≡ true → run path a ≡ done b → item_below q b ≡ item_below q a)
          → and_then (item_below q) (child j m) ≡ and_then (item_below q) (child j n)
      by_test true e d ih =
          let same : j ≡ (key_of k).name = same_text-is j (key_of k).name e in
          subst (λ y. and_then (item_below q) (child y m) ≡ and_then (item_below q) (child y n)) (sym same)
          (further_down path q d ih (down k path n m h))
      by_test false e d ih = ap (and_then (item_below q)) (child-other makes (key_of k) (run path) j e n m (down k path n m h))

-- the root stays a table, whatever the command
pub root-down : (makes : Bool) (k : Key) (go : Node → Answer Node) (t : Tree) (n : Node) → child_changed makes k go (root_item t) ≡ done n
    → n ≡ root_item (with_slots t n)
root-down makes k go t n h =
    let b = was-mapped (λ xs. table t.root (slots_from xs)) (change_slot makes k go (slot_list t.slots) (lookup_slot k.name (slot_list t.slots)))
    n h in
    b.gives ∙ ap (λ (x : Node). table t.root (root_slots x)) (sym b.gives)

pub same-at : (q : List Text) (t u : Tree) (n : Node) → u ≡ with_slots t n → n ≡ root_item (with_slots t n) → item_below q n
    ≡ item_below q (root_item t) → item_at q u ≡ item_at q t
same-at q t u n is root same = ap (item_at q) is ∙ ap (item_below q) (sym root) ∙ same

pub set_keeps_items : SetKeepsItems
set_keeps_items t u [] v h [] d = absurd cc
set_keeps_items t u [] v h (j ∷ q) d = absurd cc
set_keeps_items t u (k ∷ path) v h q d =
    let m = was-mapped (with_slots t) (set_below v (k ∷ path) (root_item t)) u h in
    same-at q t u m.from m.gives (root-down true k (set_below v path) t m.from m.is)
    (apart-same (λ k. k) true (set_below v) (λ j more n. refl) (k ∷ path) q (root_item t) m.from d m.is)

pub remove_keeps_items : RemoveKeepsItems
remove_keeps_items t u [] l h [] d = absurd cc
remove_keeps_items t u [] l h (j ∷ q) d = absurd cc
remove_keeps_items t u (k ∷ path) l h q d =
    let m = was-mapped (with_slots t) (remove_below ((k ∷ path) ++ (l ∷ [])) (root_item t)) u h in
    same-at q t u m.from m.gives
    (root-down false (new_key k) (remove_below (path ++ (l ∷ []))) t m.from (sym (remove-goes-down l [] k path (root_item t)) ∙ m.is))
    (apart-same new_key false (λ p. remove_below (p ++ (l ∷ []))) (λ j more n. remove-goes-down l [] j more n) (k ∷ path) q (root_item t)
    m.from (subst (λ p. are_apart q p ≡ true) (sym (made-names (k ∷ path))) d) m.is)
