-- The facts of an item, of a table's or a value's: those of its parts, each at its path.
use Rattle.std.proofs.Common.{◌≡◌, refl, sym, ◌∙◌, ap, subst, ℕ, suc, ◌+◌, ◌<◌, ◌≤◌, arith, Bool, true, false, List, [], ◌∷◌, ◌++◌, append_assoc}
use Rattle.std.specs.Prelude.{◌||◌, ◌==◌, if◌then◌else◌, length, filter}
use Rattle.std.proofs.lemmas.Bool.{eqb-true}
use Rattle.toml_edit_model.specs.Paths.{Step, at_key, at_element, Path, to_key, to_element}
use Rattle.toml_edit_model.specs.Meaning.{Fact}
use Rattle.toml_edit_model.specs.Text.{Text}
use Rattle.toml_edit_model.specs.Tree.{Node, nothing, leaf, list, inline, table, tables, Items, no_items, item, Slots, no_slots, slot, is_value_node}
use Rattle.toml_edit_model.specs.Shown.{is_table_node, is_shown_inside, shows_inside, is_shown, shows, inside_facts, list_facts, inside_slots_facts}
use Rattle.toml_edit_model.specs.Shown.{node_facts, tables_facts, slots_facts}
use Rattle.toml_edit_model.specs.Slots.{Slot}
use Rattle.toml_edit_model.specs.Lists.{slots_from, items_from}
use Rattle.toml_edit_laws.proofs.common.Each.{all-append, all-map}
use Rattle.toml_edit_laws.proofs.common.PathLaws.{is_front, front-refl, front-more, front-through}
use Rattle.toml_edit_laws.proofs.common.Tests.{false-by, or-left, or-right}
use Rattle.toml_edit_laws.proofs.locality.Slots.{HaveOtherKeys}
use Rattle.toml_edit_laws.proofs.locality.Under.{IsApart, apart-above, apart-keys, apart-elements}
use Rattle.toml_edit_edit_laws.proofs.means.Changes.{OutOf, Below, Under}

-- ---- in a value, or in a table

abbrev pub facts_in : Bool → Node → Path → List Fact
facts_in true = inside_facts
facts_in false = node_facts

abbrev pub told : Bool → Node → Bool
told true = is_shown_inside
told false = is_shown

abbrev pub slots_in : Bool → Slots → Path → List Fact
slots_in true = inside_slots_facts
slots_in false = slots_facts

abbrev pub any_told : Bool → Slots → Bool
any_told true = shows_inside
any_told false = shows

-- the elements of an array, or of an array of tables, and which of them have facts
abbrev pub items_in : Bool → Items → Path → ℕ → List Fact
items_in true = list_facts
items_in false = tables_facts

abbrev pub kind : Bool → Node → Bool
kind true = is_value_node
kind false = is_table_node

abbrev pub count : Bool → List Node → ℕ
count v ns = length (filter (kind v) ns)

-- the facts of a slot
abbrev pub slot_in : Bool → Slot Node → Path → List Fact
slot_in v s p = if told v s.item then facts_in v s.item (to_key p s.key.name) else []

-- ---- parts

pub slots-cons : (v : Bool) (x : Slot Node) (ss : Slots) (p : Path) → slots_in v (slot x.key x.item ss) p ≡ slot_in v x p ++ slots_in v ss p
slots-cons true x ss p = refl
slots-cons false x ss p = refl

pub told-cons : (v : Bool) (x : Slot Node) (ss : Slots) → any_told v (slot x.key x.item ss) ≡ (told v x.item || any_told v ss)
told-cons true x ss = refl
told-cons false x ss = refl

pub items-cons : (v : Bool) (x : Node) (xs : Items) (p : Path) (n : ℕ)
    → items_in v (item x xs) p n
    ≡ (if kind v x then facts_in v x (to_element p n) ++ items_in v xs p (suc n) else items_in v xs p n)
items-cons true x xs p n = refl
items-cons false x xs p n = refl

pub slots-none : (v : Bool) (p : Path) → slots_in v no_slots p ≡ []
slots-none true p = refl
slots-none false p = refl

pub told-none : (v : Bool) → any_told v no_slots ≡ false
told-none true = refl
told-none false = refl

pub items-none : (v : Bool) (p : Path) (n : ℕ) → items_in v no_items p n ≡ []
items-none true p n = refl
items-none false p n = refl

pub slots-append : (v : Bool) (xs ys : List (Slot Node)) (p : Path)
    → slots_in v (slots_from (xs ++ ys)) p ≡ slots_in v (slots_from xs) p ++ slots_in v (slots_from ys) p
slots-append v [] ys p = ap (λ fs. fs ++ slots_in v (slots_from ys) p) (sym (slots-none v p))
slots-append v (x ∷ xs) ys p =
    slots-cons v x (slots_from (xs ++ ys)) p ∙ ap (λ fs. slot_in v x p ++ fs) (slots-append v xs ys p)
    ∙ sym (append_assoc (slot_in v x p) (slots_in v (slots_from xs) p) (slots_in v (slots_from ys) p))
    ∙ ap (λ fs. fs ++ slots_in v (slots_from ys) p) (sym (slots-cons v x (slots_from xs) p))

or-group : (a b c : Bool) → (a || (b || c)) ≡ ((a || b) || c)
or-group true b c = refl
or-group false b c = refl

pub told-append : (v : Bool) (xs ys : List (Slot Node)) → any_told v (slots_from (xs ++ ys))
    ≡ (any_told v (slots_from xs) || any_told v (slots_from ys))
told-append v [] ys = ap (λ b. b || any_told v (slots_from ys)) (sym (told-none v))
told-append v (x ∷ xs) ys =
    told-cons v x (slots_from (xs ++ ys)) ∙ ap (λ b. told v x.item || b) (told-append v xs ys)
    ∙ or-group (told v x.item) (any_told v (slots_from xs)) (any_told v (slots_from ys))
    ∙ ap (λ b. b || any_told v (slots_from ys)) (sym (told-cons v x (slots_from xs)))

-- one slot among others
pub slots-around : (v : Bool) (xs : List (Slot Node)) (s : Slot Node) (ys : List (Slot Node)) (p : Path)
    → slots_in v (slots_from (xs ++ (s ∷ ys))) p ≡ slots_in v (slots_from xs) p ++ (slot_in v s p ++ slots_in v (slots_from ys) p)
slots-around v xs s ys p =
    slots-append v xs (s ∷ ys) p ∙ ap (λ fs. slots_in v (slots_from xs) p ++ fs) (slots-cons v s (slots_from ys) p)

pub told-around : (v : Bool) (xs : List (Slot Node)) (s : Slot Node) (ys : List (Slot Node))
    → any_told v (slots_from (xs ++ (s ∷ ys))) ≡ (any_told v (slots_from xs) || (told v s.item || any_told v (slots_from ys)))
told-around v xs s ys = told-append v xs (s ∷ ys) ∙ ap (λ b. any_told v (slots_from xs) || b) (told-cons v s (slots_from ys))

-- what shows nothing has no facts
pub untold : (v : Bool) (ss : Slots) (p : Path) → any_told v ss ≡ false → slots_in v ss p ≡ []
untold v no_slots p h = slots-none v p
untold v (slot k n ss) p h =
    let s : Slot Node = record { key = k; item = n } in
    let no : (told v n || any_told v ss) ≡ false = sym (told-cons v s ss) ∙ h in
    slots-cons v s ss p
    ∙ ap (λ b. (if b then facts_in v n (to_key p k.name) else []) ++ slots_in v ss p) (or-left (told v n) (any_told v ss) no)
    ∙ untold v ss p (or-right (told v n) (any_told v ss) no)

-- ---- elements, which are numbered

pub items-append : (v : Bool) (xs ys : List Node) (p : Path) (n m : ℕ) → m ≡ n + count v xs
    → items_in v (items_from (xs ++ ys)) p n ≡ items_in v (items_from xs) p n ++ items_in v (items_from ys) p m
items-append v [] ys p n m e =
    let same : n ≡ m = omega (arith, e) in
    ap (items_in v (items_from ys) p) same ∙ ap (λ fs. fs ++ items_in v (items_from ys) p m) (sym (items-none v p n))
items-append v (x ∷ xs) ys p n m e =
    items-cons v x (items_from (xs ++ ys)) p n
    ∙ by_test (kind v x) e (λ k. items-append v xs ys p (suc n) m k) (λ k. items-append v xs ys p n m k)
    ∙ ap (λ fs. fs ++ items_in v (items_from ys) p m) (sym (items-cons v x (items_from xs) p n))
  where
    own : List Fact
    own = facts_in v x (to_element p n)

    by_test : (b : Bool) → m ≡ n + length (if b then x ∷ filter (kind v) xs else filter (kind v) xs)
        → (m ≡ suc n + count v xs → items_in v (items_from (xs ++ ys)) p (suc n)
        ≡ items_in v (items_from xs) p (suc n) ++ items_in v (items_from ys) p m)
        → (m ≡ n + count v xs → items_in v (items_from (xs ++ ys)) p n ≡ items_in v (items_from xs) p n ++ items_in v (items_from ys) p m)
        → (if b then own ++ items_in v (items_from (xs ++ ys)) p (suc n) else items_in v (items_from (xs ++ ys)) p n)
        ≡ (if b then own ++ items_in v (items_from xs) p (suc n) else items_in v (items_from xs) p n) ++ items_in v (items_from ys) p m
    by_test true e ih same =
        ap (λ fs. own ++ fs) (ih (omega (arith, e)))
        ∙ sym (append_assoc own (items_in v (items_from xs) p (suc n)) (items_in v (items_from ys) p m))
    by_test false e next ih = ih e

pub items-around : (v : Bool) (xs : List Node) (x : Node) (ys : List Node) (p : Path) → kind v x ≡ true
    → items_in v (items_from (xs ++ (x ∷ ys))) p 0
    ≡ items_in v (items_from xs) p 0
    ++ (facts_in v x (to_element p (count v xs)) ++ items_in v (items_from ys) p (suc (count v xs)))
items-around v xs x ys p h =
    items-append v xs (x ∷ ys) p 0 (count v xs) (omega arith)
    ∙ ap (λ fs. items_in v (items_from xs) p 0 ++ fs)
    (items-cons v x (items_from ys) p (count v xs)
    ∙ ap (λ b. if b then facts_in v x (to_element p (count v xs)) ++ items_in v (items_from ys) p (suc (count v xs))
    else items_in v (items_from ys) p (count v xs)) h)

-- ---- paths

module _ (r : Path) where
  further : (p : Path) (x : Step) → is_front r p ≡ true → is_front r (p ++ (x ∷ [])) ≡ true
  further p x h = front-through r p (p ++ (x ∷ [])) h (front-more p (x ∷ []))

  pub if-below : (b : Bool) (xs ys : List Fact) → Below r xs → Below r ys → Below r (if b then xs else ys)
  if-below true xs ys h g = h
  if-below false xs ys h g = g

  both-below : (xs ys : List Fact) → Below r xs → Below r ys → Below r (xs ++ ys)
  both-below xs ys h g = all-append (λ (f : Fact). is_front r f.path ≡ true) xs ys h g

  mutual
    inside-below : (n : Node) (p : Path) → is_front r p ≡ true → Below r (inside_facts n p)
    inside-below (leaf s a d) p h = (h, tt)
    inside-below (list f xs) p h = (h, list-below xs p 0 h)
    inside-below (inline f ss) p h = (h, inside-slots-below ss p h)
    inside-below (table f ss) p h = (h, inside-slots-below ss p h)
    inside-below (tables e xs) p h = tt
    inside-below nothing p h = tt

    list-below : (xs : Items) (p : Path) (n : ℕ) → is_front r p ≡ true → Below r (list_facts xs p n)
    list-below no_items p n h = tt
    list-below (item x xs) p n h =
        if-below (is_value_node x) (inside_facts x (to_element p n) ++ list_facts xs p (suc n)) (list_facts xs p n)
        (both-below (inside_facts x (to_element p n)) (list_facts xs p (suc n))
        (inside-below x (to_element p n) (further p (at_element n) h)) (list-below xs p (suc n) h))
        (list-below xs p n h)

    inside-slots-below : (ss : Slots) (p : Path) → is_front r p ≡ true → Below r (inside_slots_facts ss p)
    inside-slots-below no_slots p h = tt
    inside-slots-below (slot k n ss) p h =
        both-below (if is_shown_inside n then inside_facts n (to_key p k.name) else []) (inside_slots_facts ss p)
        (if-below (is_shown_inside n) (inside_facts n (to_key p k.name)) [] (inside-below n (to_key p k.name) (further p (at_key k.name) h)) tt)
        (inside-slots-below ss p h)

  mutual
    node-below : (n : Node) (p : Path) → is_front r p ≡ true → Below r (node_facts n p)
    node-below (table f ss) p h = (h, slots-below ss p h)
    node-below (tables e xs) p h = (h, tables-below xs p 0 h)
    node-below (leaf s a d) p h = inside-below (leaf s a d) p h
    node-below (list f xs) p h = inside-below (list f xs) p h
    node-below (inline f ss) p h = inside-below (inline f ss) p h
    node-below nothing p h = tt

    tables-below : (xs : Items) (p : Path) (n : ℕ) → is_front r p ≡ true → Below r (tables_facts xs p n)
    tables-below no_items p n h = tt
    tables-below (item x xs) p n h =
        if-below (is_table_node x) (node_facts x (to_element p n) ++ tables_facts xs p (suc n)) (tables_facts xs p n)
        (both-below (node_facts x (to_element p n)) (tables_facts xs p (suc n))
        (node-below x (to_element p n) (further p (at_element n) h)) (tables-below xs p (suc n) h))
        (tables-below xs p n h)

    slots-below : (ss : Slots) (p : Path) → is_front r p ≡ true → Below r (slots_facts ss p)
    slots-below no_slots p h = tt
    slots-below (slot k n ss) p h =
        both-below (if is_shown n then node_facts n (to_key p k.name) else []) (slots_facts ss p)
        (if-below (is_shown n) (node_facts n (to_key p k.name)) [] (node-below n (to_key p k.name) (further p (at_key k.name) h)) tt)
        (slots-below ss p h)

-- an item's facts are at its path or below it
pub facts-below : (v : Bool) (n : Node) (p : Path) → Below p (facts_in v n p)
facts-below true n p = inside-below p n p (front-refl p)
facts-below false n p = node-below p n p (front-refl p)

-- so are a slot's
pub slot-below : (v : Bool) (s : Slot Node) (p : Path) → Below (to_key p s.key.name) (slot_in v s p)
slot-below v s p =
    let r : Path = to_key p s.key.name in
    if-below r (told v s.item) (facts_in v s.item r) [] (facts-below v s.item r) tt

-- those of slots and of elements are below the path of what holds them
step-under : (p : Path) (x : Step) (fs : List Fact) → Below (p ++ (x ∷ [])) fs → Under p fs
step-under p x fs h =
    all-map (λ (f : Fact). is_front (p ++ (x ∷ [])) f.path ≡ true) (λ (f : Fact). is_front f.path p ≡ false) fs (λ f e. apart-above p f.path x e) h

pub slots-under : (v : Bool) (ss : Slots) (p : Path) → Under p (slots_in v ss p)
slots-under v no_slots p = subst (Under p) (sym (slots-none v p)) tt
slots-under v (slot k n ss) p =
    let s : Slot Node = record { key = k; item = n } in
    subst (Under p) (sym (slots-cons v s ss p))
    (all-append (λ (f : Fact). is_front f.path p ≡ false) (slot_in v s p) (slots_in v ss p)
    (step-under p (at_key k.name) (slot_in v s p) (slot-below v s p)) (slots-under v ss p))

pub items-under : (v : Bool) (xs : Items) (p : Path) (n : ℕ) → Under p (items_in v xs p n)
items-under v no_items p n = subst (Under p) (sym (items-none v p n)) tt
items-under v (item x xs) p n =
    let own : List Fact = facts_in v x (to_element p n) in
    subst (Under p) (sym (items-cons v x xs p n))
    (by_test (kind v x)
    (all-append (λ (f : Fact). is_front f.path p ≡ false) own (items_in v xs p (suc n))
    (step-under p (at_element n) own (facts-below v x (to_element p n))) (items-under v xs p (suc n)))
    (items-under v xs p n))
  where
    by_test : (b : Bool) → Under p (facts_in v x (to_element p n) ++ items_in v xs p (suc n)) → Under p (items_in v xs p n)
        → Under p (if b then facts_in v x (to_element p n) ++ items_in v xs p (suc n) else items_in v xs p n)
    by_test true h g = h
    by_test false h g = g

pub apart-out : (v : Bool) (n : Node) (q r : Path) → IsApart q r → OutOf q (facts_in v n r)
apart-out v n q r a =
    all-map (λ (f : Fact). is_front r f.path ≡ true) (λ (f : Fact). is_front q f.path ≡ false) (facts_in v n r) (λ f h. a f.path h) (facts-below v n r)

pub if-out : (q : Path) (b : Bool) (xs ys : List Fact) → OutOf q xs → OutOf q ys → OutOf q (if b then xs else ys)
if-out q true xs ys h g = h
if-out q false xs ys h g = g

pub both-out : (q : Path) (xs ys : List Fact) → OutOf q xs → OutOf q ys → OutOf q (xs ++ ys)
both-out q xs ys h g = all-append (λ (f : Fact). is_front q f.path ≡ false) xs ys h g

-- the slots of other keys are elsewhere
pub others-out : (v : Bool) (p q : Path) (k : Text) (xs : List (Slot Node)) → is_front (to_key p k) q ≡ true → HaveOtherKeys k xs
    → OutOf q (slots_in v (slots_from xs) p)
others-out v p q k [] h o = subst (OutOf q) (sym (slots-none v p)) tt
others-out v p q k (x ∷ xs) h o =
    let r : Path = to_key p x.key.name in
    subst (OutOf q) (sym (slots-cons v x (slots_from xs) p))
    (both-out q (slot_in v x p) (slots_in v (slots_from xs) p)
    (if-out q (told v x.item) (facts_in v x.item r) [] (apart-out v x.item q r (apart-keys p q k x.key.name h o.0)) tt)
    (others-out v p q k xs h o.1))

-- so are the elements of other numbers
module _ (v : Bool) (r q : Path) (m : ℕ) (above : is_front (to_element r m) q ≡ true) where
  element-out : (x : Node) (n : ℕ) → (m ≡ n → ⊥) → OutOf q (facts_in v x (to_element r n))
  element-out x n d =
      apart-out v x q (to_element r n) (apart-elements r q m n above (false-by (m == n) (λ e. d (eqb-true m n e))))

  pub later-out : (xs : List Node) (n : ℕ) → m < n → OutOf q (items_in v (items_from xs) r n)
  later-out [] n h = subst (OutOf q) (sym (items-none v r n)) tt
  later-out (x ∷ xs) n h =
      subst (OutOf q) (sym (items-cons v x (items_from xs) r n))
      (if-out q (kind v x) (facts_in v x (to_element r n) ++ items_in v (items_from xs) r (suc n)) (items_in v (items_from xs) r n)
      (both-out q (facts_in v x (to_element r n)) (items_in v (items_from xs) r (suc n)) (element-out x n (λ e. absurd (omega arith)))
      (later-out xs (suc n) (omega arith)))
      (later-out xs n h))

  pub earlier-out : (xs : List Node) (n : ℕ) → n + count v xs ≤ m → OutOf q (items_in v (items_from xs) r n)
  earlier-out [] n h = subst (OutOf q) (sym (items-none v r n)) tt
  earlier-out (x ∷ xs) n h =
      subst (OutOf q) (sym (items-cons v x (items_from xs) r n))
      (by_test (kind v x) h (λ e. earlier-out xs (suc n) e) (λ e. earlier-out xs n e))
    where
      by_test : (b : Bool) → n + length (if b then x ∷ filter (kind v) xs else filter (kind v) xs) ≤ m
          → (suc n + count v xs ≤ m → OutOf q (items_in v (items_from xs) r (suc n)))
          → (n + count v xs ≤ m → OutOf q (items_in v (items_from xs) r n))
          → OutOf q (if b then facts_in v x (to_element r n) ++ items_in v (items_from xs) r (suc n) else items_in v (items_from xs) r n)
      by_test true h next same =
          let z : length (x ∷ filter (kind v) xs) ≡ suc (count v xs) = omega arith in
          both-out q (facts_in v x (to_element r n)) (items_in v (items_from xs) r (suc n)) (element-out x n (λ e. absurd (omega arith)))
          (next (omega arith))
      by_test false h next same = same h
