-- Equality of values, by what each kind holds.
use Rattle.std.proofs.Common.{◌≡◌, ◌∙◌, refl, sym, ap, subst, arith, cond, inl, inr, ℕ, zero, suc, ◌+◌, ◌<◌, ◌≤◌, Bool, true, false, List, [], ◌∷◌, length, drop, get_or, Option, Some, None, Bor}
use Rattle.std.proofs.lemmas.List.{drop_more}
use Rattle.std.proofs.lemmas.Bool.{cases_Bool, lt-ltb, ltb-false, ltb-true}
use Rattle.std.proofs.lemmas.List.Sums.{position_or_len_is}
use Rattle.std.specs.List.{position_or_len}
use Rattle.std.specs.Prelude.{◌&&◌, if◌then◌else◌, nat_lt, option_and_then, option_map, slice_get}
use Rattle.std.specs.Option.{option_eq, option_map_or}
use Rattle.toml_edit_datetime.specs.DateView.{date_view}
use Rattle.toml_edit_datetime.specs.DatetimeView.{datetime_view}
use Rattle.toml_edit_datetime.specs.OffsetView.{offset_view}
use Rattle.toml_edit_datetime.specs.TimeView.{time_view}
use Rattle.toml_edit_datetime.specs.contracts.date.DatePartialEq.TheImpl.{ghosts as date_ghosts}
use Rattle.toml_edit_datetime.specs.contracts.datetime.OffsetPartialEq.TheImpl.{ghosts as offset_ghosts}
use Rattle.toml_edit_datetime.specs.contracts.time.TimePartialEq.TheImpl.{ghosts as time_ghosts}
use Rattle.toml_edit_datetime.specs.declared.date.Date as date
use Rattle.toml_edit_datetime.specs.declared.datetime.Offset as offset
use Rattle.toml_edit_datetime.specs.declared.time.Time as time
use Rattle.toml_edit_datetime.specs.declared.datetime.Datetime as code
use Rattle.toml_edit_datetime.specs.contracts.datetime.DatetimePartialEq.TheImpl.{ghosts}
use Rattle.toml_edit_model.specs.ArrayCalls.{value_at}
use Rattle.toml_edit_model.specs.Lists.{only}
use Rattle.toml_edit_model.specs.Scalars.{Datetime, string, integer, float, boolean, datetime}
use Rattle.toml_edit_laws.proofs.common.OptionSteps.{some-is}
use Rattle.toml_edit_model.specs.Slots as model
use Rattle.toml_edit_model.specs.Slots.{lookup, lookup_slot}
use Rattle.toml_edit_model.specs.Text.{Text, same_text}
use Rattle.toml_edit_model.specs.Tree.{Decor, Raw, Node, nothing, leaf, list, inline, table, tables, is_value_node}
use Rattle.toml_edit_slots.specs.Slots as held
use Rattle.toml_edit_slots.specs.declared.slots.Slot.{Slot}
use Rattle.toml_edit_tree.specs.Casts.{datetime_in}
use Rattle.toml_edit_tree.specs.Indexed.{shown_slots}
use Rattle.toml_edit_tree.specs.View.{item_view, items_view, slots_view}
use Rattle.toml_edit_tree.specs.declared.item.Item.{Item}
use Rattle.toml_edit_edits.specs.Effects.{first_same}
use Rattle.toml_edit_edits.specs.Same.{same_date, same_datetime, same_offset, same_time, same_items, same_node, same_slots}

-- ---- date-times

pub same-date-time : (x : Datetime) (r : Option Raw) (d : Decor) (n : Node) → option_eq same_datetime (Some x) (datetime_in n)
    ≡ same_node (leaf (datetime x) r d) n
same-date-time t r d nothing = refl
same-date-time t r d (leaf (string u) q e) = refl
same-date-time t r d (leaf (integer u) q e) = refl
same-date-time t r d (leaf (float u) q e) = refl
same-date-time t r d (leaf (boolean u) q e) = refl
same-date-time t r d (leaf (datetime u) q e) = refl
same-date-time t r d (list f xs) = refl
same-date-time t r d (inline f ss) = refl
same-date-time t r d (table f ss) = refl
same-date-time t r d (tables e xs) = refl

-- ---- arrays and slots, from a place on

and-never : (b : Bool) → false ≡ (b && false)
and-never true = refl
and-never false = refl

pub lengths-differ : (xs ys : List Item) → (length xs ≡ length ys → ⊥) → false ≡ same_items (items_view xs) (items_view ys)
lengths-differ [] [] h = absurd (h refl)
lengths-differ [] (y ∷ ys) h = refl
lengths-differ (x ∷ xs) [] h = refl
lengths-differ (x ∷ xs) (y ∷ ys) h =
    and-never (same_node (item_view x) (item_view y))
    ∙ ap (λ b. same_node (item_view x) (item_view y) && b) (lengths-differ xs ys (λ e. h (ap suc e)))

-- a slot's value is found, and the same
abbrev pub has_value : Slot Item → List (model.Slot Node) → Bool
has_value s ys =
    if is_value_node (item_view s.item) then option_map_or (λ m. same_node (item_view s.item) m) (lookup s.key.name ys) false
    else true

pub slots-next : (es : List (Slot Item)) (i : ℕ) (s : Slot Item) (ys : List (model.Slot Node)) → i < length es → s ≡ get_or es i s
    → same_slots (slots_view (drop i es)) ys ≡ (has_value s ys && same_slots (slots_view (drop (i + 1) es)) ys)
slots-next es i s ys within is =
    ap (λ (rs : List (Slot Item)). same_slots (slots_view rs) ys) (drop_more es i s within ∙ ap (λ (x : Slot Item). x ∷ drop (i + 1) es) (sym is))

pub looked-up : (k : Text) (es : List (Slot Item)) → lookup k (shown_slots es) ≡ option_map item_view (held.lookup k es)
looked-up k [] = refl
looked-up k (e ∷ es) = by_test (same_text k e.key.name) (looked-up k es)
  where
    by_test : (b : Bool) → lookup k (shown_slots es) ≡ option_map item_view (held.lookup k es)
        → option_map (λ (s : model.Slot Node). s.item)
        (if b then Some (record { key = e.key; item = item_view e.item }) else lookup_slot k (shown_slots es))
        ≡ option_map item_view (option_map (λ (s : Slot Item). s.item) (if b then Some e else held.lookup_slot k es))
    by_test true ih = refl
    by_test false ih = ih

pub value-found : (s : Slot Item) (es : List (Slot Item)) (o : Item) → is_value_node (item_view s.item) ≡ true → Some o ≡ held.lookup s.key.name es
    → has_value s (shown_slots es) ≡ same_node (item_view s.item) (item_view o)
value-found s es o value found =
    ap (λ b. if b then option_map_or (λ m. same_node (item_view s.item) m) (lookup s.key.name (shown_slots es)) false else true) value
    ∙ ap (λ x. option_map_or (λ m. same_node (item_view s.item) m) x false) (looked-up s.key.name es ∙ ap (option_map item_view) (sym found))

pub value-absent : (s : Slot Item) (es : List (Slot Item)) → is_value_node (item_view s.item) ≡ true → None ≡ held.lookup s.key.name es
    → has_value s (shown_slots es) ≡ false
value-absent s es value absent =
    ap (λ b. if b then option_map_or (λ m. same_node (item_view s.item) m) (lookup s.key.name (shown_slots es)) false else true) value
    ∙ ap (λ x. option_map_or (λ m. same_node (item_view s.item) m) x false) (looked-up s.key.name es ∙ ap (option_map item_view) (sym absent))

pub no-value : (s : Slot Item) (ys : List (model.Slot Node)) → is_value_node (item_view s.item) ≡ false → has_value s ys ≡ true
no-value s ys h = ap (λ b. if b then option_map_or (λ m. same_node (item_view s.item) m) (lookup s.key.name ys) false else true) h

-- the slots from a place on decide, and the one there decides for those after it
pub slots-stop : (es fs : List (Slot Item)) (i : ℕ) (s : Slot Item) (ys : List (model.Slot Node)) → i < length es → s ≡ get_or es i s
    → has_value s ys ≡ false → same_slots (slots_view (drop i es)) ys ≡ same_slots (slots_view es) ys → es ≡ fs
    → false ≡ same_slots (slots_view fs) ys
slots-stop es fs i s ys within is none all same =
    ap (λ b. b && same_slots (slots_view (drop (i + 1) es)) ys) (sym none) ∙ sym (slots-next es i s ys within is) ∙ all
    ∙ ap (λ (rs : List (Slot Item)). same_slots (slots_view rs) ys) same

pub slots-go-on : (es : List (Slot Item)) (i : ℕ) (s : Slot Item) (ys : List (model.Slot Node)) → i < length es → s ≡ get_or es i s
    → has_value s ys ≡ true → same_slots (slots_view (drop i es)) ys ≡ same_slots (slots_view es) ys
    → same_slots (slots_view (drop (i + 1) es)) ys ≡ same_slots (slots_view es) ys
slots-go-on es i s ys within is there all =
    ap (λ b. b && same_slots (slots_view (drop (i + 1) es)) ys) (sym there) ∙ sym (slots-next es i s ys within is) ∙ all

-- ---- dates and times

same-part : {A B : Type 0} (E : A → A → Bool) (F : B → B → Bool) (v : A → B) → ((a b : A) → E a b ≡ F (v a) (v b)) → (o p : Option A)
    → option_eq E o p ≡ option_eq F (option_map v o) (option_map v p)
same-part E F v e None None = refl
same-part E F v e None (Some b) = refl
same-part E F v e (Some a) None = refl
same-part E F v e (Some a) (Some b) = e a b

both : (a b c d : Bool) → a ≡ b → c ≡ d → (a && c) ≡ (b && d)
both a b c d e f = ap (λ x. x && c) e ∙ ap (λ x. b && x) f

date-same : (a b : date.Date) → date_ghosts.eq a b ≡ same_date (date_view a) (date_view b)
date-same a b = refl

offset-same : (a b : offset.Offset) → offset_ghosts.eq a b ≡ same_offset (offset_view a) (offset_view b)
offset-same offset.TheVariants.Z offset.TheVariants.Z = refl
offset-same offset.TheVariants.Z (offset.TheVariants.Custom y) = refl
offset-same (offset.TheVariants.Custom x) offset.TheVariants.Z = refl
offset-same (offset.TheVariants.Custom x) (offset.TheVariants.Custom y) = refl

time-same : (a b : time.Time) → time_ghosts.eq a b ≡ same_time (time_view a) (time_view b)
time-same a b = refl

pub derived : (x y : code.Datetime) → ghosts.eq x y ≡ same_datetime (datetime_view x) (datetime_view y)
derived x y =
    both _ _ _ _ (same-part _ same_date date_view date-same x.date y.date)
    (both _ _ _ _ (same-part _ same_time time_view time-same x.time y.time) (same-part _ same_offset offset_view offset-same x.offset y.offset))

-- a test of what references point to
pub dates-same : (x : code.Datetime) (o : Option (Bor code.Datetime)) (r : Option Raw) (d : Decor) (n : Node) (y : Bor code.Datetime) → y.now ≡ x
    → option_map (λ z. datetime_view z.now) o ≡ datetime_in n
    → option_eq (λ a b. ghosts.eq a.now b.now) (Some y) o ≡ same_node (leaf (datetime (datetime_view x)) r d) n
dates-same x o r d n y is found =
    by_option o ∙ ap (λ z. option_eq same_datetime (Some z) (option_map (λ b. datetime_view b.now) o)) (ap datetime_view is)
    ∙ ap (option_eq same_datetime (Some (datetime_view x))) found ∙ same-date-time (datetime_view x) r d n
  where
    by_option : (p : Option (Bor code.Datetime)) → option_eq (λ a b. ghosts.eq a.now b.now) (Some y) p
        ≡ option_eq same_datetime (Some (datetime_view y.now)) (option_map (λ b. datetime_view b.now) p)
    by_option None = refl
    by_option (Some z) = derived y.now z.now

-- ---- the first value that is the same

not-same : (x v : Node) → is_value_node x ≡ false → same_node x v ≡ false
not-same nothing v h = refl
not-same (table f ss) v h = refl
not-same (tables e xs) v h = refl
not-same (leaf s r d) v h = absurd cc
not-same (list f xs) v h = absurd cc
not-same (inline f ss) v h = absurd cc

value-is : (o : Option Node) (x : Node) → option_and_then (only is_value_node) o ≡ Some x → o ≡ Some x
value-is None x h = absurd cc
value-is (Some n) x h = by_test (is_value_node n) h
  where
    by_test : (b : Bool) → (if b then Some n else None) ≡ Some x → Some n ≡ Some x
    by_test true e = e
    by_test false e = absurd cc

got : (xs : List Node) (i : ℕ) (x d : Node) → slice_get xs i ≡ Some x → (i < length xs) × (get_or xs i d ≡ x)
got [] i x d h = absurd cc
got (n ∷ xs) zero x d h = (omega arith, some-is n x h)
got (n ∷ xs) (suc i) x d h = let r = got xs i x d h in (omega (arith, r.0), r.1)

pub first-at : (v : Node) (xs : List Node) (i : ℕ) (x : Node) → Some x ≡ value_at i xs → same_node x v ≡ true
    → ((k : ℕ) (d : Node) → k < i → same_node (get_or xs k d) v ≡ false) → Some i ≡ first_same v xs
first-at v xs i x there same before =
    let here = got xs i x x (value-is (slice_get xs i) x (sym there)) in
    let at : position_or_len (λ n. same_node n v) xs ≡ i =
    position_or_len_is (λ n. same_node n v) xs i x (omega (arith, here.0)) (λ k l. before k x l) (λ l. ap (λ n. same_node n v) here.1 ∙ same) in
    sym (ap (λ n. cond (nat_lt n (length xs)) (Some n) None) at ∙ ap (λ b. cond b (Some i) None) (lt-ltb i (length xs) here.0))

pub none-same : (v : Node) (xs : List Node) (i : ℕ) → length xs ≤ i → ((k : ℕ) (d : Node) → k < i → same_node (get_or xs k d) v ≡ false)
    → None ≡ first_same v xs
none-same v xs i past before =
    let at : position_or_len (λ n. same_node n v) xs ≡ length xs =
    position_or_len_is (λ n. same_node n v) xs (length xs) nothing (omega arith) (λ k l. before k nothing (omega (arith, l, past)))
    (λ l. absurd (omega (arith, l))) in
    sym (ap (λ n. cond (nat_lt n (length xs)) (Some n) None) at ∙ ap (λ b. cond b (Some (length xs)) None) (below (length xs)))
  where
    below : (n : ℕ) → nat_lt n n ≡ false
    below n = by_test (nat_lt n n) refl
      where
        by_test : (b : Bool) → nat_lt n n ≡ b → b ≡ false
        by_test true e = let l = ltb-true n n e in absurd (omega (arith, l))
        by_test false e = refl

-- one place further
pub further : (v : Node) (xs : List Node) (i : ℕ) → ((k : ℕ) (d : Node) → k < i → same_node (get_or xs k d) v ≡ false)
    → ((d : Node) → same_node (get_or xs i d) v ≡ false) → (k : ℕ) (d : Node) → k < i + 1 → same_node (get_or xs k d) v ≡ false
further v xs i before here k d l =
    elim (cases_Bool (nat_lt k i)) [
      | inl less ↦ before k d (ltb-true k i less)
      | inr not_less ↦
          let le = ltb-false k i not_less in
          let same : i ≡ k = omega (arith, l, le) in
          subst (λ j. same_node (get_or xs j d) v ≡ false) same (here d)
    ]

pub differs-on : (v : Node) (xs : List Node) (i : ℕ) (x : Node) → Some x ≡ value_at i xs → same_node x v ≡ false
    → ((k : ℕ) (d : Node) → k < i → same_node (get_or xs k d) v ≡ false) → (k : ℕ) (d : Node) → k < i + 1 → same_node (get_or xs k d) v ≡ false
differs-on v xs i x there differs before =
    further v xs i before (λ d. ap (λ n. same_node n v) (got xs i x d (value-is (slice_get xs i) x (sym there))).1 ∙ differs)

no-value-at : (v : Node) (xs : List Node) (i : ℕ) (d : Node) → i < length xs → None ≡ value_at i xs → same_node (get_or xs i d) v ≡ false
no-value-at v [] i d l h = absurd (omega (arith, l))
no-value-at v (n ∷ xs) zero d l h = by_test (is_value_node n) refl h
  where
    by_test : (b : Bool) → is_value_node n ≡ b → None ≡ (if b then Some n else None) → same_node n v ≡ false
    by_test true e g = absurd cc
    by_test false e g = not-same n v e
no-value-at v (n ∷ xs) (suc i) d l h = no-value-at v xs i d (omega (arith, l)) h

pub none-on : (v : Node) (xs : List Node) (i : ℕ) → i < length xs → None ≡ value_at i xs
    → ((k : ℕ) (d : Node) → k < i → same_node (get_or xs k d) v ≡ false) → (k : ℕ) (d : Node) → k < i + 1 → same_node (get_or xs k d) v ≡ false
none-on v xs i within none before = further v xs i before (λ d. no-value-at v xs i d within none)
