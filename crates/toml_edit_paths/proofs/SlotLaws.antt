-- Slots by the places of their keys, and what is left where one is changed, added or taken out.
use Rattle.std.proofs.Common.{◌≡◌, ℕ, zero, suc, true, false, List, [], ◌∷◌, ◌++◌, cond, Bool, refl, sym, ◌∙◌, ap, subst, arith, Option}
use Rattle.std.proofs.Common.{Some, None, option_map, slice_get, take}
use Rattle.std.specs.Prelude.{if◌then◌else◌, Result}
use Rattle.std.specs.Option.{ForSome}
use Rattle.toml_edit_model.specs.Slots as model
use Rattle.toml_edit_model.specs.Slots.{keyed, changed}
use Rattle.toml_edit_model.specs.Lists.{slot_list, slots_from}
use Rattle.toml_edit_model.specs.Text.{Text, same_text}
use Rattle.toml_edit_model.specs.Tree.{Key, Node, nothing, leaf, list, inline, table, tables, no_slots, slot}
use Rattle.toml_edit_edit_laws.specs.Commands.{Answer, done, refused, no_such_path, mapped, change_slot, drop_slot, present}
use Rattle.toml_edit_laws.proofs.common.OptionSteps.{some-is}
use Rattle.toml_edit_laws.proofs.common.Tests.{same_text-is, same_text-swap}
use Rattle.toml_edit_laws.proofs.locality.Slots.{slots_from-list}
use Rattle.toml_edit_slots.specs.declared.slots.Slot.{Slot}
use Rattle.toml_edit_slots.specs.Slots.{is_at, items_of, lookup, lookup_slot, place, with_item, without}
use Rattle.toml_edit_tree.specs.declared.item.Item.{Item}
use Rattle.toml_edit_tree.specs.Indexed.{shown_slots}
use Rattle.toml_edit_tree.specs.View.{item_view, slots_view}
use Rattle.toml_edit_paths.specs.Changes.{Changes}
use Rattle.toml_edit_paths.specs.declared.fault.ChangeFault.{ChangeFault}
use Rattle.toml_edit_paths.proofs.ChangeLaws.{carried, renamed}

-- ---- the slot of a key

slot_none : (b : Bool) (s : model.Slot Node) (o : Option (model.Slot Node)) (i : Option ℕ) → cond b (Some 0) (option_map suc i) ≡ None
    → (i ≡ None → o ≡ None) → cond b (Some s) o ≡ None
slot_none true s o i h f = absurd cc
slot_none false s o None h f = f refl
slot_none false s o (Some j) h f = absurd cc

pub slot-none : (k : Text) (es : List (Slot Item)) → place k es ≡ None → model.lookup_slot k (shown_slots es) ≡ None
slot-none k [] h = refl
slot-none k (e ∷ es) h =
    slot_none (is_at k e) (keyed e.key (item_view e.item)) (model.lookup_slot k (shown_slots es)) (place k es) h (slot-none k es)

same_place : (i j : ℕ) → ◌≡◌ {A = Option ℕ} (Some (suc i)) (Some (suc j)) → i ≡ j
same_place i j h = let e = some-is (suc i) (suc j) h in omega (arith, e)

slot_some : (b : Bool) (e : Slot Item) (es : List (Slot Item)) (o : Option (model.Slot Node)) (i : Option ℕ) (at : ℕ) (x : Item)
    → cond b (Some 0) (option_map suc i) ≡ Some at → Some x ≡ slice_get (items_of (e ∷ es)) at
    → ((j : ℕ) → i ≡ Some j → Some x ≡ slice_get (items_of es) j → (l : Key) × (o ≡ Some (keyed l (item_view x))))
    → (l : Key) × (cond b (Some (keyed e.key (item_view e.item))) o ≡ Some (keyed l (item_view x)))
slot_some true e es o i zero x h g f = (e.key, ap (λ (y : Item). Some (keyed e.key (item_view y))) (sym (some-is x e.item g)))
slot_some true e es o i (suc at) x h g f = absurd cc
slot_some false e es o None at x h g f = absurd cc
slot_some false e es o (Some j) zero x h g f = absurd cc
slot_some false e es o (Some j) (suc at) x h g f = f at (ap Some (same_place j at h)) g

pub slot-some : (k : Text) (es : List (Slot Item)) (at : ℕ) (x : Item) → place k es ≡ Some at → Some x ≡ slice_get (items_of es) at
    → (l : Key) × (model.lookup_slot k (shown_slots es) ≡ Some (keyed l (item_view x)))
slot-some k [] at x h g = absurd cc
slot-some k (e ∷ es) at x h g =
    slot_some (is_at k e) e es (model.lookup_slot k (shown_slots es)) (place k es) at x h g (λ j same there. slot-some k es j x same there)

-- ---- a slot with another item

-- no slot has the name of one before it
abbrev pub IsFirstOfName : List (Slot Item) → Type 0
IsFirstOfName es = (at : ℕ) → ForSome (slice_get es at) (λ slot. place slot.key.name (take at es) ≡ None)

neither : (b : Bool) (o : Option ℕ) → (if b then Some 0 else option_map suc o) ≡ None → (b ≡ false) × (o ≡ None)
neither true o e = absurd cc
neither false None e = (refl, refl)
neither false (Some j) e = absurd cc

-- the slots after the first have other names than it, and are so among themselves
first-others : (e : Slot Item) (es : List (Slot Item)) → IsFirstOfName (e ∷ es) → (at : ℕ) (r : Slot Item) → slice_get es at ≡ Some r
    → same_text r.key.name e.key.name ≡ false
first-others e es h at r g = (neither (is_at r.key.name e) (place r.key.name (take at es)) (h (suc at) r g)).0

first-later : (e : Slot Item) (es : List (Slot Item)) → IsFirstOfName (e ∷ es) → IsFirstOfName es
first-later e es h = λ at r g. (neither (is_at r.key.name e) (place r.key.name (take at es)) (h (suc at) r g)).1

unchanged : (k : Text) (f : model.Slot Node → model.Slot Node) (es : List (Slot Item))
    → ((at : ℕ) (r : Slot Item) → slice_get es at ≡ Some r → same_text k r.key.name ≡ false)
    → changed k f (shown_slots es) ≡ shown_slots es
unchanged k f [] h = refl
unchanged k f (e ∷ es) h =
    rw (h 0 e refl) (ap (λ (r : List (model.Slot Node)). keyed e.key (item_view e.item) ∷ r) (unchanged k f es (λ at r g. h (suc at) r g)))

pub pairs-with : (k : Text) (es : List (Slot Item)) (at : ℕ) (y : Item) → IsFirstOfName es → place k es ≡ Some at
    → shown_slots (with_item at y es) ≡ changed k (model.with_item (item_view y)) (shown_slots es)
pairs-with k [] at y first h = absurd cc
pairs-with k (e ∷ es) at y first h = by_test (is_at k e) refl at h (λ j same. pairs-with k es j y (first-later e es first) same)
  where
    by_place : (o : Option ℕ) (at : ℕ) → option_map suc o ≡ Some at
        → ((j : ℕ) → o ≡ Some j → shown_slots (with_item j y es) ≡ changed k (model.with_item (item_view y)) (shown_slots es))
        → shown_slots (with_item at y (e ∷ es)) ≡ keyed e.key (item_view e.item)
        ∷ changed k (model.with_item (item_view y)) (shown_slots es)
    by_place None at g f = absurd cc
    by_place (Some j) zero g f = absurd cc
    by_place (Some j) (suc at) g f =
        ap (λ (r : List (model.Slot Node)). keyed e.key (item_view e.item) ∷ r) (f at (ap Some (same_place j at g)))

    by_test : (b : Bool) → is_at k e ≡ b → (at : ℕ) → cond b (Some 0) (option_map suc (place k es)) ≡ Some at
        → ((j : ℕ) → place k es ≡ Some j → shown_slots (with_item j y es) ≡ changed k (model.with_item (item_view y)) (shown_slots es))
        → shown_slots (with_item at y (e ∷ es))
        ≡ (if b then keyed e.key (item_view y) else keyed e.key (item_view e.item))
        ∷ changed k (model.with_item (item_view y)) (shown_slots es)
    by_test true same zero g f =
        ap (λ (r : List (model.Slot Node)). keyed e.key (item_view y) ∷ r)
        (sym (unchanged k (model.with_item (item_view y)) es
        (λ at r there. subst (λ x. same_text x r.key.name ≡ false) (sym (same_text-is k e.key.name same))
        (same_text-swap e.key.name r.key.name ∙ first-others e es first at r there))))
    by_test true same (suc at) g f = absurd cc
    by_test false same at g f = by_place (place k es) at g f

pub with-same : (es : List (Slot Item)) (at : ℕ) (x : Item) → Some x ≡ slice_get (items_of es) at → with_item at x es ≡ es
with-same [] at x h = refl
with-same (e ∷ es) zero x h = ap (λ (y : Item). record { key = e.key; item = y } ∷ es) (some-is x e.item h)
with-same (e ∷ es) (suc at) x h = ap (λ r. e ∷ r) (with-same es at x h)

-- a change of the item is one of the slots
pub slot-changes : (makes : Bool) (k : Key) (go : Node
    → Answer Node) (es : List (Slot Item)) (at : ℕ) (x y : Item) (r : Result (Unit {0}) ChangeFault)
    → IsFirstOfName es → place k.name es ≡ Some at → Some x ≡ slice_get (items_of es) at
    → Changes (go (item_view x)) (item_view x) (item_view y) r
    → Changes (change_slot makes k go (shown_slots es) (model.lookup_slot k.name (shown_slots es))) (shown_slots es)
    (shown_slots (with_item at y es)) r
slot-changes makes k go es at x y r first h g change =
    let s = slot-some k.name es at x h g in
    let F = λ (m : Node). changed k.name (model.with_item m) (shown_slots es) in
    renamed (mapped F (go (item_view x))) _ (F (item_view x)) (F (item_view y)) _ _ r
    (ap (change_slot makes k go (shown_slots es)) (sym s.1)) (sym (pairs-with k.name es at x first h)
    ∙ ap shown_slots (with-same es at x g)) (sym (pairs-with k.name es at y first h))
    (carried F (go (item_view x)) (item_view x) (item_view y) r change)

-- ---- a new slot

pub pairs-last : (es : List (Slot Item)) (e : Slot Item) → shown_slots (es ++ (e ∷ [])) ≡ shown_slots es
    ++ (keyed e.key (item_view e.item) ∷ [])
pairs-last [] e = refl
pairs-last (x ∷ es) e = ap (λ (r : List (model.Slot Node)). (keyed x.key (item_view x.item)) ∷ r) (pairs-last es e)

-- ---- a slot that is taken out

none-left : (i : Option ℕ) → option_map suc i ≡ None → i ≡ None
none-left None h = refl
none-left (Some j) h = absurd cc

kept : (k : Text) (es : List (Slot Item)) → place k es ≡ None → model.without k (shown_slots es) ≡ shown_slots es
kept k [] h = refl
kept k (e ∷ es) h = by_test (is_at k e) refl h (kept k es)
  where
    by_test : (b : Bool) → is_at k e ≡ b → cond b (Some 0) (option_map suc (place k es)) ≡ None
        → (place k es ≡ None → model.without k (shown_slots es) ≡ shown_slots es)
        → model.without k (shown_slots (e ∷ es)) ≡ shown_slots (e ∷ es)
    by_test true same g f = absurd cc
    by_test false same g f =
        rw same (ap (λ (r : List (model.Slot Node)). (keyed e.key (item_view e.item)) ∷ r) (f (none-left (place k es) g)))

pub pairs-without : (k : Text) (es : List (Slot Item)) → place k (without k es) ≡ None → shown_slots (without k es)
    ≡ model.without k (shown_slots es)
pairs-without k [] h = refl
pairs-without k (e ∷ es) h = by_test (is_at k e) refl h (pairs-without k es)
  where
    by_test : (b : Bool) → is_at k e ≡ b → place k (if b then es else e ∷ without k es) ≡ None
        → (place k (without k es) ≡ None → shown_slots (without k es) ≡ model.without k (shown_slots es))
        → shown_slots (if b then es else e ∷ without k es) ≡ model.without k (shown_slots (e ∷ es))
    by_test true same g f = rw same (sym (kept k es g))
    by_test false same g f =
        rw same (ap (λ (r : List (model.Slot Node)). (keyed e.key (item_view e.item))
        ∷ r) (f (none-left (place k (without k es)) (rw same at g))))

-- ---- an inline table with one slot

pub none-in-empty : (k : Text) (es : List (Slot Item)) → slots_view es ≡ no_slots → place k es ≡ None
none-in-empty k [] h = refl
none-in-empty k (e ∷ es) h = absurd cc

pub only-slot : (k : Key) (n : Node) (es new : List (Slot Item)) → slots_view es ≡ no_slots → shown_slots new ≡ shown_slots es
    ++ (keyed k n ∷ []) → slots_view new ≡ slot k n no_slots
only-slot k n es new empty h =
    sym (slots_from-list (slots_view new)) ∙ ap slots_from (h ∙ ap (λ ss. slot_list ss ++ (keyed k n ∷ [])) empty)

-- ---- what stands under a key

looked : (k : Text) (es : List (Slot Item)) → model.lookup_slot k (shown_slots es)
    ≡ option_map (λ (e : Slot Item). (keyed e.key (item_view e.item))) (lookup_slot k es)
looked k [] = refl
looked k (e ∷ es) = by_test (is_at k e) (looked k es)
  where
    by_test : (b : Bool) → model.lookup_slot k (shown_slots es)
        ≡ option_map (λ (e : Slot Item). (keyed e.key (item_view e.item))) (lookup_slot k es)
        → (if b then Some (keyed e.key (item_view e.item)) else model.lookup_slot k (shown_slots es))
        ≡ option_map (λ (e : Slot Item). (keyed e.key (item_view e.item))) (if b then Some e else lookup_slot k es)
    by_test true f = refl
    by_test false f = f

present-slot : (l : Key) (n : Node) → (n ≡ nothing → ⊥) → present (Some (keyed l n)) ≡ Some n
present-slot l nothing h = absurd (h refl)
present-slot l (leaf s r d) h = refl
present-slot l (list f xs) h = refl
present-slot l (inline f ss) h = refl
present-slot l (table f ss) h = refl
present-slot l (tables e xs) h = refl

pub absent : (k : Text) (es : List (Slot Item)) → None ≡ lookup k es → present (model.lookup_slot k (shown_slots es)) ≡ None
absent k es h = ap present (looked k es) ∙ by_slot (lookup_slot k es) h
  where
    by_slot : (o : Option (Slot Item)) → None ≡ option_map (λ (e : Slot Item). e.item) o
        → present (option_map (λ (e : Slot Item). (keyed e.key (item_view e.item))) o) ≡ None
    by_slot None g = refl
    by_slot (Some e) g = absurd cc

pub unfilled : (k : Text) (es : List (Slot Item)) (x : Item) → Some x ≡ lookup k es → item_view x ≡ nothing
    → present (model.lookup_slot k (shown_slots es)) ≡ None
unfilled k es x h none = ap present (looked k es) ∙ by_slot (lookup_slot k es) h
  where
    by_slot : (o : Option (Slot Item)) → Some x ≡ option_map (λ (e : Slot Item). e.item) o
        → present (option_map (λ (e : Slot Item). (keyed e.key (item_view e.item))) o) ≡ None
    by_slot None g = absurd cc
    by_slot (Some e) g = ap (λ (n : Node). present (Some (keyed e.key n))) (ap item_view (sym (some-is x e.item g)) ∙ none)

pub filled : (k : Text) (es : List (Slot Item)) (x : Item) → Some x ≡ lookup k es → (item_view x ≡ nothing → ⊥)
    → present (model.lookup_slot k (shown_slots es)) ≡ Some (item_view x)
filled k es x h some = ap present (looked k es) ∙ by_slot (lookup_slot k es) h
  where
    by_slot : (o : Option (Slot Item)) → Some x ≡ option_map (λ (e : Slot Item). e.item) o
        → present (option_map (λ (e : Slot Item). (keyed e.key (item_view e.item))) o) ≡ Some (item_view x)
    by_slot None g = absurd cc
    by_slot (Some e) g = ap (λ (n : Node). present (Some (keyed e.key n))) (ap item_view (sym (some-is x e.item g)))
        ∙ present-slot e.key (item_view x) some

pub none-taken : (k : Text) (ss : List (model.Slot Node)) → present (model.lookup_slot k ss) ≡ None
    → drop_slot k ss (present (model.lookup_slot k ss)) ≡ refused no_such_path
none-taken k ss h = ap (drop_slot k ss) h

pub slot-taken : (k : Text) (es new : List (Slot Item)) (n : Node) → present (model.lookup_slot k (shown_slots es)) ≡ Some n → new
    ≡ without k es → place k new ≡ None
    → drop_slot k (shown_slots es) (present (model.lookup_slot k (shown_slots es))) ≡ done (shown_slots new)
slot-taken k es new n h less gone =
    ap (drop_slot k (shown_slots es)) h ∙ ap done (sym (ap shown_slots less
    ∙ pairs-without k es (subst (λ ys. place k ys ≡ None) less gone)))
