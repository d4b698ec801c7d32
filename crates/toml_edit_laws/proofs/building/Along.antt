-- Other slots put at the keys of a block, and those that are there.
use Rattle.std.proofs.Common.{◌≡◌, refl, sym, ◌∙◌, ap, inl, inr, List, [], ◌∷◌, Option, Some, None}
use Rattle.std.specs.Prelude.{option_and_then}
use Rattle.std.proofs.lemmas.Bool.{cases_Bool}
use Rattle.toml_edit_model.specs.Text.{Text, same_text}
use Rattle.toml_edit_model.specs.Tree.{Node, nothing, leaf, list, inline, table, tables, Items, no_items, item, Slots, no_slots, slot}
use Rattle.toml_edit_laws.specs.InlineTree.{node_at, with_node}
use Rattle.toml_edit_laws.specs.Building.{last_slots, block_slots, slots_along}
use Rattle.toml_edit_laws.specs.AddPath.{put_last, put_in, put_under, put_along}
use Rattle.toml_edit_laws.proofs.common.OptionSteps.{bind_some, some-is}

-- ---- the item of a key

-- another item that was put there is there
pub node-put : (k : Text) (n : Node) (ss : Slots) (old : Node) → node_at k ss ≡ Some old → node_at k (with_node k n ss) ≡ Some n
node-put k n no_slots old h = absurd cc
node-put k n (slot l m ss) old h =
    elim (cases_Bool (same_text k l.name)) [
      | inl same ↦ rw (same, same) refl
      | inr other ↦ rw (other, other) (node-put k n ss old (rw other at h))
    ]

-- the last that was put there stays
node-put-put : (k : Text) (n m : Node) (ss : Slots) → with_node k n (with_node k m ss) ≡ with_node k n ss
node-put-put k n m no_slots = refl
node-put-put k n m (slot l x ss) =
    elim (cases_Bool (same_text k l.name)) [
      | inl same ↦ rw (same, same) refl
      | inr other ↦ rw (other, other) (ap (slot l x) (node-put-put k n m ss))
    ]

-- the item that is there, put there
node-put-same : (k : Text) (n : Node) (ss : Slots) → node_at k ss ≡ Some n → with_node k n ss ≡ ss
node-put-same k n no_slots h = refl
node-put-same k n (slot l m ss) h =
    elim (cases_Bool (same_text k l.name)) [
      | inl same ↦
          let is : m ≡ n = some-is m n (rw same at h) in
          rw same (ap (λ (x : Node). slot l x ss) (sym is))
      | inr other ↦ rw other (ap (slot l m) (node-put-same k n ss (rw other at h)))
    ]

-- ---- the last element

-- behind an element there is the rest as it is changed
put-behind : (put : Slots → Slots) (n m : Node) (xs ys : Items) → xs ≡ item m ys → put_last put (item n xs) ≡ item n (put_last put xs)
put-behind put n m no_items ys h = absurd cc
put-behind put n m (item x xs) ys h = refl

slots-behind : (n m : Node) (xs ys : Items) → xs ≡ item m ys → last_slots (item n xs) ≡ last_slots xs
slots-behind n m no_items ys h = absurd cc
slots-behind n m (item x xs) ys h = refl

-- some element is there still
put-some : (put : Slots → Slots) (m : Node) (xs : Items) → (n : Node) × (ys : Items) × (put_last put (item m xs) ≡ item n ys)
put-some put nothing no_items = (nothing, no_items, refl)
put-some put (leaf s x d) no_items = (leaf s x d, no_items, refl)
put-some put (list f us) no_items = (list f us, no_items, refl)
put-some put (inline f us) no_items = (inline f us, no_items, refl)
put-some put (tables e us) no_items = (tables e us, no_items, refl)
put-some put (table f inner) no_items = (table f (put inner), no_items, refl)
put-some put m (item x xs) = (m, put_last put (item x xs), refl)

last-put-put : (one other both : Slots → Slots) → ((us : Slots) → one (other us) ≡ both us) → (xs : Items)
    → put_last one (put_last other xs) ≡ put_last both xs
last-put-put one other both h no_items = refl
last-put-put one other both h (item nothing no_items) = refl
last-put-put one other both h (item (leaf s x d) no_items) = refl
last-put-put one other both h (item (list f us) no_items) = refl
last-put-put one other both h (item (inline f us) no_items) = refl
last-put-put one other both h (item (tables e us) no_items) = refl
last-put-put one other both h (item (table f inner) no_items) = ap (λ (us : Slots). item (table f us) no_items) (h inner)
last-put-put one other both h (item n (item m xs)) =
    let some = put-some other m xs in
    put-behind one n some.0 (put_last other (item m xs)) some.1 some.2 ∙ ap (item n) (last-put-put one other both h (item m xs))

last-put : (put : Slots → Slots) (xs : Items) (us : Slots) → last_slots xs ≡ Some us → last_slots (put_last put xs) ≡ Some (put us)
last-put put no_items us h = absurd cc
last-put put (item nothing no_items) us h = absurd cc
last-put put (item (leaf s x d) no_items) us h = absurd cc
last-put put (item (list f ys) no_items) us h = absurd cc
last-put put (item (inline f ys) no_items) us h = absurd cc
last-put put (item (tables e ys) no_items) us h = absurd cc
last-put put (item (table f inner) no_items) us h = ap (λ (x : Slots). Some (put x)) (some-is inner us h)
last-put put (item n (item m xs)) us h =
    let some = put-some put m xs in
    slots-behind n some.0 (put_last put (item m xs)) some.1 some.2 ∙ last-put put (item m xs) us h

last-put-same : (put : Slots → Slots) (xs : Items) (us : Slots) → last_slots xs ≡ Some us → put us ≡ us → put_last put xs ≡ xs
last-put-same put no_items us h e = refl
last-put-same put (item nothing no_items) us h e = refl
last-put-same put (item (leaf s x d) no_items) us h e = refl
last-put-same put (item (list f ys) no_items) us h e = refl
last-put-same put (item (inline f ys) no_items) us h e = refl
last-put-same put (item (tables x ys) no_items) us h e = refl
last-put-same put (item (table f inner) no_items) us h e =
    let is : inner ≡ us = some-is inner us h in
    ap (λ (x : Slots). item (table f x) no_items) (ap put is ∙ e ∙ sym is)
last-put-same put (item n (item m xs)) us h e = ap (item n) (last-put-same put (item m xs) us h e)

-- ---- an item

in-put-put : (one other both : Slots → Slots) → ((us : Slots) → one (other us) ≡ both us) → (n : Node) → put_in one (put_in other n)
    ≡ put_in both n
in-put-put one other both h nothing = refl
in-put-put one other both h (leaf s x d) = refl
in-put-put one other both h (list f us) = refl
in-put-put one other both h (inline f us) = refl
in-put-put one other both h (tables e xs) = ap (tables e) (last-put-put one other both h xs)
in-put-put one other both h (table f inner) = ap (table f) (h inner)

in-put : (put : Slots → Slots) (n : Node) (us : Slots) → block_slots n ≡ Some us → block_slots (put_in put n) ≡ Some (put us)
in-put put nothing us h = absurd cc
in-put put (leaf s x d) us h = absurd cc
in-put put (list f xs) us h = absurd cc
in-put put (inline f xs) us h = absurd cc
in-put put (tables e xs) us h = last-put put xs us h
in-put put (table f inner) us h = ap (λ (x : Slots). Some (put x)) (some-is inner us h)

in-put-same : (put : Slots → Slots) (n : Node) (us : Slots) → block_slots n ≡ Some us → put us ≡ us → put_in put n ≡ n
in-put-same put nothing us h e = refl
in-put-same put (leaf s x d) us h e = refl
in-put-same put (list f xs) us h e = refl
in-put-same put (inline f xs) us h e = refl
in-put-same put (tables x xs) us h e = ap (tables x) (last-put-same put xs us h e)
in-put-same put (table f inner) us h e =
    let is : inner ≡ us = some-is inner us h in
    ap (table f) (ap put is ∙ e ∙ sym is)

-- ---- a whole path

-- The last slots that were put there stay.
pub put_put : (ks : List Text) (x y ss : Slots) → put_along ks y (put_along ks x ss) ≡ put_along ks y ss
put_put [] x y ss = refl
put_put (k ∷ ks) x y ss =
    by_node (node_at k ss) refl (λ (n : Node). in-put-put (put_along ks y) (put_along ks x) (put_along ks y) (put_put ks x y) n)
  where
    by_node : (o : Option Node) → node_at k ss ≡ o → ((n : Node) → put_in (put_along ks y) (put_in (put_along ks x) n)
        ≡ put_in (put_along ks y) n)
        → put_along (k ∷ ks) y (put_under k (put_along ks x) ss o) ≡ put_under k (put_along ks y) ss o
    by_node None e h = ap (put_under k (put_along ks y) ss) e
    by_node (Some n) e h =
        let new = put_in (put_along ks x) n in
        ap (put_under k (put_along ks y) (with_node k new ss)) (node-put k new ss n e)
        ∙ node-put-put k (put_in (put_along ks y) new) new ss
        ∙ ap (λ (m : Node). with_node k m ss) (h n)

-- They are there, if some were.
pub along_put : (ks : List Text) (x ss old : Slots) → slots_along ks ss ≡ Some old → slots_along ks (put_along ks x ss) ≡ Some x
along_put [] x ss old h = refl
along_put (k ∷ ks) x ss old h =
    let (us, there, further) = bind_some (option_and_then block_slots (node_at k ss)) (slots_along ks) old h in
    let (n, at, within) = bind_some (node_at k ss) block_slots us there in
    let new = put_in (put_along ks x) n in
    ap (λ (o : Option Node). slots_along (k ∷ ks) (put_under k (put_along ks x) ss o)) at
    ∙ ap (λ (o : Option Node). option_and_then (slots_along ks) (option_and_then block_slots o)) (node-put k new ss n at)
    ∙ ap (option_and_then (slots_along ks)) (in-put (put_along ks x) n us within)
    ∙ along_put ks x us old further

-- Those that are there, put there, change nothing.
pub put_same : (ks : List Text) (ss old : Slots) → slots_along ks ss ≡ Some old → put_along ks old ss ≡ ss
put_same [] ss old h = sym (some-is ss old h)
put_same (k ∷ ks) ss old h =
    let (us, there, further) = bind_some (option_and_then block_slots (node_at k ss)) (slots_along ks) old h in
    let (n, at, within) = bind_some (node_at k ss) block_slots us there in
    ap (put_under k (put_along ks old) ss) at
    ∙ ap (λ (m : Node). with_node k m ss) (in-put-same (put_along ks old) n us within (put_same ks us old further))
    ∙ node-put-same k n ss at
