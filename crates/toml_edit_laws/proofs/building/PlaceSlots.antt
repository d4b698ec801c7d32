-- The slots of one table by where their keys begin: what stands there, and what is put there.
use Rattle.std.proofs.Common.{◌≡◌, ℕ, ◌≤◌, ◌<◌, Bool, true, false, refl, sym, ◌∙◌, ap, inl, inr, nat_lt, arith, Some}
use Rattle.std.specs.Prelude.{◌||◌, option_map}
use Rattle.std.proofs.lemmas.Bool.{cases_Bool}
use Rattle.std.proofs.lemmas.Bool.Decides.{nat_tests}
use Rattle.toml_edit_model.specs.Text.{Text, same_text}
use Rattle.toml_edit_model.specs.Tree.{Key, Node, Slots, no_slots, slot, has_key}
use Rattle.toml_edit_laws.specs.FlatTree.{with_slot}
use Rattle.toml_edit_laws.specs.InlineTree.{node_at, with_node}
use Rattle.toml_edit_laws.specs.TableTree.{without_slot}
use Rattle.toml_edit_laws.specs.PlaceOrder.{key_place, slot_by_place, node_by_place, slots_by_place, ArePlaced}
use Rattle.toml_edit_laws.specs.InPlace.{replace_slot}
use Rattle.toml_edit_laws.proofs.common.Tests.{or-left, or-right, same_text-is, same_text-swap}

lt-true : (a b : ℕ) → nat_lt a b ≡ true → a < b
lt-true a b h = grind (arith, nat_tests)

lt-false : (a b : ℕ) → nat_lt a b ≡ false → b ≤ a
lt-false a b h = grind (arith, nat_tests)

is-lt : (a b : ℕ) → a < b → nat_lt a b ≡ true
is-lt a b h = grind (arith, nat_tests)

not-lt : (a b : ℕ) → b ≤ a → nat_lt a b ≡ false
not-lt a b h = grind (arith, nat_tests)

or-swap : (a b c : Bool) → (a || (b || c)) ≡ (b || (a || c))
or-swap true true c = refl
or-swap true false c = refl
or-swap false b c = refl

-- ---- the keys

key-into : (t : Text) (k : Key) (n : Node) (ss : Slots) → has_key t (slot_by_place k n ss) ≡ has_key t (slot k n ss)
key-into t k n no_slots = refl
key-into t k n (slot l m ss) =
    elim (cases_Bool (nat_lt (key_place l) (key_place k))) [
      | inl less ↦ rw less (ap (λ (b : Bool). same_text t l.name || b) (key-into t k n ss)
          ∙ or-swap (same_text t l.name) (same_text t k.name) (has_key t ss))
      | inr more ↦ rw more refl
    ]

pub key-order : (t : Text) (ss : Slots) → has_key t (slots_by_place ss) ≡ has_key t ss
key-order t no_slots = refl
key-order t (slot k n ss) =
    key-into t k (node_by_place n) (slots_by_place ss) ∙ ap (λ (b : Bool). same_text t k.name || b) (key-order t ss)

-- a text that is the name of one of two keys isn't that of the other
other-name : (t u v : Text) → same_text u v ≡ false → same_text t v ≡ true → same_text t u ≡ false
other-name t u v apart same = same_text-swap t u ∙ (ap (same_text u) (same_text-is t v same) ∙ apart)

-- ---- the item of a key

node-into : (t : Text) (k : Key) (n : Node) (ss : Slots) → has_key k.name ss ≡ false → node_at t (slot_by_place k n ss)
    ≡ node_at t (slot k n ss)
node-into t k n no_slots apart = refl
node-into t k n (slot l m ss) apart =
    elim (cases_Bool (nat_lt (key_place l) (key_place k))) [
      | inl less ↦ elim (cases_Bool (same_text t l.name)) [
        | inl same ↦ rw (less, same, other-name t k.name l.name (or-left (same_text k.name l.name) (has_key k.name ss) apart) same) refl
        | inr other ↦ rw (less, other) (node-into t k n ss (or-right (same_text k.name l.name) (has_key k.name ss) apart))
      ]
      | inr more ↦ rw more refl
    ]

pub node-order : (end : ℕ) (t : Text) (ss : Slots) → ArePlaced end ss → node_at t (slots_by_place ss)
    ≡ option_map node_by_place (node_at t ss)
node-order end t no_slots p = refl
node-order end t (slot k n ss) p =
    node-into t k (node_by_place n) (slots_by_place ss) (key-order k.name ss ∙ p.1)
    ∙ elim (cases_Bool (same_text t k.name)) [
      | inl same ↦ rw same refl
      | inr other ↦ rw other (node-order end t ss p.3)
    ]

-- ---- another item at a key

put-here : (t : Text) (x : Node) (k : Key) (n : Node) (ss : Slots) → has_key k.name ss ≡ false → same_text t k.name ≡ true
    → with_node t x (slot_by_place k n ss) ≡ slot_by_place k x ss
put-here t x k n no_slots apart here = rw here refl
put-here t x k n (slot l m ss) apart here =
    elim (cases_Bool (nat_lt (key_place l) (key_place k))) [
      | inl less ↦
          let near = or-left (same_text k.name l.name) (has_key k.name ss) apart in
          let other = other-name t l.name k.name (same_text-swap l.name k.name ∙ near) here in
          rw (less, other) (ap (slot l m) (put-here t x k n ss (or-right (same_text k.name l.name) (has_key k.name ss) apart) here))
      | inr more ↦ rw (more, here) refl
    ]

put-further : (t : Text) (x : Node) (k : Key) (n : Node) (ss : Slots) → same_text t k.name ≡ false
    → with_node t x (slot_by_place k n ss) ≡ slot_by_place k n (with_node t x ss)
put-further t x k n no_slots far = rw far refl
put-further t x k n (slot l m ss) far =
    elim (cases_Bool (nat_lt (key_place l) (key_place k))) [
      | inl less ↦ elim (cases_Bool (same_text t l.name)) [
        | inl same ↦ rw (less, same, less) refl
        | inr other ↦ rw (less, other, less) (ap (slot l m) (put-further t x k n ss far))
      ]
      | inr more ↦ elim (cases_Bool (same_text t l.name)) [
        | inl same ↦ rw (more, far, same, more) refl
        | inr other ↦ rw (more, far, other, more) refl
      ]
    ]

pub put-order : (end : ℕ) (t : Text) (x : Node) (ss : Slots) → ArePlaced end ss
    → with_node t (node_by_place x) (slots_by_place ss) ≡ slots_by_place (with_node t x ss)
put-order end t x no_slots p = refl
put-order end t x (slot k n ss) p =
    elim (cases_Bool (same_text t k.name)) [
      | inl same ↦ rw same (put-here t (node_by_place x) k (node_by_place n) (slots_by_place ss) (key-order k.name ss ∙ p.1) same)
      | inr other ↦
          rw other (put-further t (node_by_place x) k (node_by_place n) (slots_by_place ss) other
          ∙ ap (slot_by_place k (node_by_place n)) (put-order end t x ss p.3))
    ]

-- ---- a slot behind all others

into-append : (l k : Key) (m x : Node) (ss : Slots) → key_place l < key_place k → slot_by_place l m (with_slot ss k x)
    ≡ with_slot (slot_by_place l m ss) k x
into-append l k m x no_slots h = rw (not-lt (key_place k) (key_place l) (omega arith)) refl
into-append l k m x (slot i n ss) h =
    elim (cases_Bool (nat_lt (key_place i) (key_place l))) [
      | inl less ↦ rw less (ap (slot i n) (into-append l k m x ss h))
      | inr more ↦ rw more refl
    ]

pub last-order : (end : ℕ) (k : Key) (x : Node) (ss : Slots) → ArePlaced end ss → end ≤ key_place k
    → with_slot (slots_by_place ss) k (node_by_place x) ≡ slots_by_place (with_slot ss k x)
last-order end k x no_slots p h = refl
last-order end k x (slot l m ss) p h =
    let (near, _, _, further) = p in
    sym (ap (slot_by_place l (node_by_place m)) (sym (last-order end k x ss further h))
    ∙ into-append l k (node_by_place m) (node_by_place x) (slots_by_place ss) (omega (arith, near, h)))

-- ---- a slot put where another stands

abbrev AllBelow : ℕ → Slots → Type 0
AllBelow end no_slots = Unit {0}
AllBelow end (slot k n ss) = (key_place k < end) × AllBelow end ss

abbrev AllFrom : ℕ → Slots → Type 0
AllFrom start no_slots = Unit {0}
AllFrom start (slot k n ss) = (start ≤ key_place k) × AllFrom start ss

abbrev AreAscending : Slots → Type 0
AreAscending no_slots = Unit {0}
AreAscending (slot k n ss) = AllFrom (key_place k) ss × AreAscending ss

below-into : (end : ℕ) (k : Key) (n : Node) (ss : Slots) → key_place k < end → AllBelow end ss → AllBelow end (slot_by_place k n ss)
below-into end k n no_slots h a = (h, tt)
below-into end k n (slot l m ss) h a =
    elim (cases_Bool (nat_lt (key_place l) (key_place k))) [
      | inl less ↦ rw less (a.0, below-into end k n ss h a.1)
      | inr more ↦ rw more (h, a)
    ]

below-order : (end : ℕ) (ss : Slots) → ArePlaced end ss → AllBelow end (slots_by_place ss)
below-order end no_slots p = tt
below-order end (slot k n ss) p = below-into end k (node_by_place n) (slots_by_place ss) p.0 (below-order end ss p.3)

into-last : (end : ℕ) (k : Key) (n : Node) (ss : Slots) → end ≤ key_place k → AllBelow end ss → slot_by_place k n ss ≡ with_slot ss k n
into-last end k n no_slots h a = refl
into-last end k n (slot l m ss) h a =
    let (near, further) = a in
    rw (is-lt (key_place l) (key_place k) (omega (arith, near, h))) (ap (slot l m) (into-last end k n ss h further))

from-less : (i j : ℕ) (ss : Slots) → i ≤ j → AllFrom j ss → AllFrom i ss
from-less i j no_slots h a = tt
from-less i j (slot k n ss) h a =
    let (near, further) = a in
    (omega (arith, near, h), from-less i j ss h further)

from-into : (start : ℕ) (k : Key) (n : Node) (ss : Slots) → start ≤ key_place k → AllFrom start ss → AllFrom start (slot_by_place k n ss)
from-into start k n no_slots h a = (h, tt)
from-into start k n (slot l m ss) h a =
    elim (cases_Bool (nat_lt (key_place l) (key_place k))) [
      | inl less ↦ rw less (a.0, from-into start k n ss h a.1)
      | inr more ↦ rw more (h, a)
    ]

ascending-into : (k : Key) (n : Node) (ss : Slots) → AreAscending ss → AreAscending (slot_by_place k n ss)
ascending-into k n no_slots a = (tt, tt)
ascending-into k n (slot l m ss) a =
    elim (cases_Bool (nat_lt (key_place l) (key_place k))) [
      | inl less ↦
          let h = lt-true (key_place l) (key_place k) less in
          rw less (from-into (key_place l) k n ss (omega (arith, h)) a.0, ascending-into k n ss a.1)
      | inr more ↦
          let h = lt-false (key_place l) (key_place k) more in
          rw more ((h, from-less (key_place k) (key_place l) ss h a.0), a)
    ]

ascending : (ss : Slots) → AreAscending (slots_by_place ss)
ascending no_slots = tt
ascending (slot k n ss) = ascending-into k (node_by_place n) (slots_by_place ss) (ascending ss)

into-first : (k : Key) (n : Node) (ss : Slots) → AllFrom (key_place k) ss → slot_by_place k n ss ≡ slot k n ss
into-first k n no_slots a = refl
into-first k n (slot l m ss) a = rw (not-lt (key_place l) (key_place k) a.0) refl

-- the slot of the key, taken out again
without-into : (t : Text) (k : Key) (n : Node) (ss : Slots) → same_text t k.name ≡ true → has_key t ss ≡ false
    → without_slot t (slot_by_place k n ss) ≡ ss
without-into t k n no_slots same apart = rw same refl
without-into t k n (slot l m ss) same apart =
    elim (cases_Bool (nat_lt (key_place l) (key_place k))) [
      | inl less ↦
          rw (less, or-left (same_text t l.name) (has_key t ss) apart)
          (ap (slot l m) (without-into t k n ss same (or-right (same_text t l.name) (has_key t ss) apart)))
      | inr more ↦ rw (more, same) refl
    ]

-- another slot, and that of the key taken out
without-other : (t : Text) (k : Key) (n : Node) (ss : Slots) → same_text t k.name ≡ false → AreAscending ss
    → without_slot t (slot_by_place k n ss) ≡ slot_by_place k n (without_slot t ss)
without-other t k n no_slots h a = rw h refl
without-other t k n (slot l m ss) h a =
    elim (cases_Bool (nat_lt (key_place l) (key_place k))) [
      | inl less ↦ elim (cases_Bool (same_text t l.name)) [
        | inl same ↦ rw (less, same) refl
        | inr other ↦ rw (less, other, less) (ap (slot l m) (without-other t k n ss h a.1))
      ]
      | inr more ↦ elim (cases_Bool (same_text t l.name)) [
        | inl same ↦ rw (more, h, same) (sym (into-first k n ss
            (from-less (key_place k) (key_place l) ss (lt-false (key_place l) (key_place k) more) a.0)))
        | inr other ↦ rw (more, h, other, more) refl
      ]
    ]

pub move-order : (end : ℕ) (t : Text) (k : Key) (x : Node) (ss : Slots) (old : Node) → ArePlaced end ss → end ≤ key_place k → node_at t ss
    ≡ Some old
    → with_slot (without_slot t (slots_by_place ss)) k (node_by_place x) ≡ slots_by_place (replace_slot t k x ss)
move-order end t k x no_slots old p h there = absurd cc
move-order end t k x (slot l m ss) old p h there =
    elim (cases_Bool (same_text t l.name)) [
      | inl same ↦
          let name : t ≡ l.name = same_text-is t l.name same in
          let none : has_key t (slots_by_place ss) ≡ false = key-order t ss ∙ (ap (λ (u : Text). has_key u ss) name ∙ p.1) in
          rw same (ap (λ (us : Slots). with_slot us k (node_by_place x)) (without-into t l (node_by_place m) (slots_by_place ss) same none)
          ∙ sym (into-last end k (node_by_place x) (slots_by_place ss) h (below-order end ss p.3)))
      | inr other ↦
          let (near, _, _, further) = p in
          rw other (ap (λ (us : Slots). with_slot us k (node_by_place x))
          (without-other t l (node_by_place m) (slots_by_place ss) other (ascending ss))
          ∙ sym (into-append l k (node_by_place m) (node_by_place x) (without_slot t (slots_by_place ss)) (omega (arith, near, h)))
          ∙ ap (slot_by_place l (node_by_place m)) (move-order end t k x ss old further h (rw other at there)))
    ]
