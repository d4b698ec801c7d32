-- What moving a key leaves where it was.
use Rattle.std.proofs.Common.{◌≡◌, ◌∙◌, refl, sym, ap, subst, ℕ, zero, suc, Bool, true, false, List, [], ◌∷◌, ◌++◌, length, take, Option, Some, None}
use Rattle.std.specs.Prelude.{◌&&◌, not, if◌then◌else◌, Result, Ok, Err, option_and_then}
use Rattle.std.specs.Cmp.Lexicographic.{pointwise}
use Rattle.std.specs.List.{starts_with}
use Rattle.std.specs.Option.{ok_or}
use Rattle.toml_edit_edit_laws.proofs.commands.Finding.{remove_finds}
use Rattle.toml_edit_edits.proofs.OutcomeLaws.{at-end}
use Rattle.toml_edit_model.specs.Keys.{names, new_key}
use Rattle.toml_edit_model.specs.Lists.{slot_list, slots_from, slots_in, on_slots, is_item}
use Rattle.toml_edit_model.specs.Slots.{Slot, has_slot, lookup_slot}
use Rattle.toml_edit_model.specs.Text.{Text, one, same_text}
use Rattle.toml_edit_model.specs.Tree.{Key, Node, nothing, leaf, list, inline, table, tables, Tree, is_value_node}
use Rattle.toml_edit_edit_laws.specs.Commands.{Answer, Refusal, done, refused, no_such_path, wrong_kind, taken, child, and_then as then_item, item_at, item_below, present, remove_at, root_item, root_slots, with_slots}
use Rattle.toml_edit_laws.proofs.common.OptionSteps.{some-is}
use Rattle.toml_edit_laws.proofs.common.Tests.{if-true, if-false}
use Rattle.toml_edit_laws.proofs.locality.Slots.{slot_list-from}
use Rattle.toml_edit_edit_laws.proofs.commands.Apart.{root-down}
use Rattle.toml_edit_edit_laws.proofs.commands.Setting.{done-is, was-mapped}
use Rattle.toml_edit_edits.specs.declared.fault.EditFault.{EditFault}
use Rattle.toml_edit_edits.specs.declared.fault.EditFault.TheVariants.{NoSuchPath, WrongKind, Taken}
use Rattle.toml_edit_paths.specs.Calls.{replaced_at, replaced_below}
use Rattle.toml_edit_edits.specs.Effects.{at_end, changed_at, on_table}
use Rattle.toml_edit_edits.specs.Moves.{carried, carried_over, held_slot, moved, moved_beside, put_in, slot_at, slot_of, slots_with}
use Rattle.toml_edit_edits.specs.Outcomes.{and_then, of_answer}
use Rattle.toml_edit_edits.proofs.PathLaws.{HasAllOf, OneKind, begins, found-then, still-there}

-- ---- steps

pub went : {A B : Type 0} (go : A → Result B EditFault) (r : Result A EditFault) (b : B) → and_then go r ≡ Ok b
    → (a : A) × (r ≡ Ok a) × (go a ≡ Ok b)
went go (Ok a) b h = (a, refl, h)
went go (Err f) b h = absurd cc

pub there-is : {A : Type 0} (o : Option A) (f : EditFault) (a : A) → ok_or o f ≡ Ok a → o ≡ Some a
there-is None f a h = absurd cc
there-is (Some b) f a h = cc

ok-is : {A : Type 0} (a b : A) → ◌≡◌ {A = Result A EditFault} (Ok a) (Ok b) → a ≡ b
ok-is a b h = cc

pub answered : {A : Type 0} (a : Answer A) (b : A) → of_answer a ≡ Ok b → a ≡ done b
answered (done a) b h = cc
answered (refused no_such_path) b h = absurd cc
answered (refused wrong_kind) b h = absurd cc
answered (refused taken) b h = absurd cc

-- ---- a slot more

more-found : (k : Text) (s : Slot Node) (es : List (Slot Node)) (x : Slot Node) → lookup_slot k es ≡ Some x
    → lookup_slot k (es ++ one s) ≡ Some x
more-found k s [] x h = absurd cc
more-found k s (e ∷ es) x h = by_test (same_text k e.key.name) h (more-found k s es x)
  where
    by_test : (b : Bool) → (if b then Some e else lookup_slot k es) ≡ Some x
        → (lookup_slot k es ≡ Some x → lookup_slot k (es ++ one s) ≡ Some x)
        → (if b then Some e else lookup_slot k (es ++ one s)) ≡ Some x
    by_test true h ih = h
    by_test false h ih = ih h

more-present : (k : Text) (s : Slot Node) (es : List (Slot Node)) (c : Node) → present (lookup_slot k es) ≡ Some c
    → present (lookup_slot k (es ++ one s)) ≡ Some c
more-present k s es c h = by_slot (lookup_slot k es) refl h
  where
    by_slot : (o : Option (Slot Node)) → lookup_slot k es ≡ o → present o ≡ Some c → present (lookup_slot k (es ++ one s)) ≡ Some c
    by_slot None e h = absurd cc
    by_slot (Some x) e h = ap present (more-found k s es x e) ∙ h

module _ (s : Slot Node) (y m : Node) where
  has-all : ((k : Text) (c : Node) → child k y ≡ Some c → child k m ≡ Some c) → HasAllOf y m
  has-all each k path x h =
      let c = found-then (item_below path) (child k y) x h in
      (x, ap (then_item (item_below path)) (each k c.0 c.1) ∙ c.2)

  -- the slots of the old item, and the new one
  slots-more : (es xs : List (Slot Node)) → slots_with s es ≡ Ok xs → xs ≡ es ++ one s
  slots-more es xs h = by_test (has_slot s.key.name es) h
    where
      by_test : (b : Bool) → (if b then Err Taken else Ok (es ++ one s)) ≡ Ok xs → xs ≡ es ++ one s
      by_test true h = absurd cc
      by_test false h = sym (ok-is (es ++ one s) xs h)

pub put-kept : (s : Slot Node) (y m : Node) → on_table (slots_with s) y ≡ Ok m → OneKind y m × HasAllOf y m
put-kept s (table f ss) m h =
    let w = went (λ es. Ok (on_slots (λ _. es) (table f ss))) (slots_with s (slot_list ss)) m h in
    let is : m ≡ table f (slots_from (slot_list ss ++ one s)) =
    sym (ok-is (table f (slots_from w.0)) m w.2) ∙ ap (λ xs. table f (slots_from xs)) (slots-more s (table f ss) m (slot_list ss) w.0 w.1) in (
      subst (OneKind (table f ss)) (sym is) (record { item = refl; value = refl; table = refl }),
      has-all s (table f ss) m (λ k c g. ap (child k) is ∙ ap (λ xs. present (lookup_slot k xs)) (slot_list-from (slot_list ss ++ one s))
          ∙ more-present k s (slot_list ss) c g),
    )
put-kept s (inline f ss) m h =
    let w = went (λ es. Ok (on_slots (λ _. es) (inline f ss))) (slots_with s (slot_list ss)) m h in
    let is : m ≡ inline f (slots_from (slot_list ss ++ one s)) =
    sym (ok-is (inline f (slots_from w.0)) m w.2) ∙ ap (λ xs. inline f (slots_from xs)) (slots-more s (inline f ss) m (slot_list ss) w.0 w.1) in (
      subst (OneKind (inline f ss)) (sym is) (record { item = refl; value = refl; table = refl }),
      has-all s (inline f ss) m (λ k c g. ap (child k) is ∙ ap (λ xs. present (lookup_slot k xs)) (slot_list-from (slot_list ss ++ one s))
          ∙ more-present k s (slot_list ss) c g),
    )
put-kept s (leaf x r d) m h = absurd cc
put-kept s (list f xs) m h = absurd cc
put-kept s (tables e xs) m h = absurd cc
put-kept s nothing m h = absurd cc

put-allowed : (s : Slot Node) (y m : Node) → put_in s y ≡ Ok m → on_table (slots_with s) y ≡ Ok m
put-allowed s y m h = by_test (is_value_node y && not (is_value_node s.item)) h
  where
    by_test : (b : Bool) → (if b then Err WrongKind else on_table (slots_with s) y) ≡ Ok m → on_table (slots_with s) y ≡ Ok m
    by_test true h = absurd cc
    by_test false h = h

-- ---- the path of the slot

pub joins : (above : List Text) (k : Text) (n x c : Node) → item_below above n ≡ Some x → child k x ≡ Some c → item_below (above ++ one k) n ≡ Some c
joins [] k n x c h g = ap (then_item (item_below [])) (ap (child k) (some-is n x h) ∙ g)
joins (j ∷ above) k n x c h g =
    let y = found-then (item_below above) (child j n) x h in
    ap (then_item (item_below (above ++ one k))) y.1 ∙ joins above k y.0 x c y.2 g

held-child : (k : Text) (n : Node) (es : List (Slot Node)) (s : Slot Node) → slots_in n ≡ Some es → held_slot k es ≡ Some s
    → child k n ≡ Some s.item
held-child k n es s is h = by_kind n is
  where
    by_item : (x : Slot Node) (b : Bool) → is_item x.item ≡ b → (if b then Some x else None) ≡ Some s → present (Some x) ≡ Some s.item
    by_item x true e g = if-true (is_item x.item) (Some x.item) None e ∙ ap (λ (y : Slot Node). Some y.item) (some-is x s g)
    by_item x false e g = absurd cc

    by_slot : (o : Option (Slot Node)) → option_and_then (λ x. if is_item x.item then Some x else None) o ≡ Some s → present o ≡ Some s.item
    by_slot None g = absurd cc
    by_slot (Some x) g = by_item x (is_item x.item) refl g

    by_kind : (m : Node) → slots_in m ≡ Some es → child k m ≡ Some s.item
    by_kind (table f ss) e = by_slot (lookup_slot k (slot_list ss)) (ap (held_slot k) (some-is (slot_list ss) es e) ∙ h)
    by_kind (inline f ss) e = by_slot (lookup_slot k (slot_list ss)) (ap (held_slot k) (some-is (slot_list ss) es e) ∙ h)
    by_kind (leaf x r d) e = absurd cc
    by_kind (list f xs) e = absurd cc
    by_kind (tables e xs) g = absurd cc
    by_kind nothing e = absurd cc

-- ---- the beginning of a path

begins-longer : (p q : List Text) (u : Text) → begins p q ≡ true → starts_with same_text (q ++ one u) p ≡ true
begins-longer [] q u h = refl
begins-longer (j ∷ p) [] u h = absurd cc
begins-longer (j ∷ p) (k ∷ q) u h = by_test (same_text j k) h (begins-longer p q u)
  where
    by_test : (b : Bool) → (if b then begins p q else false) ≡ true → (begins p q ≡ true → starts_with same_text (q ++ one u) p ≡ true)
        → (b && pointwise same_text p (take (length p) (q ++ one u))) ≡ true
    by_test true h ih = ih h
    by_test false h ih = absurd cc

pub begins-not : (p q : List Text) (u : Text) → starts_with same_text (q ++ one u) p ≡ false → begins p q ≡ false
begins-not p q u h = by_test (begins p q) refl
  where
    by_test : (b : Bool) → begins p q ≡ b → begins p q ≡ false
    by_test true e = let t = begins-longer p q u e in absurd cc
    by_test false e = e

-- ---- the slot is still there

-- what is found of a slot at a path
pub slot-found : (above : List Text) (k : Text) (t : Tree) (s : Slot Node) → slot_at above k t ≡ Ok s → item_at (above ++ one k) t ≡ Some s.item
slot-found above k t s h =
    let n = went (slot_of k) (ok_or (item_at above t) NoSuchPath) s h in
    let es = went (λ xs. ok_or (held_slot k xs) NoSuchPath) (ok_or (slots_in n.0) WrongKind) s n.2 in
    joins above k (root_item t) n.0 s.item (there-is (item_at above t) NoSuchPath n.0 n.1)
    (held-child k n.0 es.0 s (there-is (slots_in n.0) WrongKind es.0 es.1) (there-is (held_slot k es.0) NoSuchPath s es.2))

root-put : (s : Slot Node) (t : Tree) (m : Node) → on_table (slots_with s) (root_item t) ≡ Ok m → m ≡ root_item (with_slots t m)
root-put s t m h =
    let w = went (λ es. Ok (on_slots (λ _. es) (root_item t))) (slots_with s (slot_list t.slots)) m h in
    let is : m ≡ table t.root (slots_from w.0) = sym (ok-is (table t.root (slots_from w.0)) m w.2) in
    is ∙ ap (λ (x : Node). table t.root (root_slots x)) (sym is)

-- the root stays a table where a slot is put
root-stays : (target : List Text) (s : Slot Node) (t : Tree) (y m w : Node) → item_at target t ≡ Some y → on_table (slots_with s) y ≡ Ok m
    → replaced_below target m (root_item t) ≡ done w → w ≡ root_item (with_slots t w)
root-stays [] s t y m w at put h =
    let is : m ≡ w = done-is m w h in
    subst (λ x. x ≡ root_item (with_slots t x)) is (root-put s t m (subst (λ x. on_table (slots_with s) x ≡ Ok m) (sym (some-is (root_item t) y at)) put))
root-stays (k ∷ target) s t y m w at put h = root-down false (new_key k) (replaced_below target m) t w h

pub still-at : (from target : List Text) (s : Slot Node) (t u : Tree) (x : Node) → begins from target ≡ false
    → changed_at (put_in s) target t ≡ Ok u → item_at from t ≡ Some x
    → (z : Node) × (item_at from u ≡ Some z)
still-at from target s t u x b h at =
    let m = went (λ n. of_answer (replaced_at target n t)) (and_then (put_in s) (ok_or (item_at target t) NoSuchPath)) u h in
    let y = went (put_in s) (ok_or (item_at target t) NoSuchPath) m.0 m.1 in
    let there : item_at target t ≡ Some y.0 = there-is (item_at target t) NoSuchPath y.0 y.1 in
    let put = put-allowed s y.0 m.0 y.2 in
    let kept = put-kept s y.0 m.0 put in
    let w = was-mapped (with_slots t) (replaced_below target m.0 (root_item t)) u (answered (replaced_at target m.0 t) u m.2) in
    let z = still-there from target m.0 (root_item t) w.from y.0 x b kept.0 kept.1 there w.is at in
    let root : root_item u ≡ w.from = ap root_item w.gives ∙ sym (root-stays target s t y.0 m.0 w.from there put w.is) in
    (z.0, ap (item_below from) root ∙ z.1)

-- ---- what a move is

pub slot-is : (above : List Text) (k : Text) (t : Tree) (n : Node) (es : List (Slot Node)) (s : Slot Node) → item_at above t ≡ Some n
    → slots_in n ≡ Some es → held_slot k es ≡ Some s → slot_at above k t ≡ Ok s
slot-is above k t n es s at is held =
    ap (λ o. and_then (slot_of k) (ok_or o NoSuchPath)) at
    ∙ ap (λ o. and_then (λ xs. ok_or (held_slot k xs) NoSuchPath) (ok_or o WrongKind)) is ∙ ap (λ o. ok_or o NoSuchPath) held

pub slot-missing : (above : List Text) (k : Text) (t : Tree) (n : Node) (es : List (Slot Node)) → item_at above t ≡ Some n
    → slots_in n ≡ Some es → held_slot k es ≡ None → slot_at above k t ≡ Err NoSuchPath
slot-missing above k t n es at is held =
    ap (λ o. and_then (slot_of k) (ok_or o NoSuchPath)) at
    ∙ ap (λ o. and_then (λ xs. ok_or (held_slot k xs) NoSuchPath) (ok_or o WrongKind)) is ∙ ap (λ o. ok_or o NoSuchPath) held

pub filled-held : (k : Text) (es : List (Slot Node)) (s : Slot Node) → lookup_slot k es ≡ Some s → (s.item ≡ nothing → ⊥) → held_slot k es ≡ Some s
filled-held k es s h full =
    ap (option_and_then (λ x. if is_item x.item then Some x else None)) h ∙ if-true (is_item s.item) (Some s) None (there s.item full)
  where
    there : (n : Node) → (n ≡ nothing → ⊥) → is_item n ≡ true
    there nothing f = absurd (f refl)
    there (leaf x r d) f = refl
    there (list g xs) f = refl
    there (inline g ss) f = refl
    there (table g ss) f = refl
    there (tables e xs) f = refl

pub empty-held : (k : Text) (es : List (Slot Node)) (s : Slot Node) → lookup_slot k es ≡ Some s → s.item ≡ nothing → held_slot k es ≡ None
empty-held k es s h empty =
    ap (option_and_then (λ x. if is_item x.item then Some x else None)) h ∙ if-false (is_item s.item) (Some s) None (ap is_item empty)

pub absent-held : (k : Text) (es : List (Slot Node)) → lookup_slot k es ≡ None → held_slot k es ≡ None
absent-held k es h = ap (option_and_then (λ x. if is_item x.item then Some x else None)) h

module _ (above : List Text) (k : Text) (target : List Text) (u : Text) (t : Tree) where
  pub move-is : (from to : List Text) → from ≡ above ++ one k → to ≡ target ++ one u
      → moved from to t
      ≡ (if pointwise same_text above target then moved_beside above k u t
      else if starts_with same_text to from then Err WrongKind else carried_over from above k target u t)
  move-is from to f g =
      at-end (λ a j. at_end (λ b v.
      if pointwise same_text a b then moved_beside a j v t
      else if starts_with same_text to from then Err WrongKind else carried_over from a j b v t) to) from above k f
      ∙ at-end (λ b v.
      if pointwise same_text above b then moved_beside above k v t
      else if starts_with same_text to from then Err WrongKind else carried_over from above k b v t) to target u g

  pub is-beside : (from to : List Text) → from ≡ above ++ one k → to ≡ target ++ one u → pointwise same_text above target ≡ true
      → moved from to t ≡ moved_beside above k u t
  is-beside from to f g same = move-is from to f g ∙ if-true (pointwise same_text above target) _ _ same

  pub is-inside : (from to : List Text) → from ≡ above ++ one k → to ≡ target ++ one u → pointwise same_text above target ≡ false
      → starts_with same_text to from ≡ true → moved from to t ≡ Err WrongKind
  is-inside from to f g other inside =
      move-is from to f g ∙ if-false (pointwise same_text above target) _ _ other ∙ if-true (starts_with same_text to from) _ _ inside

  pub is-carried : (from to : List Text) → from ≡ above ++ one k → to ≡ target ++ one u → pointwise same_text above target ≡ false
      → starts_with same_text to from ≡ false → moved from to t ≡ carried_over from above k target u t
  is-carried from to f g other outside =
      move-is from to f g ∙ if-false (pointwise same_text above target) _ _ other ∙ if-false (starts_with same_text to from) _ _ outside

  pub no-slot : (from : List Text) (e : EditFault) → slot_at above k t ≡ Err e → carried_over from above k target u t ≡ Err e
  no-slot from e h = ap (and_then (λ s. and_then (λ w. of_answer (remove_at from w)) (changed_at (put_in (carried u s)) target t))) h

  pub carry-is : (from : List Text) (s : Slot Node) → slot_at above k t ≡ Ok s
      → carried_over from above k target u t ≡ and_then (λ w. of_answer (remove_at from w)) (changed_at (put_in (carried u s)) target t)
  carry-is from s h = ap (and_then (λ s. and_then (λ w. of_answer (remove_at from w)) (changed_at (put_in (carried u s)) target t))) h

-- the slot is removed after it was put elsewhere
pub still-removed : (from above : List Text) (k : Text) (target : List Text) (s p : Slot Node) (t w : Tree) → from ≡ above ++ one k
    → begins from target ≡ false → slot_at above k t ≡ Ok s → changed_at (put_in p) target t ≡ Ok w
    → (v : Tree) × (remove_at from w ≡ done v)
still-removed [] above k target s p t w f b at put = absurd cc
still-removed (j ∷ from) above k target s p t w f b at put =
    let z = still-at (j ∷ from) target p t w s.item b put (ap (λ x. item_at x t) f ∙ slot-found above k t s at) in
    remove_finds w j from z.0 z.1

-- ---- keys by their names

same-keys : (ks js : List Key) → pointwise (λ (a b : Key). same_text a.name b.name) ks js ≡ pointwise same_text (names ks) (names js)
same-keys [] [] = refl
same-keys [] (j ∷ js) = refl
same-keys (k ∷ ks) [] = refl
same-keys (k ∷ ks) (j ∷ js) = ap (λ b. same_text k.name j.name && b) (same-keys ks js)

names-take : (n : ℕ) (ks : List Key) → names (take n ks) ≡ take n (names ks)
names-take zero ks = refl
names-take (suc n) [] = refl
names-take (suc n) (k ∷ ks) = ap (λ r. k.name ∷ r) (names-take n ks)

names-length : (ks : List Key) → length (names ks) ≡ length ks
names-length [] = refl
names-length (k ∷ ks) = ap suc (names-length ks)

pub same-path : (ks js : List Key) → pointwise (λ (a b : Key). same_text a.name b.name) ks js ≡ pointwise same_text (names ks) (names js)
same-path = same-keys

pub starts-path : (ks js : List Key) → starts_with (λ (a b : Key). same_text a.name b.name) ks js ≡ starts_with same_text (names ks) (names js)
starts-path ks js =
    same-keys js (take (length js) ks) ∙ ap (pointwise same_text (names js)) (names-take (length js) ks
    ∙ ap (λ n. take n (names ks)) (sym (names-length js)))

-- ---- the ends of a move

module _ (from to above target : List Text) (k u : Text) (t : Tree) (f : from ≡ above ++ one k) (g : to ≡ target ++ one u)
    (other : pointwise same_text above target ≡ false) (outside : starts_with same_text to from ≡ false) where
  pub not-found : (e : EditFault) → slot_at above k t ≡ Err e → moved from to t ≡ Err e
  not-found e h = is-carried above k target u t from to f g other outside ∙ no-slot above k target u t from e h

  module _ (s p : Slot Node) (found : slot_at above k t ≡ Ok s) (is : p ≡ carried u s) where
    put-first : moved from to t ≡ and_then (λ w. of_answer (remove_at from w)) (changed_at (put_in p) target t)
    put-first =
        is-carried above k target u t from to f g other outside ∙ carry-is above k target u t from s found
        ∙ ap (λ x. and_then (λ w. of_answer (remove_at from w)) (changed_at (put_in x) target t)) (sym is)

    pub not-put : (e : EditFault) → changed_at (put_in p) target t ≡ Err e → moved from to t ≡ Err e
    not-put e h = put-first ∙ ap (and_then (λ w. of_answer (remove_at from w))) h

    pub put-and-removed : (w v : Tree) → changed_at (put_in p) target t ≡ Ok w → remove_at from w ≡ done v → moved from to t ≡ Ok v
    put-and-removed w v put gone = put-first ∙ ap (and_then (λ w. of_answer (remove_at from w))) put ∙ ap of_answer gone

    pub never-refused : (w : Tree) (r : Refusal) → changed_at (put_in p) target t ≡ Ok w → remove_at from w ≡ refused r → ⊥
    never-refused w r put h =
        let outside-target : starts_with same_text (target ++ one u) from ≡ false = subst (λ q. starts_with same_text q from ≡ false) g outside in
        let x = still-removed from above k target s p t w f (begins-not from target u outside-target) found put in
        clash x.0 (sym x.1 ∙ h)
      where
        clash : (v : Tree) → done v ≡ refused r → ⊥
        clash v e = cc
