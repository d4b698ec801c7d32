-- Removing keys of one table, one after another, is removing all at once.
use Rattle.std.proofs.Common.{◌≡◌, ◌∙◌, refl, sym, ap, subst, ℕ, zero, suc, ◌+◌, length, length-append, Bool, true, false, List, [], ◌∷◌, ◌++◌, Option, Some, None, String, string_bytes}
use Rattle.std.specs.Prelude.{◌||◌, ◌&&◌, not, filter, map, if◌then◌else◌, slice_get, is_some, option_map, Result, Ok, Err, IfOk, OnErr}
use Rattle.std.specs.Bool.{OnFalse, OnTrue}
use Rattle.std.specs.Cmp.Lexicographic.{pointwise}
use Rattle.std.specs.List.{list_any}
use Rattle.std.specs.Option.{ok_or}
use Rattle.std.specs.Result.{result_unwrap_or}
use Rattle.std.proofs.lemmas.Cmp.{nat_list_eq_equiv}
use Rattle.std.specs.declared.alloc.Global.{Global}
use Rattle.toml_edit_model.specs.ArrayCalls.{written_at}
use Rattle.toml_edit_model.specs.Keys.{new_key, names as names_of}
use Rattle.toml_edit_model.specs.Lists.{slot_list, slots_from, slots_in, item_list, items_from, on_slots}
use Rattle.toml_edit_model.specs.Retaining.{RetainsBy}
use Rattle.toml_edit_model.specs.Shown.{is_table_node}
use Rattle.toml_edit_model.specs.Slots.{Slot, keyed, with_item, lookup_slot, changed, on_item, without}
use Rattle.toml_edit_model.specs.Text.{Text, same_text}
use Rattle.toml_edit_model.specs.Tree.{Key, Node, nothing, leaf, list, inline, table, tables, Tree, is_value_node}
use Rattle.toml_edit_edit_laws.specs.Commands.{Answer, done, refused, Refusal, no_such_path, wrong_kind, taken, mapped, element_of, present, second}
use Rattle.toml_edit_edit_laws.specs.Commands.{child, item_below, change_slot, change_element, child_changed, drop_slot, root_item, with_slots, item_at}
use Rattle.toml_edit_paths.specs.Calls.{replaced_at, replaced_below}
use Rattle.toml_edit_paths.specs.Lines.{remove_line_at, remove_line_below, remove_line_child}
use Rattle.toml_edit_paths.proofs.StepLaws.{slots-kept}
use Rattle.toml_edit_laws.proofs.common.OptionSteps.{some-is}
use Rattle.toml_edit_laws.proofs.common.Tests.{if-true, if-false, same_text-is}
use Rattle.toml_edit_laws.proofs.locality.Slots.{slot_list-from, item_list-from, slots_from-list, items_from-list}
use Rattle.toml_edit_edit_laws.proofs.commands.Apart.{named, names as element-names, place-same, root-down, slot-same}
use Rattle.toml_edit_edit_laws.proofs.commands.Setting.{done-is}
use Rattle.toml_edit_edits.specs.Along.{AreApartAlong}
use Rattle.toml_edit_edits.specs.Effects.{removed, on_table}
use Rattle.toml_edit_edits.specs.Lists.{applied, effect}
use Rattle.toml_edit_edits.specs.Outcomes.{and_then, of_answer}
use Rattle.toml_edit_edits.specs.Removes.{AddsName, AddsText, RemoveAll, all_removed, is_among, without_all}
use Rattle.toml_edit_edits.specs.declared.edit.Edit.{Edit}
use Rattle.toml_edit_edits.specs.declared.fault.EditFault.{EditFault}
use Rattle.toml_edit_edits.specs.declared.fault.EditFault.TheVariants.{NoSuchPath, WrongKind}
use Rattle.toml_edit_edits.proofs.ListLaws.{applied-last}
use Rattle.toml_edit_edits.proofs.MoveLaws.{same-path}
use Rattle.toml_edit_edits.proofs.OutcomeLaws.{names-last}
use Rattle.toml_edit_edits.proofs.PathLaws.{Element, Held, OneKind, element, found-then, held, kind-below, one-child, one-kind, put-back-in}

-- ---- two changes of the item that a segment leads to

abbrev bound : (Node → Answer Node) → Answer Node → Answer Node
bound g (done n) = g n
bound g (refused r) = refused r

abbrev stepped_by : Text → (Node → Answer Node) → Node → Answer Node
stepped_by k go = child_changed false (new_key k) go

abbrev written : Text → Node → Slot Node → Slot Node
written k m s = if same_text k s.key.name then with_item m s else s

slot-twice : (k : Text) (m x : Node) (ss : List (Slot Node)) → changed k (with_item m) (changed k (with_item x) ss) ≡ changed k (with_item m) ss
slot-twice k m x [] = refl
slot-twice k m x (s ∷ ss) =
    ap (λ (r : List (Slot Node)). written k m (if same_text k s.key.name then with_item x s else s) ∷ r) (slot-twice k m x ss)
    ∙ ap (λ (r : Slot Node). r ∷ changed k (with_item m) ss) (by_test (same_text k s.key.name) refl)
  where
    by_test : (b : Bool) → same_text k s.key.name ≡ b → written k m (if b then with_item x s else s) ≡ if b then with_item m s else s
    by_test true e = if-true (same_text k s.key.name) (with_item m s) (with_item x s) e
    by_test false e = if-false (same_text k s.key.name) (with_item m s) s e

item-twice : (i : ℕ) (m x : Node) (ns : List Node) → written_at i m (written_at i x ns) ≡ written_at i m ns
item-twice i m x [] = refl
item-twice zero m x (n ∷ ns) = refl
item-twice (suc i) m x (n ∷ ns) = ap (λ r. n ∷ r) (item-twice i m x ns)

module _ (k : Text) (f g h : Node → Answer Node) (c : Node) (both : bound g (f c) ≡ h c) (kinds : (m : Node) → f c ≡ done m → OneKind c m) where
  again : {L : Type 0} (whole : L → Node) (go : (Node → Answer Node) → L → Answer L) (put : Node → L → L) (xs : L)
      → ((q : Node → Answer Node) (ys : L) → stepped_by k q (whole ys) ≡ mapped whole (go q ys))
      → ((q : Node → Answer Node) → go q xs ≡ mapped (λ m. put m xs) (q c))
      → ((q : Node → Answer Node) (x : Node) → f c ≡ done x → go q (put x xs) ≡ mapped (λ m. put m (put x xs)) (q x))
      → ((m x : Node) → put m (put x xs) ≡ put m xs)
      → bound (stepped_by k g) (stepped_by k f (whole xs)) ≡ stepped_by k h (whole xs)
  again {L} whole go put xs steps here there twice =
      ap (bound (stepped_by k g)) (steps f xs ∙ ap (mapped whole) (here f)) ∙ by_answer (f c) refl both
      ∙ sym (steps h xs ∙ ap (mapped whole) (here h))
    where
      by_answer : (a : Answer Node) → f c ≡ a → bound g a ≡ h c → bound (stepped_by k g) (mapped whole (mapped (λ m. put m xs) a))
          ≡ mapped whole (mapped (λ m. put m xs) (h c))
      by_answer (done x) e same =
          steps g (put x xs) ∙ ap (mapped whole) (there g x e) ∙ ap (λ a. mapped whole (mapped (λ m. put m (put x xs)) a)) same
          ∙ ap (λ (w : Node → L). mapped whole (mapped w (h c))) (λ i m. twice m x i)
      by_answer (refused r) e same = ap (λ a. mapped whole (mapped (λ m. put m xs) a)) same

  -- among the slots of a table
  in-slots : (whole : List (Slot Node) → Node)
      → ((q : Node → Answer Node) (ys : List (Slot Node)) → stepped_by k q (whole ys) ≡ mapped whole (change_slot false (new_key k) q ys (lookup_slot k ys)))
      → (ss : List (Slot Node)) → present (lookup_slot k ss) ≡ Some c
      → bound (stepped_by k g) (stepped_by k f (whole ss)) ≡ stepped_by k h (whole ss)
  in-slots whole steps ss is =
      let w = held k ss c is in
      again whole (λ q ys. change_slot false (new_key k) q ys (lookup_slot k ys)) (λ m ys. changed k (with_item m) ys) ss steps
      (λ q. ap (change_slot false (new_key k) q ss) w.there ∙ ap (λ x. mapped (λ m. changed k (with_item m) ss) (q x)) w.holds)
      (λ q x e. ap (change_slot false (new_key k) q (changed k (with_item x) ss)) (slot-same k x ss w.slot w.there))
      (λ m x. slot-twice k m x ss)

  -- among the elements of a list
  in-items : (is : Node → Bool) (whole : List Node → Node)
      → ((q : Node → Answer Node) (ys : List Node) → stepped_by k q (whole ys) ≡ mapped whole (change_element q ys (element_of is k ys)))
      → ((m : Node) → OneKind c m → is m ≡ is c)
      → (ns : List Node) → second (element_of is k ns) ≡ Some c
      → bound (stepped_by k g) (stepped_by k f (whole ns)) ≡ stepped_by k h (whole ns)
  in-items is whole steps kind ns found =
      let x = element is k ns c found in
      let r = named is k ns (x.at, c) x.there in
      again whole (λ q ys. change_element q ys (element_of is k ys)) (λ m ys. written_at x.at m ys) ns steps
      (λ q. ap (change_element q ns) x.there)
      (λ q y e. ap (change_element q (written_at x.at y ns))
      (element-names is k (written_at x.at y ns) x.at y r.number (place-same x.at (λ old. y) ns c r.item) (kind y (kinds y e) ∙ r.kind)))
      (λ m y. item-twice x.at m y ns)

  retouched : (n : Node) → child k n ≡ Some c → bound (stepped_by k g) (stepped_by k f n) ≡ stepped_by k h n
  retouched (table e s) is =
      subst (λ n. bound (stepped_by k g) (stepped_by k f n) ≡ stepped_by k h n) (ap (table e) (slots_from-list s))
      (in-slots (λ xs. table e (slots_from xs))
      (λ q ys. ap (λ xs. mapped (λ zs. table e (slots_from zs)) (change_slot false (new_key k) q xs (lookup_slot k xs))) (slot_list-from ys))
      (slot_list s) is)
  retouched (inline e s) is =
      subst (λ n. bound (stepped_by k g) (stepped_by k f n) ≡ stepped_by k h n) (ap (inline e) (slots_from-list s))
      (in-slots (λ xs. inline e (slots_from xs))
      (λ q ys. ap (λ xs. mapped (λ zs. inline e (slots_from zs)) (change_slot false (new_key k) q xs (lookup_slot k xs))) (slot_list-from ys))
      (slot_list s) is)
  retouched (list e s) is =
      subst (λ n. bound (stepped_by k g) (stepped_by k f n) ≡ stepped_by k h n) (ap (list e) (items_from-list s))
      (in-items is_value_node (λ xs. list e (items_from xs))
      (λ q ys. ap (λ xs. mapped (λ zs. list e (items_from zs)) (change_element q xs (element_of is_value_node k xs))) (item_list-from ys))
      (λ m kind. kind.value) (item_list s) is)
  retouched (tables e s) is =
      subst (λ n. bound (stepped_by k g) (stepped_by k f n) ≡ stepped_by k h n) (ap (tables e) (items_from-list s))
      (in-items is_table_node (λ xs. tables e (items_from xs))
      (λ q ys. ap (λ xs. mapped (λ zs. tables e (items_from zs)) (change_element q xs (element_of is_table_node k xs))) (item_list-from ys))
      (λ m kind. kind.table) (item_list s) is)
  retouched (leaf s r d) is = absurd cc
  retouched nothing is = absurd cc

-- ---- a key more of the item at a path

removes-down : (l : Text) (path : List Text) (k : Text) (n : Node) → remove_line_below (l ∷ (path ++ k ∷ [])) n
    ≡ stepped_by l (remove_line_below (path ++ k ∷ [])) n
removes-down l [] k n = refl
removes-down l (j ∷ path) k n = refl

key-more : (path : List Text) (k : Text) (m x y : Node) → remove_line_child k x ≡ done y → OneKind m x → (n : Node) → item_below path n ≡ Some m
    → bound (remove_line_below (path ++ k ∷ [])) (replaced_below path x n) ≡ replaced_below path y n
key-more [] k m x y gone kind n is = gone
key-more (l ∷ path) k m x y gone kind n is =
    let c = found-then (item_below path) (child l n) m is in
    ap (λ (go : Node → Answer Node). bound go (stepped_by l (replaced_below path x) n)) (λ i w. removes-down l path k w i)
    ∙ retouched l (replaced_below path x) (remove_line_below (path ++ k ∷ [])) (replaced_below path y) c.0 (key-more path k m x y gone kind c.0 c.2)
    (λ w h. kind-below path x c.0 w m kind c.2 h) n c.1

slots-kind : (ss : List (Slot Node)) (n : Node) → OneKind n (on_slots (λ _. ss) n)
slots-kind ss (table f s) = record { item = refl; value = refl; table = refl }
slots-kind ss (inline f s) = record { item = refl; value = refl; table = refl }
slots-kind ss (list f xs) = one-kind (list f xs)
slots-kind ss (tables e xs) = one-kind (tables e xs)
slots-kind ss (leaf s r d) = one-kind (leaf s r d)
slots-kind ss nothing = one-kind nothing

-- the root stays a table
root-left : (path : List Text) (ss : List (Slot Node)) (t : Tree) (m n : Node) → item_at path t ≡ Some m
    → replaced_below path (on_slots (λ _. ss) m) (root_item t) ≡ done n → n ≡ root_item (with_slots t n)
root-left [] ss t m n is put =
    let left : table t.root (slots_from ss) ≡ n =
    done-is (table t.root (slots_from ss)) n
    (subst (λ x. replaced_below [] (on_slots (λ _. ss) x) (root_item t) ≡ done n) (sym (some-is (root_item t) m is)) put) in
    subst (λ x. x ≡ root_item (with_slots t x)) left refl
root-left (k ∷ path) ss t m n is put = root-down false (new_key k) (replaced_below path (on_slots (λ _. ss) m)) t n put

-- ---- slots without names

-- what a closure keeps that is a test
pub kept-by : {X : Type 0} (says : X → Bool → Type 0) (test : X → Bool) → ((x : X) (b : Bool) → says x b → b ≡ test x)
    → (before after : List X) → RetainsBy says before after → after ≡ filter test before
kept-by says test same [] after e = e
kept-by says test same (x ∷ before) after (keeps, rest, said, more, e) =
    e ∙ ap (λ b. if b then x ∷ rest else rest) (same x keeps said)
    ∙ ap (λ (r : List _). if test x then x ∷ r else r) (kept-by says test same before rest more)

-- the names in a set
pub among-texts : (t : Text) (ks : List (String Global)) → is_among t (map string_bytes ks) ≡ list_any (λ k. same_text t (string_bytes k)) ks
among-texts t [] = refl
among-texts t (k ∷ ks) = ap (λ b. same_text t (string_bytes k) || b) (among-texts t ks)

texts-last : (k : String Global) (ks : List (String Global)) → map string_bytes (ks ++ k ∷ []) ≡ map string_bytes ks ++ string_bytes k ∷ []
texts-last k [] = refl
texts-last k (j ∷ ks) = ap (λ r. string_bytes j ∷ r) (texts-last k ks)

all-there : (ss : List (Slot Node)) → without_all [] ss ≡ ss
all-there [] = refl
all-there (s ∷ ss) = ap (λ (r : List (Slot Node)). s ∷ r) (all-there ss)

among-last : (t k : Text) (ks : List Text) → is_among t (ks ++ k ∷ []) ≡ (is_among t ks || same_text k t)
among-last t k [] = by_test (same_text t k) (same_text k t) (nat_list_eq_equiv.symm t k)
  where
    by_test : (a b : Bool) → a ≡ b → (a || false) ≡ b
    by_test true b e = e
    by_test false b e = e
among-last t k (j ∷ ks) = by_test (same_text t j) (among-last t k ks)
  where
    by_test : (b : Bool) → is_among t (ks ++ k ∷ []) ≡ (is_among t ks || same_text k t) → (b || is_among t (ks ++ k ∷ [])) ≡ ((b || is_among t ks) || same_text k t)
    by_test true more = refl
    by_test false more = more

one-less : (k : Text) (ks : List Text) (ss : List (Slot Node)) → without k (without_all ks ss) ≡ without_all (ks ++ k ∷ []) ss
one-less k ks [] = refl
one-less k ks (s ∷ ss) =
    by_test (is_among s.key.name ks) (same_text k s.key.name) (one-less k ks ss) refl
    ∙ ap (λ b. if not b then s ∷ without_all (ks ++ k ∷ []) ss else without_all (ks ++ k ∷ []) ss) (sym (among-last s.key.name k ks))
  where
    by_test : (a b : Bool) → without k (without_all ks ss) ≡ without_all (ks ++ k ∷ []) ss → same_text k s.key.name ≡ b → without k (if not a then s ∷ without_all ks ss else without_all ks ss)
        ≡ if not (a || b) then s ∷ without_all (ks ++ k ∷ []) ss else without_all (ks ++ k ∷ []) ss
    by_test true b more e = more
    by_test false true more e =
        ap (λ c. if not c then s ∷ without k (without_all ks ss) else without k (without_all ks ss)) e ∙ more
    by_test false false more e =
        ap (λ c. if not c then s ∷ without k (without_all ks ss) else without k (without_all ks ss)) e
        ∙ ap (λ (r : List (Slot Node)). s ∷ r) more

still-found : (k : Text) (ks : List Text) (ss : List (Slot Node)) → is_among k ks ≡ false → lookup_slot k (without_all ks ss) ≡ lookup_slot k ss
still-found k ks [] other = refl
still-found k ks (s ∷ ss) other = by_test (is_among s.key.name ks) (same_text k s.key.name) (still-found k ks ss other) refl refl
  where
    by_test : (a b : Bool) → lookup_slot k (without_all ks ss) ≡ lookup_slot k ss → is_among s.key.name ks ≡ a → same_text k s.key.name ≡ b
        → lookup_slot k (if not a then s ∷ without_all ks ss else without_all ks ss) ≡ if b then Some s else lookup_slot k ss
    by_test false true more e same = ap (λ c. if c then Some s else lookup_slot k (without_all ks ss)) same
    by_test false false more e apart =
        ap (λ c. if c then Some s else lookup_slot k (without_all ks ss)) apart ∙ more
    by_test true false more e apart = more
    by_test true true more e same =
        absurd (clash (sym (subst (λ j. is_among j ks ≡ false) (same_text-is k s.key.name same) other) ∙ e))
      where
        clash : false ≡ true → ⊥
        clash h = cc

slot-gone : (k : Text) (ks : List Text) (ss : List (Slot Node)) (x : Node) → present (lookup_slot k ss) ≡ Some x → is_among k ks ≡ false
    → drop_slot k (without_all ks ss) (present (lookup_slot k (without_all ks ss))) ≡ done (without_all (ks ++ k ∷ []) ss)
slot-gone k ks ss x is other =
    ap (λ o. drop_slot k (without_all ks ss) (present o)) (still-found k ks ss other) ∙ ap (drop_slot k (without_all ks ss)) is
    ∙ ap (λ (r : List (Slot Node)). done r) (one-less k ks ss)

key-gone : (k : Text) (ks : List Text) (n x : Node) (ss : List (Slot Node)) → slots_in n ≡ Some ss → child k n ≡ Some x → is_among k ks ≡ false
    → remove_line_child k (on_slots (λ _. without_all ks ss) n) ≡ done (on_slots (λ _. without_all (ks ++ k ∷ []) ss) n)
key-gone k ks (table f s) x ss slots is other =
    let own : slot_list s ≡ ss = some-is (slot_list s) ss slots in
    ap (λ l. mapped (λ xs. table f (slots_from xs)) (drop_slot k l (present (lookup_slot k l)))) (slot_list-from (without_all ks ss))
    ∙ ap (mapped (λ xs. table f (slots_from xs))) (slot-gone k ks ss x (subst (λ l. present (lookup_slot k l) ≡ Some x) own is) other)
key-gone k ks (inline f s) x ss slots is other =
    let own : slot_list s ≡ ss = some-is (slot_list s) ss slots in
    ap (λ l. mapped (λ xs. inline f (slots_from xs)) (drop_slot k l (present (lookup_slot k l)))) (slot_list-from (without_all ks ss))
    ∙ ap (mapped (λ xs. inline f (slots_from xs))) (slot-gone k ks ss x (subst (λ l. present (lookup_slot k l) ≡ Some x) own is) other)
key-gone k ks (leaf s r d) x ss slots is other = absurd cc
key-gone k ks (list f xs) x ss slots is other = absurd cc
key-gone k ks (tables e xs) x ss slots is other = absurd cc
key-gone k ks nothing x ss slots is other = absurd cc

-- ---- in a tree

-- what a path and a key lead to is that key's of what the path leads to
last-child : (path : List Text) (k : Text) (n m x : Node) → item_below path n ≡ Some m → item_below (path ++ k ∷ []) n ≡ Some x → child k m ≡ Some x
last-child [] k n m x is there = subst (λ y. child k y ≡ Some x) (some-is n m is) (one-child k n x there)
last-child (l ∷ path) k n m x is there =
    let c = found-then (item_below path) (child l n) m is in
    let d = found-then (item_below (path ++ k ∷ [])) (child l n) x there in
    last-child path k c.0 m x c.2 (subst (λ y. item_below (path ++ k ∷ []) y ≡ Some x) (some-is d.0 c.0 (sym d.1 ∙ c.1)) d.2)

refused-so : (go : Tree → Result Tree EditFault) (r : Refusal) → and_then go (of_answer (refused r)) ≡ of_answer (refused r)
refused-so go no_such_path = refl
refused-so go wrong_kind = refl
refused-so go taken = refl

removed-more : (path : List Text) (k : Text) (ks : List Text) (t : Tree) (m x : Node) (ss : List (Slot Node)) → item_at path t ≡ Some m
    → slots_in m ≡ Some ss → item_at (path ++ k ∷ []) t ≡ Some x → is_among k ks ≡ false
    → and_then (removed (path ++ k ∷ [])) (of_answer (replaced_at path (on_slots (λ _. without_all ks ss) m) t))
    ≡ of_answer (replaced_at path (on_slots (λ _. without_all (ks ++ k ∷ []) ss) m) t)
removed-more path k ks t m x ss is slots there other =
    let old = on_slots (λ _. without_all ks ss) m in
    let new = on_slots (λ _. without_all (ks ++ k ∷ []) ss) m in
    let one = key-more path k m old new (key-gone k ks m x ss slots (last-child path k (root_item t) m x is there) other)
    (slots-kind (without_all ks ss) m) (root_item t) is in
    by_answer (replaced_below path old (root_item t)) refl ∙ ap (λ a. of_answer (mapped (with_slots t) a)) one
  where
    by_answer : (a : Answer Node) → replaced_below path (on_slots (λ _. without_all ks ss) m) (root_item t) ≡ a
        → and_then (removed (path ++ k ∷ [])) (of_answer (mapped (with_slots t) a))
        ≡ of_answer (mapped (with_slots t) (bound (remove_line_below (path ++ k ∷ [])) a))
    by_answer (done n) e =
        ap (λ r. of_answer (mapped (with_slots t) (remove_line_below (path ++ k ∷ []) r))) (sym (root-left path (without_all ks ss) t m n is e))
    by_answer (refused r) e = refused-so (removed (path ++ k ∷ [])) r

same-texts : (ks js : List Text) → pointwise same_text ks js ≡ true → ks ≡ js
same-texts [] [] h = refl
same-texts [] (j ∷ js) h = absurd cc
same-texts (k ∷ ks) [] h = absurd cc
same-texts (k ∷ ks) (j ∷ js) h = by_test (same_text k j) (same-texts ks js) refl h
  where
    by_test : (b : Bool) → (pointwise same_text ks js ≡ true → ks ≡ js) → same_text k j ≡ b → (b && pointwise same_text ks js) ≡ true → k ∷ ks ≡ j ∷ js
    by_test true more e h = ap (λ x. x ∷ ks) (same_text-is k j e) ∙ ap (λ r. j ∷ r) (more h)
    by_test false more e h = absurd cc

-- the path of a key of a table that is the one at the other path
pub key-below : (path up above : List Key) (key : Key) → path ≡ up ++ key ∷ []
    → pointwise (λ (a b : Key). same_text a.name b.name) up above ≡ true → names_of path ≡ names_of above ++ key.name ∷ []
key-below path up above key is same =
    ap names_of is ∙ names-last up key
    ∙ ap (λ r. r ++ key.name ∷ []) (same-texts (names_of up) (names_of above) (sym (same-path up above) ∙ same))

pub item-there : {X : Type 0} (view : X → Node) (o : Option X) → is_some o ≡ true → (n : Node) × (option_map view o ≡ Some n)
item-there view None h = absurd cc
item-there view (Some x) h = (view x, refl)

-- a name that is put into the set of the names
module _ (old new : List (String Global)) (name : String Global) where
  abbrev is_there : Bool
  is_there = list_any (λ j. same_text (string_bytes name) (string_bytes j)) old

  pub text-added : {E : Type 0} (r : Result Bool E) → IfOk r (λ a. a ≡ not is_there) → IfOk r (λ a. new ≡ if is_there then old else old ++ name ∷ [])
      → OnTrue (result_unwrap_or r false) (AddsText (string_bytes name) (map string_bytes old) (map string_bytes new))
  text-added (Err f) says puts = tt
  text-added (Ok a) says puts = by_test is_there refl says puts
    where
      by_test : (b : Bool) → is_there ≡ b → a ≡ not b → new ≡ (if b then old else old ++ name ∷ [])
          → OnTrue a (AddsText (string_bytes name) (map string_bytes old) (map string_bytes new))
      by_test true had is p = subst (λ c. OnTrue c (AddsText (string_bytes name) (map string_bytes old) (map string_bytes new))) (sym is) tt
      by_test false had is p =
          subst (λ c. OnTrue c (AddsText (string_bytes name) (map string_bytes old) (map string_bytes new))) (sym is)
          (ap (map string_bytes) p ∙ texts-last name old, among-texts (string_bytes name) old ∙ had)

  pub text-kept : {E : Type 0} (r : Result Bool E) → IfOk r (λ a. a ≡ not is_there) → IfOk r (λ a. new ≡ if is_there then old else old ++ name ∷ [])
      → OnErr r (new ≡ old) → OnFalse (result_unwrap_or r false) (new ≡ old)
  text-kept (Err f) says puts stays = stays
  text-kept (Ok a) says puts stays = by_test is_there says puts
    where
      by_test : (b : Bool) → a ≡ not b → new ≡ (if b then old else old ++ name ∷ []) → OnFalse a (new ≡ old)
      by_test true is p = subst (λ c. OnFalse c (new ≡ old)) (sym is) p
      by_test false is p = subst (λ c. OnFalse c (new ≡ old)) (sym is) tt

-- it is the name of a key that an edit removes
pub name-added : (e : Edit) (above : List Text) (t : Tree) (old new : List Text) (k : Text) (added : Bool) → OnTrue added (AddsText k old new)
    → (n : Node) → item_at (above ++ k ∷ []) t ≡ Some n → ((u : Tree) → effect e u ≡ removed (above ++ k ∷ []) u)
    → OnTrue added (AddsName e above t old new)
name-added e above t old new k true adds n there removes = record { name = k; item = n; adds = adds; there = there; removes = removes }
name-added e above t old new k false adds n there removes = tt

texts-long : (ks : List (String Global)) → length (map string_bytes ks) ≡ length ks
texts-long [] = refl
texts-long (k ∷ ks) = ap suc (texts-long ks)

pub one-longer : (old new : List (String Global)) (name : Text) → map string_bytes new ≡ map string_bytes old ++ name ∷ [] → length new ≡ length old + 1
one-longer old new name is =
    sym (texts-long new) ∙ ap length is ∙ length-append (map string_bytes old) (name ∷ []) ∙ ap (λ n. n + 1) (texts-long old)

-- no edit removes no key
pub none-removed : (above : List Text) (t : Tree) → AreApartAlong above (root_item t) → RemoveAll [] above [] t
none-removed above t apart m ss is slots =
    ap of_answer (sym (put-back-in above t m apart is))
    ∙ ap (λ n. of_answer (replaced_at above n t)) (sym (ap (λ l. on_slots (λ _. l) m) (all-there ss) ∙ slots-kept m ss slots))

-- one edit more removes one key more
pub one-removed : (es : List Edit) (e : Edit) (above : List Text) (t : Tree) (ks ls : List Text) → RemoveAll es above ks t
    → AddsName e above t ks ls → RemoveAll (es ++ (e ∷ [])) above ls t
one-removed es e above t ks ls all a =
    subst (λ l. RemoveAll (es ++ (e ∷ [])) above l t) (sym a.adds.0)
    (λ m ss is slots. applied-last es e t ∙ ap (and_then (effect e)) (all m ss is slots)
    ∙ ap (λ (go : Tree → Result Tree EditFault). and_then go (of_answer (replaced_at above (on_slots (λ _. without_all ks ss) m) t)))
    (λ i u. a.removes u i)
    ∙ removed-more above a.name ks t m a.item ss is slots a.there a.adds.1)

-- so all edits do what the call does
pub all-at-once : (es : List Edit) (above ks : List Text) (t u : Tree) → RemoveAll es above ks t → all_removed ks above t ≡ Ok u → applied es t
    ≡ Ok u
all-at-once es above ks t u all made = by_item (item_at above t) refl made
  where
    by_slots : (m : Node) (o : Option (List (Slot Node))) → item_at above t ≡ Some m → slots_in m ≡ o
        → and_then (λ n. of_answer (replaced_at above n t)) (and_then (λ es. Ok (on_slots (λ _. es) m)) (and_then (λ es. Ok (without_all ks es)) (ok_or o WrongKind)))
        ≡ Ok u → applied es t ≡ Ok u
    by_slots m None is slots h = absurd cc
    by_slots m (Some ss) is slots h = all m ss is slots ∙ h

    by_item : (o : Option Node) → item_at above t ≡ o
        → and_then (λ n. of_answer (replaced_at above n t)) (and_then (on_table (λ es. Ok (without_all ks es))) (ok_or o NoSuchPath)) ≡ Ok u
        → applied es t ≡ Ok u
    by_item None is h = absurd cc
    by_item (Some m) is h = by_slots m (slots_in m) is refl h
