-- A value of a table under a key of the root, as an edit of the laws.
use Rattle.std.proofs.Common.{◌≡◌, refl, sym, ◌∙◌, ap, subst, Bool, true, false, [], ◌∷◌, ◌++◌, Option, Some, None, inl}
use Rattle.std.specs.Prelude.{◌||◌, if◌then◌else◌, option_map}
use Rattle.std.proofs.lemmas.Slice.Eq.{bytes_eq-Decides}
use Rattle.toml_edit.specs.model.Mode.{Mode, plain}
use Rattle.toml_edit.specs.model.Scalars.{string}
use Rattle.toml_edit.specs.model.Text.{Text, same_text}
use Rattle.toml_edit.specs.model.Spelling.{SpellsKey}
use Rattle.toml_edit.specs.model.Paths.{to_key}
use Rattle.toml_edit.specs.model.Tree.{Key, TableFields, Node, leaf, table, Slots, no_slots, slot, Tree, node_decor, unset, has_key}
use Rattle.toml_edit.specs.model.Tree.{is_value_node, HasTrueSpelling, IsWellMade, SlotsAreWellMade}
use Rattle.toml_edit.specs.model.HeaderOrder.{visit_of}
use Rattle.toml_edit.specs.model.Slots.{Slot, keyed, with_item, on_item, lookup_slot, changed}
use Rattle.toml_edit.specs.model.Lists.{slot_list, slots_from, on_slots, is_item}
use Rattle.toml_edit.specs.model.Iterating.{filled}
use Rattle.toml_edit.specs.model.TableCalls.{get}
use Rattle.toml_edit.specs.laws.Locality.{KeepsFrame, is_plain_value}
use Rattle.toml_edit.specs.laws.EditLists.{after_all, AllApply, EditsStayLocal}
use Rattle.toml_edit.specs.edits.Fitting.{ScalarsFitAnywhere, StillFitsAfterAll}
use Rattle.toml_edit.specs.Documents.{IsOwnedReading}
use Rattle.example_calls.specs.Edits.{setting, string_like, HasValueSet}
use Rattle.example_calls.specs.Prints.{ReadsBack}
use Rattle.example_calls.specs.Sets.{SetsInTree}

same-name : (k l : Text) → same_text k l ≡ true → k ≡ l
same-name k l h = (bytes_eq-Decides k l).0 h

either-left : (a b : Bool) → (a || b) ≡ false → a ≡ false
either-left true b h = h
either-left false b h = refl

either-right : (a b : Bool) → (a || b) ≡ false → b ≡ false
either-right true b h = absurd cc
either-right false b h = h

-- ---- slots whose keys are distinct

unchanged : (k : Text) (f : Slot Node → Slot Node) (ss : Slots) → has_key k ss ≡ false → changed k f (slot_list ss) ≡ slot_list ss
unchanged k f no_slots h = refl
unchanged k f (slot l n ss) h =
    ap (λ b. (if b then f (keyed l n) else keyed l n) ∷ changed k f (slot_list ss)) (either-left (same_text k l.name) (has_key k ss) h)
    ∙ ap (λ ys. keyed l n ∷ ys) (unchanged k f ss (either-right (same_text k l.name) (has_key k ss) h))

-- two changes that do the same to the slot of a key
pub changed-alike : (k : Text) (f g : Slot Node → Slot Node) (ss : Slots) (s : Slot Node) → SlotsAreWellMade ss
    → lookup_slot k (slot_list ss) ≡ Some s → f s ≡ g s
    → changed k f (slot_list ss) ≡ changed k g (slot_list ss)
changed-alike k f g no_slots s w h e = absurd cc
changed-alike k f g (slot l n ss) s w h e = by_test (same_text k l.name) refl h (changed-alike k f g ss s w.3)
  where
    by_test : (b : Bool) → same_text k l.name ≡ b → (if b then Some (keyed l n) else lookup_slot k (slot_list ss)) ≡ Some s
        → (lookup_slot k (slot_list ss) ≡ Some s → f s ≡ g s → changed k f (slot_list ss) ≡ changed k g (slot_list ss))
        → (if b then f (keyed l n) else keyed l n) ∷ changed k f (slot_list ss) ≡ (if b then g (keyed l n) else keyed l n)
        ∷ changed k g (slot_list ss)
    by_test true same h ih =
        let here : keyed l n ≡ s = cc in
        let none : has_key k ss ≡ false = subst (λ x. has_key x ss ≡ false) (sym (same-name k l.name same)) w.0 in
        ap (λ y. y ∷ changed k f (slot_list ss)) (subst (λ (x : Slot Node). f x ≡ g x) (sym here) e)
        ∙ ap (λ ys. g (keyed l n) ∷ ys) (unchanged k f ss none ∙ sym (unchanged k g ss none))
    by_test false same h ih = ap (λ ys. keyed l n ∷ ys) (ih h e)

-- what is found under a key is well made, and its key has a true spelling
pub found-made : (k : Text) (ss : Slots) (s : Slot Node) → SlotsAreWellMade ss → lookup_slot k (slot_list ss) ≡ Some s
    → HasTrueSpelling (SpellsKey s.key.name) s.key.spelling × IsWellMade s.item
found-made k no_slots s w h = absurd cc
found-made k (slot l n ss) s w h = by_test (same_text k l.name) h (found-made k ss s w.3)
  where
    by_test : (b : Bool) → (if b then Some (keyed l n) else lookup_slot k (slot_list ss)) ≡ Some s
        → (lookup_slot k (slot_list ss) ≡ Some s → HasTrueSpelling (SpellsKey s.key.name) s.key.spelling × IsWellMade s.item)
        → HasTrueSpelling (SpellsKey s.key.name) s.key.spelling × IsWellMade s.item
    by_test true h ih =
        subst (λ (x : Slot Node). HasTrueSpelling (SpellsKey x.key.name) x.key.spelling × IsWellMade x.item) (let e : keyed l n ≡ s = cc in
        e) (w.1, w.2)
    by_test false h ih = ih h

none-filled : (k : Text) (ss : Slots) → has_key k ss ≡ false → lookup_slot k (filled (slot_list ss)) ≡ None
none-filled k no_slots h = refl
none-filled k (slot l n ss) h = by_item (is_item n) (none-filled k ss (either-right (same_text k l.name) (has_key k ss) h))
  where
    by_item : (b : Bool) → lookup_slot k (filled (slot_list ss)) ≡ None
        → lookup_slot k (if b then keyed l n ∷ filled (slot_list ss) else filled (slot_list ss)) ≡ None
    by_item true tail = ap (λ b. if b then Some (keyed l n)
        else lookup_slot k (filled (slot_list ss))) (either-left (same_text k l.name) (has_key k ss) h) ∙ tail
    by_item false tail = tail

-- what a table shows under a key is the item of its slot
pub got-slot : (k : Text) (ss : Slots) (n : Node) → SlotsAreWellMade ss → get k (slot_list ss) ≡ Some n → (l : Key)
    × (lookup_slot k (slot_list ss) ≡ Some (keyed l n))
got-slot k ss n w h = by_slot (lookup_slot k (filled (slot_list ss))) refl h
  where
    slot-filled : (ss : Slots) (s : Slot Node) → SlotsAreWellMade ss → lookup_slot k (filled (slot_list ss)) ≡ Some s
        → lookup_slot k (slot_list ss) ≡ Some s
    slot-filled no_slots s w e = e
    slot-filled (slot l m ss) s w e = by_tests (is_item m) (same_text k l.name) refl e (slot-filled ss s w.3)
      where
        by_tests : (b c : Bool) → same_text k l.name ≡ c → lookup_slot k (if b then keyed l m ∷ filled (slot_list ss)
            else filled (slot_list ss)) ≡ Some s
            → (lookup_slot k (filled (slot_list ss)) ≡ Some s → lookup_slot k (slot_list ss) ≡ Some s)
            → (if c then Some (keyed l m) else lookup_slot k (slot_list ss)) ≡ Some s
        by_tests true true same e ih = sym (ap (λ b. if b then Some (keyed l m) else lookup_slot k (filled (slot_list ss))) same) ∙ e
        by_tests true false same e ih = ih (sym (ap (λ b. if b then Some (keyed l m) else lookup_slot k (filled (slot_list ss))) same) ∙ e)
        by_tests false true same e ih =
            absurd (let none : lookup_slot k (filled (slot_list ss)) ≡ None =
            none-filled k ss (subst (λ x. has_key x ss ≡ false) (sym (same-name k l.name same)) w.0) in cc)
        by_tests false false same e ih = ih e

    by_slot : (o : Option (Slot Node)) → lookup_slot k (filled (slot_list ss)) ≡ o → option_map (λ s. s.item) o ≡ Some n → (l : Key)
        × (lookup_slot k (slot_list ss) ≡ Some (keyed l n))
    by_slot None e h = absurd cc
    by_slot (Some s) e h = (s.key, slot-filled ss s w e ∙ ap (λ m. Some (keyed s.key m)) (let same : s.item ≡ n = cc in same))

-- ---- the edit

module _ (t : Tree) (made : SlotsAreWellMade t.slots) (name key : Text) (f : TableFields) (ss : Slots) (old n : Node)
    (there : get name (slot_list t.slots) ≡ Some (table f ss)) (inside : get key (slot_list ss) ≡ Some old)
    (value : is_value_node old ≡ true) (plain_value : is_plain_value n ≡ true) (well : IsWellMade n) where
  abbrev outer : (l : Key) × (lookup_slot name (slot_list t.slots) ≡ Some (keyed l (table f ss)))
  outer = got-slot name t.slots (table f ss) made there

  inner-made : SlotsAreWellMade ss
  inner-made = (found-made name t.slots (keyed outer.0 (table f ss)) made outer.1).1

  abbrev inner : (l : Key) × (lookup_slot key (slot_list ss) ≡ Some (keyed l old))
  inner = got-slot key ss old inner-made inside

  pub applies : AllApply plain (setting name key n) t
  applies = (
    (
      visit_of (to_key [] outer.0.name) ([] ++ (outer.0 ∷ [])) false f ss,
      inner.0,
      old,
      (outer.0, f, ss, outer.1, refl),
      inner.1,
      value,
      plain_value,
      refl,
      ((found-made key ss (keyed inner.0 old) inner-made inner.1).0, well),
    ),
    tt,
  )

  pub was-old : applies.0.2 ≡ old
  unfolding applies
  was-old = refl

  pub tree-after : after_all (setting name key n) t
      ≡ record t {
        slots = slots_from (changed name (with_item (table f (slots_from (changed key (with_item n) (slot_list ss)))))
            (slot_list t.slots));
      }
  tree-after =
      ap (λ xs. record t { slots = slots_from xs })
      (changed-alike name (on_item (on_slots (changed key (with_item n))))
      (with_item (table f (slots_from (changed key (with_item n) (slot_list ss)))))
      t.slots (keyed outer.0 (table f ss)) made outer.1 refl)

-- ---- the tree that is left

pub slots_from-list : (ss : Slots) → slots_from (slot_list ss) ≡ ss
slots_from-list no_slots = refl
slots_from-list (slot k n ss) = ap (λ r. slot k n r) (slots_from-list ss)

pub same-tree : (t u : Tree) (xs : Slots) → u.root ≡ t.root → u.trailing ≡ t.trailing → u.slots ≡ xs → record t { slots = xs } ≡ u
same-tree t u xs root trailing slots =
    sym (ap (λ r. record u { root = r }) root ∙ ap (λ r. record (record t { trailing = r }) { slots = u.slots }) trailing
    ∙ ap (λ ss. record t { slots = ss }) slots)

decor-like : (old : Node) (x : Text) → node_decor (string_like old x) ≡ node_decor old
decor-like old x = refl

-- a string that is put in place of a value of a table, in its decor, and what is written then
pub told : (text name key x out : Text) (t u : Tree) → ((mode : Mode) → EditsStayLocal mode) → ((mode : Mode) → KeepsFrame mode)
    → ((mode : Mode) → StillFitsAfterAll mode) → ((mode : Mode) → ScalarsFitAnywhere mode) → (r : IsOwnedReading text t)
    → SetsInTree name key (leaf (string x) None unset) t u → ReadsBack plain false u out → HasValueSet text name key x out
told text name key x out t u law keeps still scalars r (
  root,
  trailing,
  (n, m, there, (f, ss, xs, n-is, m-is, (old, inside, value, changes)), others),
) printed =
    let new : Node = string_like old x in
    let found : get name (slot_list t.slots) ≡ Some (table f ss) = there ∙ ap (λ (y : Node). Some y) n-is in
    let made : SlotsAreWellMade t.slots = r.tree.made in
    let a : AllApply plain (setting name key new) t = applies t made name key f ss old new found inside value refl (tt, tt) in
    let local = law plain (setting name key new) t made (r.tree.steady plain) a in
    let was = was-old t made name key f ss old new found inside value refl (tt, tt) in
    let fits = still plain (setting name key new) t made (r.tree.steady plain) (r.tree.fits plain) a
    ((inl refl, inl refl, inl (ap node_decor (sym was)), scalars plain (string x) None (node_decor old)), tt) in
    let inner : xs ≡ slots_from (changed key (with_item new) (slot_list ss)) = sym (slots_from-list xs) ∙ ap slots_from changes in
    let outer : u.slots ≡ slots_from (changed name (with_item (table f (slots_from (changed key (with_item new) (slot_list ss)))))
    (slot_list t.slots)) =
    sym (slots_from-list u.slots) ∙ ap slots_from others
    ∙ ap (λ (y : Node). slots_from (changed name (with_item y) (slot_list t.slots))) (m-is ∙ ap (table f) inner) in
    let is : after_all (setting name key new) t ≡ u =
    tree-after t made name key f ss old new found inside value refl (tt, tt)
    ∙ same-tree t u (slots_from (changed name (with_item (table f (slots_from (changed key (with_item new) (slot_list ss)))))
    (slot_list t.slots))) root trailing outer in
    let left : ReadsBack plain false (after_all (setting name key new) t) out =
    subst (λ (y : Tree). ReadsBack plain false y out) (sym is) printed in
    record {
      document = r.document;
      tree = t;
      read = r.tree;
      old = old;
      applies = a;
      was = was;
      leaves = local.0;
      around = keeps plain (local.0.0.keys ++ (a.0.1 ∷ [])) old new (decor-like old x);
      stays = local.1;
      print = left.0;
      back = left.1 (record { made = local.1.made; fits = fits });
    }
