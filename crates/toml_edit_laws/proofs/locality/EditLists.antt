-- Lists of edits: each leaves what its law says, and the statements that no edit names stay.
use Rattle.std.proofs.Common.{◌≡◌, refl, sym, ◌∙◌, ap, subst, ℕ, Bool, true, false, List, [], ◌∷◌, ◌++◌}
use Rattle.std.specs.Prelude.{◌||◌, not, if◌then◌else◌, filter}
use Rattle.std.proofs.lemmas.List.Elements.{filter-append}
use Rattle.toml_edit_model.specs.Mode.{Mode}
use Rattle.toml_edit_model.specs.Text.{Text}
use Rattle.toml_edit_model.specs.Paths.{Path, to_key}
use Rattle.toml_edit_model.specs.Tree.{Key, Node, tables, Tree, SlotsAreWellMade}
use Rattle.toml_edit_model.specs.HeaderOrder.{Visit}
use Rattle.toml_edit_model.specs.Print.{Printed, printed, printed_line, printed_table, print_in}
use Rattle.toml_edit_model.specs.Fits.{is_steady_in, is_below}
use Rattle.toml_edit_model.specs.Slots.{Slot, keyed, on_item, lookup_slot, changed, without}
use Rattle.toml_edit_model.specs.Lists.{slot_list, on_items}
use Rattle.toml_edit_model.specs.ArrayCalls.{removed_at}
use Rattle.toml_edit_laws.specs.Locality.{Turn, into_element, Leads, root_visit, edited, is_at_or_below, outside, value_line, OneChanges}
use Rattle.toml_edit_laws.specs.Locality.{OneMore, StaysSteady}
use Rattle.toml_edit_laws.specs.EditLists.{Edit, replace, add, remove, remove_element, after, after_all, Applies, Leaves, named_path}
use Rattle.toml_edit_laws.specs.EditLists.{is_named, print_of_statements, EditsStayLocal}
use Rattle.toml_edit_laws.proofs.common.Tests.{if-true, if-false}
use Rattle.toml_edit_laws.proofs.common.PathLaws.{same_path-refl}
use Rattle.toml_edit_laws.proofs.locality.Slots.{found, slot_list-from}
use Rattle.toml_edit_laws.proofs.locality.Sound.{leads-made}
use Rattle.toml_edit_laws.proofs.locality.Twice.{lookup-changed, without-changed, edited-twice, with_slots, leads-edited}
use Rattle.toml_edit_laws.proofs.locality.Made.{replaced_stays_made, added_stays_made, removed_stays_made, removed_element_stays_made}
use Rattle.toml_edit_laws.proofs.locality.Replacing.{replaced}
use Rattle.toml_edit_laws.proofs.locality.Adding.{added}
use Rattle.toml_edit_laws.proofs.locality.Removing.{removed}
use Rattle.toml_edit_laws.proofs.locality.RemovingElements.{removed_element}

-- ---- filters

abbrev keeps : (Printed → Bool) → Printed → Bool
keeps A s = not (A s)

drop-one : (A : Printed → Bool) (x : Printed) → A x ≡ true → (before rest : List Printed) → filter (keeps A) (before ++ (x ∷ rest))
    ≡ filter (keeps A) (before ++ rest)
drop-one A x h [] rest = if-false (keeps A x) (x ∷ filter (keeps A) rest) (filter (keeps A) rest) (ap not h)
drop-one A x h (y ∷ before) rest = ap (λ ys. if keeps A y then y ∷ ys else ys) (drop-one A x h before rest)

filter-again : (A : Printed → Bool) (xs : List Printed) → filter (keeps A) (filter (keeps A) xs) ≡ filter (keeps A) xs
filter-again A [] = refl
filter-again A (x ∷ xs) = by_test (A x) refl (filter-again A xs)
  where
    by_test : (b : Bool) → A x ≡ b → filter (keeps A) (filter (keeps A) xs) ≡ filter (keeps A) xs
        → filter (keeps A) (if not b then x ∷ filter (keeps A) xs else filter (keeps A) xs)
        ≡ (if not b then x ∷ filter (keeps A) xs else filter (keeps A) xs)
    by_test true e ih = ih
    by_test false e ih =
        if-true (keeps A x) (x ∷ filter (keeps A) (filter (keeps A) xs)) (filter (keeps A) (filter (keeps A) xs)) (ap not e)
        ∙ ap (λ ys. x ∷ ys) ih

module _ (A B : Printed → Bool) where
  either-first : (xs : List Printed) → filter (λ s. not (A s || B s)) xs ≡ filter (keeps A) (filter (keeps B) xs)
  either-first [] = refl
  either-first (x ∷ xs) = by_test (A x) (B x) refl refl (either-first xs)
    where
      by_test : (a b : Bool) → A x ≡ a → B x ≡ b → filter (λ s. not (A s || B s)) xs ≡ filter (keeps A) (filter (keeps B) xs)
          → (if not (a || b) then x ∷ filter (λ s. not (A s || B s)) xs else filter (λ s. not (A s || B s)) xs)
          ≡ filter (keeps A) (if not b then x ∷ filter (keeps B) xs else filter (keeps B) xs)
      by_test true true e f ih = ih
      by_test true false e f ih =
          ih ∙ sym (if-false (keeps A x) (x ∷ filter (keeps A) (filter (keeps B) xs)) (filter (keeps A) (filter (keeps B) xs)) (ap not e))
      by_test false true e f ih = ih
      by_test false false e f ih =
          ap (λ ys. x ∷ ys) ih ∙ sym (if-true (keeps A x) (x
          ∷ filter (keeps A) (filter (keeps B) xs)) (filter (keeps A) (filter (keeps B) xs)) (ap not e))

  either-second : (xs : List Printed) → filter (λ s. not (A s || B s)) xs ≡ filter (keeps B) (filter (keeps A) xs)
  either-second [] = refl
  either-second (x ∷ xs) = by_test (A x) (B x) refl refl (either-second xs)
    where
      by_test : (a b : Bool) → A x ≡ a → B x ≡ b → filter (λ s. not (A s || B s)) xs ≡ filter (keeps B) (filter (keeps A) xs)
          → (if not (a || b) then x ∷ filter (λ s. not (A s || B s)) xs else filter (λ s. not (A s || B s)) xs)
          ≡ filter (keeps B) (if not a then x ∷ filter (keeps A) xs else filter (keeps A) xs)
      by_test true true e f ih = ih
      by_test true false e f ih = ih
      by_test false true e f ih =
          ih ∙ sym (if-false (keeps B x) (x ∷ filter (keeps B) (filter (keeps A) xs)) (filter (keeps B) (filter (keeps A) xs)) (ap not f))
      by_test false false e f ih =
          ap (λ ys. x ∷ ys) ih ∙ sym (if-true (keeps B x) (x
          ∷ filter (keeps B) (filter (keeps A) xs)) (filter (keeps B) (filter (keeps A) xs)) (ap not f))

-- ---- one edit

at-itself : (p : Path) (s : Printed) → s.path ≡ p → is_at_or_below p s.path ≡ true
at-itself p s e = ap (is_at_or_below p) e ∙ ap (λ b. b || is_below p p) (same_path-refl p)

module _ (mode : Mode) where
  abbrev at : Path → Printed → Bool
  at p s = is_at_or_below p s.path

  changed-others : (t u : Tree) (p : Path) (l m : Key) (old n : Node) → OneChanges mode t u p l m old n → outside mode p u
      ≡ outside mode p t
  changed-others t u p l m old n one =
      let x = printed_line mode one.block (value_line mode (one.keys ++ (l ∷ [])) old) in
      let y = printed_line mode one.block (value_line mode (one.keys ++ (m ∷ [])) n) in
      ap (filter (keeps (at p))) one.second ∙ drop-one (at p) y (at-itself p y one.other_path) one.before one.after
      ∙ sym (ap (filter (keeps (at p))) one.first ∙ drop-one (at p) x (at-itself p x one.path) one.before one.after)

  added-others : (t u : Tree) (v : Visit) (k : Key) (n : Node) → OneMore mode t u v k n → outside mode (to_key v.path k.name) u
      ≡ outside mode (to_key v.path k.name) t
  added-others t u v k n one =
      let p : Path = to_key v.path k.name in
      let y = printed_line mode v.path (value_line mode (k ∷ []) n) in
      let block : List Printed = printed_table mode true v in
      ap (filter (keeps (at p))) one.second
      ∙ filter-append (keeps (at p)) one.before (block ++ (y ∷ one.after))
      ∙ ap (λ z. filter (keeps (at p)) one.before ++ z) (drop-one (at p) y (at-itself p y refl) block one.after)
      ∙ sym (filter-append (keeps (at p)) one.before (block ++ one.after))
      ∙ ap (filter (keeps (at p))) (sym one.first)

  -- what an edit leaves
  record Single (e : Edit) (t : Tree) (a : Applies mode e t) : Type 0 where
    leaves : Leaves mode e t a
    others : outside mode (named_path mode e t a) (after e t) ≡ outside mode (named_path mode e t a) t
    steady : StaysSteady mode t (after e t)
    made : SlotsAreWellMade (after e t).slots

  -- An array of tables that has lost an element leaves as much as it did, once it is removed too.
  element-others : (t : Tree) (way : List Turn) (v w : Visit) (k : Text) (i : ℕ) → SlotsAreWellMade t.slots → is_steady_in mode t ≡ true
      → Leads way (root_visit t) v → (into : Leads (into_element k i ∷ []) v w)
      → SlotsAreWellMade (after (remove_element way k i) t).slots → is_steady_in mode (after (remove_element way k i) t) ≡ true
      → outside mode (to_key v.path k) (after (remove_element way k i) t) ≡ outside mode (to_key v.path k) t
  element-others t way v w k i made steady leads (l, e, xs, before, f, ss, rest, is_there, items, place, last) new_made new_steady =
      let G : Slot Node → Slot Node = on_item (on_items (removed_at i)) in
      let g : List (Slot Node) → List (Slot Node) = changed k G in
      let u : Tree = edited way g t in
      let now : Slot Node = keyed l (tables e xs) in
      let law = removed mode t way v k now made steady leads is_there in
      let there = ap (lookup_slot k) (slot_list-from (g (slot_list v.slots)))
      ∙ lookup-changed k G (λ x. refl) (slot_list v.slots) now is_there in
      let other = removed mode u way (with_slots g v) k (G now) new_made new_steady (leads-edited way g (root_visit t) v leads) there in
      let same : edited way (without k) u ≡ edited way (without k) t =
      edited-twice way (without k) g (without k) (without-changed k G (λ x. refl)) t in
      let name : k ≡ l.name = (found k v.slots now (leads-made way (root_visit t) v made leads) is_there).named in
      subst (λ z. outside mode (to_key v.path z) u ≡ outside mode (to_key v.path z) t) (sym name) (sym other.0 ∙ ap (printed mode) same
      ∙ law.0)

  single : (e : Edit) (t : Tree) → SlotsAreWellMade t.slots → is_steady_in mode t ≡ true → (a : Applies mode e t) → Single e t a
  single (replace way k f n) t made steady (v, l, old, leads, there, value, plain, name, new) =
      let law = replaced mode t way v k f l old n made steady leads there value plain name in
      record {
        leaves = law.0;
        others = changed-others t (after (replace way k f n) t) (to_key v.path l.name) l (f l) old n law.0;
        steady = law.1;
        made = replaced_stays_made t way v k f l old n made leads there name new;
      }
  single (add way k n) t made steady (v, leads, absent, plain, has, new) =
      let law = added mode t way v k n made steady leads absent plain has in
      record {
        leaves = law.0;
        others = added-others t (after (add way k n) t) v k n law.0;
        steady = law.1;
        made = added_stays_made t way v k n made leads absent new;
      }
  single (remove way k) t made steady (v, s, leads, there) =
      let law = removed mode t way v k s made steady leads there in
      let p : Path = to_key v.path s.key.name in
      record {
        leaves = law.0;
        others = ap (filter (keeps (at p))) law.0 ∙ filter-again (at p) (printed mode t);
        steady = law.2;
        made = removed_stays_made t way v k s made leads there;
      }
  single (remove_element way k i) t made steady (v, w, leads, into) =
      let law = removed_element mode t way v w k i made steady leads into in
      let new = removed_element_stays_made t way v w k i made leads into in
      record {
        leaves = law.0;
        others = element-others t way v w k i made steady leads into new law.2.2;
        steady = law.2;
        made = new;
      }

  -- ---- a list of them

  same-around : (is_open : Bool) (t u : Tree) → u.root ≡ t.root → u.trailing ≡ t.trailing → print_in mode is_open u
      ≡ print_of_statements mode is_open t (printed mode u)
  same-around is_open t u root trailing =
      ap (λ r. print_of_statements mode is_open (record u { root = r }) (printed mode u)) root
      ∙ ap (λ r. print_of_statements mode is_open (record t { slots = u.slots; trailing = r }) (printed mode u)) trailing

  pub edits_stay_local : EditsStayLocal mode
  edits_stay_local [] t made steady a = (tt, record { others = refl; text = λ is_open. refl; steady = (refl, refl, steady); made = made })
  edits_stay_local (e ∷ es) t made steady (a, more) =
      let first = single e t made steady a in
      let rest = edits_stay_local es (after e t) first.made first.steady.2 more in
      let u : Tree = after_all es (after e t) in
      let A : Printed → Bool = at (named_path mode e t a) in
      let B : Printed → Bool = λ s. is_named mode es (after e t) more s.path in
      let root : u.root ≡ t.root = rest.1.steady.0 ∙ first.steady.0 in
      let trailing : u.trailing ≡ t.trailing = rest.1.steady.1 ∙ first.steady.1 in (
        (first.leaves, rest.0),
        record {
          others = either-first A B (printed mode u) ∙ ap (filter (keeps A)) rest.1.others
              ∙ sym (either-first A B (printed mode (after e t)))
              ∙ either-second A B (printed mode (after e t)) ∙ ap (filter (keeps B)) first.others
              ∙ sym (either-second A B (printed mode t));
          text = λ is_open. same-around is_open t u root trailing;
          steady = (root, trailing, rest.1.steady.2);
          made = rest.1.made;
        },
      )
