-- A slot under another name: the other statements stay. They are those that are left where the slot is removed.
use Rattle.std.proofs.Common.{◌≡◌, refl, sym, ◌∙◌, ap, subst, ◌+◌, ◌≤◌, arith, Bool, true, false, List, [], ◌∷◌, ◌++◌, length, Some}
use Rattle.std.specs.Prelude.{not, if◌then◌else◌, filter}
use Rattle.std.specs.List.{AllByRecursion}
use Rattle.std.proofs.lemmas.List.{length-append}
use Rattle.std.proofs.lemmas.List.Elements.{filter-append}
use Rattle.toml_edit_model.specs.Mode.{Mode}
use Rattle.toml_edit_model.specs.Text.{Text}
use Rattle.toml_edit_model.specs.Paths.{Path, to_key}
use Rattle.toml_edit_model.specs.Tree.{Key, Node, SlotsAreWellMade, Tree}
use Rattle.toml_edit_model.specs.HeaderOrder.{Visit}
use Rattle.toml_edit_model.specs.Print.{Printed, printed, printed_line}
use Rattle.toml_edit_model.specs.Slots.{Slot, keyed, on_key, lookup_slot, without}
use Rattle.toml_edit_model.specs.Lists.{slot_list, slots_from}
use Rattle.toml_edit_model.specs.Rearranging.{renamed_key, is_free, renamed_slot}
use Rattle.toml_edit_laws.specs.Locality.{Turn, Leads, root_visit, edited, is_at_or_below, AreOutside, outside, value_line, texts, framed}
use Rattle.toml_edit_laws.proofs.common.Each.{all-map}
use Rattle.toml_edit_laws.proofs.common.PathLaws.{front-refl, below-last}
use Rattle.toml_edit_laws.proofs.common.Tests.{if-false, not-true}
use Rattle.toml_edit_laws.proofs.locality.Edited.{stays-steady}
use Rattle.toml_edit_laws.proofs.locality.Filtering.{filter-all}
use Rattle.toml_edit_laws.proofs.locality.Made.{split-made, along-made}
use Rattle.toml_edit_laws.proofs.locality.Removing.{removed}
use Rattle.toml_edit_laws.proofs.locality.Slots.{Found, found}
use Rattle.toml_edit_laws.proofs.locality.Sound.{Steady, steady-parts, steady-whole, leads-made}
use Rattle.toml_edit_laws.proofs.locality.Texts.{print-framed, edited-framed, texts-append}
use Rattle.toml_edit_laws.proofs.locality.Twice.{with_slots, leads-edited, edited-twice}
use Rattle.toml_edit_laws.proofs.locality.Under.{front-is}
use Rattle.toml_edit_edit_laws.proofs.renaming.Along.{edited-same, edited-stays}
use Rattle.toml_edit_edit_laws.proofs.renaming.Names.{made-renamed, renamed-is, renamed-stays, others-of_name, lookup-renamed}
use Rattle.toml_edit_edit_laws.proofs.renaming.Names.{without-renamed}
use Rattle.toml_edit_edit_laws.proofs.renaming.Printing.{NameApart, name-apart, new-steady}
use Rattle.toml_edit_edit_laws.specs.Renaming.{KeyChanges, Renamed, RenamedOthers, RenamedStaysMade, RenameRefused}

-- ---- well made

pub renamed_stays_made : RenamedStaysMade
renamed_stays_made t way v k u s made leads is_there free =
    along-made way (renamed_slot k u) (root_visit t) v made leads
    (λ w.
    let fd : Found k s (slot_list v.slots) = found k v.slots s w is_there in
    let others = others-of_name k u s v.slots fd free in
    subst SlotsAreWellMade (sym (ap slots_from (renamed-is k u s v.slots fd free)))
    (made-renamed u fd.front fd.back s others.0 others.1 (split-made k s v.slots fd w)))

pub rename_refused : RenameRefused
rename_refused t way v k u made leads h = edited-stays way (renamed_slot k u) t v made leads (renamed-stays k u (slot_list v.slots) h)

-- ---- a filter that takes nothing away

module _ {A : Type 0} (test : A → Bool) where
  fewer : (xs : List A) → length (filter test xs) ≤ length xs
  fewer [] = omega arith
  fewer (x ∷ xs) = by_test (test x) (fewer xs)
    where
      by_test : (b : Bool) → length (filter test xs) ≤ length xs
          → length (if b then x ∷ filter test xs else filter test xs) ≤ length (x ∷ xs)
      by_test true h = omega arith
      by_test false h = omega arith

  as-many : (xs : List A) → length (filter test xs) ≡ length xs → AllByRecursion (λ x. test x ≡ true) xs
  as-many [] e = tt
  as-many (x ∷ xs) e = by_test (test x) refl e (fewer xs) (as-many xs)
    where
      by_test : (b : Bool) → test x ≡ b → length (if b then x ∷ filter test xs else filter test xs) ≡ length (x ∷ xs)
          → length (filter test xs) ≤ length xs
          → (length (filter test xs) ≡ length xs → AllByRecursion (λ x. test x ≡ true) xs)
          → (test x ≡ true) × AllByRecursion (λ x. test x ≡ true) xs
      by_test true d e h go = (d, go (omega arith))
      by_test false d e h go = absurd (omega arith)

  both-kept : (xs ys : List A) → xs ++ ys ≡ filter test xs ++ filter test ys → AllByRecursion (λ x. test x ≡ true) xs
      × AllByRecursion (λ x. test x ≡ true) ys
  both-kept xs ys e =
      let sums : length xs + length ys ≡ length (filter test xs) + length (filter test ys) =
      sym (length-append xs ys) ∙ ap length e ∙ length-append (filter test xs) (filter test ys) in
      let h : length (filter test xs) ≤ length xs = fewer xs in
      let g : length (filter test ys) ≤ length ys = fewer ys in
      (as-many xs (omega arith), as-many ys (omega arith))

-- a list without the one that fails
left-out : {A : Type 0} (test : A → Bool) (xs ys : List A) (x : A) → test x ≡ false → filter test (xs ++ (x ∷ ys)) ≡ filter test xs
    ++ filter test ys
left-out test xs ys x e = filter-append test xs (x ∷ ys)
    ∙ ap (λ zs. filter test xs ++ zs) (if-false (test x) (x ∷ filter test ys) (filter test ys) e)

module _ (mode : Mode) where
  module _ (t : Tree) (way : List Turn) (v : Visit) (k u : Text) (s : Slot Node)
      (made : SlotsAreWellMade t.slots) (st : Steady mode t) (leads : Leads way (root_visit t) v)
      (is_there : lookup_slot k (slot_list v.slots) ≡ Some s) (free : is_free k u (slot_list v.slots) ≡ true) where
    abbrev r : Tree
    r = edited way (renamed_slot k u) t

    abbrev w : Visit
    w = with_slots (renamed_slot k u) v

    pub steady : Steady mode r
    steady = new-steady mode t way v k u s made st leads is_there free

    fd : Found k s (slot_list v.slots)
    fd = found k v.slots s (leads-made way (root_visit t) v made leads) is_there

    -- without either the trees are the same
    same-without : edited way (without u) r ≡ edited way (without k) t
    same-without =
        edited-twice way (without u) (renamed_slot k u) (λ ss. without u (renamed_slot k u ss)) (λ ss. refl) t
        ∙ edited-same way (λ ss. without u (renamed_slot k u ss)) (without k) t v made leads (λ _. without-renamed k u s v.slots fd free)

    new-leads : Leads way (root_visit r) w
    new-leads = leads-edited way (renamed_slot k u) (root_visit t) v leads

    pub others-stay : outside mode (to_key v.path s.key.name) t ≡ outside mode (to_key v.path u) r
    others-stay =
        sym (removed mode t way v k s made (steady-whole mode t st) leads is_there).0
        ∙ ap (printed mode) (sym same-without)
        ∙ (removed mode r way w u (on_key (renamed_key u) s) (renamed_stays_made t way v k u s made leads is_there free)
        (steady-whole mode r steady) new-leads
        (lookup-renamed k u s v.slots fd free)).0

  pub renamed_others : RenamedOthers mode
  renamed_others t way v k u s made is_steady leads is_there free =
      let st : Steady mode t = steady-parts mode t is_steady in (
        others-stay t way v k u s made st leads is_there free,
        stays-steady mode way (renamed_slot k u) t (steady t way v k u s made st leads is_there free),
      )

  -- ---- a value

  abbrev is_kept : Path → Printed → Bool
  is_kept p s = not (is_at_or_below p s.path)

  at-itself : (p q : Path) → p ≡ q → not (is_at_or_below q p) ≡ false
  at-itself p q e = ap (λ z. not (is_at_or_below q z)) e ∙ ap not (front-is q q ∙ front-refl q)

  are-kept : (p : Path) (ss : List Printed) → AreOutside p ss → filter (is_kept p) ss ≡ ss
  are-kept p ss h = filter-all (is_kept p) ss (all-map (λ s. is_at_or_below p s.path ≡ false) (λ s. is_kept p s
      ≡ true) ss (λ s e. ap not e) h)

  kept-are : (p : Path) (ss : List Printed) → AllByRecursion (λ s. is_kept p s ≡ true) ss → AreOutside p ss
  kept-are p ss h = all-map (λ s. is_kept p s ≡ true) (λ s. is_at_or_below p s.path
      ≡ false) ss (λ s e. not-true (is_at_or_below p s.path) e) h

  pub renamed_value : Renamed mode
  renamed_value t way v k u l n made is_steady leads is_there free value =
      let st : Steady mode t = steady-parts mode t is_steady in
      let r : Tree = edited way (renamed_slot k u) t in
      let m : Key = renamed_key u l in
      let p : Path = to_key v.path l.name in
      let q : Path = to_key v.path u in
      let o : NameApart mode t r v.path l m n = name-apart mode t way v k u l n made st leads is_there free value in
      let old : Printed = printed_line mode o.block (value_line mode (o.keys ++ (l ∷ [])) n) in
      let new : Printed = printed_line mode o.block (value_line mode (o.keys ++ (m ∷ [])) n) in
      let path : old.path ≡ p = below-last o.block o.keys l ∙ ap (λ z. to_key z l.name) o.at in
      let other_path : new.path ≡ q = below-last o.block o.keys m ∙ ap (λ z. to_key z u) o.at in
      let kept : o.before ++ o.after ≡ filter (is_kept q) o.before ++ filter (is_kept q) o.after =
      sym (ap (λ z. z ++ filter (is_kept p) o.after) (are-kept p o.before o.others_before)
      ∙ ap (λ z. o.before ++ z) (are-kept p o.after o.others_after))
      ∙ sym (left-out (is_kept p) o.before o.after old (at-itself old.path p path))
      ∙ ap (filter (is_kept p)) (sym o.first)
      ∙ others-stay t way v k u (keyed l n) made st leads is_there free
      ∙ ap (filter (is_kept q)) o.second
      ∙ left-out (is_kept q) o.before o.after new (at-itself new.path q other_path) in
      let free_paths = both-kept (is_kept q) o.before o.after kept in
      let changes : KeyChanges mode t r p q l m n =
      record {
        before = o.before;
        after = o.after;
        block = o.block;
        keys = o.keys;
        first = o.first;
        second = o.second;
        path = path;
        other_path = other_path;
        others_before = (o.others_before, kept-are q o.before free_paths.0);
        others_after = (o.others_after, kept-are q o.after free_paths.1);
        text = print-framed mode t ∙ ap (λ z. framed mode t (texts z)) o.first ∙ ap (framed mode t) (texts-append o.before (old ∷ o.after));
        other_text = edited-framed mode way (renamed_slot k u) t ∙ ap (λ z. framed mode t (texts z)) o.second
            ∙ ap (framed mode t) (texts-append o.before (new ∷ o.after));
      } in
      (changes, stays-steady mode way (renamed_slot k u) t (steady t way v k u (keyed l n) made st leads is_there free))
