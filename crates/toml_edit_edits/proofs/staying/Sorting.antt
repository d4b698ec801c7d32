-- A table in order of its keys: a list of moves. All statements stay but those below it, which are in another order.
use Rattle.std.proofs.Common.{◌≡◌, refl, sym, ◌∙◌, ap, subst, ℕ, Bool, true, false, List, [], ◌∷◌, ◌++◌, append_assoc, append-nil, length, Option, Some, None, inl, inr}
use Rattle.std.specs.Prelude.{◌⊎◌, if◌then◌else◌, not, IsPermutation, Ok}
use Rattle.std.proofs.lemmas.List.Sorted.{IsPermutation-filter_both, IsPermutation-refl, IsPermutation-sym, IsPermutation-trans}
use Rattle.toml_edit_model.specs.Mode.{Mode}
use Rattle.toml_edit_model.specs.Fits.{is_steady_in}
use Rattle.toml_edit_model.specs.HeaderOrder.{Visit, visit_of}
use Rattle.toml_edit_model.specs.Lists.{is_dotted_inline, is_dotted_table, on_slots, slot_list, slots_from}
use Rattle.toml_edit_model.specs.Paths.{Path, at_key, to_key}
use Rattle.toml_edit_model.specs.Print.{Printed, printed}
use Rattle.toml_edit_model.specs.Rearranging.{moved_slot}
use Rattle.toml_edit_model.specs.Slots.{Slot, changed, keyed, lookup_slot, on_item}
use Rattle.toml_edit_model.specs.Sorting.{sorted_item, sorted_slots}
use Rattle.toml_edit_model.specs.Text.{Text}
use Rattle.toml_edit_model.specs.Tree.{IsWellMade, Key, Node, Slots, SlotsAreWellMade, TableFields, Tree, inline, leaf, list, no_slots, nothing, slot, table, tables}
use Rattle.toml_edit_laws.specs.Locality.{Leads, Turn, along, edited, into_element, into_table, is_at_or_below, outside, root_visit}
use Rattle.toml_edit_laws.proofs.common.OptionSteps.{some-is}
use Rattle.toml_edit_laws.proofs.common.PathLaws.{front-more, front-refl, front-through, is_front}
use Rattle.toml_edit_laws.proofs.common.Tests.{if-false}
use Rattle.toml_edit_laws.proofs.locality.Slots.{HaveOtherKeys, slot_list-from, slots_from-list, slots_under}
use Rattle.toml_edit_laws.proofs.locality.Sound.{leads-made}
use Rattle.toml_edit_laws.proofs.locality.Twice.{edited-twice, leads-edited, with_slots}
use Rattle.toml_edit_laws.proofs.locality.Under.{front-is}
use Rattle.toml_edit_edit_laws.specs.Commands.{done, item_at, root_item}
use Rattle.toml_edit_edit_laws.specs.CommandLaws.{NamesTable}
use Rattle.toml_edit_edit_laws.specs.Placing.{inside}
use Rattle.toml_edit_edit_laws.specs.Staying.{StaysButAt}
use Rattle.toml_edit_edit_laws.proofs.commands.Going.{item-along}
use Rattle.toml_edit_edit_laws.proofs.path_calls.Staying.{move_stays}
use Rattle.toml_edit_edit_laws.proofs.placing.Inside.{moved_inside}
use Rattle.toml_edit_edit_laws.proofs.placing.Moving.{moved_others}
use Rattle.toml_edit_edit_laws.proofs.renaming.Along.{edited-same, edited-stays}
use Rattle.toml_edit_paths.specs.Calls.{replaced_at}
use Rattle.toml_edit_edits.specs.Effects.{in_order, sorted}
use Rattle.toml_edit_edits.proofs.staying.Effects.{was-changed, was-sorted}
use Rattle.toml_edit_edits.proofs.staying.Words.{IsSorted, SortedStays, StaysAt}
use Rattle.toml_edit_edits.proofs.staying.Below.{below-made}
use Rattle.toml_edit_edits.proofs.staying.Comments.{apart, made-so, within-at}
use Rattle.toml_edit_edits.proofs.staying.SortedSlots.{Picks, changed-there, deep, made-sorted, moved-last, others-apart, picks-sorted, there-apart}
use Rattle.toml_edit_edits.proofs.staying.Tables.{InsideValue, leads-join, table-left}
use Rattle.toml_edit_edits.proofs.staying.Turning.{Turned, table-turned}
use Rattle.toml_edit_edits.proofs.staying.Values.{value-stays}

-- ---- wider paths

apart-wider : (q p : Path) → is_front q p ≡ true → (xs : List Printed) → apart q (apart p xs) ≡ apart q xs
apart-wider q p h [] = refl
apart-wider q p h (x ∷ xs) = by_test (is_at_or_below p x.path) refl (apart-wider q p h xs)
  where
    by_test : (b : Bool) → is_at_or_below p x.path ≡ b → apart q (apart p xs) ≡ apart q xs
        → apart q (if not b then x ∷ apart p xs else apart p xs) ≡ (if not (is_at_or_below q x.path) then x ∷ apart q xs else apart q xs)
    by_test true e ih =
        let below : is_at_or_below q x.path ≡ true = front-is q x.path ∙ front-through q p x.path h (sym (front-is p x.path) ∙ e) in
        ih ∙ sym (if-false (not (is_at_or_below q x.path)) (x ∷ apart q xs) (apart q xs) (ap not below))
    by_test false e ih = ap (λ ys. if not (is_at_or_below q x.path) then x ∷ ys else ys) ih

pub wider : (mode : Mode) (q p : Path) (t u : Tree) → is_front q p ≡ true → StaysButAt mode (p ∷ []) t u → StaysButAt mode (q ∷ []) t u
wider mode q p t u h s =
    record {
      others = sym (apart-wider q p h (printed mode u)) ∙ ap (apart q) s.others ∙ apart-wider q p h (printed mode t);
      text = s.text;
      steady = s.steady;
      made = s.made;
    }

along-join : (way more : List Turn) (g : List (Slot Node) → List (Slot Node)) → along (way ++ more) g ≡ along way (along more g)
along-join [] more g = refl
along-join (into_table k ∷ way) more g = ap (λ h. changed k (on_item (on_slots h))) (along-join way more g)
along-join (into_element k i ∷ way) more g =
    ap (λ h. along (into_element k i ∷ []) h) (along-join way more g)

module _ (mode : Mode) (q : Path) where
  record Stays (t u : Tree) : Type 0 where
    others : StaysButAt mode (q ∷ []) t u
    same : IsPermutation (printed mode t) (printed mode u)

  then-stays : (t u w : Tree) → Stays t u → Stays u w → Stays t w
  then-stays t u w x y =
      let a = x.others in
      let b = y.others in
      record {
        others = made-so mode (q ∷ []) t w (b.others ∙ a.others) (b.steady.0 ∙ a.steady.0, b.steady.1 ∙ a.steady.1, b.steady.2) b.made;
        same = IsPermutation-trans (printed mode t) (printed mode u) (printed mode w) x.same y.same;
      }

  same-stays : (t u : Tree) → SlotsAreWellMade t.slots → is_steady_in mode t ≡ true → u ≡ t → Stays t u
  same-stays t u made steady is =
      subst (Stays t) (sym is)
      (record { others = made-so mode (q ∷ []) t t refl (refl, refl, steady) made; same = IsPermutation-refl (printed mode t) })

  -- the statements inside and outside stay in their order
  rearranged : (p : Path) (t u : Tree) → inside mode p u ≡ inside mode p t → outside mode p u ≡ outside mode p t
      → IsPermutation (printed mode t) (printed mode u)
  rearranged p t u h g =
      let both : Tree → List Printed = λ w. inside mode p w ++ outside mode p w in
      let split : (w : Tree) → IsPermutation (printed mode w) (both w) =
      λ w. IsPermutation-filter_both (λ (s : Printed). is_at_or_below p s.path) (λ s. not (is_at_or_below p s.path)) (λ s. refl) (printed mode w) in
      IsPermutation-trans (printed mode t) (both t) (printed mode u) (split t)
      (subst (λ xs. IsPermutation xs (printed mode u)) (ap (λ xs. xs ++ outside mode p u) h ∙ ap (λ xs. inside mode p t ++ xs) g)
      (IsPermutation-sym (printed mode u) (both u) (split u)))

  moved-in : (t : Tree) (way : List Turn) (v : Visit) (k : Text) (i : ℕ) (s : Slot Node) → SlotsAreWellMade t.slots
      → is_steady_in mode t ≡ true → Leads way (root_visit t) v → lookup_slot k (slot_list v.slots) ≡ Some s → is_front q v.path ≡ true
      → Stays t (edited way (moved_slot k i) t)
  moved-in t way v k i s made steady leads there front =
      let p : Path = to_key v.path s.key.name in
      let u : Tree = edited way (moved_slot k i) t in
      record {
        others = wider mode q p t u (front-through q v.path p front (front-more v.path (at_key s.key.name ∷ [])))
            (move_stays mode t way v k i s made steady leads there);
        same = rearranged p t u (moved_inside mode t way v k i s made steady leads there) (moved_others mode t way v k i s made steady leads there).0;
      }

  -- slots that are moved to the end one after another
  reach : (ys es end : List (Slot Node)) (t : Tree) (way : List Turn) (v : Visit) → SlotsAreWellMade t.slots → is_steady_in mode t ≡ true
      → Leads way (root_visit t) v → is_front q v.path ≡ true → slot_list v.slots ≡ es ++ end → Picks es ys
      → Stays t (edited way (λ _. end ++ ys) t)
  reach [] es end t way v made steady leads front h none =
      same-stays t (edited way (λ _. end ++ []) t) made steady
      (edited-stays way (λ _. end ++ []) t v made leads (append-nil end ∙ sym (h ∙ ap (λ z. z ++ end) none)))
  reach (y ∷ ys) es end t way v made steady leads front h (a, b, is, rest) =
      let c : List (Slot Node) = b ++ end in
      let here : slot_list v.slots ≡ a ++ (y ∷ c) = h ∙ ap (λ z. z ++ end) is ∙ append_assoc a (y ∷ b) end in
      let well : SlotsAreWellMade (slots_from (a ++ (y ∷ c))) =
      subst SlotsAreWellMade (sym (slots_from-list v.slots) ∙ ap slots_from here) (leads-made way (root_visit t) v made leads) in
      let others : HaveOtherKeys y.key.name (a ++ c) = others-apart a y c well in
      let there : lookup_slot y.key.name (slot_list v.slots) ≡ Some y = ap (lookup_slot y.key.name) here ∙ there-apart a y c others in
      let n : ℕ = length (a ++ c) in
      let g : List (Slot Node) → List (Slot Node) = moved_slot y.key.name n in
      let t1 : Tree = edited way g t in
      let one : Stays t t1 = moved-in t way v y.key.name n y made steady leads there front in
      let left : slot_list (slots_under g v.slots) ≡ (a ++ b) ++ (end ++ (y ∷ [])) =
      slot_list-from (g (slot_list v.slots)) ∙ ap g here ∙ moved-last a y c others ∙ simp append_assoc in
      let more : Stays t1 (edited way (λ _. (end ++ (y ∷ [])) ++ ys) t1) =
      reach ys (a ++ b) (end ++ (y ∷ [])) t1 way (with_slots g v) one.others.made one.others.steady.2 (leads-edited way g (root_visit t) v leads) front left rest in
      let last : edited way (λ _. (end ++ (y ∷ [])) ++ ys) t1 ≡ edited way (λ _. end ++ (y ∷ ys)) t =
      edited-twice way (λ _. (end ++ (y ∷ [])) ++ ys) g (λ _. end ++ (y ∷ ys)) (λ _. append_assoc end (y ∷ []) ys) t in
      then-stays t t1 (edited way (λ _. end ++ (y ∷ ys)) t) one (subst (Stays t1) last more)

  module _ (enters : Node → Bool) where
    -- where the items are as the sort leaves them, so are the slots
    finish : (ss : Slots) (t : Tree) (way : List Turn) (v : Visit) → Leads way (root_visit t) v → is_front q v.path ≡ true
        → Stays t (edited way (λ _. deep enters ss) t) → Stays t (edited way (λ _. sorted_slots enters ss) t)
    finish ss t way v leads front d =
        let g : List (Slot Node) → List (Slot Node) = λ _. deep enters ss in
        let t1 : Tree = edited way g t in
        let r : Stays t1 (edited way (λ _. [] ++ sorted_slots enters ss) t1) =
        reach (sorted_slots enters ss) (deep enters ss) [] t1 way (with_slots g v) d.others.made d.others.steady.2 (leads-edited way g (root_visit t) v leads) front
        (slot_list-from (deep enters ss) ∙ sym (append-nil (deep enters ss))) (picks-sorted enters ss) in
        then-stays t t1 (edited way (λ _. sorted_slots enters ss) t) d
        (subst (Stays t1) (edited-twice way (λ _. [] ++ sorted_slots enters ss) g (λ _. sorted_slots enters ss) (λ _. refl) t) r)

  -- ---- the tables that the sort enters

  -- nothing changes
  as-it-was : (t : Tree) (way : List Turn) (v : Visit) (es : List (Slot Node)) → SlotsAreWellMade t.slots → is_steady_in mode t ≡ true
      → Leads way (root_visit t) v → slot_list v.slots ≡ es → Stays t (edited way (λ _. es) t)
  as-it-was t way v es made steady leads h =
      same-stays t (edited way (λ _. es) t) made steady (edited-stays way (λ _. es) t v made leads (sym h))

  -- the slots of a table inside are others
  nested : (t : Tree) (way : List Turn) (v : Visit) (a : List (Slot Node)) (k : Key) (f : TableFields) (ys : Slots) (b zs : List (Slot Node))
      → SlotsAreWellMade t.slots → Leads way (root_visit t) v → slot_list v.slots ≡ a ++ (keyed k (table f ys) ∷ b)
      → HaveOtherKeys k.name (a ++ b)
      → edited (way ++ (into_table k.name ∷ [])) (λ _. zs) t ≡ edited way (λ _. a ++ (keyed k (table f (slots_from zs)) ∷ b)) t
  nested t way v a k f ys b zs made leads h others =
      let F : Slot Node → Slot Node = on_item (on_slots (λ _. zs)) in
      ap (λ g. record t { slots = slots_from (g (slot_list t.slots)) }) (along-join way (into_table k.name ∷ []) (λ _. zs))
      ∙ edited-same way (changed k.name F) (λ _. a ++ (keyed k (table f (slots_from zs)) ∷ b)) t v made leads
      (λ w. ap (changed k.name F) h ∙ changed-there F a (keyed k (table f ys)) b others)

  mutual
    deep-item : (n : Node) (k : Key) (a b : List (Slot Node)) (t : Tree) (way : List Turn) (v : Visit) → SlotsAreWellMade t.slots
        → is_steady_in mode t ≡ true → Leads way (root_visit t) v → is_front q v.path ≡ true → slot_list v.slots ≡ a ++ (keyed k n ∷ b)
        → Stays t (edited way (λ _. a ++ (keyed k (sorted_item is_dotted_table n) ∷ b)) t)
    deep-item (table f ys) k a b t way v made steady leads front h =
        let well : SlotsAreWellMade (slots_from (a ++ (keyed k (table f ys) ∷ b))) =
        subst SlotsAreWellMade (sym (slots_from-list v.slots) ∙ ap slots_from h) (leads-made way (root_visit t) v made leads) in
        let others : HaveOtherKeys k.name (a ++ b) = others-apart a (keyed k (table f ys)) b well in
        let there : lookup_slot k.name (slot_list v.slots) ≡ Some (keyed k (table f ys)) =
        ap (lookup_slot k.name) h ∙ there-apart a (keyed k (table f ys)) b others in
        let x : Visit = visit_of (to_key v.path k.name) (v.keys ++ (k ∷ [])) false f ys in
        let on : List Turn = way ++ (into_table k.name ∷ []) in
        let turns : Leads on (root_visit t) x = leads-join way (into_table k.name ∷ []) (root_visit t) v x leads (k, f, ys, there, refl) in
        let inside : is_front q x.path ≡ true = front-through q v.path x.path front (front-more v.path (at_key k.name ∷ [])) in
        let d : Stays t (edited on (λ _. deep is_dotted_table ys) t) = deep-slots ys [] t on x made steady turns inside refl in
        by_test f.is_dotted
        (subst (Stays t) (nested t way v a k f ys b (sorted_slots is_dotted_table ys) made leads h others)
        (finish is_dotted_table ys t on x turns inside d))
        (as-it-was t way v (a ++ (keyed k (table f ys) ∷ b)) made steady leads h)
      where
        by_test : (c : Bool) → Stays t (edited way (λ _. a ++ (keyed k (table f (slots_from (sorted_slots is_dotted_table ys))) ∷ b)) t)
            → Stays t (edited way (λ _. a ++ (keyed k (table f ys) ∷ b)) t)
            → Stays t (edited way (λ _. a ++ (keyed k (if c then table f (slots_from (sorted_slots is_dotted_table ys)) else table f ys) ∷ b)) t)
        by_test true r s = r
        by_test false r s = s
    deep-item (inline f ss) k a b t way v made steady leads front h = as-it-was t way v (a ++ (keyed k (inline f ss) ∷ b)) made steady leads h
    deep-item (leaf s r d) k a b t way v made steady leads front h = as-it-was t way v (a ++ (keyed k (leaf s r d) ∷ b)) made steady leads h
    deep-item (list f xs) k a b t way v made steady leads front h = as-it-was t way v (a ++ (keyed k (list f xs) ∷ b)) made steady leads h
    deep-item (tables e xs) k a b t way v made steady leads front h = as-it-was t way v (a ++ (keyed k (tables e xs) ∷ b)) made steady leads h
    deep-item nothing k a b t way v made steady leads front h = as-it-was t way v (a ++ (keyed k nothing ∷ b)) made steady leads h

    deep-slots : (ss : Slots) (a : List (Slot Node)) (t : Tree) (way : List Turn) (v : Visit) → SlotsAreWellMade t.slots
        → is_steady_in mode t ≡ true → Leads way (root_visit t) v → is_front q v.path ≡ true → slot_list v.slots ≡ a ++ slot_list ss
        → Stays t (edited way (λ _. a ++ deep is_dotted_table ss) t)
    deep-slots no_slots a t way v made steady leads front h = as-it-was t way v (a ++ []) made steady leads h
    deep-slots (slot k n ss) a t way v made steady leads front h =
        let x : Slot Node = keyed k (sorted_item is_dotted_table n) in
        let g : List (Slot Node) → List (Slot Node) = λ _. a ++ (x ∷ slot_list ss) in
        let t1 : Tree = edited way g t in
        let one : Stays t t1 = deep-item n k a (slot_list ss) t way v made steady leads front h in
        let more : Stays t1 (edited way (λ _. (a ++ (x ∷ [])) ++ deep is_dotted_table ss) t1) =
        deep-slots ss (a ++ (x ∷ [])) t1 way (with_slots g v) one.others.made one.others.steady.2 (leads-edited way g (root_visit t) v leads) front
        (slot_list-from (a ++ (x ∷ slot_list ss)) ∙ sym (append_assoc a (x ∷ []) (slot_list ss))) in
        let last : edited way (λ _. (a ++ (x ∷ [])) ++ deep is_dotted_table ss) t1 ≡ edited way (λ _. a ++ (x ∷ deep is_dotted_table ss)) t =
        edited-twice way (λ _. (a ++ (x ∷ [])) ++ deep is_dotted_table ss) g (λ _. a ++ (x ∷ deep is_dotted_table ss))
        (λ _. append_assoc a (x ∷ []) (deep is_dotted_table ss)) t in
        then-stays t t1 (edited way (λ _. a ++ (x ∷ deep is_dotted_table ss)) t) one (subst (Stays t1) last more)

-- ---- the law

module _ (mode : Mode) (t u : Tree) (k : Text) (rest : List Text) (made : SlotsAreWellMade t.slots) (steady : is_steady_in mode t ≡ true) where
  abbrev path : List Text
  path = k ∷ rest

  in-table : (f : TableFields) (ss : Slots) → SlotsAreWellMade ss
      → replaced_at path (table f (slots_from (sorted_slots is_dotted_table ss))) t ≡ done u → Turned t path f ss ⊎ InsideValue mode t path
      → StaysAt mode t u path
  in-table f ss w put (inl x) =
      let v : Visit = x.visit in
      let way : List Turn = x.way ++ (x.turn ∷ []) in
      let leads : Leads way (root_visit t) v = leads-join x.way (x.turn ∷ []) (root_visit t) x.from v x.leads x.turns in
      let named : NamesTable t path v = record { way = way; goes = x.goes; leads = leads } in
      let zs : List (Slot Node) = sorted_slots is_dotted_table ss in
      let is : u ≡ edited way (λ _. zs) t =
      table-left t u path v (λ _. zs) made named (ap (λ g. replaced_at path (table g (slots_from zs)) t) x.fields ∙ put) in
      let front : is_front x.place v.path ≡ true = sym (front-is x.place v.path) ∙ x.above in
      subst (λ (q : Path). StaysButAt mode (q ∷ []) t u) (sym x.is)
      (subst (StaysButAt mode (x.place ∷ []) t) (sym is)
      (finish mode x.place is_dotted_table ss t way v leads front (deep-slots mode x.place ss [] t way v made steady leads front (ap slot_list x.slots))).others)
  in-table f ss w put (inr x) =
      within-at mode t u path (x u (table f (slots_from (sorted_slots is_dotted_table ss))) (made-sorted is_dotted_table ss w) put)

  by_node : (n m : Node) → IsWellMade n → item_at path t ≡ Some n → IsSorted n m → replaced_at path m t ≡ done u → StaysAt mode t u path
  by_node (table f ss) m w there is put =
      in-table f ss w (ap (λ x. replaced_at path x t) (sym is) ∙ put) (table-turned mode t made steady k rest f ss there)
  by_node (inline f ss) m w there is put =
      within-at mode t u path
      (value-stays mode t u path (inline f ss) (inline f (slots_from (sorted_slots is_dotted_inline ss))) made steady there refl
      (λ undotted. ap not undotted) (made-sorted is_dotted_inline ss w) (ap (λ x. replaced_at path x t) (sym is) ∙ put))
  by_node (leaf s r d) m w there is put = absurd is
  by_node (list f xs) m w there is put = absurd is
  by_node (tables e xs) m w there is put = absurd is
  by_node nothing m w there is put = absurd is

-- the root
root-stays : (mode : Mode) (t u : Tree) (n m : Node) → SlotsAreWellMade t.slots → is_steady_in mode t ≡ true → item_at [] t ≡ Some n
    → IsSorted n m → replaced_at [] m t ≡ done u → StaysAt mode t u []
root-stays mode t u n m made steady there is put =
    let zs : List (Slot Node) = sorted_slots is_dotted_table t.slots in
    let v : Visit = root_visit t in
    let new : IsSorted (root_item t) m = subst (λ x. IsSorted x m) (sym (some-is (root_item t) n there)) is in
    let left : u ≡ edited [] (λ _. zs) t =
    table-left t u [] v (λ _. zs) made (record { way = []; goes = tt; leads = refl }) (ap (λ x. replaced_at [] x t) (sym new) ∙ put) in
    subst (StaysButAt mode ([] ∷ []) t) (sym left)
    (finish mode [] is_dotted_table t.slots t [] v refl (front-refl [])
    (deep-slots mode [] t.slots [] t [] v made steady refl (front-refl []) refl)).others

pub sorted-stays : (mode : Mode) → SortedStays mode
sorted-stays mode t u [] n m made steady there is put = root-stays mode t u n m made steady there is put
sorted-stays mode t u (k ∷ rest) n m made steady there is put =
    by_node mode t u k rest made steady n m (below-made (k ∷ rest) (root_item t) n made there) there is put

pub sort-rearranges : (mode : Mode) (t u : Tree) (path : List Text) (v : Visit) → SlotsAreWellMade t.slots → is_steady_in mode t ≡ true
    → NamesTable t path v → sorted path t ≡ Ok u → IsPermutation (printed mode t) (printed mode u)
sort-rearranges mode t u path v made steady on h =
    let x = was-changed in_order path t u (item_at path t) h in
    let zs : List (Slot Node) = sorted_slots is_dotted_table v.slots in
    let old : x.old ≡ table v.fields v.slots =
    sym (some-is (table v.fields v.slots) x.old (sym (item-along on.way path (root_visit t) v on.goes on.leads) ∙ x.there)) in
    let new : IsSorted (table v.fields v.slots) x.new = subst (λ n. IsSorted n x.new) old (was-sorted x.old x.new x.goes) in
    let is : u ≡ edited on.way (λ _. zs) t = table-left t u path v (λ _. zs) made on (ap (λ m. replaced_at path m t) (sym new) ∙ x.put) in
    let front : is_front v.path v.path ≡ true = front-refl v.path in
    subst (λ w. IsPermutation (printed mode t) (printed mode w)) (sym is)
    (finish mode v.path is_dotted_table v.slots t on.way v on.leads front
    (deep-slots mode v.path v.slots [] t on.way v made steady on.leads front refl)).same
