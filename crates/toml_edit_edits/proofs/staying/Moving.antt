-- A key with a value that moves to another table: a slot more, and one less.
use Rattle.std.proofs.Common.{◌≡◌, refl, sym, ◌∙◌, ap, subst, Bool, true, false, List, [], ◌∷◌, ◌++◌, Some, None, inl, inr}
use Rattle.std.specs.Prelude.{filter, if◌then◌else◌, not, Option}
use Rattle.toml_edit_model.specs.Mode.{Mode}
use Rattle.toml_edit_model.specs.Fits.{is_steady_in}
use Rattle.toml_edit_model.specs.HeaderOrder.{Visit}
use Rattle.toml_edit_model.specs.Lists.{is_dotted_inline, on_slots, slot_list, slots_from, slots_in}
use Rattle.toml_edit_model.specs.Paths.{Path, to_key}
use Rattle.toml_edit_model.specs.Print.{Printed, printed}
use Rattle.toml_edit_model.specs.Slots.{Slot, changed, has_slot, lookup_slot, with_item}
use Rattle.toml_edit_model.specs.Text.{Text, one, same_text}
use Rattle.toml_edit_model.specs.Tree.{IsWellMade, Node, Slots, SlotsAreWellMade, TableFields, Tree, inline, is_value_node, leaf, list, nothing, table, tables}
use Rattle.toml_edit_laws.specs.EditLists.{Applies, add}
use Rattle.toml_edit_laws.specs.Locality.{IsWellMadeSlot, edited, is_at_or_below, is_plain_value, root_visit}
use Rattle.toml_edit_laws.proofs.common.OptionSteps.{some-is}
use Rattle.toml_edit_laws.proofs.common.Tests.{and_left, if-false, if-true, or-left, or-right}
use Rattle.toml_edit_laws.proofs.locality.Made.{made-last}
use Rattle.toml_edit_laws.proofs.locality.Slots.{HaveOtherKeys, slot_list-from, slots_from-list}
use Rattle.toml_edit_edit_laws.specs.Commands.{done, item_at, remove_at, root_item}
use Rattle.toml_edit_edit_laws.specs.CommandLaws.{NamesTable}
use Rattle.toml_edit_edit_laws.specs.Staying.{StaysButAt}
use Rattle.toml_edit_edit_laws.proofs.commands.Going.{item-along}
use Rattle.toml_edit_edit_laws.proofs.path_calls.Removing.{remove_edits}
use Rattle.toml_edit_edit_laws.proofs.path_calls.Staying.{after_lines_stays, edit_stays, one_after_another}
use Rattle.toml_edit_paths.specs.Calls.{replaced_at}
use Rattle.toml_edit_edits.specs.OthersStay.{TakesLines}
use Rattle.toml_edit_edits.proofs.staying.Words.{MovedStays, Room, StaysAt, StaysAtBoth}
use Rattle.toml_edit_edits.proofs.staying.Below.{below-made}
use Rattle.toml_edit_edits.proofs.staying.Tables.{walk-left}
use Rattle.toml_edit_edits.proofs.staying.Values.{value-put, value-stays}
use Rattle.toml_edit_edit_laws.specs.Places.{item_or, place_from, place_of}
use Rattle.toml_edit_edit_laws.proofs.path_calls.Places.{key-place, nothing-place, value-place}
use Rattle.toml_edit_edits.proofs.staying.Places.{in-slots, same-places}

-- ---- places

-- a value more at the end of a table leaves all places there
last-places : (s : Slot Node) → is_value_node s.item ≡ true → (p : Path) (f : TableFields) (ss : Slots) (path : List Text)
    → place_from p path (table f (slots_from (slot_list ss ++ one s))) ≡ place_from p path (table f ss)
last-places s value p f ss [] = refl
last-places s value p f ss (j ∷ path) =
    ap (λ es. place_from (to_key p j) path (item_or (lookup_slot j es))) (slot_list-from (slot_list ss ++ one s)) ∙ by_list (slot_list ss)
  where
    by_end : (b : Bool) → place_from (to_key p j) path (item_or (if b then Some s else None)) ≡ place_from (to_key p j) path nothing
    by_end true = value-place (to_key p j) path s.item value ∙ sym (nothing-place (to_key p j) path)
    by_end false = refl

    by_first : (b : Bool) (e : Slot Node) (o r : Option (Slot Node)) → place_from (to_key p j) path (item_or o) ≡ place_from (to_key p j) path (item_or r)
        → place_from (to_key p j) path (item_or (if b then Some e else o)) ≡ place_from (to_key p j) path (item_or (if b then Some e else r))
    by_first true e o r h = refl
    by_first false e o r h = h

    by_list : (es : List (Slot Node)) → place_from (to_key p j) path (item_or (lookup_slot j (es ++ one s))) ≡ place_from (to_key p j) path (item_or (lookup_slot j es))
    by_list [] = by_end (same_text j s.key.name)
    by_list (e ∷ es) = by_first (same_text j e.key.name) e (lookup_slot j (es ++ one s)) (lookup_slot j es) (by_list es)

-- ---- no slot of the name

pub none-found : (k : Text) (es : List (Slot Node)) → has_slot k es ≡ false → lookup_slot k es ≡ None
none-found k [] h = refl
none-found k (e ∷ es) h =
    if-false (same_text k e.key.name) (Some e) (lookup_slot k es) (or-left (same_text k e.key.name) (has_slot k es) h)
    ∙ none-found k es (or-right (same_text k e.key.name) (has_slot k es) h)

none-of : (k : Text) (es : List (Slot Node)) → has_slot k es ≡ false → HaveOtherKeys k es
none-of k [] h = tt
none-of k (e ∷ es) h = (or-left (same_text k e.key.name) (has_slot k es) h, none-of k es (or-right (same_text k e.key.name) (has_slot k es) h))

-- ---- two places in either order

module _ (A B : Printed → Bool) where
  swapped : (xs : List Printed) → filter A (filter B xs) ≡ filter B (filter A xs)
  swapped [] = refl
  swapped (x ∷ xs) = by_tests (A x) (B x) refl refl (swapped xs)
    where
      by_tests : (a b : Bool) → A x ≡ a → B x ≡ b → filter A (filter B xs) ≡ filter B (filter A xs)
          → filter A (if b then x ∷ filter B xs else filter B xs) ≡ filter B (if a then x ∷ filter A xs else filter A xs)
      by_tests true true e f ih =
          if-true (A x) (x ∷ filter A (filter B xs)) (filter A (filter B xs)) e ∙ ap (λ ys. x ∷ ys) ih
          ∙ sym (if-true (B x) (x ∷ filter B (filter A xs)) (filter B (filter A xs)) f)
      by_tests true false e f ih = ih ∙ sym (if-false (B x) (x ∷ filter B (filter A xs)) (filter B (filter A xs)) f)
      by_tests false true e f ih = if-false (A x) (x ∷ filter A (filter B xs)) (filter A (filter B xs)) e ∙ ih
      by_tests false false e f ih = ih

stays-swapped : (mode : Mode) (p q : Path) (t u : Tree) → StaysButAt mode (p ∷ q ∷ []) t u → StaysButAt mode (q ∷ p ∷ []) t u
stays-swapped mode p q t u s =
    let turned = swapped (λ x. not (is_at_or_below p x.path)) (λ x. not (is_at_or_below q x.path)) in
    record {
      others = turned (printed mode u) ∙ s.others ∙ sym (turned (printed mode t));
      text = s.text;
      steady = s.steady;
      made = s.made;
    }

-- ---- a slot more

-- all stays but at one place, and each path has its place
record PutAt (mode : Mode) (t w : Tree) (path : List Text) : Type 0 where
  stays : StaysAt mode t w path
  back : (from : List Text) → place_of w from ≡ place_of t from

module _ (mode : Mode) (t w : Tree) (target : List Text) (s : Slot Node) (made : SlotsAreWellMade t.slots) (steady : is_steady_in mode t ≡ true)
    (plain : is_plain_value s.item ≡ true) (well : IsWellMadeSlot s.key s.item) where
  value : is_value_node s.item ≡ true
  value = and_left _ _ plain

  abbrev to : List Text
  to = target ++ (s.key.name ∷ [])

  put-in-table : (v : Visit) → NamesTable t target v → has_slot s.key.name (slot_list v.slots) ≡ false → TakesLines mode v
      → replaced_at target (table v.fields (slots_from (slot_list v.slots ++ one s))) t ≡ done w → PutAt mode t w to
  put-in-table v named new takes put =
      let g : List (Slot Node) → List (Slot Node) = λ es. es ++ one s in
      let is : w ≡ edited named.way g t =
      walk-left t w target v.fields v.slots g made (record { visit = v; named = named; fields = refl; slots = refl }) put in
      let none = none-found s.key.name (slot_list v.slots) new in
      let p : Path = to_key v.path s.key.name in
      let here : place_of t to ≡ p = key-place t target s.key.name v made named in
      record {
        stays = subst (λ (q : Path). StaysButAt mode (q ∷ []) t w) (sym here)
            (subst (StaysButAt mode (p ∷ []) t) (sym is) (by_room none takes));
        back = λ from.
            ap (λ (x : Tree). place_of x from) is
            ∙ same-places g named.way (root_visit t) v made named.leads (last-places s value v.path v.fields v.slots) from;
      }
    where
      by_room : lookup_slot s.key.name (slot_list v.slots) ≡ None → TakesLines mode v
          → StaysButAt mode (to_key v.path s.key.name ∷ []) t (edited named.way (λ es. es ++ one s) t)
      by_room none (inl has) =
          let applies : Applies mode (add named.way s.key s.item) t = (v, named.leads, none, plain, has, well) in
          edit_stays mode (add named.way s.key s.item) t made steady applies
      by_room none (inr some) = after_lines_stays mode t named.way v s.key s.item made steady named.leads none plain well some

  put-in-value : (n m : Node) → item_at target t ≡ Some n → is_value_node n ≡ true → (is_dotted_inline n ≡ false → is_plain_value m ≡ true)
      → is_value_node m ≡ true → IsWellMade m → replaced_at target m t ≡ done w → PutAt mode t w to
  put-in-value n m there is flat also wm put =
      let x = value-stays mode t w target n m made steady there is flat wm put in
      let y = value-put mode t w target n m made steady there is also put in
      let g : List (Slot Node) → List (Slot Node) = changed y.key (with_item y.value) in
      let v : Visit = y.visit in
      record {
        stays = x (s.key.name ∷ []);
        back = λ from.
            ap (λ (z : Tree). place_of z from) y.leaves
            ∙ same-places g y.way (root_visit t) v made y.leads
            (in-slots g v.path v.fields y.key (with_item y.value) v.slots y.old (λ z. refl) y.there
            (λ path. value-place (to_key v.path y.key) path y.value y.is_value
            ∙ sym (value-place (to_key v.path y.key) path y.old.item y.was_value))) from;
      }

  by_node : (n : Node) (es : List (Slot Node)) → item_at target t ≡ Some n → slots_in n ≡ Some es → has_slot s.key.name es ≡ false
      → Room mode t target n → replaced_at target (on_slots (λ _. es ++ one s) n) t ≡ done w → PutAt mode t w to
  by_node (table f ss) es there slots new (inl h) put = absurd cc
  by_node (table f ss) es there slots new (inr (v, named, takes)) put =
      let same : ◌≡◌ {A = Node} (table v.fields v.slots) (table f ss) =
      some-is (table v.fields v.slots) (table f ss) (sym (item-along named.way target (root_visit t) v named.goes named.leads) ∙ there) in
      let fields : v.fields ≡ f = cc in
      let own : v.slots ≡ ss = cc in
      let is : slot_list ss ≡ es = some-is (slot_list ss) es slots in
      put-in-table v named (ap (λ ys. has_slot s.key.name (slot_list ys)) own ∙ ap (has_slot s.key.name) is ∙ new) takes
      (ap (λ g. replaced_at target (table g (slots_from (slot_list v.slots ++ one s))) t) fields
      ∙ ap (λ ys. replaced_at target (table f (slots_from (slot_list ys ++ one s))) t) own
      ∙ ap (λ ys. replaced_at target (table f (slots_from (ys ++ one s))) t) is ∙ put)
  by_node (inline f ss) es there slots new room put =
      let is : slot_list ss ≡ es = some-is (slot_list ss) es slots in
      let none : has_slot s.key.name (slot_list ss) ≡ false = ap (has_slot s.key.name) is ∙ new in
      let old : SlotsAreWellMade ss = below-made target (root_item t) (inline f ss) made there in
      put-in-value (inline f ss) (inline f (slots_from (slot_list ss ++ one s))) there refl (λ undotted. ap not undotted) refl
      (made-last (slot_list ss) s (none-of s.key.name (slot_list ss) none) well.0 well.1 (subst SlotsAreWellMade (sym (slots_from-list ss)) old))
      (ap (λ ys. replaced_at target (inline f (slots_from (ys ++ one s))) t) is ∙ put)
  by_node (leaf x r d) es there slots new room put = absurd cc
  by_node (list f xs) es there slots new room put = absurd cc
  by_node (tables e xs) es there slots new room put = absurd cc
  by_node nothing es there slots new room put = absurd cc

  moved : (u : Tree) (from : List Text) → PutAt mode t w to → remove_at from w ≡ done u → StaysAtBoth mode t u from to
  moved u from x gone =
      let y = remove_edits mode w u from x.stays.made x.stays.steady.2 gone in
      let q : Path = place_of w from in
      subst (λ (z : Path). StaysButAt mode (z ∷ place_of t to ∷ []) t u) (x.back from)
      (stays-swapped mode (place_of t to) q t u (one_after_another mode (place_of t to ∷ []) (q ∷ []) t w u x.stays y.stays))

pub moved-stays : (mode : Mode) → MovedStays mode
moved-stays mode t w u from target n es s made steady there slots new plain well room put gone =
    moved mode t w target s made steady plain well u from
    (by_node mode t w target s made steady plain well n es there slots new room put) gone
