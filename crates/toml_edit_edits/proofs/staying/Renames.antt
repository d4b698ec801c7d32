-- A key that gets another name.
use Rattle.std.proofs.Common.{◌≡◌, refl, sym, ◌∙◌, ap, subst, Bool, true, false, List, [], ◌∷◌, ◌++◌, Some, inl, inr}
use Rattle.std.specs.Prelude.{◌⊎◌, ◌||◌, if◌then◌else◌, not}
use Rattle.toml_edit_model.specs.Mode.{Mode}
use Rattle.toml_edit_model.specs.Text.{Text, same_text}
use Rattle.toml_edit_model.specs.Paths.{Path, to_key}
use Rattle.toml_edit_model.specs.Tree.{Node, TableFields, nothing, leaf, list, inline, table, tables, Slots, SlotsAreWellMade, IsWellMade, Tree}
use Rattle.toml_edit_model.specs.HeaderOrder.{Visit}
use Rattle.toml_edit_model.specs.Fits.{is_steady_in}
use Rattle.toml_edit_model.specs.Rearranging.{is_free, renamed_slot}
use Rattle.toml_edit_model.specs.Slots.{Slot, has_slot, lookup_slot}
use Rattle.toml_edit_model.specs.Lists.{on_slots, slot_list, slots_from, slots_in}
use Rattle.toml_edit_laws.specs.Locality.{edited, root_visit}
use Rattle.toml_edit_laws.proofs.common.OptionSteps.{some-is}
use Rattle.toml_edit_laws.proofs.locality.Made.{split-made}
use Rattle.toml_edit_laws.proofs.locality.Slots.{Found, found as found-in}
use Rattle.toml_edit_laws.proofs.locality.Sound.{leads-made}
use Rattle.toml_edit_edit_laws.specs.Commands.{done, item_at, root_item}
use Rattle.toml_edit_edit_laws.specs.Staying.{away_from, StaysButAt}
use Rattle.toml_edit_edit_laws.proofs.path_calls.Staying.{renaming_stays}
use Rattle.toml_edit_edit_laws.proofs.renaming.Names.{made-renamed, others-of_name, renamed-is}
use Rattle.toml_edit_paths.specs.Calls.{replaced_at}
use Rattle.toml_edit_edits.proofs.staying.Words.{StaysWithin, StaysAtBoth, KeyStays}
use Rattle.toml_edit_edit_laws.specs.Places.{place_of}
use Rattle.toml_edit_edit_laws.proofs.path_calls.Places.{key-place}
use Rattle.toml_edit_edits.proofs.staying.Below.{below-made}
use Rattle.toml_edit_edits.proofs.staying.Tables.{InsideValue, OnWalk, table-lands, walk-left}
use Rattle.toml_edit_edits.proofs.staying.Values.{value-stays}

pub has-found : (k : Text) (es : List (Slot Node)) → has_slot k es ≡ true → (s : Slot Node) × (lookup_slot k es ≡ Some s)
has-found k [] h = absurd cc
has-found k (e ∷ es) h = by_test (same_text k e.key.name) h (has-found k es)
  where
    by_test : (b : Bool) → (b || has_slot k es) ≡ true → (has_slot k es ≡ true → (s : Slot Node) × (lookup_slot k es ≡ Some s))
        → (s : Slot Node) × ((if b then Some e else lookup_slot k es) ≡ Some s)
    by_test true h ih = (e, refl)
    by_test false h ih = ih h

pub renamed-made : (k name : Text) (ss : Slots) → SlotsAreWellMade ss → has_slot k (slot_list ss) ≡ true → is_free k name (slot_list ss) ≡ true
    → SlotsAreWellMade (slots_from (renamed_slot k name (slot_list ss)))
renamed-made k name ss w has free =
    let s = has-found k (slot_list ss) has in
    let fd : Found k s.0 (slot_list ss) = found-in k ss s.0 w s.1 in
    let others = others-of_name k name s.0 ss fd free in
    subst (λ (z : List (Slot Node)). SlotsAreWellMade (slots_from z)) (sym (renamed-is k name s.0 ss fd free))
    (made-renamed name fd.front fd.back s.0 others.0 others.1 (split-made k s.0 ss fd w))

-- at one place in place of two
pub twice-at : (mode : Mode) (t u : Tree) (above one other : List Text) → StaysWithin mode t u above → StaysAtBoth mode t u (above ++ one) (above ++ other)
twice-at mode t u above one other x =
    let s : StaysButAt mode (place_of t (above ++ one) ∷ []) t u = x one in
    record {
      others = ap (away_from (place_of t (above ++ other) ∷ [])) s.others;
      text = s.text;
      steady = s.steady;
      made = s.made;
    }

module _ (mode : Mode) (t u : Tree) (above : List Text) (k name : Text) (made : SlotsAreWellMade t.slots) (steady : is_steady_in mode t ≡ true) where
  on-walk : (f : TableFields) (ss : Slots) (w : OnWalk t above f ss) → has_slot k (slot_list ss) ≡ true → is_free k name (slot_list ss) ≡ true
      → replaced_at above (table f (slots_from (renamed_slot k name (slot_list ss)))) t ≡ done u
      → StaysAtBoth mode t u (above ++ (k ∷ [])) (above ++ (name ∷ []))
  on-walk f ss w has free put =
      let v : Visit = w.visit in
      let way = w.named.way in
      let s = has-found k (slot_list v.slots) (ap (λ ys. has_slot k (slot_list ys)) w.slots ∙ has) in
      let is-free : is_free k name (slot_list v.slots) ≡ true = ap (λ ys. is_free k name (slot_list ys)) w.slots ∙ free in
      let fd : Found k s.0 (slot_list v.slots) = found-in k v.slots s.0 (leads-made way (root_visit t) v made w.named.leads) s.1 in
      let is : u ≡ edited way (renamed_slot k name) t = walk-left t u above f ss (renamed_slot k name) made w put in
      let p : place_of t (above ++ (k ∷ [])) ≡ to_key v.path s.0.key.name =
      key-place t above k v made w.named ∙ ap (to_key v.path) fd.named in
      subst (λ (x : Path). StaysButAt mode (x ∷ place_of t (above ++ (name ∷ [])) ∷ []) t u) (sym p)
      (subst (λ (x : Path). StaysButAt mode (to_key v.path s.0.key.name ∷ x ∷ []) t u) (sym (key-place t above name v made w.named))
      (subst (StaysButAt mode (to_key v.path s.0.key.name ∷ to_key v.path name ∷ []) t) (sym is)
      (renaming_stays mode t way v k name s.0 made steady w.named.leads s.1 is-free)))

  in-table : (f : TableFields) (ss : Slots) → SlotsAreWellMade ss → has_slot k (slot_list ss) ≡ true → is_free k name (slot_list ss) ≡ true
      → replaced_at above (table f (slots_from (renamed_slot k name (slot_list ss)))) t ≡ done u
      → OnWalk t above f ss ⊎ InsideValue mode t above → StaysAtBoth mode t u (above ++ (k ∷ [])) (above ++ (name ∷ []))
  in-table f ss w has free put (inl x) = on-walk f ss x has free put
  in-table f ss w has free put (inr x) =
      twice-at mode t u above (k ∷ []) (name ∷ []) (x u (table f (slots_from (renamed_slot k name (slot_list ss)))) (renamed-made k name ss w has free) put)

  by_node : (n : Node) (es : List (Slot Node)) → IsWellMade n → item_at above t ≡ Some n → slots_in n ≡ Some es → has_slot k es ≡ true
      → is_free k name es ≡ true → replaced_at above (on_slots (λ _. renamed_slot k name es) n) t ≡ done u
      → StaysAtBoth mode t u (above ++ (k ∷ [])) (above ++ (name ∷ []))
  by_node (table f ss) es w there slots has free put =
      let is : slot_list ss ≡ es = some-is (slot_list ss) es slots in
      in-table f ss w (ap (has_slot k) is ∙ has) (ap (is_free k name) is ∙ free)
      (ap (λ ys. replaced_at above (table f (slots_from (renamed_slot k name ys))) t) is ∙ put)
      (table-lands mode t made steady above f ss there)
  by_node (inline f ss) es w there slots has free put =
      let is : slot_list ss ≡ es = some-is (slot_list ss) es slots in
      twice-at mode t u above (k ∷ []) (name ∷ [])
      (value-stays mode t u above (inline f ss) (inline f (slots_from (renamed_slot k name (slot_list ss)))) made steady there refl
      (λ undotted. ap not undotted)
      (renamed-made k name ss w (ap (has_slot k) is ∙ has) (ap (is_free k name) is ∙ free))
      (ap (λ ys. replaced_at above (inline f (slots_from (renamed_slot k name ys))) t) is ∙ put))
  by_node (leaf s r d) es w there slots has free put = absurd cc
  by_node (list f xs) es w there slots has free put = absurd cc
  by_node (tables e xs) es w there slots has free put = absurd cc
  by_node nothing es w there slots has free put = absurd cc

pub key-stays : (mode : Mode) → KeyStays mode
key-stays mode t u above k name n es made steady there slots has free put =
    by_node mode t u above k name made steady n es (below-made above (root_item t) n made there) there slots has free put
