-- `set_at` at a value, or at a new key, as an edit.
use Rattle.std.proofs.Common.{◌≡◌, refl, sym, ◌∙◌, ap, subst, true, List, [], ◌∷◌, ◌++◌, Some, None}
use Rattle.toml_edit_model.specs.Mode.{Mode}
use Rattle.toml_edit_model.specs.Text.{Text, one}
use Rattle.toml_edit_model.specs.Paths.{Path, to_key}
use Rattle.toml_edit_model.specs.Tree.{Key, Node, table, SlotsAreWellMade, IsWellMade, Tree, is_value_node, node_decor}
use Rattle.toml_edit_model.specs.HeaderOrder.{Visit}
use Rattle.toml_edit_model.specs.Fits.{is_steady_in}
use Rattle.toml_edit_model.specs.Keys.{cleared_key, names}
use Rattle.toml_edit_model.specs.Slots.{Slot, keyed, with_item, lookup_slot, changed}
use Rattle.toml_edit_model.specs.Lists.{slot_list, slots_from}
use Rattle.toml_edit_laws.specs.Locality.{root_visit, edited, is_plain_value}
use Rattle.toml_edit_laws.specs.EditLists.{Edit, replace, add, remove, remove_element, after, Applies, named_path}
use Rattle.toml_edit_edit_laws.specs.Commands.{done, mapped, change_slot, item_at, item_below, root_item, set_below, set_at, with_slots}
use Rattle.toml_edit_edit_laws.specs.CommandLaws.{AreSpelled, Goes, NamesTable, made_below}
use Rattle.toml_edit_edit_laws.proofs.commands.Going.{goes-along}
use Rattle.toml_edit_edit_laws.proofs.commands.Setting.{done-is, made-below-is}
use Rattle.toml_edit_laws.proofs.common.OptionSteps.{some-is}
use Rattle.toml_edit_laws.proofs.locality.Slots.{Found, found}
use Rattle.toml_edit_laws.proofs.locality.Sound.{leads-made, leads-sound, sound-slot, Steady, steady-parts}
use Rattle.toml_edit_edit_laws.specs.DottedAdds.{OneLineMore}
use Rattle.toml_edit_edit_laws.specs.PathEdits.{PathCall, path_of_call, sets, IsEditAt, IsEdit, SetReplaces, SetAddsUnder, SetAddsAfterLines}
use Rattle.toml_edit_edit_laws.specs.Places.{place_of}
use Rattle.toml_edit_edit_laws.specs.Staying.{StaysButAt}
use Rattle.toml_edit_edit_laws.proofs.path_calls.AfterLines.{added_after_lines}
use Rattle.toml_edit_edit_laws.proofs.path_calls.Staying.{edit_stays, after_lines_stays}
use Rattle.toml_edit_edit_laws.proofs.path_calls.Spots.{GoesOn, at_slot, at_element, in_value, Spot, spot}
use Rattle.toml_edit_edit_laws.proofs.path_calls.Places.{names-join, new-place, spot-place}
use Rattle.toml_edit_edit_laws.proofs.path_calls.Inside.{set-stands, set-made, there-sets, spelled}

-- the item of the slot is a value where the path leads to one
value-there : (top old : Node) (inner : List Text) → GoesOn top old inner → is_value_node old ≡ true → is_value_node top ≡ true
value-there top old [] (at_slot is) h = subst (λ x. is_value_node x ≡ true) (sym is) h
value-there top old (x ∷ []) (at_element y e) h =
    absurd (let c : is_value_node (table e.fields e.slots) ≡ true = subst (λ y. is_value_node y ≡ true) e.found_is h in cc)
value-there top old (x ∷ inner) (in_value y rest is) h = is

pub made-plain : (v : Node) (more : List Key) → is_plain_value v ≡ true → is_plain_value (made_below more v) ≡ true
made-plain v [] h = h
made-plain v (k ∷ more) h = refl

pub made-made : (v : Node) (more : List Key) → AreSpelled more → IsWellMade v → IsWellMade (made_below more v)
made-made v [] sp w = w
made-made v (k ∷ more) sp w = (refl, sp.0, made-made v more sp.1 w, tt)

-- the keys whose names a path of texts has
record KeysAt (path : List Key) (front : List Text) (x : Text) (inner : List Text) : Type 0 where
  before : List Key
  key : Key
  after : List Key
  is : path ≡ before ++ (key ∷ after)
  front_is : names before ≡ front
  key_is : key.name ≡ x
  inner_is : names after ≡ inner

keys-next : (k : Key) (path : List Key) (y : Text) (front : List Text) (x : Text) (inner : List Text) → k.name ≡ y
    → KeysAt path front x inner → KeysAt (k ∷ path) (y ∷ front) x inner
keys-next k path y front x inner e r =
    record {
      before = k ∷ r.before;
      key = r.key;
      after = r.after;
      is = ap (λ ks. k ∷ ks) r.is;
      front_is = ap (λ z. z ∷ names r.before) e ∙ ap (λ zs. y ∷ zs) r.front_is;
      key_is = r.key_is;
      inner_is = r.inner_is;
    }

keys-at : (path : List Key) (front : List Text) (x : Text) (inner : List Text) → names path ≡ front ++ (x ∷ inner)
    → KeysAt path front x inner
keys-at [] [] x inner h = absurd cc
keys-at [] (y ∷ front) x inner h = absurd cc
keys-at (k ∷ path) [] x inner h =
    record { before = []; key = k; after = path; is = refl; front_is = refl; key_is = cc; inner_is = cc }
keys-at (k ∷ path) (y ∷ front) x inner h =
    let first : k.name ≡ y = cc in
    let rest : names path ≡ front ++ (x ∷ inner) = cc in
    keys-next k path y front x inner first (keys-at path front x inner rest)

-- a new key adds a slot at the end of its table
pub adds-slot : (t u : Tree) (path : List Key) (w : Visit) (k : Key) (more : List Key) (v : Node) → SlotsAreWellMade t.slots
    → (named : NamesTable t (names path) w) → lookup_slot k.name (slot_list w.slots) ≡ None → set_at (path ++ (k ∷ more)) v t ≡ done u
    → u ≡ edited named.way (λ ss. ss ++ one (keyed (cleared_key k) (made_below more v))) t
adds-slot t u path w k more v made named is_new set =
    let new : Key = cleared_key k in
    let g : List (Slot Node) → List (Slot Node) = λ ss. ss ++ one (keyed new (made_below more v)) in
    let here : set_below v (k ∷ more) (table w.fields w.slots) ≡ done (table w.fields (slots_from (g (slot_list w.slots)))) =
    ap (λ o. mapped (λ xs. table w.fields (slots_from xs)) (change_slot true k (set_below v more) (slot_list w.slots) o)) is_new
    ∙ ap (λ a. mapped (λ xs. table w.fields (slots_from xs)) (mapped (λ m. slot_list w.slots ++ one (keyed new m)) a))
    (made-below-is v more) in
    let along = goes-along (λ j. j) true (set_below v) (k ∷ more) (λ j rest m. refl) g named.way path (root_visit t) w made named.goes
    named.leads here in
    done-is u (edited named.way g t) (sym set ∙ ap (mapped (with_slots t)) along)

-- a value is set where the other is inside the first, and that leaves the second
abbrev pub SetsInside : Node → Node → Node → Node → Type 0
SetsInside v there old n = (inner : List Key) × (item_below (names inner) old ≡ Some there) × (set_below v inner old ≡ done n)

module _ (mode : Mode) where
  -- what becomes of a value that an edit replaces; no edit adds one
  abbrev pub Replaces : (t : Tree) → (Node → Node → Type 0) → (e : Edit) → Applies mode e t → Type 0
  Replaces t R (replace way k f n) a = ((l : Key) → f l ≡ l) × (node_decor n ≡ node_decor a.2) × IsWellMade a.2 × R a.2 n
  Replaces t R (add way k n) a = ⊥
  Replaces t R (remove way k) a = Unit {0}
  Replaces t R (remove_element way k i) a = Unit {0}

  -- the call is an edit of which more is known
  abbrev pub EditSuch : (c : PathCall) (t u : Tree) → ((e : Edit) → Applies mode e t → Type 0) → Type 0
  EditSuch c t u P = (x : IsEdit mode c t u) × P x.edit x.applies

  -- an edit that applies, with the tree that it leaves
  pub edit-of : (c : PathCall) (t u : Tree) (P : (e : Edit) → Applies mode e t → Type 0) (e : Edit) → SlotsAreWellMade t.slots
      → is_steady_in mode t ≡ true → IsEditAt c e
      → (a : Applies mode e t) → u ≡ after e t → place_of t (path_of_call c) ≡ named_path mode e t a → P e a → EditSuch c t u P
  edit-of c t u P e made steady at applies leaves place more = (
    record {
      edit = e;
      at = at;
      applies = applies;
      leaves = leaves;
      stays = subst (λ (q : Path). StaysButAt mode (q ∷ []) t u) (sym place)
          (subst (StaysButAt mode (named_path mode e t applies ∷ []) t) (sym leaves) (edit_stays mode e t made steady applies));
    },
    more,
  )

  pub set-edit : (t u : Tree) (path : List Key) (v old : Node) → SlotsAreWellMade t.slots → is_steady_in mode t ≡ true → IsWellMade v
      → is_plain_value v ≡ true → item_at (names path) t ≡ Some old → is_value_node old ≡ true → set_at path v t ≡ done u
      → EditSuch (sets path v) t u (Replaces t (SetsInside v old))
  set-edit t u [] v old made steady wv plain there is set =
      absurd (let same : root_item t ≡ old = some-is (root_item t) old there in
      let c : is_value_node (root_item t) ≡ true = subst (λ x. is_value_node x ≡ true) (sym same) is in cc)
  set-edit t u (j ∷ rest) v old made steady wv plain there is set =
      let path : List Key = j ∷ rest in
      let p : Spot (root_visit t) (names path) old = spot old j.name (names rest) (root_visit t) there in
      let ks = keys-at path p.front p.segment p.inner p.path_is in
      let k : Text = ks.key.name in
      let w : Visit = p.visit in
      let value : is_value_node p.top ≡ true = value-there p.top old p.inner p.on is in
      let below : item_below (names ks.after) p.top ≡ Some old = ap (λ q. item_below q p.top) ks.inner_is ∙ p.below in
      let at : lookup_slot k (slot_list w.slots) ≡ Some (keyed p.key p.top) =
      ap (λ x. lookup_slot x (slot_list w.slots)) ks.key_is ∙ p.there in
      let goes : Goes p.way (names ks.before) = subst (Goes p.way) (sym ks.front_is) p.goes in
      let n = there-sets v ks.after p.top old below is in
      let g : List (Slot Node) → List (Slot Node) = changed k (with_item n.0) in
      let well : SlotsAreWellMade w.slots = leads-made p.way (root_visit t) w made p.leads in
      let fd : Found k (keyed p.key p.top) (slot_list w.slots) = found k w.slots (keyed p.key p.top) well at in
      let st : Steady mode t = steady-parts mode t steady in
      let undotted = (sound-slot k (keyed p.key p.top) w.slots fd (leads-sound p.way (root_visit t) w made st.sound p.leads)).1 in
      let stands = set-stands v ks.after p.top n.0 value undotted plain n.1 in
      let here : set_below v (ks.key ∷ ks.after) (table w.fields w.slots) ≡ done (table w.fields (slots_from (g (slot_list w.slots)))) =
      ap (λ o. mapped (λ xs. table w.fields (slots_from xs)) (change_slot true ks.key (set_below v ks.after) (slot_list w.slots) o)) at
      ∙ ap (λ a. mapped (λ xs. table w.fields (slots_from xs)) (mapped (λ m. changed k (with_item m) (slot_list w.slots)) a)) n.1 in
      let along = goes-along (λ x. x) true (set_below v) (ks.key ∷ ks.after) (λ x more m. refl) g p.way ks.before (root_visit t) w made
      goes p.leads here in
      let leaves : u ≡ edited p.way g t =
      done-is u (edited p.way g t)
      (sym set ∙ ap (λ q. mapped (with_slots t) (set_below v q (root_item t))) ks.is ∙ ap (mapped (with_slots t)) along) in
      edit-of (sets path v) t u (Replaces t (SetsInside v old)) (replace p.way k (λ l. l) n.0) made steady
      (names ks.after, (names ks.before, goes, ap names ks.is ∙ names-join ks.before (ks.key ∷ ks.after)), λ l. refl) (
        w,
        p.key,
        p.top,
        p.leads,
        at,
        value,
        stands.0,
        refl,
        (spelled k w.slots (keyed p.key p.top) well at, set-made t v ks.after p.top n.0 old wv fd.made below n.1),
      ) leaves
      (spot-place t made (names path) old p)
      (λ l. refl, stands.1, fd.made, (ks.after, below, n.1))

  pub set_replaces : SetReplaces mode
  set_replaces t u path v old made steady wv plain there is set = (set-edit t u path v old made steady wv plain there is set).0

  pub set_adds_under : SetAddsUnder mode
  set_adds_under t u path w k more v made steady wv plain sp named is_new has set =
      (edit-of (sets (path ++ (k ∷ more)) v) t u (λ e a. Unit {0}) (add named.way (cleared_key k) (made_below more v)) made steady
      (path, k, more, named.goes, refl, refl, refl)
      (w, named.leads, is_new, made-plain v more plain, has, (sp.0, made-made v more sp.1 wv))
      (adds-slot t u path w k more v made named is_new set) (new-place t path w k more made named is_new) tt).0

  pub set_adds_after_lines : SetAddsAfterLines mode
  set_adds_after_lines t u path w k more v made steady wv plain sp named is_new some set =
      let n : Node = made_below more v in
      let new : Key = cleared_key k in
      let is = sym (adds-slot t u path w k more v made named is_new set) in
      let flat = made-plain v more plain in (
        subst (λ (x : Tree). OneLineMore mode t x w new n) is
            (added_after_lines mode t named.way w new n made steady named.leads is_new flat some).0,
        subst (λ (q : Path). StaysButAt mode (q ∷ []) t u) (sym (new-place t path w k more made named is_new))
            (subst (StaysButAt mode (to_key w.path k.name ∷ []) t) is (after_lines_stays mode t named.way w new n made steady named.leads is_new flat (sp.0, made-made v more sp.1 wv) some)),
      )
