-- What each edit leaves, and edits one after another.
use Rattle.std.proofs.Common.{◌≡◌, sym, ◌∙◌, ap, subst, true, List, [], ◌∷◌, ◌++◌, take, Option, Some, None}
use Rattle.std.specs.Prelude.{Err, IsPermutation, Ok, OnOk, Result, length, map, option_map, string_bytes}
use Rattle.std.specs.Option.{ok_or}
use Rattle.std.proofs.lemmas.List.Sorted.{IsPermutation-refl, IsPermutation-trans}
use Rattle.toml_edit_model.specs.Fits.{FitsIn, is_steady_in}
use Rattle.toml_edit_model.specs.Keys.{names}
use Rattle.toml_edit_model.specs.Mode.{Mode}
use Rattle.toml_edit_model.specs.Paths.{Path}
use Rattle.toml_edit_model.specs.Print.{printed}
use Rattle.toml_edit_model.specs.Text.{Text}
use Rattle.toml_edit_model.specs.Tree.{IsWellMade, ItemsAreWellMade, Node, SlotsAreWellMade, Tree}
use Rattle.toml_edit_edit_laws.specs.Commands.{set_at}
use Rattle.toml_edit_edit_laws.specs.PathEdits.{with_last}
use Rattle.toml_edit_edit_laws.specs.Staying.{StaysButAt}
use Rattle.toml_edit_edit_laws.proofs.path_calls.Staying.{nothing_changes, one_after_another}
use Rattle.toml_edit_paths.specs.Lines.{remove_line_at}
use Rattle.toml_edit_tree.specs.Containers.{ArrayView}
use Rattle.toml_edit_tree.specs.View.{value_view}
use Rattle.toml_edit_edits.specs.Effects as effects
use Rattle.toml_edit_edits.specs.Effects.{array_set, first_same, in_order, inserted_before, on_table, place_up_to, renamed, slots_renamed, values_of, with_comment}
use Rattle.toml_edit_edits.specs.Elements.{inserted, on_kind, taken}
use Rattle.toml_edit_edits.specs.Lists.{applied, effect}
use Rattle.toml_edit_edits.specs.OthersStay.{AppliedStay, IsLocal, IsSort, LeaveWellMade, paths_of, places_of, where_done}
use Rattle.toml_edit_edit_laws.specs.Places.{place_of}
use Rattle.toml_edit_edits.specs.Outcomes.{and_then}
use Rattle.toml_edit_edits.specs.declared.edit.Edit.{Edit}
use Rattle.toml_edit_edits.specs.declared.edit.Edit.TheVariants as edits
use Rattle.toml_edit_edits.specs.declared.fault.EditFault.{EditFault}
use Rattle.toml_edit_edits.specs.declared.fault.EditFault.TheVariants.{NoSuchElement, NoSuchPath}
use Rattle.toml_edit_edits.proofs.MoveLaws.{answered, went}
use Rattle.toml_edit_edits.proofs.staying.Arrays.{IsMadeArray, array-stays, with-line-made, without-line-made}
use Rattle.toml_edit_edit_laws.proofs.path_calls.Places.{names-join}
use Rattle.toml_edit_edits.proofs.staying.Carrying.{move-stays, renamed-stays}
use Rattle.toml_edit_edits.proofs.staying.Comments.{commented-stays, within-at}
use Rattle.toml_edit_edits.proofs.staying.Fitting.{one-fits}
use Rattle.toml_edit_edits.proofs.staying.Effects.{at-end-was, headed-was, kind-was, last-is, was-changed, was-commented, was-sorted}
use Rattle.toml_edit_edits.proofs.staying.Removals.{line-removal-stays}
use Rattle.toml_edit_edits.proofs.staying.SectionMore.{section-stays}
use Rattle.toml_edit_edits.proofs.staying.Sets.{header-stays, set-stays}
use Rattle.toml_edit_edits.proofs.staying.Sorting.{sort-rearranges, sorted-stays}

-- ---- arrays

-- a change of an array at a place that may be missing
at-place : {X : Type 0} (o : Option X) (go : X → Node) (f : EditFault) (n : Node) → ok_or (option_map go o) f ≡ Ok n
    → (x : X) × (n ≡ go x)
at-place None go f n h = absurd cc
at-place (Some x) go f n h = (x, cc)

appended-made : (v : Node) (a : ArrayView) (n : Node) → IsWellMade v → ItemsAreWellMade a.items → ◌≡◌ {A = Result Node EditFault} (Ok (effects.with_line (length (values_of a)) v a)) (Ok n)
    → IsMadeArray n
appended-made v a n wv w h =
    let is : effects.with_line (length (values_of a)) v a ≡ n = cc in
    subst IsMadeArray is (with-line-made (length (values_of a)) v a wv w)

inserted-made : (k : Text) (v : Node) (a : ArrayView) (n : Node) → IsWellMade v → ItemsAreWellMade a.items
    → ok_or (option_map (λ i. effects.with_line i v a) (place_up_to (length (values_of a)) k)) NoSuchPath ≡ Ok n → IsMadeArray n
inserted-made k v a n wv w h =
    let x = at-place (place_up_to (length (values_of a)) k) (λ i. effects.with_line i v a) NoSuchPath n h in
    subst IsMadeArray (sym x.1) (with-line-made x.0 v a wv w)

taken-made : (v : Node) (a : ArrayView) (n : Node) → ItemsAreWellMade a.items
    → ok_or (option_map (λ i. effects.without_line i a) (first_same v (values_of a))) NoSuchElement ≡ Ok n → IsMadeArray n
taken-made v a n w h =
    let x = at-place (first_same v (values_of a)) (λ i. effects.without_line i a) NoSuchElement n h in
    subst IsMadeArray (sym x.1) (without-line-made x.0 a w)

-- ---- one edit

-- all stays but at the places of one edit
abbrev pub StaysOne : Mode → Edit → Tree → Tree → Type 0
StaysOne mode e t u = StaysButAt mode (map (place_of t) (paths_of e)) t u

module _ (mode : Mode) (t u : Tree) (made : SlotsAreWellMade t.slots) (steady : is_steady_in mode t ≡ true) where
  pub one-stays : (e : Edit) → IsLocal mode e t → effect e t ≡ Ok u → StaysOne mode e t u
  one-stays (edits.Set path v) local h =
      set-stays mode t u path.items local.1.0 (value_view v) made steady local.0.0 local.0.1 local.1.1
      (answered (set_at path.items (value_view v) t) u h)
  one-stays (edits.Header path v) local h =
      header-stays mode t u path.items (value_view v) made steady local.0.0 local.0.1 local.1
      (headed-was path.items (value_view v) t u h)
  one-stays (edits.Remove path) local h =
      line-removal-stays mode t u (names path.items) made steady (answered (remove_line_at (names path.items) t) u h)
  one-stays (edits.Append path v) local h =
      within-at mode t u (names path.items)
      (array-stays mode t u path.items made steady (λ a. Ok (effects.with_line (length (values_of a)) (value_view v) a))
      (λ a n w g. appended-made (value_view v) a n local.0 w g)
      (kind-was (inserted None (value_view v)) (effects.appended path.items (value_view v) t) (names path.items) t u local.1 h))
  one-stays (edits.Insert path v) local h =
      let x = at-end-was
      (λ above k.
      on_kind (inserted (Some k.name) (value_view v)) (inserted_before above k.name (value_view v) t) (names above) t) path.items u h in
      let s = array-stays mode t u x.0 made steady
      (λ a. ok_or (option_map (λ i. effects.with_line i (value_view v) a) (place_up_to (length (values_of a)) x.1.name)) NoSuchPath)
      (λ a n w g. inserted-made x.1.name (value_view v) a n local.0 w g)
      (kind-was (inserted (Some x.1.name) (value_view v)) (inserted_before x.0 x.1.name (value_view v) t) (names x.0) t u (local.1 x.0 x.1 x.2) x.3) in
      subst (λ (q : List Text). StaysButAt mode (place_of t q ∷ []) t u) (sym (names-join x.0 (x.1 ∷ [])) ∙ ap names (sym x.2)) (s (x.1.name ∷ []))
  one-stays (edits.Take path v) local h =
      within-at mode t u (names path.items)
      (array-stays mode t u path.items made steady
      (λ a. ok_or (option_map (λ i. effects.without_line i a) (first_same (value_view v) (values_of a))) NoSuchElement)
      (λ a n w g. taken-made (value_view v) a n w g)
      (kind-was (taken (value_view v)) (effects.taken path.items (value_view v) t) (names path.items) t u local h))
  one-stays (edits.Table path v) local h = absurd local
  one-stays (edits.Section path) local h = section-stays mode t u path.items made steady local h
  one-stays (edits.Rename path name) local h =
      let x = at-end-was (λ above k. renamed above k (string_bytes name) t) (names path.items) u h in
      subst (λ (q : List Text). StaysButAt mode (place_of t (names path.items) ∷ place_of t q ∷ []) t u)
      (sym (ap (with_last (string_bytes name)) x.2 ∙ last-is (string_bytes name) x.1 x.0))
      (renamed-stays mode t u made steady (names path.items) x.0 x.1 (string_bytes name) x.2 x.3)
  one-stays (edits.Move path to) local h = move-stays mode t u made steady (names path.items) (names to.items) local h
  one-stays (edits.Sort path) local h =
      let x = was-changed in_order (names path.items) t u _ h in
      sorted-stays mode t u (names path.items) x.old x.new made steady x.there (was-sorted x.old x.new x.goes) x.put
  one-stays (edits.Comment path text) local h =
      let x = was-changed (with_comment (string_bytes text)) (names path.items) t u _ h in
      commented-stays mode t u (names path.items) x.old x.new (effects.body_of (string_bytes text)) made steady x.there
      (was-commented (string_bytes text) x.old x.new x.goes) x.put

  -- a sort of a table
  one-sorts : (e : Edit) → IsSort e t → effect e t ≡ Ok u → IsPermutation (printed mode t) (printed mode u)
  one-sorts (edits.Sort path) sort h = sort-rearranges mode t u (names path.items) sort.0 made steady sort.1 h
  one-sorts _ sort h = absurd sort

pub applied-stay : (mode : Mode) → AppliedStay mode
applied-stay mode [] t u h made steady local =
    let same : t ≡ u = let e : ◌≡◌ {A = Result Tree EditFault} (Ok t) (Ok u) = h in cc in
    record {
      stays = subst (StaysButAt mode [] t) same (nothing_changes mode t made steady);
      fits = λ fits harmless. subst (λ (x : Tree). FitsIn mode x) same fits;
      sorts = λ sorts. subst (λ (x : Tree). IsPermutation (printed mode t) (printed mode x)) same (IsPermutation-refl (printed mode t));
      made = made;
    }
applied-stay mode (e ∷ es) t u h made steady local =
    let x = went (applied es) (effect e t) u h in
    let w : Tree = x.0 in
    let ps : List Path = map (place_of t) (paths_of e) in
    let s : StaysButAt mode ps t w = one-stays mode t w made steady e local.0 x.1 in
    let rest = applied-stay mode es w u x.2 s.made s.steady.2 (local.1 w x.1) in
    record {
      stays = subst (λ (qs : List Path). StaysButAt mode (ps ++ qs) t u) (sym (ap (where_done (places_of es)) x.1))
          (one_after_another mode ps (places_of es w) t w u s rest.stays);
      fits = λ fits harmless.
          rest.fits (one-fits mode t w made steady e local.0 x.1 fits harmless.0) (harmless.1 w x.1);
      sorts = λ sorts.
          IsPermutation-trans (printed mode t) (printed mode w) (printed mode u) (one-sorts mode t w made steady e sorts.0 x.1)
          (rest.sorts (sorts.1 w x.1));
      made = (
        made,
        λ v is.
            let same : w ≡ v = let g : ◌≡◌ {A = Result Tree EditFault} (Ok w) (Ok v) = sym x.1 ∙ is in cc in
            subst (λ (y : Tree). LeaveWellMade es y) same rest.made,
      );
    }
