-- Edits after which a tree that fits still fits.
use Rattle.std.proofs.Common.{◌≡◌, sym, ◌∙◌, ap, true, List, [], ◌++◌, append-nil, inl, inr}
use Rattle.std.specs.Prelude.{◌⊎◌, Ok}
use Rattle.toml_edit_model.specs.Fits.{FitsIn, is_steady_in}
use Rattle.toml_edit_model.specs.Keys.{names}
use Rattle.toml_edit_model.specs.Mode.{Mode}
use Rattle.toml_edit_model.specs.Text.{Text}
use Rattle.toml_edit_model.specs.Tree.{IsWellMade, Key, Node, SlotsAreWellMade, Tree}
use Rattle.toml_edit_laws.specs.Locality.{is_plain_value}
use Rattle.toml_edit_edit_laws.specs.Commands.{done, item_at, mapped, remove_below, root_item, set_at, with_slots}
use Rattle.toml_edit_edit_laws.proofs.commands.Setting.{was-mapped}
use Rattle.toml_edit_edit_laws.proofs.fitting_inside.Calls.{remove_fits, set_adds_after_lines_fits, set_adds_under_fits, set_replaces_fits}
use Rattle.toml_edit_paths.specs.Lines.{remove_line_at, remove_line_below}
use Rattle.toml_edit_tree.specs.View.{value_view}
use Rattle.toml_edit_edits.specs.Lists.{effect}
use Rattle.toml_edit_edits.specs.OthersStay.{HasPlace, IsHarmless, IsHarmlessAt, IsLocal, at_new_key, in_value}
use Rattle.toml_edit_edits.specs.declared.edit.Edit.{Edit}
use Rattle.toml_edit_edits.specs.declared.edit.Edit.TheVariants as edits
use Rattle.toml_edit_edits.proofs.MoveLaws.{answered}
use Rattle.toml_edit_edits.proofs.staying.Effects.{headed-was}
use Rattle.toml_edit_edits.proofs.staying.Removals.{InArray, line-gone}
use Rattle.toml_edit_edits.proofs.staying.Sets.{no-headers}

module _ (mode : Mode) (t u : Tree) (made : SlotsAreWellMade t.slots) (steady : is_steady_in mode t ≡ true) where
  put-fits : (path below : List Key) (v : Node) → is_plain_value v ≡ true → IsWellMade v → (place : HasPlace mode t path below)
      → set_at path v t ≡ done u → FitsIn mode t → IsHarmlessAt mode t path below v place → FitsIn mode u
  put-fits path below v plain w (in_value front inner old same spelled there value) set fits harmless =
      let is : path ≡ front = same ∙ ap (λ q. front ++ q) harmless.1 ∙ append-nil front in
      set_replaces_fits mode t u path v old made steady fits w harmless.0 (ap (λ q. item_at (names q) t) is ∙ there) harmless.2 set
  put-fits path below v plain w (at_new_key front k x same spelled named new (inl has)) set fits harmless =
      set_adds_under_fits mode t u front x k below v made steady fits w plain spelled named new has harmless
      (ap (λ q. set_at q v t) (sym same) ∙ set)
  put-fits path below v plain w (at_new_key front k x same spelled named new (inr some)) set fits harmless =
      set_adds_after_lines_fits mode t u front x k below v made steady fits plain named new some harmless
      (ap (λ q. set_at q v t) (sym same) ∙ set)

  removed-fits : (path : List Text) (r : Node) → u ≡ with_slots t r → (remove_below path (root_item t) ≡ done r) ⊎ InArray path (root_item t) r
      → (InArray path (root_item t) r → ⊥) → FitsIn mode t → FitsIn mode u
  removed-fits path r gives (inl h) none fits =
      remove_fits mode t u path made steady fits (ap (mapped (with_slots t)) h ∙ ap (λ y. done y) (sym gives))
  removed-fits path r gives (inr x) none fits = absurd (none x)

  pub one-fits : (e : Edit) (local : IsLocal mode e t) → effect e t ≡ Ok u → FitsIn mode t → IsHarmless mode e t local → FitsIn mode u
  one-fits (edits.Set path v) local h fits harmless =
      put-fits path.items local.1.0 (value_view v) local.0.0 local.0.1 local.1.1 (answered (set_at path.items (value_view v) t) u h) fits harmless
  one-fits (edits.Header path v) local h fits harmless =
      put-fits path.items [] (value_view v) local.0.0 local.0.1 local.1
      (sym (no-headers mode t (value_view v) path.items local.1) ∙ headed-was path.items (value_view v) t u h) fits harmless
  one-fits (edits.Remove path) local h fits harmless =
      let root = was-mapped (with_slots t) (remove_line_below (names path.items) (root_item t)) u (answered (remove_line_at (names path.items) t) u h) in
      removed-fits (names path.items) root.from root.gives (line-gone (names path.items) (root_item t) root.from root.is)
      (λ x. harmless x.above x.key x.fields x.items x.is x.there) fits
  one-fits (edits.Append path v) local h fits harmless = absurd harmless
  one-fits (edits.Insert path v) local h fits harmless = absurd harmless
  one-fits (edits.Take path v) local h fits harmless = absurd harmless
  one-fits (edits.Table path v) local h fits harmless = absurd local
  one-fits (edits.Section path) local h fits harmless = absurd harmless
  one-fits (edits.Rename path name) local h fits harmless = absurd harmless
  one-fits (edits.Move path to) local h fits harmless = absurd harmless
  one-fits (edits.Sort path) local h fits harmless = absurd harmless
  one-fits (edits.Comment path text) local h fits harmless = absurd harmless
