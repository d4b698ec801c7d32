-- A tree that fits still does after calls by paths.
use Rattle.std.proofs.Common.{◌≡◌, refl, sym, ap, subst, true, inl}
use Rattle.toml_edit_model.specs.Mode.{Mode}
use Rattle.toml_edit_model.specs.Tree.{Key, Node, nothing, leaf, list, inline, table, tables, SlotsAreWellMade, IsWellMade, Tree}
use Rattle.toml_edit_model.specs.Fits.{FitsIn, is_steady_in}
use Rattle.toml_edit_model.specs.Keys.{cleared_key}
use Rattle.toml_edit_laws.specs.Locality.{is_plain_value}
use Rattle.toml_edit_laws.specs.EditLists.{Edit, replace, add, remove, remove_element, after, Applies}
use Rattle.toml_edit_laws.proofs.locality.Values.{plain-value}
use Rattle.toml_edit_edit_laws.specs.CommandLaws.{is_scalar, made_below}
use Rattle.toml_edit_edit_laws.specs.PathEdits.{PathCall, sets, removes}
use Rattle.toml_edit_edit_laws.specs.Fitting.{FitsAnywhere}
use Rattle.toml_edit_edit_laws.specs.CallsFit.{SetReplacesFits, SetAddsUnderFits, SetAddsAfterLinesFits, RemoveFits}
use Rattle.toml_edit_edit_laws.proofs.path_calls.Setting.{Replaces, EditSuch, SetsInside, set-edit, adds-slot, made-plain, made-made}
use Rattle.toml_edit_edit_laws.proofs.path_calls.Removing.{RemovesInside, remove-edit}
use Rattle.toml_edit_edit_laws.proofs.fitting.Adding.{still_fits_after_lines}
use Rattle.toml_edit_edit_laws.proofs.fitting.Edits.{still_fits}
use Rattle.toml_edit_edit_laws.proofs.fitting_inside.Below.{set_inside_fits, remove_inside_fits}
use Rattle.toml_edit_edit_laws.proofs.fitting_inside.Held.{held_values_fit}
use Rattle.toml_edit_edit_laws.proofs.fitting_inside.NewKeys.{made-harmless}

module _ (mode : Mode) where
  -- an edit that replaces no value but by one that fits anywhere if the old one does
  module _ (t : Tree) (R : Node → Node → Type 0)
      (keeps : (old n : Node) → IsWellMade old → FitsAnywhere mode old → R old n → FitsAnywhere mode n)
      (made : SlotsAreWellMade t.slots) (steady : is_steady_in mode t ≡ true) (fits : FitsIn mode t) where
    after-fits : (e : Edit) (a : Applies mode e t) → Replaces mode t R e a → FitsIn mode (after e t)
    after-fits (replace way k f n) (v, l, old, leads, there, value, plain, name, slot) (same, decor, well, r) =
        let held = held_values_fit mode t way v k l old made steady fits leads there value in
        still_fits mode (replace way k f n) t made steady fits (v, l, old, leads, there, value, plain, name, slot)
        (inl (ap (λ (x : Key). x.leaf) (same l)), inl (ap (λ (x : Key). x.dotted) (same l)), inl decor, keeps old n well held r)
    after-fits (add way k n) a r = absurd r
    after-fits (remove way k) a r = still_fits mode (remove way k) t made steady fits a tt
    after-fits (remove_element way k i) a r = still_fits mode (remove_element way k i) t made steady fits a tt

    call-fits : (c : PathCall) (u : Tree) → EditSuch mode c t u (Replaces mode t R) → FitsIn mode u
    call-fits c u x = subst (FitsIn mode) (sym x.0.leaves) (after-fits x.0.edit x.0.applies x.1)

  scalar-plain : (v : Node) → is_scalar v ≡ true → is_plain_value v ≡ true
  scalar-plain (leaf s r d) h = refl
  scalar-plain (list f xs) h = absurd cc
  scalar-plain (inline f ss) h = absurd cc
  scalar-plain (table f ss) h = absurd cc
  scalar-plain (tables e xs) h = absurd cc
  scalar-plain nothing h = absurd cc

  pub set_replaces_fits : SetReplacesFits mode
  set_replaces_fits t u path v there made steady fits well is at plain set =
      call-fits t (SetsInside v there)
      (λ old n w anywhere s. set_inside_fits mode v old n there s.0 w anywhere is s.1 plain s.2)
      made steady fits (sets path v) u
      (set-edit mode t u path v there made steady well (scalar-plain v is) at (plain-value there plain) set)

  pub set_adds_under_fits : SetAddsUnderFits mode
  set_adds_under_fits t u path w k more v made steady fits well plain spelled named is_new has harmless set =
      let n : Node = made_below more v in
      subst (FitsIn mode) (sym (adds-slot t u path w k more v made named is_new set))
      (still_fits mode (add named.way (cleared_key k) n) t made steady fits
      (w, named.leads, is_new, made-plain v more plain, has, (spelled.0, made-made v more spelled.1 well))
      (made-harmless mode k more v plain harmless))

  pub set_adds_after_lines_fits : SetAddsAfterLinesFits mode
  set_adds_after_lines_fits t u path w k more v made steady fits plain named is_new some harmless set =
      subst (FitsIn mode) (sym (adds-slot t u path w k more v made named is_new set))
      (still_fits_after_lines mode t named.way w (cleared_key k) (made_below more v) made steady fits named.leads is_new
      (made-plain v more plain) some
      (made-harmless mode k more v plain harmless))

  pub remove_fits : RemoveFits mode
  remove_fits t u path made steady fits gone =
      call-fits t RemovesInside (λ old n w anywhere r. remove_inside_fits mode old n r.0 r.1 w anywhere r.2)
      made steady fits (removes path) u
      (remove-edit mode t u path made steady gone)
