-- A tree that fits still does after harmless edits.
use Rattle.std.proofs.Common.{refl, [], ◌∷◌}
use Rattle.toml_edit_model.specs.Mode.{Mode}
use Rattle.toml_edit_laws.specs.EditLists.{replace, add, remove, remove_element, after}
use Rattle.toml_edit_edit_laws.specs.Fitting.{StillFits, StillFitsAfterAll, ScalarsFitAnywhere}
use Rattle.toml_edit_edit_laws.proofs.path_calls.Staying.{edit_stays}
use Rattle.toml_edit_edit_laws.proofs.fitting.Adding.{added-fits}
use Rattle.toml_edit_edit_laws.proofs.fitting.Removing.{removed-fits}
use Rattle.toml_edit_edit_laws.proofs.fitting.RemovingElements.{removed-element-fits}
use Rattle.toml_edit_edit_laws.proofs.fitting.Replacing.{replaced-fits}

module _ (mode : Mode) where
  pub still_fits : StillFits mode
  still_fits (replace way k f n) t made steady fits (v, l, old, leads, there, value, plain, name, slot) h =
      replaced-fits mode t way v k f l old n made steady leads there value plain name h.0 h.1 h.2 h.3 fits
  still_fits (add way k n) t made steady fits (v, leads, is_new, plain, has, slot) h =
      added-fits mode t way v k n made steady leads is_new plain h fits has
  still_fits (remove way k) t made steady fits (v, s, leads, there) h = removed-fits mode t way v k s made steady leads there fits
  still_fits (remove_element way k i) t made steady fits (v, w, leads, last) h =
      removed-element-fits mode t way v w k i made steady leads last fits

  pub still_fits_after_all : StillFitsAfterAll mode
  still_fits_after_all [] t made steady fits a h = fits
  still_fits_after_all (e ∷ es) t made steady fits a h =
      let stays = edit_stays mode e t made steady a.0 in
      still_fits_after_all es (after e t) stays.made stays.steady.2 (still_fits e t made steady fits a.0 h.0) a.1 h.1

  pub scalars_fit_anywhere : ScalarsFitAnywhere mode
  scalars_fit_anywhere s spelling d = (tt, refl)
