-- Harmless edits of a tree that fits.
use Rattle.toml_edit_edit_laws.proofs.fitting.Adding.{still_fits_after_lines}
use Rattle.toml_edit_edit_laws.proofs.fitting.Edits.{still_fits, still_fits_after_all, scalars_fit_anywhere}
use Rattle.toml_edit_edit_laws.proofs.still_fits.Goals as goal

pub returns : goal.returns
returns c =
    record {
      edit = still_fits;
      edits = still_fits_after_all;
      after_lines = still_fits_after_lines;
      scalars = scalars_fit_anywhere;
    }
