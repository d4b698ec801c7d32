-- Calls by paths on a tree that fits.
use Rattle.toml_edit_edit_laws.proofs.fitting_inside.Below.{set_inside_fits, remove_inside_fits}
use Rattle.toml_edit_edit_laws.proofs.fitting_inside.Held.{held_values_fit}
use Rattle.toml_edit_edit_laws.proofs.fitting_inside.Calls.{set_replaces_fits, set_adds_under_fits, set_adds_after_lines_fits, remove_fits}
use Rattle.toml_edit_edit_laws.proofs.calls_still_fit.Goals as goal

pub returns : goal.returns
returns c =
    record {
      held = held_values_fit;
      set_inside = set_inside_fits;
      remove_inside = remove_inside_fits;
      replaces = set_replaces_fits;
      adds = set_adds_under_fits;
      adds_after_lines = set_adds_after_lines_fits;
      removes = remove_fits;
    }
