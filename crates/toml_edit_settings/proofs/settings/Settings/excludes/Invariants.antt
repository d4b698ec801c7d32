-- What is left says whether the file is left out.
use Rattle.std.proofs.Common.{◌≡◌, drop, map}
use Rattle.std.specs.List.{list_any}
use Rattle.toml_edit_settings.specs.Said.{excludes, leaves_out_at}
use Rattle.toml_edit_settings.specs.SaidView.{saying}
use Rattle.toml_edit_settings.specs.SettingsView.{said_by}
use Rattle.toml_edit_settings.proofs.settings.Settings.excludes.Given as goal

abbrev pub invariant-said : goal.invariant-said
invariant-said l = list_any (leaves_out_at l.path) (map saying (drop l.said-index l.self.said.items)) ≡ excludes (said_by l.self) l.path
