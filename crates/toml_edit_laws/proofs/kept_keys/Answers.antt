-- Kept keys of texts and of slots.
use Rattle.toml_edit_laws.proofs.mentions.KeptKeys.{kept_keys as keys_are_kept}
use Rattle.toml_edit_laws.proofs.kept_keys.Goals as goal

pub returns : goal.returns
returns c = keys_are_kept
