-- The law of a header of which tables are missing.
use Rattle.toml_edit_edit_laws.proofs.headers.Setting.{set_adds_table}
use Rattle.toml_edit_edits.proofs.staying.Effects.{headed-was}
use Rattle.toml_edit_edits.proofs.laws.header_adds.Goals as goal

pub returns : goal.returns
returns c =
    record {
      table = λ mode t u path w k j more v made steady plain named is_new set.
          set_adds_table mode t u path w k j more v made steady plain named is_new (headed-was _ v t u set);
    }
