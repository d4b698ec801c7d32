-- A slot of a steady tree under another name.
use Rattle.toml_edit_edit_laws.proofs.renaming.Lines.{renamed_line}
use Rattle.toml_edit_edit_laws.proofs.renaming.Meaning.{renamed_means}
use Rattle.toml_edit_edit_laws.proofs.renaming.Others.{renamed_value, renamed_others, renamed_stays_made, rename_refused}
use Rattle.toml_edit_edit_laws.proofs.renamed.Goals as goal

pub returns : goal.returns
returns c =
    record {
      value = renamed_value;
      line = renamed_line;
      others = renamed_others;
      meaning = renamed_means;
      made = renamed_stays_made;
      refused = rename_refused;
    }
