-- What a version accepts, its normal text and its print.
use Rattle.toml_edit_laws.proofs.versions.Accepting.{later-accepts}
use Rattle.toml_edit_laws.proofs.versions.Faulty.{faults_in_versions}
use Rattle.toml_edit_laws.proofs.versions.EarlyPrints.{normal_texts_stay, prints_stay}
use Rattle.toml_edit_laws.proofs.versions_accept.Goals as goal

pub returns : goal.returns
returns c = record { later = later-accepts; faults = faults_in_versions; normal = normal_texts_stay; print = prints_stay }
