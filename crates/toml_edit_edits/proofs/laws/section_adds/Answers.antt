-- A header more.
use Rattle.toml_edit_edits.proofs.staying.SectionMore.{section-adds}
use Rattle.toml_edit_edits.proofs.laws.section_adds.Goals as goal

pub returns : goal.returns
returns c = record { header = section-adds }
