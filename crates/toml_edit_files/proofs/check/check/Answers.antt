-- The files are found, done and counted.
use Rattle.std.proofs.Common.{map}
use Rattle.toml_edit_files.specs.Checks.{ChecksFile}
use Rattle.toml_edit_files.specs.Edited.{version_by}
use Rattle.toml_edit_files.proofs.FoundLaws.{found-done}
use Rattle.toml_edit_files.proofs.check.check.Goals as goal

pub returns : goal.returns
returns g c =
    found-done (ChecksFile (version_by c.args.reading)) _ (map (λ f. f.now) c.args.files.now) (g.F.Folder.history c.args.folder.now) (g.F.Folder.history c.files_of.new.folder)
    (g.F.Folder.history c.check_all-tally.new.folder) (g.I.Input.remaining c.args.input.now) c.in-Ok.files.names.items c.in-Ok.files.walked
    c.check_all-tally.result.told c.counted.result c.check_all-tally.result.undone c.in-Ok.ensures.found c.as_slice-found.result.now c.as_slice-found.ensures.value
    c.check_all-tally.ensures c.counted.ensures
