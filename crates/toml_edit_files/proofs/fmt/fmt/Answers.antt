-- The files are found, done and counted.
use Rattle.std.proofs.Common.{Bor, List, map, subst}
use Rattle.file_replace.specs.Events.{Text}
use Rattle.toml_edit_files.specs.FormatFiles.{FormatsFile}
use Rattle.toml_edit_files.specs.Found.{DoesFound}
use Rattle.toml_edit_files.proofs.FoundLaws.{found-done}
use Rattle.toml_edit_files.proofs.fmt.fmt.Goals as goal

pub returns : goal.returns
returns g c =
    subst (λ (xs : List (Bor Text)). DoesFound (FormatsFile c.args.reading c.args.command.now) _ (map (λ f. f.now) xs) (g.F.Folder.history c.args.folder.now)
    (g.F.Folder.history c.fmt_all-tally.new.folder) (g.I.Input.remaining c.args.input.now) c.counted.result) c.as_slice-names.ensures.value
    (found-done (FormatsFile c.args.reading c.args.command.now) _ (map (λ f. f.now) c.as_slice-names.result.now) (g.F.Folder.history c.args.folder.now)
    (g.F.Folder.history c.files_of.new.folder) (g.F.Folder.history c.fmt_all-tally.new.folder) (g.I.Input.remaining c.args.input.now)
    c.in-Ok.files.names.items c.in-Ok.files.walked c.fmt_all-tally.result.told c.counted.result c.fmt_all-tally.result.undone c.in-Ok.ensures.found
    c.as_slice-found.result.now c.as_slice-found.ensures.value c.fmt_all-tally.ensures c.counted.ensures)
