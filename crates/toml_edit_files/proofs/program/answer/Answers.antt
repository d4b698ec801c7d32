-- The words ask for a command, or for nothing.
use Rattle.std.proofs.Common.{Bor, List, inl, inr, map, refl, rules, subst}
use Rattle.file_replace.specs.Events.{Text}
use Rattle.toml_edit_files.specs.Checks.{ChecksFile}
use Rattle.toml_edit_files.specs.Edited.{version_by}
use Rattle.toml_edit_files.specs.Found.{DoesFound}
use Rattle.toml_edit_files.specs.declared.check.TheConstants.{UNCHECKED}
use Rattle.toml_edit_files.proofs.RunLaws.{asked, edited}
use Rattle.toml_edit_files.proofs.program.answer.Goals as goal

pub returns-in-Err : goal.returns-in-Err
returns-in-Err g c = inr (c.in-Err.stop, refl, c.in-Err.ensures.stops, c.told_of.ensures)

pub returns-in-Check : goal.returns-in-Check
returns-in-Check g c =
    let old = g.F.Folder.history c.args.folder.now in
    let new = g.F.Folder.history c.check.new.folder in
    let left = g.I.Input.remaining c.args.input.now in
    let does = ChecksFile (version_by c.in-Ok.request.reading) in
    inl (
      c.in-Ok.request,
      c.in-Ok.ensures.says,
      rw c.in-Check.is
          (subst (λ (files : List (Bor Text)). DoesFound does UNCHECKED.now (map (λ f. f.now) files) old new left c.check.result)
          c.as_slice.ensures.value c.check.ensures),
    )

pub returns-in-Fmt : goal.returns-in-Fmt
returns-in-Fmt g c = inl (c.in-Ok.request, c.in-Ok.ensures.says, rw c.in-Fmt.is c.fmt.ensures)

pub returns-in-Show : goal.returns-in-Show
returns-in-Show g c = inl (c.in-Ok.request, c.in-Ok.ensures.says, rw c.in-Show.is (search rules))

pub returns-in-Ask : goal.returns-in-Ask
returns-in-Ask g c =
    inl (
      c.in-Ok.request,
      c.in-Ok.ensures.says,
      rw c.in-Ask.is
          (asked (g.F.Folder.history c.args.folder.now) (g.F.Folder.history c.ask.new.folder) (g.I.Input.remaining c.args.input.now)
          c.told_of-in-Ask.result c.in-Ok.request.reading c.in-Ask.question c.ask.result c.ask.ensures.answer c.ask.ensures.quiet c.ask.ensures.stops
          c.ask.ensures.looks c.told_of-in-Ask.ensures),
    )

pub returns-in-Edit : goal.returns-in-Edit
returns-in-Edit g c =
    inl (
      c.in-Ok.request,
      c.in-Ok.ensures.says,
      rw c.in-Edit.is
          (edited (g.F.Folder.history c.args.folder.now) (g.F.Folder.history c.edit.new.folder) (g.I.Input.remaining c.args.input.now)
          c.told_of-in-Edit.result c.in-Ok.request.reading c.in-Edit.command c.in-Edit.edits c.edit.result c.edit.ensures.edits c.edit.ensures.yes
          c.edit.ensures.stops c.edit.ensures.unmade c.told_of-in-Edit.ensures),
    )
