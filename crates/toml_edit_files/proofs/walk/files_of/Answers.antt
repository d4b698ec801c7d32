-- The files of one more name are found.
use Rattle.std.proofs.Common.{◌<◌, [], arith, length, map, string_bytes}
use Rattle.toml_edit_files.specs.Walks.{FindsNamed}
use Rattle.toml_edit_files.proofs.FolderLaws.{looks_then}
use Rattle.toml_edit_files.proofs.WalkLaws.{more-name}
use Rattle.toml_edit_files.proofs.walk.files_of.Goals as goal

pub names-preserved : goal.names-preserved
names-preserved g c =
    let ns = c.args.names.now in let i = c.names.name-index in let below : i < length ns = omega arith in (
      more-name FindsNamed ns i _ below c.names.files.walked c.in_ok-files.field-0 _ _ _ [] (map string_bytes c.names.files.names.items) _ c.names.invariant.0 c.in_ok-files.ensures.found,
      looks_then _ _ _ c.names.invariant.1 c.find_named.ensures.looks,
    )

pub returns-in_err-files-clause-looks : goal.returns-in_err-files-clause-looks
returns-in_err-files-clause-looks g c = looks_then _ _ _ c.names.invariant.1 c.find_named.ensures.looks
