-- One more file is checked, or memory runs out.
use Rattle.std.proofs.Common.{◌≡◌, ◌<◌, ◌≤◌, ◌∙◌, false, true, ap, arith, length, string_bytes}
use Rattle.toml_edit_files.specs.Checks.{ChecksFile}
use Rattle.toml_edit_files.specs.Edited.{version_by}
use Rattle.toml_edit_files.proofs.OutcomeLaws.{before_at, done_at, more_at}
use Rattle.toml_edit_files.proofs.check.check_all.Goals as goal

pub returns-then-not-add : goal.returns-then-not-add
returns-then-not-add g c =
    let fs = c.args.files.now in
    let i = c.files.file-index in
    let below : i < length fs = omega arith in
    let is : c.add.result ≡ false = grind (arith, c.if-not-add.true) in
    before_at (ChecksFile (version_by c.args.reading)) fs (g.F.Folder.history c.args.folder.now) (g.I.Input.remaining c.args.input.now) i (g.F.Folder.history c.files.folder)
    (g.I.Input.remaining c.files.input) c.files.tally.told c.files.tally.undone c.files.invariant _ below c.as_str.result.now
    (c.as_str.ensures.value ∙ ap string_bytes c.file-item.is) (g.F.Folder.history c.check_file-checked.new.folder) c.check_file-checked.result c.check_file-checked.ensures.checks
    c.add.new.self.told c.add.new.self.undone c.add.result c.add.ensures.told c.add.ensures.undone is

pub files-preserved : goal.files-preserved
files-preserved g c =
    let fs = c.args.files.now in
    let i = c.files.file-index in
    let below : i < length fs = omega arith in
    let is : c.add.result ≡ true = grind (arith, c.if-not-add.false) in
    more_at (ChecksFile (version_by c.args.reading)) fs (g.F.Folder.history c.args.folder.now) (g.I.Input.remaining c.args.input.now) i (g.F.Folder.history c.files.folder)
    (g.I.Input.remaining c.files.input) c.files.tally.told c.files.tally.undone c.files.invariant _ below c.as_str.result.now
    (c.as_str.ensures.value ∙ ap string_bytes c.file-item.is) (g.F.Folder.history c.check_file-checked.new.folder) c.check_file-checked.result c.check_file-checked.ensures.checks
    c.add.new.self.told c.add.new.self.undone c.add.result c.add.ensures.told c.add.ensures.undone (g.I.Input.remaining c.check_file-checked.new.input)
    c.check_file-checked.ensures.rest c.add.ensures.memory is

pub returns : goal.returns
returns g c =
    let past : length c.args.files.now ≤ c.files.file-index = omega arith in
    done_at (ChecksFile (version_by c.args.reading)) c.args.files.now (g.F.Folder.history c.args.folder.now) (g.I.Input.remaining c.args.input.now) c.files.file-index
    (g.F.Folder.history c.files.folder) (g.I.Input.remaining c.files.input) c.files.tally.told c.files.tally.undone c.files.invariant past
