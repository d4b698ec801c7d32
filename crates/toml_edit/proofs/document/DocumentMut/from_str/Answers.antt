-- A text is read as it is by the options that ask for nothing else.
use Rattle.std.proofs.Common.{subst, ◌∙◌}
use Rattle.std.proofs.lemmas.Result.{IfOk-weaker}
use Rattle.std.specs.Prelude.{IfErr}
use Rattle.toml_edit_error.specs.Fault.{IfToml}
use Rattle.toml_edit.specs.DocumentView.{open_owned, tree_owned}
use Rattle.toml_edit.specs.Documents.{IsRefusalIn}
use Rattle.toml_edit_parser.specs.Options.{mode_of, version_of}
use Rattle.toml_edit.proofs.EditedLaws.{read-so}
use Rattle.toml_edit.proofs.PlainReads.{latest-accepts, of-both, plain-owned}
use Rattle.toml_edit.proofs.document.DocumentMut.from_str.Goals as goal

pub returns-clause-accepted : goal.returns-clause-accepted
returns-clause-accepted c =
    IfOk-weaker c.from_str_with.result _ _
    (λ m h. plain-owned (mode_of c.new.result) (version_of c.new.result) c.new.ensures.mode c.new.ensures.version c.args.text.now (tree_owned m)
    (open_owned m) h)
    c.from_str_with.ensures.accepted

pub returns-clause-plain : goal.returns-clause-plain
returns-clause-plain c =
    of-both c.from_str_with.result _ _ _
    (λ m mode h. (
      mode ∙ c.new.ensures.mode,
      (plain-owned (mode_of c.new.result) (version_of c.new.result) c.new.ensures.mode c.new.ensures.version c.args.text.now (tree_owned m)
          (open_owned m) h).open_end,
    ))
    c.from_str_with.ensures.mode c.from_str_with.ensures.accepted

pub returns-clause-every : goal.returns-clause-every
returns-clause-every c =
    λ d accepted. c.from_str_with.ensures.every d (latest-accepts (version_of c.new.result) c.args.text.now d c.new.ensures.version
    accepted)

pub returns-clause-refused : goal.returns-clause-refused
returns-clause-refused c =
    subst (λ v. IfErr c.from_str_with.result (λ e. IfToml e (IsRefusalIn v c.args.text.now))) c.new.ensures.version
    c.from_str_with.ensures.refused

pub returns-clause-edits : goal.returns-clause-edits
returns-clause-edits c =
    of-both c.from_str_with.result _ _ _
    (λ m mode h.
    let reading = plain-owned (mode_of c.new.result) (version_of c.new.result) c.new.ensures.mode c.new.ensures.version c.args.text.now
    (tree_owned m) (open_owned m) h in
    read-so c.others_stay.ensures.none c.args.text.now m reading.reading (mode ∙ c.new.ensures.mode, reading.open_end))
    c.from_str_with.ensures.mode c.from_str_with.ensures.accepted
