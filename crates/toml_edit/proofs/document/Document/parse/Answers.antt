-- A text is read as it is by the options that ask for nothing else.
use Rattle.std.proofs.Common.{subst, ◌∙◌}
use Rattle.std.proofs.lemmas.Result.{IfOk-weaker}
use Rattle.std.specs.Prelude.{IfErr}
use Rattle.toml_edit_error.specs.Fault.{IfToml}
use Rattle.toml_edit.specs.DocumentView.{open_read, tree_read}
use Rattle.toml_edit.specs.Documents.{IsRefusalIn}
use Rattle.toml_edit_parser.specs.Options.{mode_of, version_of}
use Rattle.toml_edit.proofs.PlainReads.{latest-accepts, of-both, plain-end, plain-reading}
use Rattle.toml_edit.proofs.document.Document.parse.Goals as goal

pub returns-clause-accepted : goal.returns-clause-accepted
returns-clause-accepted g c =
    IfOk-weaker c.parse_with.result _ _
    (λ x h. plain-reading (mode_of c.new.result) c.new.ensures.mode (version_of c.new.result) (g.S.SourceText.content c.args.raw)
    (tree_read x) (open_read x) h)
    c.parse_with.ensures.accepted

pub returns-clause-plain : goal.returns-clause-plain
returns-clause-plain g c =
    of-both c.parse_with.result _ _ _
    (λ x mode h. (
      mode ∙ c.new.ensures.mode,
      plain-end (mode_of c.new.result) c.new.ensures.mode (version_of c.new.result) (g.S.SourceText.content c.args.raw) (tree_read x)
          (open_read x) h,
    ))
    c.parse_with.ensures.mode c.parse_with.ensures.accepted

pub returns-clause-every : goal.returns-clause-every
returns-clause-every g c =
    λ d accepted. c.parse_with.ensures.every d (latest-accepts (version_of c.new.result) (g.S.SourceText.content c.args.raw) d
    c.new.ensures.version accepted)

pub returns-clause-refused : goal.returns-clause-refused
returns-clause-refused g c =
    subst (λ v. IfErr c.parse_with.result (λ e. IfToml e (IsRefusalIn v (g.S.SourceText.content c.args.raw)))) c.new.ensures.version
    c.parse_with.ensures.refused
