-- A document that was read in a version of the grammar and a mode, and made to own its texts.
use Rattle.std.proofs.Common.{◌∙◌}
use Rattle.toml_edit.specs.DocumentView.{mode_read, open_owned, open_read, source, tree_read, tree_owned}
use Rattle.toml_edit_parser.specs.Options.{mode_of, version_of}
use Rattle.toml_edit.proofs.OwnLaws.{own-reading-in}
use Rattle.toml_edit.proofs.document.DocumentMut.from_str_with.Goals as goal

pub returns-clause-accepted : goal.returns-clause-accepted
returns-clause-accepted c =
    let read = c.in_ok-document in
    let own = c.in_ok-owned in
    own-reading-in (mode_of c.args.options) (mode_read read.document) read.ensures.mode c.args.text.now (source read.document)
    read.ensures.source
    (tree_read read.document) (tree_owned own.owned) own.ensures.normal (version_of c.args.options) (open_read read.document)
    (open_owned own.owned)
    own.ensures.kept.1 read.ensures.accepted

pub returns-clause-mode : goal.returns-clause-mode
returns-clause-mode c = c.in_ok-owned.ensures.kept.0 ∙ c.in_ok-document.ensures.mode
