-- What was read is of the one cut of the text, and its print is the normal text of that cut.
use Rattle.std.proofs.Common.{◌∙◌, ap, Bool}
use Rattle.toml_edit_model.specs.Mode.{Mode, plain}
use Rattle.toml_edit_model.specs.Print.{print_in}
use Rattle.toml_edit.specs.DocumentView.{open_owned, tree_owned}
use Rattle.toml_edit.proofs.promise.read_and_print.Goals as goal

pub returns-clause-read : goal.returns-clause-read
returns-clause-read c =
    let m = c.in_ok-document.document in
    let x = tree_owned m in
    let read = c.in_ok-document.ensures.accepted.reading in
    record {
      document = read.document;
      accepted = read.accepted;
      only = read.only;
      meaning = read.meaning;
      print = c.in_ok-text.ensures ∙ ap (λ (mode : Mode). print_in mode (open_owned m) x) c.in_ok-document.ensures.plain.0
          ∙ ap (λ (b : Bool). print_in plain b x) c.in_ok-document.ensures.accepted.open_end ∙ read.tree.prints;
      normal = read.tree.normal.1;
    }
