-- The law of normal texts.
use Rattle.std.proofs.Common.{◌∙◌, ap, Bool, string_bytes}
use Rattle.toml_edit.specs.DocumentView.{open_owned, tree_owned}
use Rattle.toml_edit.specs.model.Mode.{Mode, plain}
use Rattle.toml_edit.specs.model.Print.{print_in}
use Rattle.example_calls.proofs.NormalLaws.{normalized}
use Rattle.example_calls.proofs.normalizing.normalize.Goals as goal

pub returns-clause-normal : goal.returns-clause-normal
returns-clause-normal c =
    let d = c.in_ok-document.document in
    normalized c.args.text.now (string_bytes c.in_ok-print.field-0) (tree_owned d) c.normal.ensures.texts c.cut.ensures.one
    c.in_ok-document.ensures.accepted.reading
    (c.in_ok-print.ensures ∙ ap (λ (m : Mode). print_in m (open_owned d) (tree_owned d)) c.in_ok-document.ensures.plain.0
    ∙ ap (λ (b : Bool). print_in plain b (tree_owned d)) c.in_ok-document.ensures.plain.1)
