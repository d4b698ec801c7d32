-- What is printed is what was read, and is formatted.
use Rattle.std.proofs.Common.{subst, rules}
use Rattle.toml_edit_command.specs.Written.{held}
use Rattle.toml_edit_fmt.specs.TextView.{IsFormatted}
use Rattle.toml_edit_model.specs.Print.{print_in}
use Rattle.toml_edit_parser.specs.Options.{mode_of, version_of}
use Rattle.toml_edit_c.specs.Formats.{rules_in}
use Rattle.toml_edit_c.proofs.calls.format.Goals as goal

pub returns-clause-made : goal.returns-clause-made
returns-clause-made c =
    let options = c.in_ok-options_of.field-0 in let mode = mode_of options in let text = c.args.text.now in
    let h = held c.in_ok-document.document in let is = c.in_ok-document.ensures.read in let x = c.into_bytes.result.items in
    let made : IsFormatted (rules_in h.mode text) (print_in h.mode h.is_open h.tree) x = search rules in
    let same = subst (λ m. IsFormatted (rules_in m text) (print_in m h.is_open h.tree) x) is.1.same_mode made in (
      (mode, version_of options),
      c.in_ok-options_of.ensures.valid,
      record {
        document = is.0;
        tree = h.tree;
        read = is.1.read;
        made = subst (λ b. IsFormatted (rules_in mode text) (print_in mode b h.tree) x) is.1.open_end same;
      },
    )
