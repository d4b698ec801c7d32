-- Its text has a newline just where it is printed with one.
use Rattle.std.proofs.Common.{sym, ap, ◌∙◌}
use Rattle.std.specs.Option.{option_copied}
use Rattle.toml_edit_model.specs.Text.{has_byte, line_feed}
use Rattle.toml_edit.proofs.HeaderLaws.{newline-shown}
use Rattle.toml_edit.proofs.encode.raw_has_newline.Goals as goal

pub returns-in-Some : goal.returns-in-Some
returns-in-Some c mode =
    let t = c.in-Some.text.now in
    c.contains.ensures.value ∙ ap (has_byte line_feed) c.as_bytes.ensures.value
    ∙ sym (newline-shown mode c.args.raw.now t (sym c.as_str.ensures ∙ ap option_copied c.in-Some.is))
