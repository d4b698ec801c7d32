-- The last byte of its text tells.
use Rattle.std.proofs.Common.{sym, ap, ◌∙◌, lit<}
use Rattle.std.specs.Option.{option_copied}
use Rattle.toml_edit_model.specs.Mode.{ends_in_return, exact}
use Rattle.toml_edit.proofs.HeaderLaws.{shown-owned}
use Rattle.toml_edit.proofs.OpenEndLaws.{last-return}
use Rattle.toml_edit.proofs.last_line.raw_ends_in_carriage_return.Goals as goal

pub returns-in-Some : goal.returns-in-Some
returns-in-Some c =
    let t = c.in-Some.text.now in
    c.ends_with.ensures.byte (lit< tt) (lit< tt) (λ w o h. h) ∙ last-return t
    ∙ ap ends_in_return (sym (shown-owned exact c.args.raw.now t (sym c.as_str.ensures ∙ ap option_copied c.in-Some.is)))
