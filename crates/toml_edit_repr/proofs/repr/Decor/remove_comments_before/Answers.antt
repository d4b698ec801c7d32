-- What is left of the prefix suits its place as before.
use Rattle.std.proofs.Common.{◌≡◌, ap, ◌∙◌, string_bytes}
use Rattle.std.specs.Prelude.{option_and_then}
use Rattle.toml_edit_model.specs.Comments.{without_comments_before}
use Rattle.toml_edit_repr.specs.Views.{text_of}
use Rattle.toml_edit_repr.proofs.CommentCalls.{prefix-cut, prefix-left, remove-suits}
use Rattle.toml_edit_repr.proofs.repr.Decor.remove_comments_before.Goals as goal

pub returns-in_default-clause-ok : goal.returns-in_default-clause-ok
returns-in_default-clause-ok c = prefix-left c.args.self.now (c.in_default.ensures ∙ ap (option_and_then text_of) c.prefix.ensures)

pub returns-clause-ok : goal.returns-clause-ok
returns-clause-ok c =
    prefix-cut c.args.self.now c.set_prefix.new.self c.in-Some.text.now (string_bytes c.in_ok-prefix.prefix) c.in_ok-raw.raw
    c.set_prefix.ensures c.in_ok-raw.ensures.ok c.in_ok-prefix.ensures (c.in-Some.ensures ∙ ap (option_and_then text_of) c.prefix.ensures)

pub returns-clause-suits : goal.returns-clause-suits
returns-clause-suits c =
    let cut : c.set_prefix.new.self ≡ without_comments_before c.args.self.now =
    prefix-cut c.args.self.now c.set_prefix.new.self c.in-Some.text.now (string_bytes c.in_ok-prefix.prefix) c.in_ok-raw.raw
    c.set_prefix.ensures c.in_ok-raw.ensures.ok c.in_ok-prefix.ensures (c.in-Some.ensures ∙ ap (option_and_then text_of) c.prefix.ensures) in
    remove-suits c.args.self.now c.set_prefix.new.self cut
