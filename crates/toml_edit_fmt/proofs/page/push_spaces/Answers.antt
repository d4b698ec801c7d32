-- One more space.
use Rattle.std.proofs.Common.{ap, sym, ◌∙◌, ◌++◌, append_assoc, string_bytes}
use Rattle.toml_edit_model.specs.Text.{one, space}
use Rattle.toml_edit_fmt_laws.specs.Rules.{spaces}
use Rattle.toml_edit_fmt.proofs.PageLaws.{repeat-more}
use Rattle.toml_edit_fmt.proofs.page.push_spaces.Goals as goal

pub loop-at-preserved : goal.loop-at-preserved
loop-at-preserved c =
    c.in_ok-push_str.ensures.bytes ∙ ap (λ t. t ++ one space) c.loop-at.invariant
    ∙ append_assoc (string_bytes c.args.text.now) (spaces c.loop-at.at) (one space)
    ∙ ap (λ t. string_bytes c.args.text.now ++ t) (sym (repeat-more c.loop-at.at (one space)))
