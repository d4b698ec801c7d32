-- Whether the last part is beside is decided by its depth first.
use Rattle.std.proofs.Common.{ap, sym, ◌∙◌, ◌==◌, string_bytes}
use Rattle.toml_edit_fmt_laws.specs.Aligned.{newlines}
use Rattle.toml_edit_fmt.proofs.PageLaws.{last-apart, last-beside}
use Rattle.toml_edit_fmt.proofs.page.Page.goes_on.Goals as goal

pub returns-then-part-depth : goal.returns-then-part-depth
returns-then-part-depth c =
    c.has_one_newline.ensures ∙ ap (λ t. newlines t == 1) c.as_bytes.ensures.value
    ∙ sym (last-beside c.args.depth (string_bytes c.args.self.now.text) c.args.self.now.run.items c.deref.result.now c.in-Some.part.now c.deref.ensures.value c.in-Some.ensures.item.3.0 c.in-Some.ensures.item.1 c.if-part-depth.true)

pub returns-else-part-depth : goal.returns-else-part-depth
returns-else-part-depth c =
    sym (last-apart c.args.depth (string_bytes c.args.self.now.text) c.args.self.now.run.items c.deref.result.now c.in-Some.part.now c.deref.ensures.value c.in-Some.ensures.item.3.0 c.in-Some.ensures.item.1 c.if-part-depth.false)
