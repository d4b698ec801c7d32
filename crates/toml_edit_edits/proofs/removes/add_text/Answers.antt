-- The name goes into the set, or was there.
use Rattle.std.proofs.Common.{◌≡◌, string_bytes, subst, sym}
use Rattle.std.specs.Bool.{OnFalse, OnTrue}
use Rattle.toml_edit_edits.specs.Removes.{AddsText, texts}
use Rattle.toml_edit_edits.proofs.RemovesLaws.{text-added, text-kept}
use Rattle.toml_edit_edits.proofs.removes.add_text.Goals as goal

pub returns-clause-added : goal.returns-clause-added
returns-clause-added c =
    subst (λ b. OnTrue b (AddsText (string_bytes c.args.name) (texts c.args.names.now) (texts c.insert.new.self))) (sym c.unwrap_or.ensures)
    (text-added c.args.names.now.keys c.insert.new.self.keys c.args.name c.insert.result c.insert.ensures.added c.insert.ensures.keys)

pub returns-clause-stays : goal.returns-clause-stays
returns-clause-stays c =
    subst (λ b. OnFalse b (c.insert.new.self.keys ≡ c.args.names.now.keys)) (sym c.unwrap_or.ensures)
    (text-kept c.args.names.now.keys c.insert.new.self.keys c.args.name c.insert.result c.insert.ensures.added c.insert.ensures.keys c.insert.ensures.err)
