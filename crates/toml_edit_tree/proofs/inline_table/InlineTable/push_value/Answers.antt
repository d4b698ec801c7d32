-- A new key with its value, put last.
use Rattle.std.proofs.Common.{◌≡◌, [], ◌∷◌, ◌++◌, rules, ap, ◌∙◌}
use Rattle.toml_edit_model.specs.Keys.{new_key}
use Rattle.toml_edit_tree.specs.declared.inline_table.InlineTable.{out-InlineTable}
use Rattle.toml_edit_tree.specs.declared.item.Item.TheVariants as items
use Rattle.toml_edit_tree.proofs.InlineFillLaws.{put-gone}
use Rattle.toml_edit_tree.proofs.inline_table.InlineTable.push_value.Goals as goal

pub returns-in-Ok-push-clause-table : goal.returns-in-Ok-push-clause-table
returns-in-Ok-push-clause-table c =
    let k = c.args.key.now in
    let t = c.args.self.now in
    let left : c.push.new.self ≡ (out-InlineTable t).items ++ record { key = new_key k; item = items.Value c.args.value } ∷ [] =
    search rules in
    ap (λ l. record t { items = l }) left ∙ put-gone k t c.requires c.args.value
