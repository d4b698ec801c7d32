-- What is given of the item at the path.
use Rattle.std.proofs.Common.{inr}
use Rattle.std.proofs.lemmas.Result.{IfErr-weaker}
use Rattle.toml_edit_command.specs.Written.{held}
use Rattle.toml_edit_tree.specs.View.{item_view}
use Rattle.toml_edit_c.specs.Items.{AreKeysOf, HasItem, StopsKeysBy, StopsKeysOf}
use Rattle.toml_edit_c.proofs.Items.{is-held, item-given}
use Rattle.toml_edit_c.proofs.list.keys.Goals as goal

pub returns-clause-made : goal.returns-clause-made
returns-clause-made c =
    item-given c.args.flags c.args.text.now c.in_ok-options_of.field-0 c.in_ok-options_of.ensures.valid (held c.in_ok-document.document)
    c.in_ok-document.ensures.read c.args.path.now (item_view c.in_ok-item_at.field-0.now) c.in_ok-item_at.ensures.found c.keys_of.result
    (λ s n. AreKeysOf s.items n) c.keys_of.ensures.made

pub returns-clause-stops : goal.returns-clause-stops
returns-clause-stops c =
    let h = held c.in_ok-document.document in let n = item_view c.in_ok-item_at.field-0.now in
    IfErr-weaker c.keys_of.result (StopsKeysOf n) (StopsKeysBy c.args.flags c.args.text.now c.args.path.now)
    (λ stop why. inr (h, is-held c.args.flags c.args.text.now c.in_ok-options_of.field-0 c.in_ok-options_of.ensures.valid h c.in_ok-document.ensures.read, n, c.in_ok-item_at.ensures.found, why)) c.keys_of.ensures.stops
