-- What is given of the item at the path.
use Rattle.std.proofs.Common.{◌≡◌, inl}
use Rattle.std.proofs.lemmas.Result.{IfErr-weaker}
use Rattle.toml_edit_command.specs.Written.{held}
use Rattle.toml_edit_json.specs.Values.{json_text}
use Rattle.toml_edit_tree.specs.View.{item_view}
use Rattle.toml_edit_c.specs.Items.{StopsItemBy}
use Rattle.toml_edit_c.specs.declared.answer.Stop.TheVariants.{Memory}
use Rattle.toml_edit_c.proofs.Items.{item-given, out-of-memory}
use Rattle.toml_edit_c.proofs.calls.json.Goals as goal

pub returns-clause-made : goal.returns-clause-made
returns-clause-made c =
    item-given c.args.flags c.args.text.now c.in_ok-options_of.field-0 c.in_ok-options_of.ensures.valid (held c.in_ok-document.document)
    c.in_ok-document.ensures.read c.args.path.now (item_view c.in_ok-item_at.field-0.now) c.in_ok-item_at.ensures.found c.json_of.result
    (λ s n. s.items ≡ json_text n) c.json_of.ensures.text

pub returns-clause-stops : goal.returns-clause-stops
returns-clause-stops c =
    IfErr-weaker c.json_of.result (λ stop. stop ≡ Memory) (StopsItemBy c.args.flags c.args.text.now c.args.path.now)
    (λ stop is. rw is (inl (out-of-memory c.args.flags c.args.text.now c.in_ok-options_of.field-0 c.in_ok-options_of.ensures.valid)))
    c.json_of.ensures.stops
