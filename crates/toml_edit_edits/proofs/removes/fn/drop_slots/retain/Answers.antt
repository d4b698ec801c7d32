-- The closure at one name.
use Rattle.std.proofs.Common.{◌∙◌, ap, sym}
use Rattle.std.specs.Prelude.{not}
use Rattle.toml_edit_edits.proofs.RemovesLaws.{among-texts}
use Rattle.toml_edit_edits.proofs.removes.fn.drop_slots.retain.Goals as goal

pub returns : goal.returns
returns c = ap not (c.contains.ensures ∙ sym (among-texts c.args.name.now c.captures.names.now.keys))
