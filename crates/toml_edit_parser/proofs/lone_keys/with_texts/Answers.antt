-- The text that the key gets parts of is the source.
use Rattle.std.proofs.Common.{sym, ap, subst, ◌∙◌}
use Rattle.std.specs.Prelude.{option_map}
use Rattle.toml_edit_model.specs.OwnedForm.{KeyFits, owned_key, owned_raw}
use Rattle.toml_edit_model.specs.Spelling.{SpellsKey}
use Rattle.toml_edit_model.specs.Text.{Text}
use Rattle.toml_edit_model.specs.Tree.{HasTrueSpelling}
use Rattle.toml_edit_parser.proofs.lone_keys.with_texts.Goals as goal

pub despan-requires-clause-fits : goal.despan-requires-clause-fits
despan-requires-clause-fits c = subst (λ (t : Text). KeyFits t c.args.key) (sym c.in_ok-shared.ensures) c.requires.fits

pub despan-requires-clause-spelled : goal.despan-requires-clause-spelled
despan-requires-clause-spelled c =
    subst (λ (t : Text). ∥ HasTrueSpelling (SpellsKey c.args.key.name) (option_map (owned_raw t) c.args.key.spelling) ∥₁)
    (sym c.in_ok-shared.ensures) c.requires.spelled

pub returns : goal.returns
returns c = c.in_ok-despan.ensures.ok ∙ ap (λ (t : Text). owned_key t c.args.key) c.in_ok-shared.ensures
