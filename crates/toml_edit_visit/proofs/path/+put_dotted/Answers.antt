-- One more step, with its dot.
use Rattle.std.proofs.Common.{sym, ap, ◌∙◌}
use Rattle.toml_edit_io.proofs.Puts.{put_three}
use Rattle.toml_edit_visit.specs.Below.{key, element}
use Rattle.toml_edit_visit.specs.Steps.{dotted_text, steps_on}
use Rattle.toml_edit_visit.proofs.PathLaws.{dotted_text-last}
use Rattle.toml_edit_visit.proofs.path.+put_dotted.Goals as goal

pub returns-in-Key : goal.returns-in-Key
returns-in-Key g t c =
    put_three _ _ _ _ _ _ _ _ c.put_dotted.ensures c.put_into.ensures c.put.ensures
    (dotted_text-last (steps_on c.in-Key.up.now) (key c.in-Key.key.now) ∙ ap dotted_text (sym (ap steps_on c.in-Key.is)))

pub returns-in-Element : goal.returns-in-Element
returns-in-Element g t c =
    put_three _ _ _ _ _ _ _ _ c.put_dotted-in-Element.ensures c.put_place.ensures c.put-in-Element.ensures
    (dotted_text-last (steps_on c.in-Element.up.now) (element c.in-Element.place) ∙ ap dotted_text (sym (ap steps_on c.in-Element.is)))
