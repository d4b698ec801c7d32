-- The last step, after those before it.
use Rattle.std.proofs.Common.{sym, ap, ◌∙◌}
use Rattle.toml_edit_io.proofs.Puts.{put_two}
use Rattle.toml_edit_visit.specs.Below.{key, element}
use Rattle.toml_edit_visit.specs.Steps.{path_text, steps_on}
use Rattle.toml_edit_visit.proofs.PathLaws.{path_text-last}
use Rattle.toml_edit_visit.proofs.path.PathPrinted.put_into.Goals as goal

pub returns-in-Key : goal.returns-in-Key
returns-in-Key g c =
    put_two _ _ _ _ _ _ c.put_dotted.ensures c.put_into.ensures
    (path_text-last (steps_on c.in-Key.up.now) (key c.in-Key.key.now) ∙ ap path_text (sym (ap steps_on c.in-Key.is)))

pub returns-in-Element : goal.returns-in-Element
returns-in-Element g c =
    put_two _ _ _ _ _ _ c.put_dotted-in-Element.ensures c.put_place.ensures
    (path_text-last (steps_on c.in-Element.up.now) (element c.in-Element.place) ∙ ap path_text (sym (ap steps_on c.in-Element.is)))
