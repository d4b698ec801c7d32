-- The words of an edit are counted by its name.
use Rattle.std.proofs.Common.{◌≡◌, ◌≢◌, ◌∙◌, Bool, ap, refl}
use Rattle.std.specs.Option.{option_map_or}
use Rattle.toml_edit_model.specs.Text.{Text}
use Rattle.toml_edit_edits.specs.Said.{operands}
use Rattle.toml_edit_files.specs.Split.{following}
use Rattle.toml_edit_files.specs.declared.help.Topic.{Topic}
use Rattle.toml_edit_files.specs.declared.help.Topic.TheVariants.{Program, Get, Has, Edit, Keys, Json, Check, Fmt}
use Rattle.toml_edit_files.proofs.split.following.Goals as goal

-- no other command has edits
none : (topic : Topic) (is_file : Bool) (w : Text) → topic ≢ Edit → 0 ≡ following topic is_file w
none Program is_file w other = refl
none Get is_file w other = refl
none Has is_file w other = refl
none Edit is_file w other = absurd (other refl)
none Keys is_file w other = refl
none Json is_file w other = refl
none Check is_file w other = refl
none Fmt is_file w other = refl

pub returns-then-is_file : goal.returns-then-is_file
returns-then-is_file c = rw (c.in-Edit.is, c.if-is_file.true) refl

pub returns-in-Some : goal.returns-in-Some
returns-in-Some c = rw (c.in-Edit.is, c.if-is_file.false) (c.count.ensures ∙ ap (λ v. option_map_or operands v 0) c.in-Some.ensures.verb)

pub returns-in-None : goal.returns-in-None
returns-in-None c = rw (c.in-Edit.is, c.if-is_file.false) (ap (λ v. option_map_or operands v 0) c.in-None.ensures.verb)

pub returns-in_default : goal.returns-in_default
returns-in_default c = none c.args.topic c.args.is_file c.args.word.now c.in_default.not-Edit
