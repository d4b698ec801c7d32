-- What a step of a run gives, or why the run ends.
use Rattle.std.specs.Prelude.{IfErr, IfOk, Result}
use Rattle.toml_edit_model.specs.Version.{Version}
use Rattle.toml_edit_files.specs.Requests.{IsNoneBy, SaysBy}
use Rattle.toml_edit_files.specs.Split.{Words}
use Rattle.toml_edit_files.specs.Stops.{IsMistaken, reason_of}
use Rattle.toml_edit_files.specs.declared.help.Topic.{Topic}
use Rattle.toml_edit_files.specs.declared.stop.Stop.{Stop}
use Rattle.toml_edit_files.specs.declared.words.Command.{Command}

module _ {A : Type 0} where
  -- the words are mistaken for this reason, or memory ran out
  abbrev pub Mistakes : Type 0 → Result A Stop → Type 0
  Mistakes Why r = IfErr r (λ stop. IsMistaken Why (reason_of stop))

-- the words after the name of a command say what is given, in any version; or they say nothing
abbrev pub SaidBy : Topic → Words → Result Command Stop → Type 0
SaidBy topic s r = (version : Version) → IfOk r (SaysBy version topic s)

abbrev pub UnsaidBy : Topic → Words → Result Command Stop → Type 0
UnsaidBy topic s r = (version : Version) → Mistakes (IsNoneBy version topic s) r
