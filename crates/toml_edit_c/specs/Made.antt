-- The texts that calls give, and why they have none.
use Rattle.std.specs.Prelude.{◌≡◌, ◌⊎◌, ℕ, List, Option, None, Some, IsUtf8}
use Rattle.toml_edit_model.specs.Text.{Text}
use Rattle.toml_edit_model.specs.Mode.{Mode}
use Rattle.toml_edit_model.specs.Version.{Version}
use Rattle.toml_edit_model.specs.Syntax.{Document}
use Rattle.toml_edit_model.specs.Tree.{Tree}
use Rattle.toml_edit_model.specs.Fits.{FitsIn}
use Rattle.toml_edit_command.specs.Words.{Action, Request, IsSet, Says, TakesPath}
use Rattle.toml_edit_words.specs.Spelled.{IsNoPath, IsNoValue, SpellsPath}
use Rattle.toml_edit_command.specs.Written.{Held, IsHeldOf, IsReadAs, Writes}
use Rattle.toml_edit_command.specs.Mistakes.{InTree}
use Rattle.toml_edit_command.specs.Run.{IsRefused}
use Rattle.toml_edit_command.specs.declared.error.CommandError.TheVariants as mistakes
use Rattle.toml_edit_c.specs.Asks.{options_by}
use Rattle.toml_edit_c.specs.Statuses.{status_of}
use Rattle.toml_edit_c.specs.declared.answer.Stop.{Stop}
use Rattle.toml_edit_c.specs.declared.answer.Stop.TheVariants.{Refused, NotUtf8, Path, Value, NoSuchPath, WrongKind, Unfit, Memory, Flags, Script, NoSuchElement, Taken, Comment}

-- ---- what is made

-- The words say what to do with the text, it is read so, and this is what `tomled` writes of it.
abbrev pub IsMade : Request → Text → Text → Type 0
IsMade q text x =
    (a : Action) × Says q a × (d : Document) × (t : Tree) × IsReadAs q.mode q.version text d t
    × Writes q.mode a d t x

-- so it is for what is asked
abbrev pub IsMadeBy : Option Request → Text → Text → Type 0
IsMadeBy None text x = ⊥
IsMadeBy (Some q) text x = IsMade q text x

-- ---- what stops a call

-- The path or the value is none, or memory ran out.
abbrev pub MayStopPath : Text → Stop → Type 0
MayStopPath path stop = (stop ≡ Memory) ⊎ ((stop ≡ Path) × (IsUtf8 path → IsNoPath path))

abbrev pub MayStopValue : Version → Text → Stop → Type 0
MayStopValue version value stop =
    (stop ≡ Memory) ⊎ ((stop ≡ Value) × (IsUtf8 value → IsNoValue version value))

-- one of the words is such a path, or it is such a value behind a path
abbrev pub StopsInWords : Request → Stop → Type 0
StopsInWords q stop =
    ((path : Text) × TakesPath q.command path × MayStopPath path stop)
    ⊎ ((path : Text) × (value : Text) × (names : List Text) × IsSet q.command path value
    × SpellsPath path names × MayStopValue q.version value stop)

-- the version does not accept the text, or memory ran out
abbrev pub MayStopReading : Version → Text → Stop → Type 0
MayStopReading version text Refused = IsUtf8 text × IsRefused version text
MayStopReading version text NotUtf8 = ¬ (IsUtf8 text)
MayStopReading version text Memory = Unit {0}
MayStopReading version text Path = ⊥
MayStopReading version text Value = ⊥
MayStopReading version text NoSuchPath = ⊥
MayStopReading version text WrongKind = ⊥
MayStopReading version text Unfit = ⊥
MayStopReading version text Flags = ⊥
MayStopReading version text Script = ⊥
MayStopReading version text NoSuchElement = ⊥
MayStopReading version text Taken = ⊥
MayStopReading version text Comment = ⊥

-- so it is for the version that the flags stand for, or they are none
abbrev pub StopsReadingBy : ℕ → Text → Stop → Type 0
StopsReadingBy flags text stop =
    ((stop ≡ Flags) × (options_by flags ≡ None))
    ⊎ ((how : Mode × Version) × (options_by flags ≡ Some how) × MayStopReading how.1 text stop)

-- the action cannot be done with what was read, or memory ran out
abbrev pub StopsMaking : Action → Held → Stop → Type 0
StopsMaking a h NoSuchPath = InTree h.mode a h.tree mistakes.NoSuchPath
StopsMaking a h WrongKind = InTree h.mode a h.tree mistakes.WrongKind
StopsMaking a h Unfit = InTree h.mode a h.tree mistakes.Unfit
StopsMaking a h Memory = Unit {0}
StopsMaking a h Refused = ⊥
StopsMaking a h NotUtf8 = ⊥
StopsMaking a h Path = ⊥
StopsMaking a h Value = ⊥
StopsMaking a h Flags = ⊥
StopsMaking a h Script = ⊥
StopsMaking a h NoSuchElement = ⊥
StopsMaking a h Taken = ⊥
StopsMaking a h Comment = ⊥

-- so it is for the action on the text
abbrev pub StopsAction : Mode → Version → Action → Text → Stop → Type 0
StopsAction mode version a text stop =
    MayStopReading version text stop
    ⊎ ((h : Held) × IsHeldOf mode version text h × StopsMaking a h stop)

-- The flags are none, a word is none, or the action that the words say cannot be done.
abbrev pub StopsCall : Option Request → Text → Stop → Type 0
StopsCall None text stop = stop ≡ Flags
StopsCall (Some q) text stop =
    StopsInWords q stop
    ⊎ ((a : Action) × Says q a × StopsAction q.mode q.version a text stop)

-- so it is with this status
abbrev pub StopsWith : Option Request → Text → ℕ → Type 0
StopsWith asked text status =
    (stop : Stop) × (status ≡ status_of stop) × StopsCall asked text stop

-- ---- on the way

-- the print of a tree that does not fit, or for which memory ran out
abbrev pub StopsPrinting : Held → Stop → Type 0
StopsPrinting h stop = (stop ≡ Memory) ⊎ ((stop ≡ Unfit) × (¬ (FitsIn h.mode h.tree)))
