-- What is wrong with a command, and the lines that say how a run ended.
use Rattle.std.specs.Prelude.{◌⊎◌, List, ◌++◌, codes, Option, IfSome}
use Rattle.toml_edit_model.specs.Text.{Text, newline}
use Rattle.toml_edit_model.specs.Mode.{Mode}
use Rattle.toml_edit_model.specs.Version.{Version}
use Rattle.toml_edit_model.specs.Fits.{FitsIn}
use Rattle.toml_edit_model.specs.Tree.{Tree}
use Rattle.toml_edit_edit_laws.specs.Commands.{no_such_path, wrong_kind}
use Rattle.toml_edit_command.specs.Words.{Action, Request, TakesPath, IsCommand, IsSet, Says}
use Rattle.toml_edit_words.specs.Spelled.{IsNoPath, IsNoValue, SpellsPath}
use Rattle.toml_edit_command.specs.Written.{IsReadOf, Changes, Refuses}
use Rattle.toml_edit_command.specs.declared.error.CommandError.{CommandError}
use Rattle.toml_edit_command.specs.declared.error.CommandError.TheVariants.{Words, Path, Value, NoSuchPath, WrongKind, Unfit}

-- ---- lines

abbrev pub usage_line : Text
usage_line =
    codes "tomled: usage: tomled [exact] [strict] print | get PATH | set PATH VALUE | remove PATH"
    ++ newline

abbrev pub encoding_line : Text
encoding_line = codes "tomled: input is not UTF-8" ++ newline

abbrev pub memory_line : Text
memory_line = codes "tomled: out of memory" ++ newline

abbrev pub read_line : Text
read_line = codes "tomled: read failed" ++ newline

abbrev pub write_line : Text
write_line = codes "tomled: write failed" ++ newline

abbrev pub mistake_line : CommandError → Text
mistake_line Words = usage_line
mistake_line Path = codes "tomled: bad path" ++ newline
mistake_line Value = codes "tomled: bad value" ++ newline
mistake_line NoSuchPath = codes "tomled: no such path" ++ newline
mistake_line WrongKind = codes "tomled: wrong kind" ++ newline
mistake_line Unfit = codes "tomled: does not fit" ++ newline

-- ---- mistakes

-- It is in the words: they are no command, or PATH is no lone path, or PATH is one and VALUE is no
-- lone value.
abbrev pub InWords : Request → CommandError → Type 0
InWords q Words = ¬ (IsCommand q.command)
InWords q Path = (path : Text) × TakesPath q.command path × IsNoPath path
InWords q Value =
    (path : Text) × (value : Text) × (names : List Text) × IsSet q.command path value
    × SpellsPath path names × IsNoValue q.version value
InWords q NoSuchPath = ⊥
InWords q WrongKind = ⊥
InWords q Unfit = ⊥

abbrev pub IsMisworded : Request → Type 0
IsMisworded q = (m : CommandError) × InWords q m

module _ (mode : Mode) where
  -- It is in what they say of the tree: nothing is at the path, or the wrong kind, or the changed
  -- tree does not fit.
  abbrev pub InTree : Action → Tree → CommandError → Type 0
  InTree a t Words = ⊥
  InTree a t Path = ⊥
  InTree a t Value = ⊥
  InTree a t NoSuchPath = Refuses a t no_such_path
  InTree a t WrongKind = Refuses a t wrong_kind
  InTree a t Unfit = (u : Tree) × Changes a t u × (¬ (FitsIn mode u))

  -- so it is in that of what was left to read
  abbrev pub InRead : Version → Action → Option Text → CommandError → Type 0
  InRead version a known m =
      (t : Tree) × InTree a t m × IfSome known (λ bytes. IsReadOf mode version bytes t)

abbrev pub IsMistaken : Request → Option Text → CommandError → Type 0
IsMistaken q known m = InWords q m ⊎ ((a : Action) × Says q a × InRead q.mode q.version a known m)
