-- What a command comes to on the files that it is given.
use Rattle.std.specs.Prelude.{◌≡◌, ◌⊎◌, ℕ, ◌==◌, Bool, if◌then◌else◌, List, [], ◌++◌, length, Option, codes, decimal, string_bytes}
use Rattle.file_replace.specs.Events.{Text, Event, more}
use Rattle.toml_edit_files.specs.Folders.{OnlyLooks}
use Rattle.toml_edit_files.specs.Notes.{note_text}
use Rattle.toml_edit_files.specs.Outcomes.{DoesAll, TellsAlone}
use Rattle.toml_edit_files.specs.Walks.{FindsEach, FindsNamed, walks}
use Rattle.toml_edit_files.specs.declared.told.Told.{Told}

abbrev pub noun : ℕ → Text
noun n = if n == 1 then codes "file" else codes "files"

-- as `12 files, 3 not formatted`
abbrev pub count_text : ℕ → ℕ → Text → Text
count_text files undone word =
    decimal files ++ (codes " " ++ (noun files ++ (codes ", " ++ (decimal undone ++ (codes " " ++ word)))))

-- a line follows the messages if a folder was walked, and memory does not run out
abbrev pub Counts : Bool → Text → Told → Told → Type 0
Counts is_walked line told all =
    (string_bytes all.output ≡ string_bytes told.output)
    × (((all.status ≡ told.status)
    × (string_bytes all.notes ≡ string_bytes told.notes ++ (if is_walked then line else [])))
    ⊎ (all.status ≡ 3))

module _ (Does : Text → Told → Option (List Event) → Option (List Event) → Option Text → Type 0)
    (word : Text) where
  -- The files that the names stand for are found, and then done, one after another, and counted; or
  -- memory runs out first.
  abbrev pub DoesFound : List Text → Option (List Event) → Option (List Event) → Option Text → Told
      → Type 0
  DoesFound names old new left all =
      ((es : List Event) × (files : List Text) × (told : Told) × (undone : ℕ)
      × FindsEach FindsNamed names es files × DoesAll Does files (more es old) new left told undone
      × Counts (walks es) (note_text (count_text (length files) undone word)) told all)
      ⊎ (OnlyLooks old new × TellsAlone 3 [] all)
