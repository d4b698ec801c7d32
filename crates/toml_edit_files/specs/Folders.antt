-- What commands ask of a folder.
use Rattle.std.specs.Prelude.{◌≡◌, ◌⊎◌, Bool, true, false, MatchBool, List, [], ◌∷◌, Option, Some, None, IfSome, bytes_eq, codes}
use Rattle.std.specs.Io.KnownBytes.{IsAtEnd}
use Rattle.std.specs.List.{list_all}
use Rattle.file_replace.specs.Events.{Text, Call, Event, found, missing, listed, no_folder, leads_to, locked, writable, done, more}
use Rattle.file_replace.specs.Replacing.{Asked, IsReplaced, StopsReplacing}
use Rattle.toml_edit_files.specs.Refusals.{IsNotUtf8}
use Rattle.toml_edit_files.specs.declared.stop.Reason.{Reason}
use Rattle.toml_edit_files.specs.declared.stop.Reason.TheVariants.{Failed}

abbrev pub is_stream : Text → Bool
is_stream name = bytes_eq name (codes "-")

-- ---- looks

abbrev pub looks_at : Call → Bool
looks_at (found name text) = true
looks_at (missing name) = true
looks_at (listed name names) = true
looks_at (no_folder name) = true
looks_at (leads_to name target) = true
looks_at (locked name) = true
looks_at (writable name) = true
looks_at _ = false

-- nothing was asked but what files and folders hold, where names lead, what may be written, and for locks
abbrev pub OnlyLooks : Option (List Event) → Option (List Event) → Type 0
OnlyLooks old new =
    (es : List Event) × (list_all (λ e. looks_at e.call) es ≡ true) × (new ≡ more es old)

-- the text is what the file holds, as the folder says, or for `-` what was left of the input
abbrev pub IsTextOf : Text → Option (List Event) → Option (List Event) → Option Text → Text → Type 0
IsTextOf name old new left s =
    MatchBool (is_stream name) ((new ≡ old) × IfSome left (λ bytes. s ≡ bytes))
    (new ≡ more (done (found name s) ∷ []) old)

-- what is left of the input: nothing, if the file is the input and was read, and else what was
abbrev pub LeavesInput : Type 0 → Text → Option Text → Option Text → Type 0
LeavesInput Read name left rest = MatchBool (is_stream name) (Read → IsAtEnd rest) (rest ≡ left)

abbrev pub leads : Text → Text → Option (List Event) → Option (List Event)
leads file name old = more (done (leads_to file name) ∷ []) old

-- the text is what the file holds that `file` leads to, which is locked before it is read
abbrev pub IsHeld : Text → Text → Option (List Event) → Option (List Event) → Text → Type 0
IsHeld file name old new s =
    new ≡ more (done (locked name) ∷ done (found name s) ∷ []) (leads file name old)

-- the bytes are read of the file, in one of these ways
abbrev pub IsReadOf : Text → Option (List Event) → Option (List Event) → Option Text → Text → Type 0
IsReadOf file old new left bytes =
    IsTextOf file old new left bytes
    ⊎ ((name : Text) × IsHeld file name old new bytes)

-- what it holds is not UTF-8, in the second way, and that is said
abbrev pub IsNoHeldText : Text → Option (List Event) → Option (List Event) → Text → Type 0
IsNoHeldText file old new said =
    (bytes : Text) × ((name : Text) × IsHeld file name old new bytes) × IsNotUtf8 file bytes said

-- in one of them
abbrev pub IsNoTextOf : Text → Option (List Event) → Option (List Event) → Option Text → Text → Type 0
IsNoTextOf file old new left said =
    (bytes : Text) × IsReadOf file old new left bytes × IsNotUtf8 file bytes said

-- ---- replacements

abbrev pub Replaced : Asked → Option (List Event) → Option (List Event) → Type 0
Replaced a old new = (es : List Event) × IsReplaced a es × (new ≡ more es old)

-- by a text that is compared with the one before, and by one that is not
abbrev pub asked_after : Bool → Text → Text → Text → Asked
asked_after force name before text =
    record { name = name; before = Some before; text = text; force = force }

abbrev pub asked_for : Bool → Text → Text → Asked
asked_for force name text = record { name = name; before = None; text = text; force = force }

-- the text replaces the one before, if that is another and still there
abbrev pub IsPut : Bool → Text → Text → Text → Option (List Event) → Option (List Event) → Type 0
IsPut force name before text old new =
    MatchBool (bytes_eq text before) (new ≡ old) (Replaced (asked_after force name before text) old new)

-- the text replaces whatever the file holds that the name leads to
abbrev pub IsPutAt : Bool → Text → Text → Option (List Event) → Option (List Event) → Type 0
IsPutAt force file text old new =
    (name : Text) × Replaced (asked_for force name text) (leads file name old) new

-- a replacement of the file of this name is not done
abbrev pub StopsPutting : Text → Option (List Event) → Option (List Event) → Type 0
StopsPutting name old new =
    (a : Asked) × (es : List Event) × (a.name ≡ name) × StopsReplacing a es × (new ≡ more es old)

-- looks, and perhaps one of the file that the name leads to
abbrev pub MayBegin : Text → Option (List Event) → Option (List Event) → Type 0
MayBegin file old new =
    OnlyLooks old new
    ⊎ ((name : Text) × (read held : Option (List Event)) × OnlyLooks old read
    × OnlyLooks (leads file name read) held × StopsPutting name held new)

-- What is left of a command that stops, where it writes the file: where memory ran out or a call
-- failed, a replacement may have been begun, and else nothing was.
abbrev pub Stops : Text → Option (List Event) → Option (List Event) → Option Reason → Type 0
Stops file old new None = MayBegin file old new
Stops file old new (Some Failed) = MayBegin file old new
Stops file old new (Some _) = OnlyLooks old new
