-- Worked statuses and looks.
use Rattle.std.specs.Prelude.{◌≡◌, refl, true, false, Some, [], ◌∷◌, codes}
use Rattle.file_replace.specs.Events.{found, leads_to, locked, made, renamed}
use Rattle.toml_edit_files.specs.Folders.{looks_at}
use Rattle.toml_edit_files.specs.Outcomes.{worst}
use Rattle.toml_edit_files.specs.Stops.{status_of}
use Rattle.toml_edit_files.specs.declared.stop.Reason.TheVariants.{No, Failed, Refused, Locked}

-- a file that cannot be read is worse than one that is refused as the answer no
worst-first : worst (4 ∷ 0 ∷ 1 ∷ []) ≡ 4
worst-first = refl

worst-last : worst (0 ∷ 1 ∷ 5 ∷ []) ≡ 5
worst-last = refl

worst-none : worst [] ≡ 0
worst-none = refl

refused-file : status_of (Some Refused) ≡ 5
refused-file = refl

locked-file : status_of (Some Locked) ≡ 6
locked-file = refl

-- a lock is a look, and a new file is not
some-looks : looks_at (locked (codes "f")) ≡ true
some-looks = refl

no-look : looks_at (made (codes "f")) ≡ false
no-look = refl
