-- Worked calls of replacements.
use Rattle.std.specs.Prelude.{◌≡◌, refl, false, true, [], ◌∷◌, codes, Some, None}
use Rattle.file_replace.specs.Events.{writable, cleared, made, likened, wrote, synced, held, renamed, synced_folder, done, failed}
use Rattle.file_replace.specs.Replacing.{Asked, AreOther, replaced}

abbrev asked : Asked
asked = record { name = codes "f"; before = Some (codes "old"); text = codes "new"; force = false }

-- a name is taken, and the next is free
checked-and-compared : replaced asked (codes ".1" ∷ []) (codes ".2") ≡
    done (writable (codes "f")) ∷ done (cleared (codes "f")) ∷ failed (made (codes ".1")) ∷ done (made (codes ".2")) ∷ done (likened (codes "f") false)
    ∷ done (wrote (codes "new")) ∷ done synced ∷ done (held (codes "f") (codes "old")) ∷ done (renamed (codes ".2") (codes "f"))
    ∷ done (synced_folder (codes "f")) ∷ []
checked-and-compared = refl

-- by force, and where the file was not read
forced : replaced (record { name = codes "f"; before = None; text = codes "new"; force = true }) [] (codes ".1") ≡
    done (cleared (codes "f")) ∷ done (made (codes ".1")) ∷ done (likened (codes "f") true) ∷ done (wrote (codes "new")) ∷ done synced
    ∷ done (renamed (codes ".1") (codes "f")) ∷ done (synced_folder (codes "f")) ∷ []
forced = refl

-- neither the file's name nor one that was just taken is another
own-name : AreOther asked (codes "f") (codes "f" ∷ []) → ⊥
own-name other = other.0 refl

same-name : AreOther asked (codes "f") (codes ".1" ∷ codes ".1" ∷ []) → ⊥
same-name other = other.2.1 refl
