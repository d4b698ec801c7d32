-- Worked states of two runs, which crashes may leave.
use Rattle.std.specs.Prelude.{◌≡◌, refl, ℕ, List, [], ◌∷◌, codes, Some}
use Rattle.file_replace.specs.Crash.{first, of_run, Happening, IsAllowed, State, asks, sweeps, after, start}
use Rattle.file_replace.specs.Events.{Text, made, wrote, synced, renamed, synced_folder, done}

abbrev after_all : State → List Happening → State
after_all s [] = s
after_all s (h ∷ hs) = after_all (after (codes "f") h s) hs

-- a run has written its file, which is on the disk
abbrev filled : ℕ → Text → List Happening
filled r b = asks r (done (made b)) ∷ asks r (done (wrote b)) ∷ asks r (done synced) ∷ []

abbrev names : ℕ → Text → Happening
names r b = asks r (done (renamed b (codes "f")))

-- each gives its own file the name, and the folder is not on the disk
both : (after_all (after_all (after_all start (filled 1 (codes ".1"))) (filled 2 (codes ".2"))) (names 1 (codes ".1") ∷ names 2 (codes ".2") ∷ [])).later
    ≡ of_run 2 ∷ of_run 1 ∷ first ∷ []
both = refl

-- once it is on the disk, the old file is gone
settled : (after_all (after_all start (filled 1 (codes ".1"))) (names 1 (codes ".1") ∷ asks 1 (done (synced_folder (codes "f"))) ∷ [])).later
    ≡ of_run 1 ∷ []
settled = refl

-- Were a file swept while its run lasts, the second run could make one of the same name, and the first
-- give that the name, whose text is not on the disk.
abbrev swept : State
swept = after_all (after_all start (filled 1 (codes ".1"))) (sweeps (codes ".1") ∷ asks 2 (done (made (codes ".1"))) ∷ names 1 (codes ".1") ∷ [])

taken-for-another : swept.now ≡ of_run 2 ∷ []
taken-for-another = refl

not-on-the-disk : (swept.made 2).written ≡ Some []
not-on-the-disk = refl

-- that is not allowed before the run is over
held : IsAllowed (codes "f") (after_all start (filled 1 (codes ".1"))) (sweeps (codes ".1")) → ⊥
held allowed = allowed.1 1 refl
