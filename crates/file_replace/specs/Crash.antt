-- Runs that replace the file of one name, at the same time, and what a crash leaves of it.
use Rattle.std.specs.Prelude.{◌≡◌, ◌≢◌, ◌⊎◌, ℕ, nat_eq, Bool, true, false, if◌then◌else◌, List, [], ◌∷◌, ◌++◌, Option, Some, None, option_map, bytes_eq}
use Rattle.file_replace.specs.Events.{Text, Call, Event, made, wrote, synced, renamed, removed, synced_folder}
use Rattle.file_replace.specs.Replacing.{Asked}

-- ---- what happens

-- Runs have numbers. One asks its folder; or it is over, by its end or a kill, and its lock is let go;
-- or any run removes a file of this name as one that was left.
pub data Happening : Type 0 where
  asks : ℕ → Event → Happening
  ends : ℕ → Happening
  sweeps : Text → Happening

abbrev pub put : {A : Type 0} → ℕ → A → (ℕ → A) → ℕ → A
put r x f q = if nat_eq q r then x else f q

-- what happens is what each run asks, in its order, and the runs' calls in any
abbrev pub Merges : (ℕ → List Event) → List Happening → Type 0
Merges rest [] = Unit {0}
Merges rest (asks r e ∷ hs) = (es : List Event) × (rest r ≡ e ∷ es) × Merges (put r es rest) hs
Merges rest (ends r ∷ hs) = Merges (put r [] rest) hs
Merges rest (sweeps n ∷ hs) = Merges rest hs

-- ---- what is known then

-- Of the file that a run made: its name, while it has that and the run lasts; what was written to it,
-- unless a write failed; whether that is on the disk; whether it was tried to give it the file's name,
-- whether it got that, and whether that is on the disk too.
pub record Made : Type 0 where
  pub name : Option Text
  pub written : Option Text
  pub is_kept : Bool
  pub is_tried : Bool
  pub is_named : Bool
  pub is_over : Bool

-- the file that was there at first, the one that a run made, and any
pub data File : Type 0 where
  first : File
  of_run : ℕ → File
  any : File

-- which made file has a name now; which files the name may lead to now, and after a crash
pub record State : Type 0 where
  pub made : ℕ → Made
  pub leads : Text → Option ℕ
  pub now : List File
  pub later : List File

abbrev pub unmade : Made
unmade = record { name = None; written = None; is_kept = false; is_tried = false; is_named = false; is_over = false }

abbrev pub start : State
start = record { made = λ q. unmade; leads = λ n. None; now = first ∷ []; later = first ∷ [] }

-- A call of a run, for its own file. A failed write may be made in part.
abbrev pub made_after : Call → Bool → Made → Made
made_after (made b) true m = record unmade { name = Some b; written = Some [] }
made_after (wrote t) true m = record m { written = option_map (λ w. w ++ t) m.written; is_kept = false }
made_after (wrote t) false m = record m { written = None; is_kept = false }
made_after synced true m = record m { is_kept = true }
made_after (renamed b n) true m = record m { name = None; is_tried = true; is_named = true }
made_after (renamed b n) false m = record m { is_tried = true }
made_after (removed b) is_done m = record m { name = None }
made_after (synced_folder n) true m = record m { is_over = m.is_named }
made_after _ _ m = m

abbrev pub led : Text → Option ℕ → (Text → Option ℕ) → Text → Option ℕ
led n r f m = if bytes_eq m n then r else f m

abbrev pub file_of : Option ℕ → File
file_of (Some r) = of_run r
file_of None = any

module _ (name : Text) where
  -- a name may lead to a file from now on, or if it was done does
  abbrev pub leading : Text → File → Bool → State → State
  leading n f true s =
      if bytes_eq n name then (record s { now = f ∷ []; later = f ∷ s.later }) else s
  leading n f false s =
      if bytes_eq n name then (record s { now = f ∷ s.now; later = f ∷ s.later }) else s

  -- For the names. A rename is whole or is not made; one that fails may be made. What was renamed or
  -- removed before the folder is on the disk may be so after a crash.
  abbrev pub after_call : ℕ → Call → Bool → State → State
  after_call r (made b) true s = leading b any true (record s { leads = led b (Some r) s.leads })
  after_call r (renamed b n) true s =
      leading n (file_of (s.leads b)) true (record s { leads = led b None s.leads })
  after_call r (renamed b n) false s = leading n (file_of (s.leads b)) false s
  after_call r (removed b) is_done s = leading b any true (record s { leads = led b None s.leads })
  after_call r (synced_folder n) true s = record s { later = s.now }
  after_call r _ _ s = s

  abbrev pub after : Happening → State → State
  after (asks r e) s =
      let t = after_call r e.call e.is_done s in
      record t { made = put r (made_after e.call e.is_done (s.made r)) s.made }
  after (ends r) s = record s { made = put r (record (s.made r) { name = None }) s.made }
  after (sweeps n) s = leading n any true (record s { leads = led n None s.leads })

  -- What the system sees to: a name is made only where none is, and a file is locked by the run that
  -- made it as long as that lasts. No file is swept that has the name.
  abbrev pub IsAllowed : State → Happening → Type 0
  IsAllowed s (asks r e) = (b : Text) → e.call ≡ made b → e.is_done ≡ true → s.leads b ≡ None
  IsAllowed s (ends r) = Unit {0}
  IsAllowed s (sweeps n) = (n ≢ name) × ((q : ℕ) → (s.made q).name ≢ Some n)

  -- so it is before these, between any two of them, and behind the last
  abbrev pub Throughout : (State → Type 0) → State → List Happening → Type 0
  Throughout Is s [] = Is s
  Throughout Is s (h ∷ hs) = Is s × (IsAllowed s h → Throughout Is (after h s) hs)

-- ---- what the file holds after a crash, or `None` if there is none

-- a file that was made may hold this: what was written, if that is on the disk, and else anything
abbrev pub HoldsMade : Bool → Option Text → Option Text → Type 0
HoldsMade true (Some w) c = c ≡ Some w
HoldsMade true None c = Unit {0}
HoldsMade false w c = Unit {0}

abbrev pub Holds : Option Text → State → File → Option Text → Type 0
Holds old s first c = c ≡ old
Holds old s (of_run q) c = HoldsMade (s.made q).is_kept (s.made q).written c
Holds old s any c = Unit {0}

abbrev pub HoldsOne : Option Text → State → List File → Option Text → Type 0
HoldsOne old s [] c = ⊥
HoldsOne old s (f ∷ fs) c = Holds old s f c ⊎ HoldsOne old s fs c

-- a crash in this state may leave this, where the file held `old` at first
abbrev pub Leaves : Option Text → State → Option Text → Type 0
Leaves old s c = HoldsOne old s s.later c

abbrev pub IsNew : (ℕ → Asked) → Option Text → Type 0
IsNew asked c = (q : ℕ) × (c ≡ Some (asked q).text)

-- It leaves the old text or the new one of a run, whole. Once a run has replaced the file, it leaves
-- a new one.
pub record IsSafe (asked : ℕ → Asked) (old : Option Text) (s : State) : Type 0 where
  pub whole : (c : Option Text) → Leaves old s c → (c ≡ old) ⊎ IsNew asked c
  pub new : (r : ℕ) → (s.made r).is_over ≡ true → (c : Option Text) → Leaves old s c → IsNew asked c

-- what a run knows of its file once it has asked these
abbrev pub made_at : Made → List Event → Made
made_at m [] = m
made_at m (e ∷ es) = made_at (made_after e.call e.is_done m) es
