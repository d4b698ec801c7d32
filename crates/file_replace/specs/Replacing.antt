-- What replacing a file asks of its folder.
use Rattle.std.specs.Prelude.{◌≡◌, ◌≢◌, ◌⊎◌, Bool, false, if◌then◌else◌, List, [], ◌∷◌, ◌++◌, Option, Some, None, Result, Ok, Err}
use Rattle.std.specs.Option.{option_copied}
use Rattle.file_replace.specs.Events.{Text, Call, Event, found, locked, writable, cleared, made, likened, wrote, synced, held, renamed, removed, synced_folder, done, failed, more}
use Rattle.file_replace.specs.declared.replacement.Replacement.{Replacement}
use Rattle.file_replace.specs.declared.replacement.ReplaceFault.{ReplaceFault}
use Rattle.file_replace.specs.declared.replacement.ReplaceFault.TheVariants.{Changed, ReadOnly, Failed}

-- ---- calls, one after another

abbrev pub all_done : List Call → List Event
all_done [] = []
all_done (c ∷ cs) = done c ∷ all_done cs

-- up to one that fails
abbrev pub Stops : List Call → List Event → Type 0
Stops [] es = ⊥
Stops (c ∷ cs) es =
    (es ≡ failed c ∷ []) ⊎ ((fs : List Event) × Stops cs fs × (es ≡ done c ∷ fs))

-- all are done, or the calls end with one that fails
abbrev pub Asks : {A E : Type 0} → List Call → Option (List Event) → Option (List Event) → Result A E → Type 0
Asks cs old new (Ok x) = new ≡ more (all_done cs) old
Asks cs old new (Err e) = (es : List Event) × Stops cs es × (new ≡ more es old)

-- ---- reading what is to be replaced

-- the lock is taken before the file is read
abbrev pub ReadsLocked : {A E : Type 0} → Text → (A → Text) → Option (List Event) → Option (List Event)
    → Result A E → Type 0
ReadsLocked name text old new (Ok x) = new ≡ more (done (locked name) ∷ done (found name (text x)) ∷ []) old
ReadsLocked name text old new (Err e) =
    (new ≡ more (failed (locked name) ∷ []) old) ⊎ (new ≡ more (done (locked name) ∷ []) old)

-- ---- a replacement

-- the file, what it is to hold still, the new text, and whether it is made at all costs
pub record Asked : Type 0 where
  pub name : Text
  pub before : Option Text
  pub text : Text
  pub force : Bool

abbrev pub asked_by : Replacement → Asked
asked_by r = record { name = r.name.now; before = option_copied r.before; text = r.text.now; force = r.force }

-- a file that is read-only is replaced by force alone
abbrev pub checked : Asked → List Event
checked a = if a.force then [] else (done (writable a.name) ∷ [])

-- what ended runs left goes before a new file is made
abbrev pub prepared : Asked → List Event
prepared a = checked a ++ (done (cleared a.name) ∷ [])

-- Names of the new file are tried until one is free: none is the file's, and each is another than the
-- one before.
abbrev pub AreOther : Asked → Text → List Text → Type 0
AreOther a last [] = Unit {0}
AreOther a last (n ∷ ns) = (n ≢ a.name) × (n ≢ last) × AreOther a n ns

abbrev pub taken : List Text → List Event
taken [] = []
taken (n ∷ ns) = failed (made n) ∷ taken ns

abbrev pub compared : Text → Option Text → List Call
compared name None = []
compared name (Some t) = held name t ∷ []

-- The new file is like the old one before it has a text. That is on the disk before the old text is
-- compared, and the new file takes the name right after.
abbrev pub filling : Asked → Text → List Call
filling a b =
    likened a.name a.force ∷ wrote a.text ∷ synced ∷ (compared a.name a.before ++ (renamed b a.name ∷ []))

-- the calls of a replacement: those before the new file is made, and those after
abbrev pub replacing : Asked → List Text → Text → List Event → List Event
replacing a ns b es = prepared a ++ (taken ns ++ (done (made b) ∷ es))

abbrev pub replaced : Asked → List Text → Text → List Event
replaced a ns b = replacing a ns b (all_done (filling a b) ++ (done (synced_folder a.name) ∷ []))

-- the new file is removed, if that can be done
abbrev pub undone : Asked → List Text → Text → List Event → Bool → List Event
undone a ns b es is_done = replacing a ns b (es ++ (record { call = removed b; is_done = is_done } ∷ []))

abbrev pub IsReplaced : Asked → List Event → Type 0
IsReplaced a es =
    (ns : List Text) × (b : Text) × AreOther a a.name (ns ++ (b ∷ [])) × (es ≡ replaced a ns b)

abbrev pub IsReadOnly : Asked → List Event → Type 0
IsReadOnly a es = (a.force ≡ false) × (es ≡ failed (writable a.name) ∷ [])

-- a call that fills the new file fails
abbrev pub IsUndone : Asked → (Text → List Event → Type 0) → List Event → Type 0
IsUndone a StopsBy es =
    (ns : List Text) × (b : Text) × AreOther a a.name (ns ++ (b ∷ []))
    × (fs : List Event) × StopsBy b fs × (is_done : Bool) × (es ≡ undone a ns b fs is_done)

-- the old text is another one, or the file is gone
abbrev pub FindsOther : Asked → Text → List Event → Type 0
FindsOther a b es =
    (t : Text) × (a.before ≡ Some t)
    × (es ≡ done (likened a.name a.force) ∷ done (wrote a.text) ∷ done synced ∷ failed (held a.name t) ∷ [])

-- It is not done: the file is read-only, or that is not known; no new file is made; a call that fills
-- it fails; or the last call does.
abbrev pub StopsReplacing : Asked → List Event → Type 0
StopsReplacing a es =
    IsReadOnly a es
    ⊎ ((ns : List Text) × AreOther a a.name ns × (es ≡ prepared a ++ taken ns))
    ⊎ IsUndone a (λ b. Stops (filling a b)) es
    ⊎ ((ns : List Text) × (b : Text) × AreOther a a.name (ns ++ (b ∷ []))
    × (es ≡ replacing a ns b (all_done (filling a b) ++ (failed (synced_folder a.name) ∷ []))))

abbrev pub IsWhy : Asked → List Event → ReplaceFault → Type 0
IsWhy a es Changed = IsUndone a (FindsOther a) es
IsWhy a es ReadOnly = IsReadOnly a es
IsWhy a es (Failed e) = Unit {0}

abbrev pub Replaces : Asked → Option (List Event) → Option (List Event) → Result (Unit {0}) ReplaceFault → Type 0
Replaces a old new (Ok u) = (es : List Event) × IsReplaced a es × (new ≡ more es old)
Replaces a old new (Err fault) =
    (es : List Event) × StopsReplacing a es × IsWhy a es fault × (new ≡ more es old)

-- ---- its parts

abbrev pub Checks : Asked → Option (List Event) → Option (List Event) → Result (Unit {0}) ReplaceFault → Type 0
Checks a old new (Ok u) = new ≡ more (checked a) old
Checks a old new (Err fault) =
    (fault ≢ Changed) × (es : List Event) × IsReadOnly a es × (new ≡ more es old)

abbrev pub MakesOther : {A E : Type 0} → Asked → Text → (A → Text) → Option (List Event)
    → Option (List Event) → Result A E → Type 0
MakesOther a last name old new (Ok x) =
    (ns : List Text) × AreOther a last (ns ++ (name x ∷ []))
    × (new ≡ more (taken ns ++ (done (made (name x)) ∷ [])) old)
MakesOther a last name old new (Err e) =
    (ns : List Text) × AreOther a last ns × (new ≡ more (taken ns) old)

abbrev pub Compares : Asked → Option (List Event) → Option (List Event) → Result (Unit {0}) ReplaceFault → Type 0
Compares a old new (Ok u) = new ≡ more (all_done (compared a.name a.before)) old
Compares a old new (Err fault) =
    (fault ≢ ReadOnly) × (t : Text) × (a.before ≡ Some t) × (new ≡ more (failed (held a.name t) ∷ []) old)

-- why the new file is not filled
abbrev pub IsWhyNot : Asked → Text → List Event → ReplaceFault → Type 0
IsWhyNot a b es Changed = FindsOther a b es
IsWhyNot a b es ReadOnly = ⊥
IsWhyNot a b es (Failed e) = Unit {0}

abbrev pub Fills : Asked → Text → Option (List Event) → Option (List Event) → Result (Unit {0}) ReplaceFault → Type 0
Fills a b old new (Ok u) = new ≡ more (all_done (filling a b)) old
Fills a b old new (Err fault) =
    (es : List Event) × Stops (filling a b) es × IsWhyNot a b es fault × (new ≡ more es old)

abbrev pub Removes : Text → Option (List Event) → Option (List Event) → Type 0
Removes b old new = (is_done : Bool) × (new ≡ more (record { call = removed b; is_done = is_done } ∷ []) old)

-- the file is replaced by a new one that is made
abbrev pub FillsBy : Asked → Text → Option (List Event) → Option (List Event) → Result (Unit {0}) ReplaceFault → Type 0
FillsBy a b old new (Ok u) =
    new ≡ more (all_done (filling a b) ++ (done (synced_folder a.name) ∷ [])) old
FillsBy a b old new (Err fault) =
    ((fs : List Event) × Stops (filling a b) fs × IsWhyNot a b fs fault
    × (is_done : Bool) × (new ≡ more (fs ++ (record { call = removed b; is_done = is_done } ∷ [])) old))
    ⊎ ((fault ≢ Changed) × (fault ≢ ReadOnly)
    × (new ≡ more (all_done (filling a b) ++ (failed (synced_folder a.name) ∷ [])) old))
