-- What is asked of a folder.
use Rattle.std.specs.Prelude.{◌≡◌, ℕ, Bool, true, false, List, [], ◌∷◌, ◌++◌, map, Option, Some, None, option_map, Result, Ok, Err, Vec, IsSorted, string_bytes}
use Rattle.std.specs.Cmp.Lexicographic.{slice_cmp}
use Rattle.std.specs.Ordering.{nat_cmp}
use Rattle.std.specs.declared.alloc.Global.{Global}
use Rattle.std.specs.declared.string.String.{String}

abbrev pub Text : Type 0
Text = List ℕ

pub data Call : Type 0 where
  -- the file of this name holds this text
  found : Text → Text → Call
  -- there is no file of this name
  missing : Text → Call
  -- the folder of this name has these names in it
  listed : Text → List Text → Call
  -- there is no folder of this name; or if that is not done, it is not known what is in it
  no_folder : Text → Call
  -- the name leads to the file of that name
  leads_to : Text → Text → Call
  -- the lock on the file of this name is taken
  locked : Text → Call
  -- the file of this name is not read-only
  writable : Text → Call
  -- the new files that ended runs have left beside the file of this name are removed
  cleared : Text → Call
  -- a file is made, of a name that none had
  made : Text → Call
  -- It gets the owner, the group and the mode of the file of this name; if forced, those that can be
  -- kept.
  likened : Text → Bool → Call
  wrote : Text → Call
  synced : Call
  -- the file of this name still holds this text
  held : Text → Text → Call
  renamed : Text → Text → Call
  removed : Text → Call
  synced_folder : Text → Call

-- what a file of this name holds, if there is one
abbrev pub looked_for : Text → Option (Vec ℕ Global) → Call
looked_for name (Some text) = found name text.items
looked_for name None = missing name

-- a call that is noted, and whether it was done, or what it asks is so
pub record Event : Type 0 where
  pub call : Call
  pub is_done : Bool

abbrev pub succeeds : {E : Type 0} → Result (Unit {0}) E → Bool
succeeds (Ok u) = true
succeeds (Err e) = false

-- a call that asks whether something is so
abbrev pub says : {E : Type 0} → Result Bool E → Bool
says (Ok is) = is
says (Err e) = false

abbrev pub done : Call → Event
done c = record { call = c; is_done = true }

abbrev pub failed : Call → Event
failed c = record { call = c; is_done = false }

abbrev pub more : List Event → Option (List Event) → Option (List Event)
more es known = option_map (λ before. before ++ es) known

-- what was asked is known after a call if it was known before: the call is the last one
abbrev pub Notes : {E : Type 0} → Option (List Event) → Option (List Event) → Call → Result (Unit {0}) E → Type 0
Notes old new c r = new ≡ more (record { call = c; is_done = succeeds r } ∷ []) old

abbrev pub NotesWhether : {E : Type 0} → Option (List Event) → Option (List Event) → Call → Result Bool E → Type 0
NotesWhether old new c r = new ≡ more (record { call = c; is_done = says r } ∷ []) old

-- one that looks is known by what it found
abbrev pub seen : {A E : Type 0} → (A → Call) → Result A E → List Event
seen c (Ok x) = done (c x) ∷ []
seen c (Err e) = []

abbrev pub NotesFound : {A E : Type 0} → Option (List Event) → Option (List Event) → (A → Call)
    → Result A E → Type 0
NotesFound old new c r = new ≡ more (seen c r) old

-- one that lists a folder, if there is one of this name, is known also if it fails
abbrev pub listing : {E : Type 0} → Text → Result (Option (Vec (String Global) Global)) E → Event
listing name (Ok (Some names)) = done (listed name (map string_bytes names.items))
listing name (Ok None) = done (no_folder name)
listing name (Err e) = failed (no_folder name)

-- no name is before the one in front of it, by its bytes
abbrev pub IsInOrder : Vec (String Global) Global → Type 0
IsInOrder names = IsSorted (λ a b. slice_cmp nat_cmp (string_bytes a) (string_bytes b)) names.items
