-- Looks at a folder, one after another, and what is left of commands that stop.
use Rattle.std.proofs.Common.{◌≡◌, Bool, true, List, [], ◌∷◌, ◌++◌, refl, sym, ap, ◌∙◌, append_assoc, append-nil, inl, inr}
use Rattle.std.specs.Prelude.{Option, Some, None, Result, Ok, Err}
use Rattle.std.specs.List.{list_all}
use Rattle.std.proofs.lemmas.List.Folds.{list_all-append}
use Rattle.file_replace.specs.Events.{Text, Event, done, found, locked, more}
use Rattle.file_replace.specs.Replacing.{ReadsLocked}
use Rattle.toml_edit_files.specs.Folders.{IsHeld, MayBegin, OnlyLooks, Stops, StopsPutting, leads, looks_at}
use Rattle.toml_edit_files.specs.Stops.{IsFailed, reason_of}
use Rattle.toml_edit_files.specs.declared.stop.Reason.{Reason}
use Rattle.toml_edit_files.specs.declared.stop.Reason.TheVariants.{No, Mistaken, Failed, Refused, Locked}
use Rattle.toml_edit_files.specs.declared.stop.Stop.{Stop}
use Rattle.toml_edit_files.specs.declared.stop.Stop.TheVariants.{Message, Silent, Memory}

pub more_none : (old : Option (List Event)) → old ≡ more [] old
more_none None = refl
more_none (Some b) = ap (λ (es : List Event). Some es) (sym (append-nil b))

pub more_more : (es fs : List Event) (old : Option (List Event)) → more fs (more es old) ≡ more (es ++ fs) old
more_more es fs None = refl
more_more es fs (Some b) = ap (λ (gs : List Event). Some gs) (append_assoc b es fs)

all-append : (p : Event → Bool) (es fs : List Event) → list_all p es ≡ true → list_all p fs ≡ true → list_all p (es ++ fs) ≡ true
all-append p es fs h k = list_all-append p es fs ∙ rw (h, k) refl

-- ---- looks

-- nothing was asked
pub looks_same : (old new : Option (List Event)) → new ≡ old → OnlyLooks old new
looks_same old new is = ([], refl, is ∙ more_none old)

pub looks_none : (old : Option (List Event)) → OnlyLooks old old
looks_none old = looks_same old old refl

pub looks_then : (a b c : Option (List Event)) → OnlyLooks a b → OnlyLooks b c → OnlyLooks a c
looks_then a b c (es, p, e) (fs, q, f) =
    (es ++ fs, all-append (λ e. looks_at e.call) es fs p q, f ∙ ap (more fs) e ∙ more_more es fs a)

pub looks_locked : {A E : Type 0} (name : Text) (text : A → Text) (old new : Option (List Event)) (r : Result A E)
    → ReadsLocked name text old new r → OnlyLooks old new
looks_locked name text old new (Ok x) h = (_, refl, h)
looks_locked name text old new (Err e) (inl h) = (_, refl, h)
looks_locked name text old new (Err e) (inr h) = (_, refl, h)

pub looks_held : (file name : Text) (old new : Option (List Event)) (s : Text) → IsHeld file name old new s → OnlyLooks (leads file name old) new
looks_held file name old new s h = (done (locked name) ∷ done (found name s) ∷ [], refl, h)

-- ---- what is left

module _ (file : Text) (old new : Option (List Event)) where
  -- memory may run out later
  pub stops_later : (why : Option Reason) → Stops file old new why → Stops file old new None
  stops_later None m = m
  stops_later (Some Failed) m = m
  stops_later (Some No) h = inl h
  stops_later (Some Mistaken) h = inl h
  stops_later (Some Refused) h = inl h
  stops_later (Some Locked) h = inl h

  -- the file that is named need not be the one that is written
  pub stops_beginning : (named : Text) (stop : Stop) → IsFailed named stop → MayBegin file old new → Stops file old new (reason_of stop)
  stops_beginning named Memory is m = m
  stops_beginning named Silent is m = absurd is
  stops_beginning named (Message Failed note) is m = m
  stops_beginning named (Message No note) (said, is, same, about) m = absurd (let e : No ≡ Failed = is in cc)
  stops_beginning named (Message Mistaken note) (said, is, same, about) m = absurd (let e : Mistaken ≡ Failed = is in cc)
  stops_beginning named (Message Refused note) (said, is, same, about) m = absurd (let e : Refused ≡ Failed = is in cc)
  stops_beginning named (Message Locked note) (said, is, same, about) m = absurd (let e : Locked ≡ Failed = is in cc)

-- looks before it change nothing of this
pub begins_then : (file : Text) (a b c : Option (List Event)) → OnlyLooks a b → MayBegin file b c → MayBegin file a c
begins_then file a b c h (inl k) = inl (looks_then a b c h k)
begins_then file a b c h (inr (name, read, held, k, l, n)) = inr (name, read, held, looks_then a b read h k, l, n)

pub stops_then : (file : Text) (a b c : Option (List Event)) (why : Option Reason) → OnlyLooks a b → Stops file b c why → Stops file a c why
stops_then file a b c None h m = begins_then file a b c h m
stops_then file a b c (Some Failed) h m = begins_then file a b c h m
stops_then file a b c (Some No) h k = looks_then a b c h k
stops_then file a b c (Some Mistaken) h k = looks_then a b c h k
stops_then file a b c (Some Refused) h k = looks_then a b c h k
stops_then file a b c (Some Locked) h k = looks_then a b c h k

-- a file that is held is not replaced
pub held_begins : (file name : Text) (old held new : Option (List Event)) (s : Text) → IsHeld file name old held s → StopsPutting name held new
    → MayBegin file old new
held_begins file name old held new s h n = inr (name, old, held, looks_none old, looks_held file name old held s h, n)

pub named_begins : (file name : Text) (old led new : Option (List Event)) → led ≡ leads file name old → StopsPutting name led new
    → MayBegin file old new
named_begins file name old led new is n = inr (name, old, led, looks_none old, looks_same (leads file name old) led is, n)
