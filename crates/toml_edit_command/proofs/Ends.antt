-- How a run ends.
use Rattle.std.proofs.Common.{◌≡◌, ◌⊎◌, refl, sym, ap, subst, ◌∙◌, Bool, true, false, List, [], ◌∷◌, length, Option, None, Some, Result, Ok}
use Rattle.std.proofs.Common.{Err, OnOk, IfErr, inl, inr, arith, string_bytes}
use Rattle.std.proofs.lemmas.Bool.{false≢true}
use Rattle.std.specs.Prelude.{IfSome}
use Rattle.std.specs.Io.KnownBytes.{IsAtEnd}
use Rattle.toml_edit_model.specs.Syntax.{Document}
use Rattle.toml_edit_model.specs.Text.{Text}
use Rattle.toml_edit_model.specs.Mode.{Mode}
use Rattle.toml_edit_model.specs.Version.{Version}
use Rattle.toml_edit_model.specs.Tree.{Node}
use Rattle.toml_edit_command.specs.Mistakes.{InRead, InTree, InWords, IsMisworded, usage_line}
use Rattle.toml_edit_command.specs.Run.{Begins, BeginsAction, Does, DoesAction, IsNotAccepted, OutputChange, Tells, TellsFault}
use Rattle.toml_edit_command.specs.Run.{TellsMistake, TellsRefusal}
use Rattle.toml_edit_command.specs.Steps.{BeganToWrite, HasReadAll, StopsActing, StopsDoing, StopsInWords, TellsError, WroteRead, status_of}
use Rattle.toml_edit_command.specs.Words.{Action, printing, getting, setting, removing, Request, IsCommand, IsSet, Says, TakesPath}
use Rattle.toml_edit_words.specs.Spelled.{SpellsPath, SpellsValue}
use Rattle.toml_edit_command.specs.Written.{Held, IsHeldAs, IsHeldOf, IsReadOf}
use Rattle.toml_edit_command.specs.declared.error.CommandError.{CommandError}
use Rattle.toml_edit_command.specs.declared.error.CommandError.TheVariants as mistakes
use Rattle.toml_edit_command.specs.declared.error.RunError.{RunError}
use Rattle.toml_edit_command.specs.declared.error.RunError.TheVariants.{Mistaken, NotUtf8, Refused, Memory, ReadFailed, WriteFailed}
use Rattle.toml_edit_command.proofs.Local.{made-written}

-- ---- words

-- words that say what is to be done are a command
pub says-command : (q : Request) (a : Action) → Says q a → IsCommand q.command
says-command q printing said = inl said
says-command q (getting names) said = inr (said.0, inl said.1)
says-command q (setting names n) said = inr (said.0, inr (inl (said.1, said.2)))
says-command q (removing names) said = inr (said.0, inr (inr said.1))

first : List Text → Text
first [] = []
first (w ∷ ws) = w

second : List Text → Text
second [] = []
second (w ∷ ws) = first ws

third : List Text → Text
third [] = []
third (w ∷ ws) = second ws

-- the PATH of words that say what is to be done is a path
path-spelled : (q : Request) (a : Action) → Says q a → (path : Text) → TakesPath q.command path → (names : List Text)
    × SpellsPath path names
unfolding first second
path-spelled q printing said path takes =
    elim takes [
      | inl get ↦ absurd (omega (arith, ap length (sym said ∙ get)))
      | inr (inl set) ↦ absurd (omega (arith, ap length (sym said ∙ set.1)))
      | inr (inr remove) ↦ absurd (omega (arith, ap length (sym said ∙ remove)))
    ]
path-spelled q (getting names) said path takes =
    elim takes [
      | inl get ↦ (names, subst (λ p. SpellsPath p names) (ap second (sym said.1 ∙ get)) said.2)
      | inr (inl set) ↦ absurd (omega (arith, ap length (sym said.1 ∙ set.1)))
      | inr (inr remove) ↦ absurd (omega (arith, ap (λ xs. length (first xs)) (sym said.1 ∙ remove)))
    ]
path-spelled q (setting names n) said path takes =
    elim takes [
      | inl get ↦ absurd (omega (arith, ap length (sym said.2 ∙ get)))
      | inr (inl set) ↦ (names, subst (λ p. SpellsPath p names) (ap second (sym said.2 ∙ set.1)) said.3)
      | inr (inr remove) ↦ absurd (omega (arith, ap length (sym said.2 ∙ remove)))
    ]
path-spelled q (removing names) said path takes =
    elim takes [
      | inl get ↦ absurd (omega (arith, ap (λ xs. length (first xs)) (sym said.1 ∙ get)))
      | inr (inl set) ↦ absurd (omega (arith, ap length (sym said.1 ∙ set.1)))
      | inr (inr remove) ↦ (names, subst (λ p. SpellsPath p names) (ap second (sym said.1 ∙ remove)) said.2)
    ]

-- and their VALUE a value
value-spelled : (q : Request) (a : Action) → Says q a → (path value : Text) → IsSet q.command path value → (n : Node)
    × SpellsValue q.version value n
unfolding first second third
value-spelled q printing said path value set = absurd (omega (arith, ap length (sym said ∙ set)))
value-spelled q (getting names) said path value set = absurd (omega (arith, ap length (sym said.1 ∙ set)))
value-spelled q (setting names n) said path value set = (n, subst (λ x. SpellsValue q.version x n) (ap third (sym said.2 ∙ set)) said.4)
value-spelled q (removing names) said path value set = absurd (omega (arith, ap length (sym said.1 ∙ set)))

-- so no mistake stands in them
says-right : (q : Request) (a : Action) → Says q a → (m : CommandError) → InWords q m → ⊥
says-right q a said mistakes.Words wrong = wrong (says-command q a said)
says-right q a said mistakes.Path (path, takes, none) = let x = path-spelled q a said path takes in none x.0 x.1
says-right q a said mistakes.Value (path, value, names, set, spelled, none) = let x = value-spelled q a said path value set in none x.0 x.1
says-right q a said mistakes.NoSuchPath wrong = wrong
says-right q a said mistakes.WrongKind wrong = wrong
says-right q a said mistakes.Unfit wrong = wrong

pub not-misworded : (q : Request) (a : Action) → Says q a → IsMisworded q → ⊥
not-misworded q a said (m, wrong) = says-right q a said m wrong

-- the message where the words are no command
pub wrong-words : (q : Request) (stop : RunError) (s : OutputChange) → StopsInWords q stop → ¬ (IsCommand q.command) → TellsError stop s
    → (status_of stop ≡ 2) × Tells usage_line s
wrong-words q (Mistaken mistakes.Words) s stops wrong told = (refl, told)
wrong-words q (Mistaken mistakes.Path) s stops wrong told = absurd (wrong (inr (stops.0, stops.1)))
wrong-words q (Mistaken mistakes.Value) s stops wrong told = absurd (wrong (inr (stops.0, inr (inl (stops.1, stops.3)))))
wrong-words q (Mistaken mistakes.NoSuchPath) s stops wrong told = absurd stops
wrong-words q (Mistaken mistakes.WrongKind) s stops wrong told = absurd stops
wrong-words q (Mistaken mistakes.Unfit) s stops wrong told = absurd stops
wrong-words q NotUtf8 s stops wrong told = absurd stops
wrong-words q (Refused e) s stops wrong told = absurd stops
wrong-words q Memory s stops wrong told = absurd (wrong stops)
wrong-words q ReadFailed s stops wrong told = absurd stops
wrong-words q WriteFailed s stops wrong told = absurd stops

-- ---- what was done, and what stopped it

module _ (q : Request) (a : Action) (said : Says q a) (mode : Mode) (in_mode : mode ≡ q.mode) (version : Version) (same : version
    ≡ q.version)
    (known : Option Text) where
  -- what is said in this mode and version is said in those that are asked for
  as_asked : (P : Mode → Version → Type 0) → P mode version → P q.mode q.version
  as_asked P h = subst (λ v. P q.mode v) same (subst (λ m. P m version) in_mode h)

  does-action : (known : Option Text) (s : OutputChange) → WroteRead mode version a known s → DoesAction mode version a known s
  does-action None s wrote = tt
  does-action (Some bytes) s (d, h, is, (x, made, grew)) =
      (d, h.tree, is.read, (x, made-written mode version bytes d h is q a said x made, grew))

  pub does : (s : OutputChange) → WroteRead mode version a known s → Does q known s
  does s wrote = (a, said, as_asked (λ m v. DoesAction m v a known s) (does-action known s wrote))

  begins-action : (known : Option Text) (s : OutputChange)
      → IfSome known (λ bytes. (d : Document) × (h : Held) × IsHeldAs mode version bytes d h × BeganToWrite a h s)
      → BeginsAction mode version a known s
  begins-action None s began = tt
  begins-action (Some bytes) s (d, h, is, (x, made, grew)) =
      (d, h.tree, is.read, (x, made-written mode version bytes d h is q a said x made, grew))

  module _ (failed : Bool) (s : OutputChange) where
    pub begins : (stop : RunError) → StopsDoing mode version a known failed s stop → s.failed ≡ true → Begins q known s
    begins (Mistaken m) stops h = absurd (false≢true (sym stops.2.1 ∙ h))
    begins NotUtf8 stops h = absurd (false≢true (sym stops.1.1 ∙ h))
    begins (Refused e) stops h = absurd (false≢true (sym stops.1.1 ∙ h))
    begins Memory stops h = absurd (false≢true (sym stops.1.1 ∙ h))
    begins ReadFailed stops h = absurd (false≢true (sym stops.1.1 ∙ h))
    begins WriteFailed stops h = (a, said, as_asked (λ m v. BeginsAction m v a known s) (begins-action known s stops.1))

    pub tells-mistake : (stop : RunError) (told : OutputChange) → StopsDoing mode version a known failed s stop → status_of stop ≡ 2
        → TellsError stop told → TellsMistake q known told
    tells-mistake (Mistaken m) told stops two line = (m, inr (a, said, as_asked (λ w v. InRead w v a known m) stops.0), line)
    tells-mistake NotUtf8 told stops two line = absurd (omega (arith, two))
    tells-mistake (Refused e) told stops two line = absurd (omega (arith, two))
    tells-mistake Memory told stops two line = absurd (omega (arith, two))
    tells-mistake ReadFailed told stops two line = absurd (omega (arith, two))
    tells-mistake WriteFailed told stops two line = absurd (omega (arith, two))

    -- what a run with status 1 has read is not accepted, and its message says why
    tells-refusal-in : (stop : RunError) (told : OutputChange) (known : Option Text) → StopsDoing mode version a known failed s stop
        → status_of stop ≡ 1 → TellsError stop told
        → IfSome known (λ bytes. IsNotAccepted version bytes × TellsFault version bytes told)
    tells-refusal-in stop told None stops one line = tt
    tells-refusal-in NotUtf8 told (Some bytes) stops one line =
        (λ d utf8 accepted. stops.0.0 utf8, (λ _. line, λ utf8. absurd (stops.0.0 utf8)))
    tells-refusal-in (Refused e) told (Some bytes) stops one line =
        (λ d utf8 accepted. stops.0.0.1 d accepted, (λ bad. absurd (bad stops.0.0.0), λ _. (string_bytes e, stops.0.0.2, line)))
    tells-refusal-in (Mistaken m) told (Some bytes) stops one line = absurd (omega (arith, one))
    tells-refusal-in Memory told (Some bytes) stops one line = absurd (omega (arith, one))
    tells-refusal-in ReadFailed told (Some bytes) stops one line = absurd (omega (arith, one))
    tells-refusal-in WriteFailed told (Some bytes) stops one line = absurd (omega (arith, one))

    pub tells-refusal : (stop : RunError) (told : OutputChange) → StopsDoing mode version a known failed s stop → status_of stop ≡ 1
        → TellsError stop told → TellsRefusal q known told
    tells-refusal stop told stops one line =
        subst (λ v. IfSome known (λ bytes. IsNotAccepted v bytes × TellsFault v bytes told)) same
        (tells-refusal-in stop told known stops one line)

-- what stops the action on what is held of what was read stops the command
module _ (mode : Mode) (version : Version) (a : Action) (h : Held) (in_mode : h.mode ≡ mode) where
  read-of : (known : Option Text) → IfSome known (λ bytes. IsHeldOf mode version bytes h)
      → IfSome known (λ bytes. IsReadOf mode version bytes h.tree)
  read-of None is = tt
  read-of (Some bytes) (d, is) = (d, is.read)

  began : (known : Option Text) (s : OutputChange) → IfSome known (λ bytes. IsHeldOf mode version bytes h) → BeganToWrite a h s
      → IfSome known (λ bytes. (d : Document) × (k : Held) × IsHeldAs mode version bytes d k × BeganToWrite a k s)
  began None s is wrote = tt
  began (Some bytes) s (d, is) wrote = (d, h, is, wrote)

  pub stops-doing : (known : Option Text) → IfSome known (λ bytes. IsHeldOf mode version bytes h) → (failed : Bool) → failed ≡ false
      → (s : OutputChange)
      → (stop : RunError) → StopsActing a h s stop → StopsDoing mode version a known failed s stop
  stops-doing known is failed works s (Mistaken m) stops =
      ((h.tree, subst (λ n. InTree n a h.tree m) in_mode stops.0, read-of known is), works, stops.1)
  stops-doing known is failed works s NotUtf8 stops = absurd stops
  stops-doing known is failed works s (Refused e) stops = absurd stops
  stops-doing known is failed works s Memory stops = (works, stops)
  stops-doing known is failed works s ReadFailed stops = absurd stops
  stops-doing known is failed works s WriteFailed stops = (works, began known s is stops.0, stops.1)

-- ---- how far it has read

module _ (left : Option Text) where
  at-end : (stop : RunError) → IsAtEnd left → HasReadAll left stop
  at-end (Mistaken m) h = h
  at-end NotUtf8 h = h
  at-end (Refused e) h = h
  at-end Memory h = tt
  at-end ReadFailed h = tt
  at-end WriteFailed h = h

  -- what is done with what was read to the end
  pub done-at-end : {A : Type 0} (r : Result A RunError) → IsAtEnd left → OnOk r (IsAtEnd left)
  done-at-end (Ok x) h = h
  done-at-end (Err stop) h = tt

  pub stops-at-end : {A : Type 0} (r : Result A RunError) → IsAtEnd left → IfErr r (HasReadAll left)
  stops-at-end (Ok x) h = tt
  stops-at-end (Err stop) h = at-end stop h

  -- what stops a command after its words
  pub refused-at-end : (stop : RunError) → HasReadAll left stop → (status_of stop ≡ 0) ⊎ (status_of stop ≡ 1) → IsAtEnd left
  refused-at-end (Mistaken m) h status = h
  refused-at-end NotUtf8 h status = h
  refused-at-end (Refused e) h status = h
  refused-at-end Memory h status = elim status [ inl none ↦ absurd (omega (arith, none)) | inr one ↦ absurd (omega (arith, one)) ]
  refused-at-end ReadFailed h status = elim status [ inl none ↦ absurd (omega (arith, none)) | inr one ↦ absurd (omega (arith, one)) ]
  refused-at-end WriteFailed h status = h

  pub mistaken-at-end : (stop : RunError) → HasReadAll left stop → status_of stop ≡ 2 → IsAtEnd left
  mistaken-at-end (Mistaken m) h two = h
  mistaken-at-end NotUtf8 h two = h
  mistaken-at-end (Refused e) h two = h
  mistaken-at-end Memory h two = absurd (omega (arith, two))
  mistaken-at-end ReadFailed h two = absurd (omega (arith, two))
  mistaken-at-end WriteFailed h two = h

  -- and its words
  pub words-refuse-none : (q : Request) (stop : RunError) → StopsInWords q stop → (status_of stop ≡ 0) ⊎ (status_of stop ≡ 1) → IsAtEnd left
  words-refuse-none q (Mistaken m) stops status =
      elim status [ inl none ↦ absurd (omega (arith, none)) | inr one ↦ absurd (omega (arith, one)) ]
  words-refuse-none q NotUtf8 stops status = absurd stops
  words-refuse-none q (Refused e) stops status = absurd stops
  words-refuse-none q Memory stops status = elim status [ inl none ↦ absurd (omega (arith, none)) | inr one ↦ absurd (omega (arith, one)) ]
  words-refuse-none q ReadFailed stops status = absurd stops
  words-refuse-none q WriteFailed stops status = absurd stops

pub words-mistaken : (q : Request) (stop : RunError) → StopsInWords q stop → status_of stop ≡ 2 → IsMisworded q
words-mistaken q (Mistaken m) stops two = (m, stops)
words-mistaken q NotUtf8 stops two = absurd stops
words-mistaken q (Refused e) stops two = absurd stops
words-mistaken q Memory stops two = absurd (omega (arith, two))
words-mistaken q ReadFailed stops two = absurd stops
words-mistaken q WriteFailed stops two = absurd stops
