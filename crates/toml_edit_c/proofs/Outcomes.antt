-- What the exports give, and what stops them.
use Rattle.std.proofs.Common.{◌≡◌, ◌≤◌, ◌<◌, ◌⊎◌, ◌∙◌, ap, refl, sym, subst, Bool, ℕ, List, [], ◌++◌, Result, Ok, Err, IfOk, IfErr, inl, inr, arith, Vec, Global, Some}
use Rattle.toml_edit_model.specs.Mode.{Mode}
use Rattle.toml_edit_model.specs.Text.{Text}
use Rattle.toml_edit_model.specs.Version.{Version}
use Rattle.toml_edit_model.specs.Tree.{Tree}
use Rattle.toml_edit.specs.Documents.{opens}
use Rattle.toml_edit_command.specs.Mistakes.{InTree}
use Rattle.toml_edit_command.specs.Run.{OutputChange}
use Rattle.toml_edit_command.specs.Steps.{StopsDoing, StopsReading, WroteRead}
use Rattle.toml_edit_command.specs.Words.{Action, Request, Says}
use Rattle.toml_edit_command.specs.Written.{IsReadOf, Writes}
use Rattle.toml_edit_command.specs.declared.error.CommandError.{CommandError}
use Rattle.toml_edit_command.specs.declared.error.CommandError.TheVariants as mistakes
use Rattle.toml_edit_command.specs.declared.error.RunError.{RunError}
use Rattle.toml_edit_command.specs.declared.error.RunError.TheVariants as errors
use Rattle.toml_edit_command.proofs.Local.{made-written}
use Rattle.toml_edit_c.specs.Answers.{Answers, Gives, Holds, IsAtFront, IsTooLong, IsUnanswered}
use Rattle.toml_edit_c.specs.Made.{IsMade, MayStopReading, StopsAction, StopsMaking}
use Rattle.toml_edit_c.specs.Statuses.{status_of, stop_for}
use Rattle.toml_edit_c.specs.declared.answer.Answer.{Answer}
use Rattle.toml_edit_c.specs.declared.answer.EditStop.{EditStop}
use Rattle.toml_edit_c.specs.declared.answer.Stop.{Stop}
use Rattle.toml_edit_c.specs.declared.answer.Stop.TheVariants.{Refused, NotUtf8, Path, Value, NoSuchPath, WrongKind, Unfit, Memory, Flags, Script, NoSuchElement, Taken, Comment}

-- ---- commands

-- what a command of these words wrote of the text into an output that was empty
pub made-by : (q : Request) (a : Action) → Says q a → (text old new : Text) (failed : Bool) → old ≡ []
    → WroteRead q.mode q.version a (Some text) (record { old = Some old; new = Some new; failed = failed }) → IsMade q text new
made-by q a said text old new failed empty (d, h, is, (x, makes, grew)) =
    let same : x ≡ new = sym (grew ∙ ap (λ (front : Text). front ++ x) empty) in
    (a, said, d, h.tree, is.read, subst (Writes q.mode a d h.tree) same (made-written q.mode q.version text d h is q a said x makes))

module _ (mode : Mode) (version : Version) (text : Text) (failed : Bool) where
  -- what stops reading it
  stops-reading : (e : RunError) → StopsReading version (Some text) failed e → MayStopReading version text (stop_for e)
  stops-reading (errors.Mistaken m) stops = absurd stops
  stops-reading errors.NotUtf8 stops = stops.0
  stops-reading (errors.Refused e) stops = (stops.0.0, stops.0.1)
  stops-reading errors.Memory stops = tt
  stops-reading errors.ReadFailed stops = tt
  stops-reading errors.WriteFailed stops = tt

  module _ (a : Action) where
    stops-making : (t : Tree) → IsReadOf mode version text t → (stop : Stop)
        → ((is_open : Bool) → StopsMaking a (record { tree = t; mode = mode; is_open = is_open }) stop) → StopsAction mode version a text stop
    stops-making t (d, read) stop why =
        inr (record { tree = t; mode = mode; is_open = opens mode d }, (d, record { read = read; same_mode = refl; open_end = refl }), why (opens mode d))

    stops-in-tree : (t : Tree) (m : CommandError) → InTree mode a t m → IsReadOf mode version text t
        → StopsAction mode version a text (stop_for (errors.Mistaken m))
    stops-in-tree t mistakes.Words stops read = absurd stops
    stops-in-tree t mistakes.Path stops read = absurd stops
    stops-in-tree t mistakes.Value stops read = absurd stops
    stops-in-tree t mistakes.NoSuchPath stops read = stops-making t read NoSuchPath (λ _. stops)
    stops-in-tree t mistakes.WrongKind stops read = stops-making t read WrongKind (λ _. stops)
    stops-in-tree t mistakes.Unfit stops read = stops-making t read Unfit (λ _. stops)

    -- what stops a command on it
    pub stops-doing : (s : OutputChange) (e : RunError) → StopsDoing mode version a (Some text) failed s e
        → StopsAction mode version a text (stop_for e)
    stops-doing s (errors.Mistaken m) stops = stops-in-tree stops.0.0 m stops.0.1 stops.0.2
    stops-doing s errors.NotUtf8 stops = inl (stops-reading errors.NotUtf8 stops.0)
    stops-doing s (errors.Refused e) stops = inl (stops-reading (errors.Refused e) stops.0)
    stops-doing s errors.Memory stops = inl tt
    stops-doing s errors.ReadFailed stops = inl tt
    stops-doing s errors.WriteFailed stops = inl tt

-- ---- answers

-- no reason has the status 0 or 1
pub high : (stop : Stop) → 1 < status_of stop
high Refused = omega arith
high NotUtf8 = omega arith
high Path = omega arith
high Value = omega arith
high NoSuchPath = omega arith
high WrongKind = omega arith
high Unfit = omega arith
high Memory = omega arith
high Flags = omega arith
high Script = omega arith
high NoSuchElement = omega arith
high Taken = omega arith
high Comment = omega arith

-- and each text has one of these
low : (x : Text) (answer : Answer) (old new : List ℕ) → Holds x answer old new → answer.status ≤ 1
low x answer old new holds = elim holds.1 [ inl front ↦ omega (arith, front.0) | inr long ↦ omega (arith, long.0) ]

-- a text that is held is at the front, or is too long
pub held-or-long : (x : Text) (answer : Answer) (old new : List ℕ) → Holds x answer old new → IsAtFront x old new ⊎ IsTooLong x old new
held-or-long x answer old new holds = elim holds.1 [ inl front ↦ inl front.1 | inr long ↦ inr long.1 ]

module _ (answer : Answer) (old new : List ℕ) where
  -- what the answer says of what was made
  pub given : {E : Type 0} (stop_in : E → Stop) (r : Result (Vec ℕ Global) E) (Is : Text → Type 0) → IfOk r (λ s. Is s.items)
      → IfOk r (λ s. Holds s.items answer old new) → IfErr r (λ e. answer.status ≡ status_of (stop_in e))
      → answer.status ≤ 1 → Gives Is answer old new
  given stop_in (Ok s) Is is holds status under = (s.items, is, holds)
  given stop_in (Err e) Is is holds status under = absurd (omega (arith, high (stop_in e), status, under))

  stopped : (r : Result (Vec ℕ Global) Stop) (Stops : Stop → Type 0) → IfErr r Stops
      → IfOk r (λ s. Holds s.items answer old new) → IfErr r (λ stop. answer.status ≡ status_of stop)
      → 1 < answer.status → (stop : Stop) × (answer.status ≡ status_of stop) × Stops stop
  stopped (Ok s) Stops stops holds status over = absurd (omega (arith, low s.items answer old new holds, over))
  stopped (Err stop) Stops stops holds status over = (stop, status, stops)

  pub unanswered : {E : Type 0} (r : Result (Vec ℕ Global) E) (Stays : Type 0) → IfOk r (λ s. Holds s.items answer old new)
      → IfErr r (λ e. Stays) → 1 < answer.status → Stays
  unanswered (Ok s) Stays holds none over = absurd (omega (arith, low s.items answer old new holds, over))
  unanswered (Err e) Stays holds none over = none

  pub answers : (r : Result (Vec ℕ Global) Stop) (Is : Text → Type 0) (Stops : Stop → Type 0) → IfOk r (λ s. Is s.items) → IfErr r Stops
      → IfOk r (λ s. Holds s.items answer old new) → IfErr r (λ stop. answer.status ≡ status_of stop)
      → IfErr r (λ stop. IsUnanswered answer old new)
      → Answers Is (λ status. (stop : Stop) × (status ≡ status_of stop) × Stops stop) answer old new
  answers r Is Stops is stops holds status none = record {
    given = given (λ stop. stop) r Is is holds status;
    stopped = stopped r Stops stops holds status;
    unanswered = unanswered r (IsUnanswered answer old new) holds none;
  }

  -- so it is with the number of the edit of a script that is refused
  pub numbered : (r : Result (Vec ℕ Global) EditStop) (Stops : EditStop → Type 0) → IfErr r Stops
      → IfOk r (λ s. Holds s.items answer old new) → IfErr r (λ e. answer.status ≡ status_of e.stop)
      → IfErr r (λ e. answer.needed ≡ e.number) → 1 < answer.status
      → (e : EditStop) × (answer.status ≡ status_of e.stop) × (answer.needed ≡ e.number) × Stops e
  numbered (Ok s) Stops stops holds status number over = absurd (omega (arith, low s.items answer old new holds, over))
  numbered (Err e) Stops stops holds status number over = (e, status, number, stops)
