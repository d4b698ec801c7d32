-- What comes first among the events, and what is left of them.
use Rattle.std.specs.Prelude.{◌≡◌, ◌≤◌, ℕ, ◌+◌, List, [], ◌∷◌, ◌++◌, codes, length, Result, IfOk}
use Rattle.std.specs.Borrow.{Bor}
use Rattle.toml_edit_model.specs.Syntax.{Segment, Frame, IsPath, path_text}
use Rattle.toml_edit_model.specs.Text.{Text}
use Rattle.toml_edit_laws.specs.Standing.{Stands}
use Rattle.toml_edit_syntax.specs.declared.event.EventKind.{EventKind}
use Rattle.toml_edit_syntax.specs.declared.event.EventKind.TheVariants.{Equals, Key, BeforeDot, AfterDot}
use Rattle.toml_edit_syntax.specs.declared.event.Event.{Event}
use Rattle.toml_edit_syntax.specs.LateEvents.{AreIn}
use Rattle.toml_edit_syntax.specs.ValueEvents.{event, path_events}
use Rattle.toml_edit_fmt.specs.declared.page.Page.{Page}

-- These events are left, and this is so.
abbrev pub Handed : List Event → List Event → Type 0 → Type 0
Handed more rest P = (rest ≡ more) × P

-- Some of the events are left, in the text, whatever they are; the page has its source and its rules.
pub record Left (old new : Page) (es rest : List Event) : Type 0 where
  pub spans : AreIn old.source.now rest
  pub shorter : length rest ≤ length es
  pub source : new.source ≡ old.source
  pub rules : new.rules ≡ old.rules

abbrev pub Leaves : {E : Type 0} → Page → Page → List Event → Result (Bor (List Event)) E → Type 0
Leaves old new es result = IfOk result (λ rest. Left old new es rest.now)

-- no event of a key comes first
abbrev pub NoKeyNext : List Event → Type 0
NoKeyNext [] = Unit {0}
NoKeyNext (e ∷ es) = NotOfKey e.kind
  where
    NotOfKey : EventKind → Type 0
    NotOfKey Key = ⊥
    NotOfKey BeforeDot = ⊥
    NotOfKey AfterDot = ⊥
    NotOfKey _ = Unit {0}

-- A fact for where the events begin with those of this path, which is in the source from this byte on.
abbrev pub IfPathNext : Text → List Event → List Segment → ℕ → List Event → Type 0 → Type 0
IfPathNext source es p start more P =
    IsPath p → Stands source start (path_text p) → NoKeyNext more → es ≡ path_events start p ++ more → P

-- an event at this byte comes first
abbrev pub BeginsAt : ℕ → List Event → Type 0
BeginsAt n [] = ⊥
BeginsAt n (e ∷ es) = e.span.start ≡ n

-- And with those of this key and its sign `=`, where the value comes next.
abbrev pub IfHeadNext : Text → List Event → Frame → ℕ → List Event → Type 0 → Type 0
IfHeadNext source es f start more P =
    IsPath f.path
    → Stands source start (path_text f.path ++ (f.before_equals ++ (codes "=" ++ f.after_equals)))
    → BeginsAt (start + length (path_text f.path) + length f.before_equals + 1 + length f.after_equals) more
    → es ≡ path_events start f.path
    ++ (event Equals (start + length (path_text f.path) + length f.before_equals) (codes "=") ∷ more)
    → P
