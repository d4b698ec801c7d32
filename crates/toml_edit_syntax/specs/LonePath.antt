-- The events of a path alone in its text.
use Rattle.std.specs.Prelude.{◌≡◌, ◌++◌, List, length}
use Rattle.std.specs.List.{AllByRecursion}
use Rattle.toml_edit_model.specs.Text.{Text}
use Rattle.toml_edit_model.specs.Trivia.{IsWhiteSpace}
use Rattle.toml_edit_model.specs.Syntax.{Segment, IsPath, IsSpacedSegment, path_text}
use Rattle.toml_edit_syntax.specs.declared.event.Event.{Event}
use Rattle.toml_edit_syntax.specs.ValueEvents.{path_events}

-- white space, a path of any length, white space
pub record IsPathText (t before : Text) (p : List Segment) (after : Text) : Type 0 where
  pub parts : t ≡ before ++ (path_text p ++ after)
  pub path : IsPath p
  pub spaced : AllByRecursion IsSpacedSegment p
  pub white_before : IsWhiteSpace before
  pub white_after : IsWhiteSpace after

-- The text is a path between these texts of white space, in no other way, and the events are the
-- path's.
pub record ArePathEvents (t before : Text) (es : List Event) (after : Text) : Type 0 where
  pub path : List Segment
  pub is : IsPathText t before path after
  pub events : es ≡ path_events (length before) path
  pub only : (b : Text) (p : List Segment) (a : Text) → IsPathText t b p a
      → (b ≡ before) × (p ≡ path) × (a ≡ after)
