-- The events of a value alone in its text.
use Rattle.std.specs.Prelude.{◌≡◌, ◌++◌, true, false, List, length}
use Rattle.toml_edit_model.specs.Text.{Text}
use Rattle.toml_edit_model.specs.Trivia.{Each}
use Rattle.toml_edit_model.specs.Syntax.{Value}
use Rattle.toml_edit_model.specs.Lone.{IsLoneValue}
use Rattle.toml_edit_syntax.specs.declared.event.Event.{Event}
use Rattle.toml_edit_syntax.specs.ValueEvents.{value_events, shortened, are_deep}
use Rattle.toml_edit_syntax.specs.Events.{exceeds_depth, is_closing_bracket}

-- More arrays and inline tables are open in one another, in a front of the text, than may be:
-- closing brackets alone make that front a value with white space around it that is too deep.
pub record ValueOpensTooMany (t : Text) : Type 0 where
  pub front : Text
  pub behind_it : Text
  pub closing : Text
  pub value : Value
  pub parts : t ≡ front ++ behind_it
  pub closes : Each is_closing_bracket closing
  pub lone : IsLoneValue (front ++ closing) value
  pub deep : exceeds_depth value ≡ true

-- The text's events: if it is a value with white space around it, they are the value's parts, up to
-- a bracket that is one too many, which there is exactly where the value is too deep; and it is
-- one, unless there is such a bracket, and the text opens too many then.
pub record AreLoneEvents (t : Text) (es : List Event) : Type 0 where
  pub every : (v : Value) (lone : IsLoneValue t v)
      → es ≡ shortened 0 (value_events (length lone.before) v)
  pub deep : (v : Value) → IsLoneValue t v → are_deep es ≡ exceeds_depth v
  pub has_value : are_deep es ≡ false → (v : Value) × IsLoneValue t v
  pub only : (v other : Value) → IsLoneValue t v → IsLoneValue t other → other ≡ v
  pub brackets : are_deep es ≡ true → ValueOpensTooMany t
