-- The events of a value: its parts in the order of the text, each with its place.
use Rattle.std.specs.Prelude.{ℕ, suc, ◌+◌, ◌-◌, Bool, true, false, ◌==◌, if◌then◌else◌, List, [], ◌∷◌, ◌++◌, length, codes}
use Rattle.std.specs.List.{list_any}
use Rattle.toml_edit_model.specs.Text.{Text}
use Rattle.toml_edit_model.specs.Syntax.{Segment, Frame, Value, scalar, array, inline_table, Elements, no_elements, element, Pairs}
use Rattle.toml_edit_model.specs.Syntax.{no_pairs, pair, segment_text, path_text, value_text, nesting_limit}
use Rattle.toml_edit_syntax.specs.declared.event.EventKind.{EventKind}
use Rattle.toml_edit_syntax.specs.declared.event.EventKind.TheVariants.{Leading, Key, BeforeDot, AfterDot, Equals, Scalar, ArrayOpen}
use Rattle.toml_edit_syntax.specs.declared.event.EventKind.TheVariants.{ArrayClose, InlineTableOpen, InlineTableClose, Before, After, Comma}
use Rattle.toml_edit_syntax.specs.declared.event.EventKind.TheVariants.{Inner, TooDeep}
use Rattle.toml_edit_syntax.specs.declared.event.Event.{Event}

-- a part of this kind, that begins at this byte and has this text
abbrev pub event : EventKind → ℕ → Text → Event
event kind start t = record { kind = kind; span = record { start = start; end = start + length t } }

-- the segments of a key that begins at this byte, and the white space on both sides of the dots
-- between them
abbrev pub path_events : ℕ → List Segment → List Event
path_events start [] = []
path_events start (s ∷ []) = event Key (start + length s.before) s.spelled ∷ []
path_events start (s ∷ r ∷ rest) =
    let dot = start + length (segment_text s) in
    event Key (start + length s.before) s.spelled
    ∷ event BeforeDot (start + length s.before + length s.spelled) s.after
    ∷ event AfterDot (dot + 1) r.before
    ∷ path_events (dot + 1) (r ∷ rest)

-- a pair up to its value, where it begins at this byte
abbrev pub frame_events : ℕ → Frame → List Event
frame_events start f =
    let key = start + length f.leading in
    event Leading start f.leading
    ∷ path_events key f.path
    ++ (event Equals (key + length (path_text f.path) + length f.before_equals) (codes "=") ∷ [])

-- where the value of a pair begins
abbrev pub value_at_byte : ℕ → Frame → ℕ
value_at_byte start f =
    start + length f.leading + length (path_text f.path) + length f.before_equals + 1
    + length f.after_equals

-- a comma at the end of a list, where there is one, just before the trailing text
abbrev pub comma_events : ℕ → Bool → List Event
comma_events at comma = if comma then event Comma at (codes ",") ∷ [] else []

-- the end of a list: perhaps a comma, the trailing text, and the bracket, which begins at this byte
abbrev pub close_events : EventKind → Text → ℕ → Bool → Text → List Event
close_events kind bracket at comma t =
    comma_events (at - length t - 1) comma
    ++ (event Inner (at - length t) t ∷ event kind at bracket ∷ [])

-- a value that begins at this byte
abbrev mutual
  pub value_events : ℕ → Value → List Event
  value_events start (scalar s t) = event Scalar start t ∷ []
  value_events start (array es comma t) =
      event ArrayOpen start (codes "[")
      ∷ elements_events (start + 1) es
      ++ close_events ArrayClose (codes "]")
      (start + length (value_text (array es comma t)) - 1) comma t
  value_events start (inline_table ps comma t) =
      event InlineTableOpen start (codes "{")
      ∷ pairs_events (start + 1) ps
      ++ close_events InlineTableClose (codes "}")
      (start + length (value_text (inline_table ps comma t)) - 1) comma t

  pub elements_events : ℕ → Elements → List Event
  elements_events start no_elements = []
  elements_events start (element a v es) =
      let value = start + length a.before in
      let after = value + length (value_text v) in
      event Before start a.before
      ∷ value_events value v
      ++ (event After after a.after ∷ elements_events (after + length a.after + 1) es)

  pub pairs_events : ℕ → Pairs → List Event
  pairs_events start no_pairs = []
  pairs_events start (pair f v ps) =
      let value = value_at_byte start f in
      let after = value + length (value_text v) in
      frame_events start f
      ++ (value_events value v
      ++ (event After after f.trailing ∷ pairs_events (after + length f.trailing + 1) ps))

abbrev pub opens : EventKind → Bool
opens ArrayOpen = true
opens InlineTableOpen = true
opens _ = false

abbrev pub closes : EventKind → Bool
closes ArrayClose = true
closes InlineTableClose = true
closes _ = false

-- The events up to the first bracket that is one too many, inside so many, which stands in place of
-- it and of all that follows.
abbrev pub shortened : ℕ → List Event → List Event
shortened level [] = []
shortened level (e ∷ es) =
    if opens e.kind then
    if level == nesting_limit then record e { kind = TooDeep } ∷ []
    else e ∷ shortened (suc level) es
    else if closes e.kind then e ∷ shortened (level - 1) es
    else e ∷ shortened level es

abbrev pub is_too_deep : EventKind → Bool
is_too_deep TooDeep = true
is_too_deep _ = false

-- they end at a bracket that is one too many
abbrev pub are_deep : List Event → Bool
are_deep es = list_any (λ e. is_too_deep e.kind) es
