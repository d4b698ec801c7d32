-- Which texts are trivia, found byte by byte (TOML 1.1.0, "Comment", "Whitespace" and "Newline").
use Rattle.std.specs.Prelude.{Bool, true, false, not, ◌&&◌, ◌==◌, if◌then◌else◌, [], ◌∷◌, Option, None, Some, is_some}
use Rattle.std.specs.List.{list_all}
use Rattle.toml_edit_model.specs.Mode.{Mode, plain, exact, line_end}
use Rattle.toml_edit_model.specs.Text.{Text, line_feed, carriage_return, hash}
use Rattle.toml_edit_model.specs.Trivia.{is_blank, is_visible}

abbrev pub starts_with_feed : Text → Bool
starts_with_feed [] = false
starts_with_feed (c ∷ t) = c == line_feed

-- Whether a comment is open at the end of trivia, after one that is open or not; none, where the
-- text is no trivia. A carriage return comes only before a line feed.
abbrev pub open_after : Bool → Text → Option Bool
open_after is_open [] = Some is_open
open_after is_open (c ∷ t) =
    if c == line_feed then open_after false t
    else if starts_with_feed t && c == carriage_return then open_after is_open t
    else if is_open then (if is_visible c then open_after true t else None)
    else if c == hash then open_after true t
    else if is_blank c then open_after false t
    else None

abbrev pub is_closed : Option Bool → Bool
is_closed None = false
is_closed (Some is_open) = not is_open

-- white space, newlines, and comments each ended by a newline
abbrev pub is_whole : Text → Bool
is_whole t = is_closed (open_after false t)

-- the same, and then perhaps a comment without a newline
abbrev pub is_final : Text → Bool
is_final t = is_some (open_after false t)

abbrev pub is_white : Text → Bool
is_white t = list_all is_blank t

-- white space, and then perhaps a comment, after one that is open or not
abbrev pub ends_line_from : Bool → Text → Bool
ends_line_from is_open [] = true
ends_line_from is_open (c ∷ t) =
    if is_open then is_visible c && ends_line_from true t
    else if c == hash then ends_line_from true t
    else is_blank c && ends_line_from false t

-- a suffix, which in the exact mode may end in the carriage return of its newline
abbrev pub ends_line : Mode → Text → Bool
ends_line mode t = ends_line_from false (line_end mode t)

-- A carriage return before this text is passed over: in the plain mode it isn't shown, and in the
-- exact mode it begins a newline.
abbrev pub passes_return : Mode → Text → Bool
passes_return plain t = true
passes_return exact t = starts_with_feed t
