-- Reading trivia, white space and the brackets of headers, from left to right.
use Rattle.std.specs.Prelude.{ℕ, suc, ◌-◌, Bool, true, false, not, ◌&&◌, ◌||◌, ◌==◌, if◌then◌else◌, [], ◌∷◌, length, take, drop}
use Rattle.std.specs.Prelude.{slice_index, Option, Some, None, is_some, unwrap_or}
use Rattle.toml_edit_model.specs.Text.{Text}
use Rattle.toml_edit_model.specs.Trivia.{is_blank, is_visible}
use Rattle.toml_edit_laws.specs.reading.Runs.{first, split_while}

-- what is before this rest
abbrev pub front : Text → Text → Text
front t rest = take (length t - length rest) t

-- ---- trivia

-- whether a comment has begun after the byte c, which `next` follows; none where trivia stops
abbrev pub turn : Bool → ℕ → ℕ → Option Bool
turn inside c next =
    if c == 10 || (c == 13 && next == 10) then Some false
    else if (if inside then is_visible c else is_blank c) then Some inside
    else if not inside && c == 35 then Some true
    else None

-- how far trivia goes, and whether it stops inside a comment
unfoldable pub scan : Bool → Text → ℕ × Bool
scan inside [] = (0, inside)
scan inside (c ∷ cs) =
    let state = turn inside c (first cs) in
    if is_some state then (
      suc
          (scan (unwrap_or state false) cs).0,
      (scan (unwrap_or state false) cs).1,
    ) else (0, inside)

-- after white space and a comment
unfoldable pub line_end_rest : Text → Text
line_end_rest t =
    let rest = (split_while is_blank t).1 in
    if first rest == 35 then (split_while is_visible (drop 1 rest)).1 else rest

-- after a newline, or at the end
unfoldable pub newline_rest : Text → Option Text
newline_rest t =
    if first t == 10 then Some (drop 1 t)
    else if first t == 13 && slice_index t 1 == 10 then Some (drop 2 t)
    else if length t == 0 then Some t
    else None

-- the white space before `=`, and the white space after it
unfoldable pub equals_at : Text → Option ((Text × Text) × Text)
equals_at t =
    let before = split_while is_blank t in
    let after = split_while is_blank (drop 1 before.1) in
    if first before.1 == 61 then Some ((before.0, after.0), after.1) else None

-- ---- the brackets of headers

-- whether two brackets open the header at the front, and what follows the one or the two
unfoldable pub opening_at : Text → Bool × Text
opening_at t = if slice_index t 1 == 0x5B then (true, drop 2 t) else (false, drop 1 t)

-- after the closing brackets of a header, two of an array's element
unfoldable pub closing_rest : Bool → Text → Option Text
closing_rest is_array t =
    if first t == 0x5D && (not is_array || slice_index t 1 == 0x5D)
    then Some (if is_array then drop 2 t else drop 1 t) else None
