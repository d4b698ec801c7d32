-- What is after something on its line: the comment stays, and laid out again it stays.
use Rattle.std.proofs.Common.{◌≡◌, refl, sym, ap, subst, ◌∙◌, ℕ, [], ◌++◌, inl, inr}
use Rattle.std.proofs.Common.{Option, Some, None}
use Rattle.std.specs.Prelude.{if◌then◌else◌, is_some}
use Rattle.toml_edit_model.specs.Comments.{comments}
use Rattle.toml_edit_model.specs.Text.{Text}
use Rattle.toml_edit_model.specs.Trivia.{IsWhiteSpace, lf, IsLineEnd}
use Rattle.toml_edit_fmt_laws.specs.Rules.{Rules, Comments, as_they_are, apart, aligned, spaces}
use Rattle.toml_edit_fmt_laws.specs.Laying.{rest_as, line_rest}
use Rattle.toml_edit_fmt_laws.proofs.Rows.{Row, IsRow}
use Rattle.toml_edit_fmt_laws.proofs.Rows.{line_part, part-end, comments-part}
use Rattle.toml_edit_fmt_laws.proofs.GapLaws.{spaced-part}
use Rattle.toml_edit_fmt_laws.proofs.SpacedRows.{white-spaces}

-- the end of a line, as a row without its newline
record Ending (t : Text) : Type 0 where
  row : Row
  is_row : IsRow row
  is : t ≡ line_part row

ending : (t : Text) → IsLineEnd t → Ending t
ending t (white, rest, h, inl none, e) =
    record { row = record { white = white; body = None; end = lf }; is_row = (h, tt); is = e ∙ ap (λ u. white ++ u) none }
ending t (white, rest, h, inr (body, g, is), e) =
    record { row = record { white = white; body = Some body; end = lf }; is_row = (h, g); is = e ∙ ap (λ u. white ++ u) is }

abbrev spaces_if : Option Text → ℕ → Text
spaces_if o n = if is_some o then spaces n else []

abbrev rest_white : Comments → ℕ → Row → Text
rest_white as_they_are pad x = x.white
rest_white (apart n) pad x = spaces_if x.body n
rest_white (aligned n) pad x = spaces_if x.body pad

abbrev rest_row : Comments → ℕ → Row → Row
rest_row c pad x = record x { white = rest_white c pad x }

rest-form : (c : Comments) (pad : ℕ) (x : Row) → IsRow x → rest_as c pad (line_part x) ≡ line_part (rest_row c pad x)
rest-form as_they_are pad x h = refl
rest-form (apart n) pad x h = spaced-part n x h
rest-form (aligned n) pad x h = spaced-part pad x h

rest-is_row : (c : Comments) (pad : ℕ) (x : Row) → IsRow x → IsRow (rest_row c pad x)
rest-is_row as_they_are pad x h = h
rest-is_row (apart n) pad x h = (by_body x.body, h.1)
  where
    by_body : (o : Option Text) → IsWhiteSpace (spaces_if o n)
    by_body (Some b) = white-spaces n
    by_body None = refl
rest-is_row (aligned n) pad x h = (by_body x.body, h.1)
  where
    by_body : (o : Option Text) → IsWhiteSpace (spaces_if o pad)
    by_body (Some b) = white-spaces pad
    by_body None = refl

rest-twice : (c : Comments) (pad other : ℕ) (x : Row) → rest_row c pad (rest_row c other x) ≡ rest_row c pad x
rest-twice as_they_are pad other x = refl
rest-twice (apart n) pad other x = refl
rest-twice (aligned n) pad other x = refl

pub rest-again : (r : Rules) (pad other : ℕ) (t : Text) → IsLineEnd t → line_rest r pad (line_rest r other t) ≡ line_rest r pad t
rest-again r pad other t h =
    let e = ending t h in
    let c = r.comments in
    ap (line_rest r pad) (ap (line_rest r other) e.is ∙ rest-form c other e.row e.is_row)
    ∙ rest-form c pad (rest_row c other e.row) (rest-is_row c other e.row e.is_row)
    ∙ ap line_part (rest-twice c pad other e.row)
    ∙ sym (ap (line_rest r pad) e.is ∙ rest-form c pad e.row e.is_row)

pub rest-end : (r : Rules) (pad : ℕ) (t : Text) → IsLineEnd t → IsLineEnd (line_rest r pad t)
rest-end r pad t h =
    let e = ending t h in
    let c = r.comments in
    subst IsLineEnd (sym (ap (line_rest r pad) e.is ∙ rest-form c pad e.row e.is_row))
    (part-end (rest_row c pad e.row) (rest-is_row c pad e.row e.is_row))

pub rest-comments : (r : Rules) (pad : ℕ) (t : Text) → IsLineEnd t → comments (line_rest r pad t) ≡ comments t
rest-comments r pad t h =
    let e = ending t h in
    let c = r.comments in
    ap comments (ap (line_rest r pad) e.is ∙ rest-form c pad e.row e.is_row)
    ∙ comments-part (rest_row c pad e.row) (rest-is_row c pad e.row e.is_row)
    ∙ sym (ap comments e.is ∙ comments-part e.row e.is_row)
