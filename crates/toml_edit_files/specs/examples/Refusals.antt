-- Worked messages about files that are refused.
use Rattle.std.specs.Prelude.{◌≡◌, ◌++◌, refl, None, Some, codes}
use Rattle.std.specs.Fmt.{digits}
use Rattle.toml_edit_model.specs.Text.{newline}
use Rattle.toml_edit_files.specs.Notes.{note_text, unnamed}
use Rattle.toml_edit_files.specs.Refusals.{said_at}

-- the fifth character of the second line
at-a-place : said_at (codes "f.toml") (codes "a = 1\nb = \n") (Some (10, 11)) (codes "missing value")
    ≡ codes "f.toml:2:5: missing value"
unfolding digits
at-a-place = refl

at-no-place : said_at (codes "f") (codes "a = 1") None (codes "refused") ≡ codes "f: refused"
at-no-place = refl

a-line : unnamed (note_text (codes "f: not UTF-8")) ≡ codes "f: not UTF-8" ++ newline
a-line = refl
