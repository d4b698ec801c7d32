-- The message about a refused file.
use Rattle.std.specs.Prelude.{◌≡◌, ◌⊎◌, ℕ, suc, ◌++◌, Option, Some, None, codes, decimal}
use Rattle.std.specs.Str.{IsUtf8}
use Rattle.toml_edit.specs.Documents.{IsRefusalIn}
use Rattle.toml_edit_error.specs.Report.{Report}
use Rattle.toml_edit_model.specs.Excerpt.{position_in}
use Rattle.toml_edit_model.specs.Text.{Text}
use Rattle.toml_edit_model.specs.Version.{Version}

-- `FILE:LINE:COLUMN: MESSAGE`, of the place where a span of the text begins, counted from 1; or
-- `FILE: MESSAGE`, where there is no span
abbrev pub said_at : Text → Text → Option (ℕ × ℕ) → Text → Text
said_at file t None message = file ++ (codes ": " ++ message)
said_at file t (Some span) message =
    let at = position_in t span.0 in
    file ++ (codes ":" ++ (decimal (suc at.line) ++ (codes ":" ++ (decimal (suc at.column)
    ++ (codes ": " ++ message)))))

-- so is what the parser reports
abbrev pub refusal_text : Text → Report → Text
refusal_text file r = said_at file r.input r.span r.message

-- the bytes of the file are not UTF-8, which is said
abbrev pub IsNotUtf8 : Text → Text → Text → Type 0
IsNotUtf8 file bytes said = ¬ (IsUtf8 bytes) × (said ≡ file ++ codes ": not UTF-8")

-- So it is; or the version refuses the text, and it is said why and where.
abbrev pub SaysRefused : Version → Text → Text → Text → Type 0
SaysRefused version file bytes said =
    IsNotUtf8 file bytes said
    ⊎ ((r : Report) × IsRefusalIn version bytes r × (said ≡ refusal_text file r))
