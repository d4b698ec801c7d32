-- What is reported of a text.
use Rattle.std.specs.Prelude.{◌≡◌, ◌⊎◌, []}
use Rattle.toml_edit.specs.Documents.{IsOwnedReading}
use Rattle.toml_edit.specs.error.Report.{Report}
use Rattle.toml_edit.specs.model.Excerpt.{excerpt}
use Rattle.toml_edit.specs.model.Text.{Text}
use Rattle.toml_edit.specs.model.Tree.{Tree}
use Rattle.toml_edit.specs.Documents.{IsRefusal}

-- nothing of a text that is read, and else the excerpt of a refusal
abbrev pub Reports : Text → Text → Type 0
Reports t said =
    ((x : Tree) × IsOwnedReading t x × (said ≡ []))
    ⊎ ((r : Report) × IsRefusal t r × (said ≡ excerpt r.input r.span r.message))
