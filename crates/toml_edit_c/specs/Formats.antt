-- The formatted text.
use Rattle.std.specs.Prelude.{◌≡◌, ℕ, Some}
use Rattle.toml_edit.specs.Documents.{opens}
use Rattle.toml_edit_fmt.specs.Newlines.{rules_for}
use Rattle.toml_edit_fmt.specs.TextView.{IsFormatted}
use Rattle.toml_edit_fmt_laws.specs.Rules.{Rules}
use Rattle.toml_edit_model.specs.Mode.{Mode, is_exact}
use Rattle.toml_edit_model.specs.Print.{print_in}
use Rattle.toml_edit_model.specs.Syntax.{Document}
use Rattle.toml_edit_model.specs.Text.{Text}
use Rattle.toml_edit_model.specs.Tree.{Tree}
use Rattle.toml_edit_model.specs.Version.{Version}
use Rattle.toml_edit_command.specs.Written.{IsReadAs}
use Rattle.toml_edit_c.specs.Asks.{options_by}

-- the usual rules for the text, with its newlines where the mode keeps them
abbrev pub rules_in : Mode → Text → Rules
rules_in mode text = rules_for (is_exact mode) text

-- The text is read, and the print of its tree is formatted: that means the same, has the same
-- comments, each with what it belongs to, and formatted again it stays.
pub record IsFormattedOf (how : Mode × Version) (text x : Text) : Type 0 where
  pub document : Document
  pub tree : Tree
  pub read : IsReadAs how.0 how.1 text document tree
  pub made : IsFormatted (rules_in how.0 text) (print_in how.0 (opens how.0 document) tree) x

-- ---- by the flags

abbrev pub IsFormattedBy : ℕ → Text → Text → Type 0
IsFormattedBy flags text x =
    (how : Mode × Version) × (options_by flags ≡ Some how) × IsFormattedOf how text x
