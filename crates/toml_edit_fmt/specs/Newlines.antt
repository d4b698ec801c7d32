-- How the lines end that are made for a text.
use Rattle.std.specs.Prelude.{◌==◌, Bool, false, ◌&&◌, if◌then◌else◌, [], ◌∷◌}
use Rattle.toml_edit_model.specs.Text.{Text, carriage_return, line_feed}
use Rattle.toml_edit_fmt_laws.specs.Rules.{Rules, default_rules}

-- the first line feed is after a CR, where there is one before the text or not
abbrev pub returns_after : Bool → Text → Bool
returns_after after [] = false
returns_after after (c ∷ cs) =
    if c == line_feed then after else returns_after (c == carriage_return) cs

-- The usual rules for a text: where its line endings are kept, lines that are made end as the first
-- does.
abbrev pub rules_for : Bool → Text → Rules
rules_for keeps t = record default_rules { returns = keeps && returns_after false t }
