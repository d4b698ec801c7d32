-- What the keys of a file of settings say, and what it makes of the rules for a file.
use Rattle.std.specs.Prelude.{ℕ, Bool, false, nat_le, if◌then◌else◌, List, Option, None, Some, fold}
use Rattle.std.specs.List.{list_any}
use Rattle.std.specs.Option.{option_map_or}
use Rattle.toml_edit_fmt_laws.specs.Rules.{Rules}
use Rattle.toml_edit_model.specs.Text.{Text}
use Rattle.toml_edit_settings.specs.Patterns.{matches}
use Rattle.toml_edit_settings.specs.RuleWords.{set_or_same}
use Rattle.toml_edit_settings.specs.declared.mistake.Mistake.{Mistake}

-- A key says that files whose path matches a pattern have a rule of this name and value, or that those
-- are left out, or it is wrong and begins at this byte.
pub data Said : Type 0 where
  sets : Text → Text → Text → Said
  leaves_out : Text → Said
  is_wrong : ℕ → Mistake → Said

-- the rules for the file of a path, one after another
abbrev pub set_where : Text → Rules → Said → Rules
set_where path r (sets pattern name word) =
    if matches pattern path then set_or_same name word r else r
set_where path r (leaves_out pattern) = r
set_where path r (is_wrong at why) = r

abbrev pub rules_at : List Said → Text → Rules → Rules
rules_at said path r = fold (set_where path) r said

-- whether the file of a path is left out
abbrev pub leaves_out_at : Text → Said → Bool
leaves_out_at path (leaves_out pattern) = matches pattern path
leaves_out_at path (sets pattern name word) = false
leaves_out_at path (is_wrong at why) = false

abbrev pub excludes : List Said → Text → Bool
excludes said path = list_any (leaves_out_at path) said

-- what is wrong and begins first
abbrev pub earlier : Option (ℕ × Mistake) → Said → Option (ℕ × Mistake)
earlier first (is_wrong at why) =
    Some (option_map_or (λ w. if nat_le w.0 at then w else (at, why)) first (at, why))
earlier first (sets pattern name word) = first
earlier first (leaves_out pattern) = first

abbrev pub first_mistake : List Said → Option (ℕ × Mistake)
first_mistake said = fold earlier None said
