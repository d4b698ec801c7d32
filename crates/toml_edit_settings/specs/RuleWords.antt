-- The words for rules: a name, and a value that is `on`, `off`, a number or another word.
use Rattle.std.specs.Prelude.{ℕ, ◌≡◌, ◌==◌, nat_lt, Bool, true, false, not, is_ok, is_some, IsOk, ◌&&◌, ◌||◌, if◌then◌else◌, List, [], ◌∷◌, Option, Some, None, Result, Err, ok_or, option_map, bytes_eq, codes}
use Rattle.std.specs.Result.{result_unwrap_or}
use Rattle.std.specs.Str.{all_ascii_digits}
use Rattle.std.specs.Str.Parse.{digits_value}
use Rattle.toml_edit_model.specs.Text.{Text, is_empty}
use Rattle.toml_edit_fmt_laws.specs.Rules as laws
use Rattle.toml_edit_fmt_laws.specs.Rules.{Rules}
use Rattle.toml_edit_settings.specs.declared.rule.Rule.{Rule}
use Rattle.toml_edit_settings.specs.declared.rule.Rule.TheVariants as rules
use Rattle.toml_edit_settings.specs.declared.rule.RuleFault.{RuleFault}
use Rattle.toml_edit_settings.specs.declared.rule.RuleFault.TheVariants.{Name, Value}

-- ---- names

abbrev pub rule_named : Text → Option Rule
rule_named w =
    if bytes_eq w (codes "equals") then Some rules.Equals
    else (if bytes_eq w (codes "dots") then Some rules.Dots
    else (if bytes_eq w (codes "comments") then Some rules.Comments
    else (if bytes_eq w (codes "blank-lines") then Some rules.BlankLines
    else (if bytes_eq w (codes "indentation") then Some rules.Indentation
    else (if bytes_eq w (codes "indent") then Some rules.Indent
    else (if bytes_eq w (codes "arrays") then Some rules.Arrays
    else (if bytes_eq w (codes "rows") then Some rules.Rows
    else (if bytes_eq w (codes "commas") then Some rules.Commas
    else (if bytes_eq w (codes "bracket-space") then Some rules.BracketSpace
    else (if bytes_eq w (codes "brace-space") then Some rules.BraceSpace
    else (if bytes_eq w (codes "width") then Some rules.Width
    else (if bytes_eq w (codes "inline-tables") then Some rules.InlineTables
    else (if bytes_eq w (codes "bare-keys") then Some rules.BareKeys
    else (if bytes_eq w (codes "left-alone") then Some rules.LeftAlone
    else None))))))))))))))

abbrev pub is_rule : Text → Bool
is_rule w = is_some (rule_named w)

-- ---- values

abbrev pub is_on : Text → Option Bool
is_on w =
    if bytes_eq w (codes "on") then Some true
    else (if bytes_eq w (codes "off") then Some false else None)

-- a plus is in front, or a zero before something else
abbrev pub is_padded : Text → Bool
is_padded [] = false
is_padded (c ∷ []) = c == 43
is_padded (c ∷ (d ∷ t)) = c == 43 || c == 48

-- decimal digits, without a sign or a needless zero, for a number below 256
abbrev pub is_number : Text → Bool
is_number w =
    not (is_padded w) && not (is_empty w) && all_ascii_digits w && nat_lt (digits_value 10 w) 256

abbrev pub number_of : Text → Option ℕ
number_of w = if is_number w then Some (digits_value 10 w) else None

-- a number, or no limit
abbrev pub limit_of : Text → Option (Option ℕ)
limit_of w = if bytes_eq w (codes "off") then Some None else option_map Some (number_of w)

abbrev pub comments_named : Text → Option laws.Comments
comments_named w =
    if bytes_eq w (codes "off") then Some laws.as_they_are
    else (if bytes_eq w (codes "aligned") then Some (laws.aligned 1)
    else option_map laws.apart (number_of w))

abbrev pub indentation_named : Text → Option laws.Indentation
indentation_named w =
    if bytes_eq w (codes "off") then Some laws.as_it_is
    else (if bytes_eq w (codes "flush") then Some laws.flush
    else (if bytes_eq w (codes "depth") then Some laws.by_depth else None))

abbrev pub arrays_named : Text → Option laws.Arrays
arrays_named w =
    if bytes_eq w (codes "off") then Some laws.arrays_stay
    else (if bytes_eq w (codes "kept") then Some laws.kept
    else (if bytes_eq w (codes "collapsed") then Some laws.collapsed else None))

abbrev pub commas_named : Text → Option laws.Commas
commas_named w =
    if bytes_eq w (codes "off") then Some laws.commas_stay
    else (if bytes_eq w (codes "always") then Some laws.always
    else (if bytes_eq w (codes "never") then Some laws.never else None))

-- ---- rules that are set

-- the rules with this one set to the value, if it takes that
abbrev pub with_rule : Rule → Text → Rules → Option Rules
with_rule rules.Equals w r = option_map (λ v. record r { equals = v }) (is_on w)
with_rule rules.Dots w r = option_map (λ v. record r { dots = v }) (is_on w)
with_rule rules.Comments w r = option_map (λ v. record r { comments = v }) (comments_named w)
with_rule rules.BlankLines w r = option_map (λ v. record r { blank_lines = v }) (limit_of w)
with_rule rules.Indentation w r =
    option_map (λ v. record r { indentation = v }) (indentation_named w)
with_rule rules.Indent w r = option_map (λ v. record r { unit = v }) (number_of w)
with_rule rules.Arrays w r = option_map (λ v. record r { arrays = v }) (arrays_named w)
with_rule rules.Rows w r = option_map (λ v. record r { rows = v }) (is_on w)
with_rule rules.Commas w r = option_map (λ v. record r { commas = v }) (commas_named w)
with_rule rules.BracketSpace w r = option_map (λ v. record r { bracket_space = v }) (is_on w)
with_rule rules.BraceSpace w r = option_map (λ v. record r { brace_space = v }) (is_on w)
with_rule rules.Width w r = option_map (λ v. record r { width = v }) (limit_of w)
with_rule rules.InlineTables w r = option_map (λ v. record r { inline_tables = v }) (is_on w)
with_rule rules.BareKeys w r = option_map (λ v. record r { keys = v }) (is_on w)
with_rule rules.LeftAlone w r = option_map (λ v. record r { left_alone = v }) (is_on w)

abbrev pub set_named : Option Rule → Text → Rules → Result Rules RuleFault
set_named None w r = Err Name
set_named (Some rule) w r = ok_or (with_rule rule w r) Value

-- the rules with the one of this name set
abbrev pub rule_set : Text → Text → Rules → Result Rules RuleFault
rule_set name w r = set_named (rule_named name) w r

-- all rules take it, or refuse it so
abbrev pub IsTakenByAll : Text → Text → Type 0
IsTakenByAll name w = (r : Rules) → IsOk (rule_set name w r)

abbrev pub IsRefusedByAll : Text → Text → RuleFault → Type 0
IsRefusedByAll name w fault = (r : Rules) → rule_set name w r ≡ Err fault

-- the rule of this name takes the value
abbrev pub is_taken : Text → Text → Bool
is_taken name w = is_ok (rule_set name w laws.default_rules)

abbrev pub set_or_same : Text → Text → Rules → Rules
set_or_same name w r = result_unwrap_or (rule_set name w r) r

-- the rules with each set that takes its value, one after another
abbrev pub rules_by : List (Text × Text) → Rules → Rules
rules_by [] r = r
rules_by (s ∷ ss) r = rules_by ss (set_or_same s.0 s.1 r)
