-- The options of a command, and its other words.
use Rattle.std.specs.Prelude.{◌≡◌, ◌==◌, ◌-◌, ◌<◌, nat_eq, nat_lt, ℕ, Bool, true, false, not, ◌&&◌, ◌||◌, if◌then◌else◌, List, [], ◌∷◌, ◌++◌, map, Option, Some, None, is_none, is_some, option_and_then, bytes_eq, codes, drop}
use Rattle.std.specs.List.{starts_with}
use Rattle.std.specs.Option.{option_copied, option_map_or}
use Rattle.toml_edit_model.specs.Text.{Text, is_empty}
use Rattle.toml_edit_edits.specs.Said.{operands, verb_of}
use Rattle.toml_edit_settings.specs.RuleWords.{is_rule}
use Rattle.toml_edit_files.specs.Folders.{is_stream}
use Rattle.toml_edit_files.specs.declared.help.Topic.{Topic}
use Rattle.toml_edit_files.specs.declared.help.Topic.TheVariants.{Get, Edit, Keys, Check, Fmt}
use Rattle.toml_edit_files.specs.declared.split.Split.{Split}

-- ---- options

-- the name of the rule that an option sets, behind two dashes
abbrev pub rule_of : Text → Option Text
rule_of w =
    if starts_with nat_eq w (codes "--") && is_rule (drop 2 w) then Some (drop 2 w) else None

-- a word is an option of the command that takes no operand, or one that takes one
abbrev pub is_flag : Topic → Text → Bool
is_flag Get w = bytes_eq w (codes "--raw") || bytes_eq w (codes "--lines")
is_flag Keys w = bytes_eq w (codes "--all")
is_flag Edit w =
    bytes_eq w (codes "--dry-run") || bytes_eq w (codes "--diff") || bytes_eq w (codes "--locked")
    || bytes_eq w (codes "--force")
is_flag Fmt w =
    bytes_eq w (codes "--check") || bytes_eq w (codes "--diff") || bytes_eq w (codes "--keys")
    || bytes_eq w (codes "--force")
is_flag _ w = false

abbrev pub takes_operand : Topic → Text → Bool
takes_operand Get w = bytes_eq w (codes "--default")
takes_operand Edit w = bytes_eq w (codes "--script") || bytes_eq w (codes "--output")
takes_operand Fmt w = bytes_eq w (codes "--sort") || is_some (rule_of w)
takes_operand _ w = false

-- a word is written as an option
abbrev pub is_option : Text → Bool
is_option w = starts_with nat_eq w (codes "-") && not (is_stream w)

-- the command has no operand that is written so; of the others the first one, a file, is none
abbrev pub checks_all : Topic → Bool
checks_all Check = true
checks_all Fmt = true
checks_all Edit = true
checks_all _ = false

-- ---- one word after another

-- The words that are read: options with their operands, and the other words; the option that takes
-- the next word; how many words of an edit are left; and whether `--` has ended the options.
pub record Words : Type 0 where
  pub options : List (Text × Text)
  pub operands : List Text
  pub pending : Option Text
  pub left : ℕ
  pub ended : Bool

abbrev pub no_words : Words
no_words = record { options = []; operands = []; pending = None; left = 0; ended = false }

-- the words that are read
abbrev pub split_of : Split → Words
split_of s = record {
  options = map (λ o. (o.0.now, o.1.now)) s.options.items;
  operands = map (λ w. w.now) s.operands.items;
  pending = option_copied s.pending;
  left = s.left;
  ended = s.ended;
}

-- how many words after this one are of the same edit
abbrev pub following : Topic → Bool → Text → ℕ
following Edit false w = option_map_or operands (verb_of w) 0
following _ is_file w = 0

-- the next word is no option, whatever it is
abbrev pub is_plain : Words → Bool
is_plain s = s.ended || nat_lt 0 s.left

module _ (topic : Topic) where
  -- a word that is written as an option is to be one
  abbrev pub is_refused : Words → Text → Bool
  is_refused s w = is_option w && (is_empty s.operands || checks_all topic)

  -- a word that may be an option
  abbrev pub begins : Words → Text → Option Words
  begins s w =
      if bytes_eq w (codes "--") then Some (record s { ended = true })
      else (if is_flag topic w then Some (record s { options = s.options ++ ((w, []) ∷ []) })
      else (if takes_operand topic w then Some (record s { pending = Some w })
      else (if is_refused s w then None
      else Some (record s {
        operands = s.operands ++ (w ∷ []);
        left = following topic (is_empty s.operands) w;
      }))))

  abbrev pub takes : Words → Text → Option Text → Bool → Option Words
  takes s w (Some name) plain =
      Some (record s { options = s.options ++ ((name, w) ∷ []); pending = None })
  takes s w None true = Some (record s { operands = s.operands ++ (w ∷ []); left = s.left - 1 })
  takes s w None false = begins s w

  -- the next word is taken, unless no option has its name
  abbrev pub step : Words → Text → Option Words
  step s w = takes s w s.pending (is_plain s)

  abbrev pub steps : Words → List Text → Option Words
  steps s [] = if is_none s.pending then Some s else None
  steps s (w ∷ ws) = option_and_then (λ next. steps next ws) (step s w)

  -- all words, of which no option lacks its operand
  abbrev pub split_words : List Text → Option Words
  split_words ws = steps no_words ws

-- ---- the options that there are

-- the last operand of an option
abbrev pub last_from : Option Text → Text → List (Text × Text) → Option Text
last_from last name [] = last
last_from last name (o ∷ os) = last_from (if bytes_eq o.0 name then Some o.1 else last) name os

abbrev pub last_of : Text → List (Text × Text) → Option Text
last_of = last_from None

abbrev pub has : Text → List (Text × Text) → Bool
has name os = is_some (last_of name os)
