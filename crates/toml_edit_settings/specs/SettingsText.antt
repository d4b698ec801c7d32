-- What a file of settings says, key by key.
use Rattle.std.specs.Prelude.{ℕ, Bool, if◌then◌else◌, List, [], ◌++◌, Option, None, Some, Result, Ok, Err, bytes_eq, codes, flat_map, map, option_and_then}
use Rattle.std.specs.Fmt.{signed_decimal}
use Rattle.std.specs.Option.{option_map_or}
use Rattle.toml_edit_fmt_laws.specs.Rules.{Rules, default_rules}
use Rattle.toml_edit_model.specs.Lists.{item_list, slots_in}
use Rattle.toml_edit_model.specs.Scalars.{string, integer, boolean}
use Rattle.toml_edit_model.specs.Slots.{Slot}
use Rattle.toml_edit_model.specs.Text.{Text, one}
use Rattle.toml_edit_model.specs.Tree.{Key, Node, leaf}
use Rattle.toml_edit_repr.specs.Views.{range_of}
use Rattle.toml_edit_settings.specs.RuleWords.{is_rule, rule_set}
use Rattle.toml_edit_settings.specs.Said.{Said, sets, leaves_out, is_wrong}
use Rattle.toml_edit_settings.specs.declared.mistake.Mistake.{Mistake}
use Rattle.toml_edit_settings.specs.declared.mistake.Mistake.TheVariants.{NoRule, NoSuchValue, WrongKind}
use Rattle.toml_edit_settings.specs.declared.rule.RuleFault.{RuleFault}
use Rattle.toml_edit_settings.specs.declared.rule.RuleFault.TheVariants.{Name, Value}
use Rattle.toml_edit_tree.specs.Casts.{array_in, text_in}

-- where a key begins in the text
abbrev pub start_of : Key → ℕ
start_of k = option_map_or (λ r. r.start) (option_and_then range_of k.spelling) 0

-- ---- rules

-- the word that a value is for
abbrev pub switch_word : Bool → Text
switch_word on = if on then codes "on" else codes "off"

abbrev pub word_of : Node → Option Text
word_of (leaf (string t) spelling d) = Some t
word_of (leaf (integer z) spelling d) = Some (signed_decimal z)
word_of (leaf (boolean on) spelling d) = Some (switch_word on)
word_of n = None

abbrev pub mistake_of : RuleFault → Mistake
mistake_of Name = NoRule
mistake_of Value = NoSuchValue

abbrev pub kind_mistake : Text → Mistake
kind_mistake name = if is_rule name then WrongKind else NoRule

-- whether a rule takes a word does not depend on the other rules
abbrev pub taken : Text → ℕ → Text → Text → Result Rules RuleFault → Said
taken pattern at name word (Ok rules) = sets pattern name word
taken pattern at name word (Err fault) = is_wrong at (mistake_of fault)

abbrev pub said_of : Text → ℕ → Text → Option Text → Said
said_of pattern at name None = is_wrong at (kind_mistake name)
said_of pattern at name (Some word) = taken pattern at name word (rule_set name word default_rules)

abbrev pub rule_said : Text → Slot Node → Said
rule_said pattern s = said_of pattern (start_of s.key) s.key.name (word_of s.item)

-- ---- tables

abbrev pub wrong_kind : Slot Node → List Said
wrong_kind s = one (is_wrong (start_of s.key) WrongKind)

-- what the keys in its value say, which is a table
abbrev pub said_inside : (List (Slot Node) → List Said) → Slot Node → List Said
said_inside says s = option_map_or says (slots_in s.item) (wrong_kind s)

-- the rules for the files that match the key, and those below the key `paths`
abbrev pub rules_said : Slot Node → List Said
rules_said s = said_inside (map (rule_said s.key.name)) s

abbrev pub paths_said : Slot Node → List Said
paths_said s = said_inside (flat_map rules_said) s

-- the patterns of files that are left out
abbrev pub left_out : Slot Node → Node → Said
left_out s n = option_map_or leaves_out (text_in n) (is_wrong (start_of s.key) WrongKind)

abbrev pub exclude_said : Slot Node → List Said
exclude_said s = option_map_or (λ a. map (left_out s) (item_list a.items)) (array_in s.item) (wrong_kind s)

-- ---- a file

abbrev pub general_said : Slot Node → List Said
general_said s =
    if bytes_eq s.key.name (codes "exclude") then exclude_said s
    else (if bytes_eq s.key.name (codes "paths") then []
    else one (rule_said (codes "**") s))

abbrev pub own_said : Slot Node → List Said
own_said s = if bytes_eq s.key.name (codes "paths") then paths_said s else []

-- what is said for all files, and then for those of patterns
abbrev pub said_in : List (Slot Node) → List Said
said_in es = flat_map general_said es ++ flat_map own_said es
