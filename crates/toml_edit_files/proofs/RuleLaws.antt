-- The rules that options set.
use Rattle.std.proofs.Common.{◌≡◌, ◌∙◌, sym, ap, true, false, List, [], ◌∷◌, ◌++◌, append_assoc, append-nil, Option, Some, None}
use Rattle.std.specs.Prelude.{◌&&◌, is_ok, option_map, option_to_list}
use Rattle.toml_edit_fmt_laws.specs.Rules.{default_rules}
use Rattle.toml_edit_model.specs.Text.{Text}
use Rattle.toml_edit_settings.specs.RuleWords.{IsRefusedByAll, IsTakenByAll, is_taken}
use Rattle.toml_edit_settings.specs.declared.rule.RuleFault.{RuleFault}
use Rattle.toml_edit_files.specs.Requests.{are_taken, rules_in}
use Rattle.toml_edit_files.specs.Split.{rule_of}

-- these are set by options, and others by the options to come
abbrev pub Sets : List (Text × Text) → List (Text × Text) → List (Text × Text) → Type 0
Sets all got os = (rules_in all ≡ got ++ rules_in os) × (are_taken (rules_in all) ≡ are_taken (rules_in os))

pub taken-by : (name w : Text) → IsTakenByAll name w → is_taken name w ≡ true
taken-by name w h = h default_rules

pub refused-by : (name w : Text) (fault : RuleFault) → IsRefusedByAll name w fault → is_taken name w ≡ false
refused-by name w fault h = ap is_ok (h default_rules)

module _ (o : Text × Text) (os : List (Text × Text)) where
  rules-none : rule_of o.0 ≡ None → rules_in (o ∷ os) ≡ rules_in os
  rules-none is = ap (λ r. option_to_list (option_map (λ name. (name, o.1)) r) ++ rules_in os) is

  rules-some : (name : Text) → rule_of o.0 ≡ Some name → rules_in (o ∷ os) ≡ (name, o.1) ∷ rules_in os
  rules-some name is = ap (λ r. option_to_list (option_map (λ name. (name, o.1)) r) ++ rules_in os) is

  module _ (all got : List (Text × Text)) (h : Sets all got (o ∷ os)) where
    pub sets-none : rule_of o.0 ≡ None → Sets all got os
    sets-none is = (h.0 ∙ ap (λ l. got ++ l) (rules-none is), h.1 ∙ ap are_taken (rules-none is))

    pub sets-one : (name : Text) → rule_of o.0 ≡ Some name → is_taken name o.1 ≡ true → Sets all (got ++ ((name, o.1) ∷ [])) os
    sets-one name is taken = (
      h.0 ∙ ap (λ l. got ++ l) (rules-some name is) ∙ sym (append_assoc got ((name, o.1) ∷ []) (rules_in os)),
      h.1 ∙ ap are_taken (rules-some name is) ∙ ap (λ b. b && are_taken (rules_in os)) taken,
    )

    pub sets-wrong : (name : Text) → rule_of o.0 ≡ Some name → is_taken name o.1 ≡ false → are_taken (rules_in all) ≡ false
    sets-wrong name is wrong = h.1 ∙ ap are_taken (rules-some name is) ∙ ap (λ b. b && are_taken (rules_in os)) wrong

pub sets-all : (all got : List (Text × Text)) → Sets all got [] → (got ≡ rules_in all) × (are_taken (rules_in all) ≡ true)
sets-all all got h = (sym (h.0 ∙ append-nil got), h.1)
