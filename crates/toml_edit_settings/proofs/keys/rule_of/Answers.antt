-- A rule that takes the word is set to it.
use Rattle.std.proofs.Common.{◌≡◌, ℕ, false, refl, sym, true}
use Rattle.std.specs.Prelude.{Result, Ok, Err, IsOk}
use Rattle.toml_edit_fmt_laws.specs.Rules.{Rules, default_rules}
use Rattle.toml_edit_model.specs.Text.{Text}
use Rattle.toml_edit_settings.specs.Said.{sets}
use Rattle.toml_edit_settings.specs.SettingsText.{taken}
use Rattle.toml_edit_settings.specs.declared.rule.RuleFault.{RuleFault}
use Rattle.toml_edit_settings.proofs.keys.rule_of.Goals as goal

sets_taken : (pattern : Text) (at : ℕ) (name word : Text) (r : Result Rules RuleFault) → IsOk r → sets pattern name word ≡ taken pattern at name word r
sets_taken pattern at name word (Ok r) is = refl
sets_taken pattern at name word (Err fault) bad = absurd (let z : false ≡ true = bad in cc)

pub returns-in_ok-name-in-Ok : goal.returns-in_ok-name-in-Ok
returns-in_ok-name-in-Ok c =
    rw c.in_ok-pattern-in-Ok.ensures.ok (rw c.in_ok-name-in-Ok.ensures.ok (rw c.in-Some.is (sets_taken _ _ _ _ _ (rw (sym c.as_str.ensures.value) (c.in-Ok.ensures.taken default_rules)))))
