-- Whether a rule takes a value does not depend on the rules.
use Rattle.std.proofs.Common.{◌≡◌, refl, Option, Some, None, true, false}
use Rattle.std.specs.Prelude.{Err, IsOk, Ok, is_some, ok_or, option_map}
use Rattle.toml_edit_fmt_laws.specs.Rules.{Rules}
use Rattle.toml_edit_model.specs.Text.{Text}
use Rattle.toml_edit_settings.specs.RuleWords.{set_named, with_rule}
use Rattle.toml_edit_settings.specs.declared.rule.Rule.{Rule}
use Rattle.toml_edit_settings.specs.declared.rule.Rule.TheVariants as rules
use Rattle.toml_edit_settings.specs.declared.rule.RuleFault.{RuleFault}
use Rattle.toml_edit_settings.specs.declared.rule.RuleFault.TheVariants.{Value}

known : {A : Type 0} (v : Option A) (f g : A → Rules) → is_some (option_map f v) ≡ is_some (option_map g v)
known None f g = refl
known (Some x) f g = refl

same : (rule : Rule) (w : Text) (r s : Rules) → is_some (with_rule rule w r) ≡ is_some (with_rule rule w s)
same rules.Equals w r s = known _ _ _
same rules.Dots w r s = known _ _ _
same rules.Comments w r s = known _ _ _
same rules.BlankLines w r s = known _ _ _
same rules.Indentation w r s = known _ _ _
same rules.Indent w r s = known _ _ _
same rules.Arrays w r s = known _ _ _
same rules.Rows w r s = known _ _ _
same rules.Commas w r s = known _ _ _
same rules.BracketSpace w r s = known _ _ _
same rules.BraceSpace w r s = known _ _ _
same rules.Width w r s = known _ _ _
same rules.InlineTables w r s = known _ _ _
same rules.BareKeys w r s = known _ _ _
same rules.LeftAlone w r s = known _ _ _

pub taken : (o : Option Rule) (w : Text) (r s x : Rules) → set_named o w r ≡ Ok x → IsOk (set_named o w s)
taken None w r s x is = absurd cc
taken (Some rule) w r s x is = by (with_rule rule w r) (with_rule rule w s) (same rule w r s) is
  where
    by : (a b : Option Rules) → is_some a ≡ is_some b → ok_or a Value ≡ Ok x → IsOk (ok_or b Value)
    by None b alike is = absurd cc
    by (Some y) None alike is = absurd (let e : true ≡ false = alike in cc)
    by (Some y) (Some z) alike is = refl

pub refused : (o : Option Rule) (w : Text) (r s : Rules) (e : RuleFault) → set_named o w r ≡ Err e → set_named o w s ≡ Err e
refused None w r s e is = is
refused (Some rule) w r s e is = by (with_rule rule w r) (with_rule rule w s) (same rule w r s) is
  where
    by : (a b : Option Rules) → is_some a ≡ is_some b → ok_or a Value ≡ Err e → ok_or b Value ≡ Err e
    by None None alike is = is
    by None (Some z) alike is = absurd (let e : false ≡ true = alike in cc)
    by (Some y) b alike is = absurd cc
