-- What the text spells is what was decoded.
use Rattle.std.proofs.Common.{◌≡◌, length, string_bytes, ap, sym, subst, ◌∙◌, rules}
use Rattle.std.specs.Prelude.{option_map}
use Rattle.toml_edit_key.specs.Keys.{spanned_key}
use Rattle.toml_edit_model.specs.OwnedForm.{KeyFits, owned_key, owned_raw}
use Rattle.toml_edit_model.specs.Spelling.{SpellsKey}
use Rattle.toml_edit_model.specs.Text.{Text}
use Rattle.toml_edit_model.specs.Tree.{Key, HasTrueSpelling, unset}
use Rattle.toml_edit_parser.specs.ReadKeys.{lone_key}
use Rattle.toml_edit_parser.proofs.LoneKeyLaws.{whole-becomes}
use Rattle.toml_edit_parser.proofs.lone_keys.KeyFromStr.from_str.Goals as goal

pub with_texts-requires-clause-fits : goal.with_texts-requires-clause-fits
with_texts-requires-clause-fits c =
    let t = c.args.text.now in
    let name = string_bytes c.in-Some.name in
    let made : c.spanned-key.result ≡ spanned_key name 0 (length t) unset unset = search rules in
    subst (λ (k : Key). KeyFits t k) (sym made) (whole-becomes t name c.utf8.text (search rules)).fits

pub with_texts-requires-clause-spelled : goal.with_texts-requires-clause-spelled
with_texts-requires-clause-spelled c =
    let t = c.args.text.now in
    let name = string_bytes c.in-Some.name in
    let made : c.spanned-key.result ≡ spanned_key name 0 (length t) unset unset = search rules in
    ∣ subst (λ (k : Key). HasTrueSpelling (SpellsKey k.name) (option_map (owned_raw t) k.spelling)) (sym made)
    (whole-becomes t name c.utf8.text (search rules)).spelled ∣₁

pub returns-in_ok-with_texts-in-Some-clause-every : goal.returns-in_ok-with_texts-in-Some-clause-every
returns-in_ok-with_texts-in-Some-clause-every c =
    λ k spells.
    let t = c.args.text.now in
    let name = string_bytes c.in-Some.name in
    let made : c.spanned-key.result ≡ spanned_key name 0 (length t) unset unset = search rules in
    let is : k ≡ name = rw c.in-Some.is at c.in_ok-name.ensures.only k spells in
    c.in_ok-with_texts-in-Some.ensures ∙ ap (owned_key t) made ∙ (whole-becomes t name c.utf8.text (search rules)).owned_is
    ∙ ap (λ (n : Text). lone_key n t) (sym is)

pub returns-in-None-clause-every : goal.returns-in-None-clause-every
returns-in-None-clause-every c = λ k spells. absurd (rw c.in-None.is at c.in_ok-name.ensures.only k spells)
