-- A spelling names one key, which is bare if it can be.
use Rattle.std.proofs.Common.{◌≡◌, sym, ap, subst, ◌∙◌, true, false, ◌&&◌}
use Rattle.std.specs.Prelude.{if◌then◌else◌}
use Rattle.std.specs.Cow.{cow_str_bytes}
use Rattle.std.specs.Option.{IsSomeAnd}
use Rattle.toml_edit_model.specs.DefaultSpelling.{is_bare_key}
use Rattle.toml_edit_model.specs.Spelling.{SpellsKey}
use Rattle.toml_edit_fmt.proofs.path.laid_key.Goals as goal
use Rattle.toml_edit_fmt.proofs.path.laid_key.Goals.{in_default-via-in-Some+else-can_be_bare, in_default-via-in_default}

pub returns-in-Some : goal.returns-in-Some
returns-in-Some c = λ s spells cut.
    let named = subst (λ o. IsSomeAnd o (λ n. s.key ≡ cow_str_bytes n)) c.in-Some.is
    (c.in_ok-name.ensures.only s.key (subst (SpellsKey s.key) (sym (c.text_of-text.ensures ∙ cut)) spells)) in
    let bare : is_bare_key s.key ≡ true =
    ap is_bare_key (named ∙ sym c.as_str.ensures.value) ∙ sym c.can_be_bare.ensures ∙ c.if-can_be_bare.true in
    sym named ∙ sym (ap (λ b. if b && is_bare_key s.key then s.key else s.spelled) c.if-not-page.false
    ∙ ap (λ b. if b then s.key else s.spelled) bare)

pub returns : goal.returns
returns c = λ s spells cut.
    let text = c.text_of-text.ensures ∙ cut in
    let only = c.in_ok-name.ensures.only s.key (subst (SpellsKey s.key) (sym text) spells) in
    elim c.in_default.branch [
      | in_default-via-in-Some+else-can_be_bare w ↦
          let named = subst (λ o. IsSomeAnd o (λ n. s.key ≡ cow_str_bytes n)) w.in-Some.is only in
          let bare : is_bare_key s.key ≡ false =
          ap is_bare_key (named ∙ sym w.as_str.ensures.value) ∙ sym w.can_be_bare.ensures ∙ w.if-can_be_bare.false in
          text ∙ sym (ap (λ b. if b && is_bare_key s.key then s.key else s.spelled) c.if-not-page.false
          ∙ ap (λ b. if b then s.key else s.spelled) bare)
      | in_default-via-in_default w ↦ absurd (subst (λ o. IsSomeAnd o (λ n. s.key ≡ cow_str_bytes n)) w.in_default.is only)
    ]
