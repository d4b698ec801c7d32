-- What is left of the key is written after each part of it.
use Rattle.std.proofs.Common.{◌≡◌, refl, sym, ap, subst, ◌∙◌, rules, arith, ◌-◌, ◌++◌, length, take, drop, get_or, string_bytes}
use Rattle.std.proofs.lemmas.List.{length-drop, take_rest}
use Rattle.toml_edit_model.specs.OwnedForm.{cut_out}
use Rattle.toml_edit_model.specs.Syntax.{path_text}
use Rattle.toml_edit_syntax.specs.LateEvents.{AreIn}
use Rattle.toml_edit_fmt_laws.specs.Formatted.{laid_path, laid_spelling}
use Rattle.toml_edit_fmt.specs.RulesView.{rules_of}
use Rattle.toml_edit_fmt.proofs.PathLaws.{Writes, in-more, no_event, key-next, none-next, other-next, path-writes}
use Rattle.toml_edit_fmt.proofs.path.put_path.Goals as goal

pub returns-in_default-kind : goal.returns-in_default-kind
returns-in_default-kind c =
    let page = c.args.page.now in
    let r = rules_of page.rules in
    record {
      path = λ p start more path stands none is.
          let all = string_bytes page.text ++ path_text (laid_path r p) in
          let e = other-next page.source.now r more all c.keys.rest.now (string_bytes c.keys.page.text) c.in-len1-up.len_at_least
          c.in_default-kind.not-Key c.in_default-kind.not-BeforeDot c.in_default-kind.not-AfterDot
          (c.keys.invariant.left more all (subst (λ es. Writes page.source.now r more all es (string_bytes page.text)) (sym is)
          (path-writes page.source.now r more all p start (string_bytes page.text) path stands none refl))) in
          (e.1, record { source = c.keys.invariant.source; rules = c.keys.invariant.rules; text = e.0; run = c.keys.invariant.run });
      rest = search rules;
    }

pub returns-clause-path : goal.returns-clause-path
returns-clause-path c = λ p start more path stands none is.
    let page = c.args.page.now in
    let r = rules_of page.rules in
    let all = string_bytes page.text ++ path_text (laid_path r p) in
    let e = none-next page.source.now r more all c.keys.rest.now (string_bytes c.keys.page.text) c.in_default.len_below
    (c.keys.invariant.left more all (subst (λ es. Writes page.source.now r more all es (string_bytes page.text)) (sym is)
    (path-writes page.source.now r more all p start (string_bytes page.text) path stands none refl))) in
    (e.1, record { source = c.keys.invariant.source; rules = c.keys.invariant.rules; text = e.0; run = c.keys.invariant.run })

pub keys-preserved-in_ok-put-in-Key : goal.keys-preserved-in_ok-put-in-Key
keys-preserved-in_ok-put-in-Key c =
    let page = c.args.page.now in
    let es = c.keys.rest.now in
    let gains = c.in_ok-put-in-Key.ensures in
    let inv = c.keys.invariant in
    record {
      spans = subst (λ s. AreIn s.now (take (length es - 1) (drop 1 es))) (sym gains.source) (in-more c.keys.page.source.now es inv.spans);
      shorter = omega (arith, ap length (take_rest es 1), length-drop 1 es);
      source = gains.source ∙ inv.source;
      rules = gains.rules ∙ inv.rules;
      run = gains.run ∙ inv.run;
      left = λ more all h.
          key-next page.source.now (rules_of page.rules) more all es (string_bytes c.keys.page.text) c.as_str.result.now
          (string_bytes c.put.new.self.text) c.in-len1-up.len_at_least c.in-Key.is
          (λ s spells cut. c.as_str.ensures.value
          ∙ c.in_ok-key-in-Key.ensures s spells (ap (λ t. cut_out t.now (get_or es 0 no_event).span.start (get_or es 0 no_event).span.end) inv.source ∙ cut)
          ∙ ap (λ r. laid_spelling (rules_of r) s) inv.rules)
          gains.text (inv.left more all h);
    }
