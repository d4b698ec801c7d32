-- The sign is right behind the key.
use Rattle.std.proofs.Common.{◌≡◌, sym, ap, subst, ◌∙◌, List, [], ◌∷◌, codes, ◌+◌, ◌-◌, ◌++◌, length, take, drop, get_or}
use Rattle.std.specs.Prelude.{if◌then◌else◌}
use Rattle.std.specs.Str.Pattern.{GetsRange}
use Rattle.std.proofs.lemmas.List.{take_rest}
use Rattle.toml_edit_model.specs.Print.{one_space}
use Rattle.toml_edit_model.specs.Syntax.{path_text}
use Rattle.toml_edit_model.specs.Text.{Text}
use Rattle.toml_edit_laws.proofs.common.StandingLaws.{stands-left}
use Rattle.toml_edit_syntax.specs.declared.event.EventKind.TheVariants.{Equals}
use Rattle.toml_edit_syntax.specs.declared.event.Event.{Event}
use Rattle.toml_edit_syntax.specs.ValueEvents.{event}
use Rattle.toml_edit_fmt_laws.specs.Formatted.{laid_path}
use Rattle.toml_edit_fmt.specs.RulesView.{rules_of}
use Rattle.toml_edit_fmt.specs.ValueBits.{head_text}
use Rattle.toml_edit_fmt.proofs.PageLaws.{gains-both, gains-as}
use Rattle.toml_edit_fmt.proofs.PathLaws.{equals-got, no_event}
use Rattle.toml_edit_fmt.proofs.path.put_pair_head.Goals as goal

pub returns-clause-head : goal.returns-clause-head
returns-clause-head c = λ f start more path stands begins is.
    let page = c.args.page.now in
    let es = c.in_ok-rest.rest.now in
    let sign = event Equals (start + length (path_text f.path) + length f.before_equals) (codes "=") in
    let part : Text = f.before_equals ++ (codes "=" ++ f.after_equals) in
    let key = path_text (laid_path (rules_of page.rules) f.path) in
    let (left, gains) = c.in_ok-rest.ensures.path f.path start (sign ∷ more) path (stands-left page.source.now start (path_text f.path) part stands) tt is in
    let value = ap (λ (xs : List Event). take (length xs - 1) (drop 1 xs)) left ∙ take_rest (sign ∷ more) 1 in
    let gets = subst (λ xs. GetsRange page.source.now c.end_before-end.result (get_or xs 0 no_event).span.start c.get.result) value
    (subst (λ s. GetsRange s.now c.end_before-end.result (get_or (take (length es - 1) (drop 1 es)) 0 no_event).span.start c.get.result) gains.source c.get.ensures.cases) in
    let text = ap (λ b. b.now) c.unwrap_or.ensures
    ∙ equals-got page.source.now c.args.events.now more f start c.end_before-end.result c.get.result _ c.requires path stands begins sign is
    (λ xs last e. c.end_before-end.ensures xs last (e ∙ ap (λ ys. xs ++ (last ∷ ys)) (sym left))) gets in
    let as_it_is = sym (ap (λ r. r.equals) gains.rules) ∙ c.if-page.false in (
      value,
      gains-as (key ++ part) (head_text (rules_of page.rules) f) page c.put-2.new.self
          (ap (λ b. key ++ ((if b then one_space else f.before_equals) ++ (codes "=" ++ (if b then one_space else f.after_equals)))) (sym as_it_is))
          (gains-both key part page c.put_path.new.page c.put-2.new.self gains
          (gains-as c.unwrap_or.result.now part c.put_path.new.page c.put-2.new.self text c.in_ok-put-2.ensures)),
    )
