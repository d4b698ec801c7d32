-- The lines of an array in rows begin after their indentation, whose columns can be counted or not.
use Rattle.std.proofs.Common.{◌≡◌, ◌+◌, ◌*◌, ◌<◌, ◌^◌, ℕ, Option, ap, sym, ◌∙◌, add-one, Bool, suc, length, rules}
use Rattle.std.specs.Option.{SomeIff}
use Rattle.toml_edit_fmt_laws.specs.Rules.{Rules, units}
use Rattle.toml_edit_fmt_laws.specs.Formatted.{line_by_line, rows_if}
use Rattle.toml_edit_fmt.specs.RulesView.{rules_of}
use Rattle.toml_edit_fmt.specs.ValueBits.{counted}
use Rattle.toml_edit_fmt.specs.ValueView.{layout_of}
use Rattle.toml_edit_fmt.specs.declared.value.Layout.{Layout}
use Rattle.toml_edit_fmt.specs.declared.value.Layout.TheVariants.{LineByLine}
use Rattle.toml_edit_fmt.proofs.ValueLaws.{indent-counted}
use Rattle.toml_edit_fmt.proofs.value.with_rows.Goals as goal

further-in : (r : Rules) (depth : ℕ) (indent : Option ℕ) → SomeIff indent ((depth + 1) * r.unit < 2 ^ 64) ((depth + 1) * r.unit)
    → indent ≡ counted (length (units r (suc depth)))
further-in r depth indent h = indent-counted r (depth + 1) indent h ∙ ap (λ n. counted (length (units r n))) (add-one depth)

rows-as : (l : Layout) (found b is : Bool) → l ≡ LineByLine → found ≡ is → found ≡ b
    → rows_if is line_by_line ≡ rows_if b (layout_of l)
rows-as l found b is line e f = ap (λ k. rows_if k line_by_line) (sym e ∙ f) ∙ ap (λ k. rows_if b (layout_of k)) (sym line)

pub returns-then-is_in_rows : goal.returns-then-is_in_rows
returns-then-is_in_rows c = λ es comma t start more are stands e.
    let indent = further-in (rules_of c.args.page.now.rules) c.args.depth _ c.checked_mul-indent.ensures in
    rows-as c.args.layout _ _ _ (search rules) c.if-is_in_rows.true
    (c.is_in_rows.ensures es comma t start c.args.depth more are stands e indent (search rules))

pub returns-else-is_in_rows : goal.returns-else-is_in_rows
returns-else-is_in_rows c = λ es comma t start more are stands e.
    let indent = further-in (rules_of c.args.page.now.rules) c.args.depth _ c.checked_mul-indent.ensures in
    let line : c.args.layout ≡ LineByLine = search rules in
    ap layout_of line ∙ rows-as c.args.layout _ _ _ line c.if-is_in_rows.false
    (c.is_in_rows.ensures es comma t start c.args.depth more are stands e indent (search rules))
