-- A value inside of several lines is further in, and one of an array may be broken there.
use Rattle.std.proofs.Common.{sym, ◌∙◌, add-one}
use Rattle.toml_edit_fmt.specs.RulesView.{rules_of}
use Rattle.toml_edit_fmt.proofs.ValueLaws.{indent-counted, stands-closed, stands-open}
use Rattle.toml_edit_fmt.proofs.value.Brackets.place.Goals as goal

pub returns : goal.returns
returns c =
    let list = c.args.self.now in
    let r = rules_of c.args.rules.now in
    stands-open list.layout list.is_array r list.depth _ _ (sym c.is_open.ensures ∙ c.if-not-is_open.false) (add-one list.depth)
    (indent-counted r _ _ c.checked_mul.ensures)

pub returns-then-not-is_open : goal.returns-then-not-is_open
returns-then-not-is_open c =
    stands-closed c.args.self.now.layout c.args.self.now.is_array (rules_of c.args.rules.now) _ (sym c.is_open.ensures ∙ c.if-not-is_open.true)
