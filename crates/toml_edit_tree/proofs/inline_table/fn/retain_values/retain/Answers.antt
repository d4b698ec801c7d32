-- The closure at an item that holds a value.
use Rattle.std.proofs.Common.{◌≡◌, false, MatchBool, refl, sym, subst}
use Rattle.toml_edit_tree.specs.InlineParts.{SaysOfNamed}
use Rattle.toml_edit_tree.specs.View.{item_view, value_view}
use Rattle.toml_edit_tree.proofs.RetainLaws.{value-shown}
use Rattle.toml_edit_tree.proofs.inline_table.fn.retain_values.retain.Goals as goal

pub returns-in-Some : goal.returns-in-Some
returns-in-Some g c =
    let n = item_view c.args.item.now in
    let s = value-shown n (value_view c.in-Some.value.now) c.in-Some.ensures in
    subst (λ b. MatchBool b (SaysOfNamed g.F.Fn c.captures.keep c.args.name.now n c.keep.result) (c.keep.result ≡ false)) (sym s.0) (
      c.in-Some.value.now,
      s.1,
      record {
        first = c.args.name;
        second = c.in-Some.value;
        shows = (refl, refl);
        says =
            record { met = c.keep.ensures };
      },
    )
