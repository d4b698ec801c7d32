-- One name more, or no more names.
use Rattle.std.proofs.Common.{◌≡◌, ◌∙◌, List, [], ◌+◌, String, string_bytes, ap, map, rules, subst, sym, take}
use Rattle.std.specs.declared.alloc.Global.{Global}
use Rattle.toml_edit_model.specs.Keys.{names}
use Rattle.toml_edit.specs.DocumentView.{tree_owned}
use Rattle.toml_edit_edits.specs.Along.{AreApartAlong}
use Rattle.toml_edit_edits.specs.Removes.{AddsName, RemoveAll, texts}
use Rattle.toml_edit_edits.proofs.ListLaws.{take-more, take-none}
use Rattle.toml_edit_edits.proofs.RemovesLaws.{none-removed, one-longer, one-removed}
use Rattle.toml_edit_edits.proofs.removes.names_there.Goals as goal

pub loop-at-init : goal.loop-at-init
loop-at-init c =
    let t = tree_owned c.args.document.now in
    let above = names c.args.above.now in (
      c.new-names.ensures.len,
      subst (λ es. RemoveAll es above (texts c.new-names.result) t) (sym (take-none c.args.edits.now))
          (subst (λ (ks : List (String Global)). RemoveAll [] above (map string_bytes ks) t) (sym c.new-names.ensures.empty)
          (none-removed above t (subst (AreApartAlong above) c.as_item.ensures c.open_along.ensures))),
    )

pub loop-at-preserved : goal.loop-at-preserved
loop-at-preserved c =
    let es = c.args.edits.now in
    let e = c.index-edits-at.result in
    let t = tree_owned c.args.document.now in
    let above = names c.args.above.now in
    let more = take-more es c.loop-at.at e c.loop-at-test.true c.index-edits-at.is in
    let a : AddsName e (names c.args.above.now) t (texts c.loop-at.names) (texts c.add_name.new.names) = search rules in (
      one-longer c.loop-at.names.keys c.add_name.new.names.keys a.name a.adds.0 ∙ ap (λ n. n + 1) c.loop-at.invariant.0,
      subst (λ xs. RemoveAll xs above (texts c.add_name.new.names) t) (sym more)
          (one-removed (take c.loop-at.at es) e above t (texts c.loop-at.names) (texts c.add_name.new.names) c.loop-at.invariant.1 a),
    )
