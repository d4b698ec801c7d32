-- A document, by what its text was parsed to in a version of the grammar and a mode.
use Rattle.std.proofs.Common.{sym, ◌∙◌, ap, rules}
use Rattle.toml_edit_model.specs.Mode.{is_exact}
use Rattle.toml_edit_repr.specs.Modes as modes
use Rattle.toml_edit_tree.specs.View.{slots_view}
use Rattle.toml_edit_syntax.specs.Grammar.{grammar}
use Rattle.toml_edit.specs.Roots.{table-is}
use Rattle.toml_edit.proofs.OverLaws.{parsed-later, read-as, root-over, root-reading-in}
use Rattle.toml_edit.proofs.document.Document.parse_with.Goals as goal

pub invariant_of-result : goal.invariant_of-result
invariant_of-result g c =
    let mode = modes.mode_of c.get_mode-mode.result in
    let slots = slots_view c.in_ok-slots.slots in
    let parsed = parsed-later mode (grammar c.get_version-version.result) c.text.result.now slots c.in_ok-slots.trailing
    c.in_ok-slots.is_open c.in_ok-slots.ensures.parsed in
    record {
      rooted = table-is c.root.result;
      over = ∣ root-over mode (g.S.SourceText.content c.args.raw) c.text.result.now c.root.result slots c.in_ok-slots.trailing
          c.text.ensures c.text.utf8 parsed c.root.ensures.fields c.root.ensures.slots ∣₁;
    }

pub returns-clause-accepted : goal.returns-clause-accepted
returns-clause-accepted g c =
    let mode = modes.mode_of c.get_mode-mode.result in
    let version = grammar c.get_version-version.result in
    let t = g.S.SourceText.content c.args.raw in
    let slots = slots_view c.in_ok-slots.slots in
    read-as _ _ _ _ _ _ _ c.get_mode-mode.ensures c.get_version-version.ensures
    (root-reading-in mode version t c.text.result.now c.root.result slots c.in_ok-slots.trailing c.in_ok-slots.is_open c.is_exact.result
    c.if-is_exact.result
    c.text.ensures c.text.utf8 c.in_ok-slots.ensures.parsed c.root.ensures.fields c.root.ensures.slots
    (c.is_exact.ensures ∙ ap is_exact (sym c.get_mode-mode.ensures)) (search rules))
