-- The first part that has a misfit has the first.
use Rattle.std.proofs.Common.{◌≡◌, rules, true, false, sym, ◌∙◌, ap, subst, ◌++◌, None, Some}
use Rattle.std.specs.Prelude.{slice_get, is_some}
use Rattle.toml_edit_model.specs.Tree.{Slots, SlotsAreWellMade}
use Rattle.toml_edit_laws.proofs.common.Tests.{true-false}
use Rattle.toml_edit_repr.specs.Modes.{mode_of}
use Rattle.toml_edit_tree.specs.declared.item.Item.{the_lemmas}
use Rattle.toml_edit_tree.specs.View.{slots_view, table_slots, tree_view}
use Rattle.toml_edit_fits.specs.FitTests.{no_keys}
use Rattle.toml_edit_fits.specs.OrderTests.{root_marks}
use Rattle.toml_edit_fits.specs.EarlyTests.{early_slots, past_slots}
use Rattle.toml_edit_fits.specs.Misfits.{early_misfits, misfits, root_misfits, tables_misfits}
use Rattle.toml_edit_fits.specs.MisfitViews.{Reports}
use Rattle.toml_edit_fits.proofs.ApartLaws.{made-apart}
use Rattle.toml_edit_fits.proofs.EarlyLaws.{misfits-walked}
use Rattle.toml_edit_fits.proofs.FirstLaws.{ended, first-after, passed, reports-like, some-reports}
use Rattle.toml_edit_fits.proofs.fits.all_fits.Goals as goal

pub returns-then-not-root_fits-clause-reports : goal.returns-then-not-root_fits-clause-reports
returns-then-not-root_fits-clause-reports g c =
    let mode = mode_of c.args.mode in
    let t = tree_view c.args.root.now c.args.trailing.now in
    let end = c.root_fits.result in
    ended g.R.Report.tells true false end true false (λ e. true-false end e c.if-not-root_fits.true)
    (root_misfits mode t.root t.slots t.trailing) (tables_misfits mode no_keys t.slots
    ++ early_misfits t) c.root_fits.new.report c.root_fits.ensures

pub returns-then-not-tables_fit-clause-reports : goal.returns-then-not-tables_fit-clause-reports
returns-then-not-tables_fit-clause-reports g c =
    let mode = mode_of c.args.mode in
    let t = tree_view c.args.root.now c.args.trailing.now in
    let tells = g.R.Report.tells in
    let end = c.root_fits.result in
    let slots : slots_view c.args.root.now.slots ≡ table_slots c.args.root.now = search (rules, the_lemmas) in
    let root = root_misfits mode t.root t.slots t.trailing in
    let tables = tables_misfits mode no_keys t.slots in
    let none = (passed tells true false end root c.root_fits.new.report (λ e. true-false end c.if-not-root_fits.false e)
    c.root_fits.ensures).0 in
    let here = subst (λ r. Reports tells (tables_misfits mode r (slots_view c.args.root.now.slots)) true false c.tables_fit.result
    c.tables_fit.new.report) c.no_keys.ensures c.tables_fit.ensures in
    let told = subst (λ (s : Slots). Reports tells (tables_misfits mode no_keys s) true false c.tables_fit.result c.tables_fit.new.report)
    slots here in
    reports-like tells true false false (tables ++ early_misfits t) (root
    ++ (tables ++ early_misfits t)) _ (sym (first-after root (tables ++ early_misfits t) none))
    (ended tells true false c.tables_fit.result true false (λ e. true-false c.tables_fit.result e c.if-not-tables_fit.true) tables
    (early_misfits t) c.tables_fit.new.report told)

pub returns-clause-reports : goal.returns-clause-reports
returns-clause-reports g c =
    let mode = mode_of c.args.mode in
    let t = tree_view c.args.root.now c.args.trailing.now in
    let tells = g.R.Report.tells in
    let slots : slots_view c.args.root.now.slots ≡ table_slots c.args.root.now = search (rules, the_lemmas) in
    let made = subst (λ (s : Slots). ∥ SlotsAreWellMade s ∥₁) slots c.open_slots.ensures in
    let root = root_misfits mode t.root t.slots t.trailing in
    let tables = tables_misfits mode no_keys t.slots in
    let early = early_slots None (root_marks t.root) t.slots in
    let none = (passed tells true false c.root_fits.result root c.root_fits.new.report
    (λ e. true-false c.root_fits.result c.if-not-root_fits.false e) c.root_fits.ensures).0 in
    let here = subst (λ r. Reports tells (tables_misfits mode r (slots_view c.args.root.now.slots)) true false c.tables_fit.result
    c.tables_fit.new.report) c.no_keys.ensures c.tables_fit.ensures in
    let told = subst (λ (s : Slots). Reports tells (tables_misfits mode no_keys s) true false c.tables_fit.result c.tables_fit.new.report)
    slots here in
    let none-2 = (passed tells true false c.tables_fit.result tables c.tables_fit.new.report
    (λ e. true-false c.tables_fit.result c.if-not-tables_fit.false e) told).0 in
    let walked = subst (λ w. Reports tells (early_slots None w (slots_view c.args.root.now.slots))
    (Some (past_slots w (slots_view c.args.root.now.slots))) None c.order_slots.result c.order_slots.new.report) c.root_marks.ensures
    c.order_slots.ensures in
    let order = subst (λ (s : Slots). Reports tells (early_slots None (root_marks t.root) s) (Some (past_slots (root_marks t.root) s)) None
    c.order_slots.result c.order_slots.new.report) slots walked in
    let all = first-after root (tables ++ early) none ∙ first-after tables early none-2 in
    subst (λ b. Reports tells (misfits mode t) true false b c.order_slots.new.report) (sym c.is_some.ensures)
    (reports-like tells true false (is_some c.order_slots.result) early (misfits mode t) _
    (sym (ap (λ ms. slice_get ms 0) (misfits-walked mode t (made-apart t.slots made)) ∙ all))
    (some-reports tells early (past_slots (root_marks t.root) t.slots) c.order_slots.result c.order_slots.new.report order))
