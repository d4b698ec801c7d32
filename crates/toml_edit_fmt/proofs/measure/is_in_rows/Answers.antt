-- Each element that is split off is in a row.
use Rattle.std.proofs.Common.{◌≡◌, sym, ap, ◌∙◌, ◌+◌, true, false, ◌&&◌, ◌||◌}
use Rattle.std.specs.Prelude.{not, if◌then◌else◌}
use Rattle.toml_edit_fmt_laws.specs.Laying.{columns, is_broken}
use Rattle.toml_edit_fmt.specs.RulesView.{rules_of}
use Rattle.toml_edit_fmt.specs.ValueBits.{counted}
use Rattle.toml_edit_fmt.proofs.RowLaws.{and-false, and-true, breaks, in-rows, joins, left-in, row_start, rows, rows-end, rows-next}
use Rattle.toml_edit_fmt.proofs.measure.is_in_rows.Goals as goal
use Rattle.toml_edit_fmt.proofs.measure.is_in_rows.Goals.{then-is_first, else-is_first}
use Rattle.toml_edit_fmt.proofs.measure.is_in_rows.Goals.{then-is_new+then-has_break, then-is_new+else-has_break, else-is_new}

pub returns-then-is_over : goal.returns-then-is_over
returns-then-is_over c =
    let source = c.args.page.now.source.now in
    let r = rules_of c.args.page.now.rules in
    let l = c.elements in
    let before = c.in-Some.before.now in
    let new : c.if-is_first.is_new ≡ (l.is_first || is_broken before) = elim c.if-is_first.branch [
      | then-is_first w ↦ w.is_new-is ∙ w.if-is_first.true ∙ sym (ap (λ p. p || is_broken before) w.if-is_first.true)
      | else-is_first w ↦ w.is_new-is ∙ w.is_broken-is_new.ensures ∙ sym (ap (λ p. p || is_broken before) w.if-is_first.false)
    ] in
    in-rows source r c.args.events.now l.rest.now c.args.indent l.has_break l.has_joint l.is_first l.used l.invariant.rows false
    (λ d u indent used.
    let here = row_start source r d l.is_first u before + columns c.in-Some.value.now + 1 in
    let so_wide : c.used_after-used.result ≡ counted here =
    c.used_after-used.ensures d u indent used ∙ ap (λ p. counted ((if p then d else u + 1) + columns c.in-Some.value.now + 1)) new in
    rows-next source r d l.has_break l.has_joint l.is_first u l.rest.now before c.in-Some.value.now c.in-Some.more.now (sym c.in-Some.ensures)
    ∙ ap (λ p. if p then false else rows source r d (breaks source r d l.has_break l.is_first before) (joins source r d l.has_joint l.is_first before) false here c.in-Some.more.now)
    (sym (c.is_over.ensures here so_wide) ∙ c.if-is_over.true))

pub elements-preserved : goal.elements-preserved
elements-preserved c =
    let source = c.args.page.now.source.now in
    let r = rules_of c.args.page.now.rules in
    let l = c.elements in
    let before = c.in-Some.before.now in
    let split = sym c.in-Some.ensures in
    let new : c.if-is_first.is_new ≡ (l.is_first || is_broken before) = elim c.if-is_first.branch [
      | then-is_first w ↦ w.is_new-is ∙ w.if-is_first.true ∙ sym (ap (λ p. p || is_broken before) w.if-is_first.true)
      | else-is_first w ↦ w.is_new-is ∙ w.is_broken-is_new.ensures ∙ sym (ap (λ p. p || is_broken before) w.if-is_first.false)
    ] in
    record {
      spans = left-in source r 0 l.rest.now before c.in-Some.value.now c.in-Some.more.now split l.invariant.spans;
      rows = λ d indent.
          let (u, used, same) = l.invariant.rows d indent in
          let brk : c.if-is_new.has_break ≡ breaks source r d l.has_break l.is_first before = elim c.if-is_new.branch [
            | then-is_new+then-has_break v ↦
                v.has_break-is ∙ v.if-has_break.true
                ∙ sym (ap (λ p. if p then l.has_break || not l.is_first else l.has_break) (sym new ∙ v.if-is_new.true) ∙ ap (λ p. p || not l.is_first) v.if-has_break.true)
            | then-is_new+else-has_break v ↦
                v.has_break-is
                ∙ sym (ap (λ p. if p then l.has_break || not l.is_first else l.has_break) (sym new ∙ v.if-is_new.true) ∙ ap (λ p. p || not l.is_first) v.if-has_break.false)
            | else-is_new v ↦ v.has_break-is ∙ sym (ap (λ p. if p then l.has_break || not l.is_first else l.has_break) (sym new ∙ v.if-is_new.false))
          ] in
          let jnt : c.if-is_new.has_joint ≡ joins source r d l.has_joint l.is_first before = elim c.if-is_new.branch [
            | then-is_new+then-has_break v ↦ v.has_joint-is ∙ sym (ap (λ p. if p then l.has_joint else true) (sym new ∙ v.if-is_new.true))
            | then-is_new+else-has_break v ↦ v.has_joint-is ∙ sym (ap (λ p. if p then l.has_joint else true) (sym new ∙ v.if-is_new.true))
            | else-is_new v ↦ v.has_joint-is ∙ sym (ap (λ p. if p then l.has_joint else true) (sym new ∙ v.if-is_new.false))
          ] in
          let here = row_start source r d l.is_first u before + columns c.in-Some.value.now + 1 in
          let so_wide : c.used_after-used.result ≡ counted here =
          c.used_after-used.ensures d u indent used ∙ ap (λ p. counted ((if p then d else u + 1) + columns c.in-Some.value.now + 1)) new in
          let fits = sym (c.is_over.ensures here so_wide) ∙ c.if-is_over.false in
          let next = rows source r d (breaks source r d l.has_break l.is_first before) (joins source r d l.has_joint l.is_first before) false here c.in-Some.more.now in (
            here,
            so_wide,
            ap (λ p. rows source r d p c.if-is_new.has_joint false here c.in-Some.more.now) brk
                ∙ ap (λ p. rows source r d (breaks source r d l.has_break l.is_first before) p false here c.in-Some.more.now) jnt
                ∙ sym (rows-next source r d l.has_break l.has_joint l.is_first u l.rest.now before c.in-Some.value.now c.in-Some.more.now split
                ∙ ap (λ p. if p then false else next) fits)
                ∙ same,
          );
    }

pub returns-then-has_element : goal.returns-then-has_element
returns-then-has_element c =
    let source = c.args.page.now.source.now in
    let r = rules_of c.args.page.now.rules in
    let l = c.elements in
    in-rows source r c.args.events.now l.rest.now c.args.indent l.has_break l.has_joint l.is_first l.used l.invariant.rows false
    (λ d u indent used. rows-end source r d l.has_break l.has_joint l.is_first u l.rest.now (sym c.in_default.ensures)
    ∙ ap (λ p. (l.has_break && l.has_joint) && not p) (sym c.has_element.ensures ∙ c.if-has_element.true) ∙ and-false (l.has_break && l.has_joint))

pub returns-then-has_break-2 : goal.returns-then-has_break-2
returns-then-has_break-2 c =
    let source = c.args.page.now.source.now in
    let r = rules_of c.args.page.now.rules in
    let l = c.elements in
    in-rows source r c.args.events.now l.rest.now c.args.indent l.has_break l.has_joint l.is_first l.used l.invariant.rows l.has_joint
    (λ d u indent used. rows-end source r d l.has_break l.has_joint l.is_first u l.rest.now (sym c.in_default.ensures)
    ∙ ap (λ p. (l.has_break && l.has_joint) && not p) (sym c.has_element.ensures ∙ c.if-has_element.false) ∙ and-true (l.has_break && l.has_joint)
    ∙ ap (λ p. p && l.has_joint) c.if-has_break-2.true)

pub returns-else-has_break-2 : goal.returns-else-has_break-2
returns-else-has_break-2 c =
    let source = c.args.page.now.source.now in
    let r = rules_of c.args.page.now.rules in
    let l = c.elements in
    in-rows source r c.args.events.now l.rest.now c.args.indent l.has_break l.has_joint l.is_first l.used l.invariant.rows l.has_break
    (λ d u indent used. rows-end source r d l.has_break l.has_joint l.is_first u l.rest.now (sym c.in_default.ensures)
    ∙ ap (λ p. (l.has_break && l.has_joint) && not p) (sym c.has_element.ensures ∙ c.if-has_element.false) ∙ and-true (l.has_break && l.has_joint)
    ∙ ap (λ p. p && l.has_joint) c.if-has_break-2.false ∙ sym c.if-has_break-2.false)
