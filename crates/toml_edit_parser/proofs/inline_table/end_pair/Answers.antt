use Rattle.std.proofs.Common.{◌≡◌, ◌+◌, [], length, Some, sym, ap, subst, ◌∙◌, arith}
use Rattle.std.proofs.lemmas.Result.{err_from_is_err_and}
use Rattle.toml_edit_model.specs.Conversions.{with_decor}
use Rattle.toml_edit_model.specs.Tree.{Node}
use Rattle.toml_edit_model.specs.TreeOf.{spanned_form, entry_of, frame_leaf}
use Rattle.toml_edit_laws.specs.InlineTree.{add_entry, pair_path}
use Rattle.toml_edit_syntax.specs.Events.{IsSpanOf}
use Rattle.toml_edit_syntax.specs.declared.event.Event.{Event}
use Rattle.toml_edit_parser.specs.PairRead.{FrameParts, PathView}
use Rattle.toml_edit_parser.specs.ValueRead.{spanned_raw, split_first, AreIn}
use Rattle.toml_edit_tree.specs.View.{item_view, slots_view}
use Rattle.toml_edit_parser.proofs.PairLaws.{key-decor, path-ends, value-decor}
use Rattle.toml_edit_parser.proofs.ReadFits.{fits-with_decor}
use Rattle.toml_edit_parser.proofs.ReadLaws.{same_parts}
use Rattle.toml_edit_parser.proofs.SplitLaws.{first_in}
use Rattle.toml_edit_parser.proofs.StatementPartLaws.{path-from}
use Rattle.toml_edit_parser.proofs.NearLaws.{near}
use Rattle.toml_edit_parser.proofs.inline_table.end_pair.Goals as goal
use Rattle.toml_edit_model.specs.OwnedForm.{NodeFits}

pub returns-clause-pair : goal.returns-clause-pair
returns-clause-pair c =
    λ f v start end more is stands parts e.
    let first = same_parts c.in-Some.after _ c.in-Some.rest.now _ (c.in-Some.ensures ∙ ap split_first e) in
    let item = c.decorate.ensures ∙ ap (λ d. with_decor d (item_view c.args.item.now)) (
    value-decor start end f c.raw.result c.raw-2.result c.in-Some.after.span (c.raw.ensures.raw
    ∙ ap (λ (q : FrameParts). spanned_raw q.after_equals) parts)
    c.raw-2.ensures.raw (ap (λ (x : Event). x.span) first.0)
    ) in
    let own = key-decor start f _ _ (ap (λ (q : FrameParts). spanned_raw q.leading) parts)
    (ap (λ (q : FrameParts). spanned_raw q.before_equals) parts) in
    let path = path-from (frame_leaf spanned_form start f) start f.leading f.path c.args.frame.leading c.args.frame.before_equals
    c.args.frame.path.now
    c.path_behind-path.result is.1 c.path_behind-path.ensures own (ap (λ (q : FrameParts). q.leading) parts)
    (ap (λ (q : FrameParts). q.path) parts) in (
      first.1,
      subst (λ (n : Node). add_entry spanned_form (pair_path spanned_form start f v) n (slots_view c.args.slots.now)
          ≡ Some (slots_view c.add_entry.new.slots)) item
          (c.in_ok-add_entry.ensures.entry (entry_of spanned_form start f v) f.path (start
          + length f.leading) [] (path-ends f.path is.1) stands path),
    )

pub returns-in_err-add_entry-clause-pair : goal.returns-in_err-add_entry-clause-pair
returns-in_err-add_entry-clause-pair c =
    λ f v start end more is stands parts e.
    let p = err_from_is_err_and c.from_residual.result c.from_residual.ensures.1 in
    let own = key-decor start f _ _ (ap (λ (q : FrameParts). spanned_raw q.leading) parts)
    (ap (λ (q : FrameParts). spanned_raw q.before_equals) parts) in
    let path = path-from (frame_leaf spanned_form start f) start f.leading f.path c.args.frame.leading c.args.frame.before_equals
    c.args.frame.path.now
    c.path_behind-path.result is.1 c.path_behind-path.ensures own (ap (λ (q : FrameParts). q.leading) parts)
    (ap (λ (q : FrameParts). q.path) parts) in
    rw (p.1, p.2) (c.in_err-add_entry.ensures.entry (entry_of spanned_form start f v) f.path (start
    + length f.leading) [] (path-ends f.path is.1) stands path)

pub returns-clause-fits : goal.returns-clause-fits
returns-clause-fits c =
    λ item slots.
    let t = c.args.reader.now.source.now in
    let after = (first_in t c.args.events.now c.in-Some.after c.in-Some.rest.now c.in-Some.ensures c.requires.spans).0 in
    let put = fits-with_decor t (item_view c.args.item.now) _ item (
      c.raw.ensures.fits t c.requires.after_equals,
      c.raw-2.ensures.fits t after,
    ) in
    c.in_ok-add_entry.ensures.fits (subst (λ (n : Node). NodeFits t n) (sym c.decorate.ensures) put) slots

pub returns-clause-rest : goal.returns-clause-rest
returns-clause-rest c =
    let behind = first_in c.args.reader.now.source.now c.args.events.now c.in-Some.after c.in-Some.rest.now c.in-Some.ensures c.requires.spans in
    (behind.1, behind.2)

pub add_entry-requires : goal.add_entry-requires
add_entry-requires c =
    let t = c.args.reader.now.source.now in
    let is = c.path_behind-path.ensures in
    record {
      path = record {
        prefix = subst (IsSpanOf t) (sym (ap (λ (v : PathView). v.prefix) is)) c.requires.leading;
        suffix = subst (IsSpanOf t) (sym (ap (λ (v : PathView). v.suffix) is)) c.requires.before_equals;
        before = subst (IsSpanOf t) (sym (ap (λ (v : PathView). v.before) is))
            (record { start = c.requires.leading.end; end = c.requires.leading.end; order = omega arith });
        events = subst (AreIn t) (sym (ap (λ (v : PathView). v.events) is)) c.requires.path;
      };
    }

pub raw-requires : goal.raw-requires
raw-requires c = near c.args.reader.now.source.now c.args.frame.after_equals c.args.reader.now.short c.requires.after_equals

pub raw-requires-2 : goal.raw-requires-2
raw-requires-2 c =
    let t = c.args.reader.now.source.now in
    near t c.in-Some.after.span c.args.reader.now.short
    (first_in t c.args.events.now c.in-Some.after c.in-Some.rest.now c.in-Some.ensures c.requires.spans).0
