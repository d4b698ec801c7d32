-- A key line, by its parts and its value.
use Rattle.std.proofs.Common.{◌+◌, ◌<◌, ◌≤◌, length, sym, ap, subst, ◌∙◌, arith}
use Rattle.std.proofs.lemmas.Result.{err_from_is_err_and}
use Rattle.toml_edit_model.specs.Version.{v1_1}
use Rattle.toml_edit_model.specs.Mode.{with_return}
use Rattle.toml_edit_model.specs.Syntax.{frame_text, value_text}
use Rattle.toml_edit_model.specs.TreeOf.{spanned_form, frame_leaf}
use Rattle.toml_edit_laws.proofs.common.StandingLaws.{stands-left}
use Rattle.toml_edit_syntax.specs.Events.{IsSpanOf}
use Rattle.toml_edit_syntax.specs.ValueEvents.{value_at_byte}
use Rattle.toml_edit_repr.specs.Modes.{mode_of}
use Rattle.toml_edit_parser.specs.PairRead.{FrameParts, PathView, parts_of}
use Rattle.toml_edit_parser.specs.ValueRead.{AreIn, spanned_raw}
use Rattle.toml_edit_parser.proofs.ModeLaws.{line-suffix}
use Rattle.toml_edit_parser.proofs.PairLaws.{frame-in, key-decor, key-whole, no-frame, path-some, short-path, the-frame, value-stands}
use Rattle.toml_edit_parser.proofs.StatementPartLaws.{line-read, line-refused, line-too-long, path-from}
use Rattle.toml_edit_parser.proofs.document.parts.read_key_line.Goals as goal

pub returns-in_default-clause-line : goal.returns-in_default-clause-line
returns-in_default-clause-line c =
    λ f v end start more is value stands ended same e.
    no-frame start f v 0 _ c.args.leading c.args.events.now _ is.1 same (e ∙ key-whole 0 start f _) c.in_default.ensures

pub returns-then-frame-gt-MOST_PATH_EVENTS-clause-line : goal.returns-then-frame-gt-MOST_PATH_EVENTS-clause-line
returns-then-frame-gt-MOST_PATH_EVENTS-clause-line c =
    λ f v end start more is value stands ended same e.
    let parts = the-frame start f v 0 _ c.args.leading c.args.events.now (parts_of c.in-Some.frame) c.in-Some.rest.now is.1 same (e
    ∙ key-whole 0 start f _) c.in-Some.ensures in
    line-too-long c.args.reader.now.source.now f v end start c.refusal_of_all.result is.1
    (subst (λ (q : FrameParts). 238 < length q.path) parts.0 c.if-frame-gt-MOST_PATH_EVENTS.true) c.refusal_of_all.ensures.report

pub returns-in_err-rest-clause-line : goal.returns-in_err-rest-clause-line
returns-in_err-rest-clause-line c =
    λ f v end start more is value stands ended same e.
    let p = err_from_is_err_and c.from_residual.result c.from_residual.ensures.1 in
    let parts = the-frame start f v 0 _ c.args.leading c.args.events.now (parts_of c.in-Some.frame) c.in-Some.rest.now is.1 same (e
    ∙ key-whole 0 start f _) c.in-Some.ensures in
    rw (p.1, p.2) (line-refused c.args.reader.now.source.now f v end start c.in_err-rest.field-0.0
    (c.in_err-rest.ensures.value v (value_at_byte start f) f.trailing (with_return (mode_of c.args.reader.now.mode) f.trailing end) more
    value
    (value-stands c.args.reader.now.source.now start f (value_text v)
    (stands-left c.args.reader.now.source.now start (frame_text f (value_text v)) end stands)) parts.1
    (line-suffix (mode_of c.args.reader.now.mode) c.args.reader.now.source.now start f v end stands ended)))

pub returns-clause-line : goal.returns-clause-line
returns-clause-line c =
    λ f v end start more is value stands ended same e.
    let s = c.args.reader.now.source.now in
    let parts = the-frame start f v 0 _ c.args.leading c.args.events.now (parts_of c.in-Some.frame) c.in-Some.rest.now is.1 same (e
    ∙ key-whole 0 start f _) c.in-Some.ensures in
    let short = short-path f.path (start + length f.leading) (path-some f.path is.1)
    (subst (λ (q : FrameParts). length q.path ≤ 238) parts.0 c.if-frame-gt-MOST_PATH_EVENTS.false) in
    let mode = mode_of c.args.reader.now.mode in
    let h = c.in_ok-rest.ensures.value v (value_at_byte start f) f.trailing (with_return mode f.trailing end) more value
    (value-stands s start f (value_text v) (stands-left s start (frame_text f (value_text v)) end stands)) parts.1
    (line-suffix mode s start f v end stands ended) in
    let own = key-decor start f _ _ (ap (λ (q : FrameParts). spanned_raw q.leading) parts.0)
    (ap (λ (q : FrameParts). spanned_raw q.before_equals) parts.0) in
    line-read mode f v end start more _ c.in-Some.frame.after_equals _ _ short (ap (λ (q : FrameParts). q.after_equals) parts.0) h
    (path-from (frame_leaf spanned_form start f) start f.leading f.path c.in-Some.frame.leading c.in-Some.frame.before_equals
    c.in-Some.frame.path.now
    c.path_behind-path.result is.1 c.path_behind-path.ensures own (ap (λ (q : FrameParts). q.leading) parts.0)
    (ap (λ (q : FrameParts). q.path) parts.0))

pub read_line_value-requires-clause-spans : goal.read_line_value-requires-clause-spans
read_line_value-requires-clause-spans c =
    (frame-in c.args.reader.now.source.now c.args.leading c.args.events.now (parts_of c.in-Some.frame) c.in-Some.rest.now c.in-Some.ensures
    c.requires.spans).others

pub returns-clause-path : goal.returns-clause-path
returns-clause-path c =
    let t = c.args.reader.now.source.now in
    let frame = frame-in t c.args.leading c.args.events.now (parts_of c.in-Some.frame) c.in-Some.rest.now c.in-Some.ensures c.requires.spans in
    let leading : IsSpanOf t c.in-Some.frame.leading = subst (IsSpanOf t) (sym frame.front) c.requires.leading in
    let is = c.path_behind-path.ensures in
    record {
      prefix = subst (IsSpanOf t) (sym (ap (λ (v : PathView). v.prefix) is)) leading;
      suffix = subst (IsSpanOf t) (sym (ap (λ (v : PathView). v.suffix) is)) frame.before_equals;
      before = subst (IsSpanOf t) (sym (ap (λ (v : PathView). v.before) is))
          (record { start = leading.end; end = leading.end; order = omega arith });
      events = subst (AreIn t) (sym (ap (λ (v : PathView). v.events) is)) frame.path;
    }

pub read_line_value-requires-clause-before : goal.read_line_value-requires-clause-before
read_line_value-requires-clause-before c =
    (frame-in c.args.reader.now.source.now c.args.leading c.args.events.now (parts_of c.in-Some.frame) c.in-Some.rest.now c.in-Some.ensures
    c.requires.spans).after_equals

pub returns-clause-rest : goal.returns-clause-rest
returns-clause-rest c =
    let one = (frame-in c.args.reader.now.source.now c.args.leading c.args.events.now (parts_of c.in-Some.frame) c.in-Some.rest.now
    c.in-Some.ensures c.requires.spans).fewer in
    let two = c.in_ok-rest.ensures.rest.1 in
    (c.in_ok-rest.ensures.rest.0, omega (arith, one, two))

pub returns-then-frame-gt-MOST_PATH_EVENTS-clause-refused : goal.returns-then-frame-gt-MOST_PATH_EVENTS-clause-refused
returns-then-frame-gt-MOST_PATH_EVENTS-clause-refused c = c.refusal_of_all.ensures.refused v1_1
