-- A header, by its parts.
use Rattle.std.proofs.Common.{◌≡◌, ◌<◌, List, length, drop, sym, ap, subst, ◌∙◌, refl, arith}
use Rattle.std.proofs.lemmas.List.{take_rest}
use Rattle.toml_edit_model.specs.Version.{v1_1}
use Rattle.toml_edit_syntax.specs.declared.event.Event.{Event}
use Rattle.toml_edit_syntax.specs.Events.{IsSpanOf}
use Rattle.toml_edit_syntax.specs.ValueEvents.{shortened}
use Rattle.toml_edit_repr.specs.Modes.{mode_of}
use Rattle.toml_edit_parser.specs.Near.{IsNear}
use Rattle.toml_edit_parser.specs.PairRead.{PathView}
use Rattle.toml_edit_parser.specs.ValueRead.{AreIn}
use Rattle.toml_edit_parser.proofs.PairLaws.{fewer, in_drop, in_take, path-too-long}
use Rattle.toml_edit_parser.proofs.SplitLaws.{first_in}
use Rattle.toml_edit_parser.proofs.StatementPartLaws.{header-first, header-path, header-read, header_end, first-of-three, key_at, no-header, no-path, third-in}
use Rattle.toml_edit_parser.proofs.NearLaws.{suffix-near}
use Rattle.toml_edit_parser.proofs.document.parts.read_header.Goals as goal

pub returns-in_default-clause-header : goal.returns-in_default-clause-header
returns-in_default-clause-header c =
    λ h end start more is stands ended e. no-header start h more c.args.events.now _ e c.in_default.ensures

pub returns-in_default-path_end-clause-header : goal.returns-in_default-path_end-clause-header
returns-in_default-path_end-clause-header c =
    λ h end start more is stands ended e.
    let first = header-first start h more c.args.events.now c.in-Some.opening c.in-Some.inside.now e c.in-Some.ensures in
    no-path start h (shortened 0 more) c.in-Some.inside.now _ first.1 c.in_default-path_end.ensures.place

pub returns-in_default-behind-clause-header : goal.returns-in_default-behind-clause-header
returns-in_default-behind-clause-header c =
    λ h end start more is stands ended e.
    let first = header-first start h more c.args.events.now c.in-Some.opening c.in-Some.inside.now e c.in-Some.ensures in
    let parts = header-path start h (shortened 0 more) c.in-Some.inside.now c.in-Some-path_end.end_of_path first.1
    c.in-Some-path_end.ensures.place in
    let same : length c.split_at.result.1.now ≡ length (header_end start h (shortened 0 more)) =
    ap (λ (es : List Event). length es) (c.split_at.ensures.back ∙ parts.1) in
    let few : length c.split_at.result.1.now < 3 = c.in_default-behind.len_below in
    absurd (omega (arith, same, few))

pub returns-then-path-gt-MOST_PATH_EVENTS-clause-header : goal.returns-then-path-gt-MOST_PATH_EVENTS-clause-header
returns-then-path-gt-MOST_PATH_EVENTS-clause-header c =
    λ h end start more is stands ended e.
    let first = header-first start h more c.args.events.now c.in-Some.opening c.in-Some.inside.now e c.in-Some.ensures in
    let parts = header-path start h (shortened 0 more) c.in-Some.inside.now c.in-Some-path_end.end_of_path first.1
    c.in-Some-path_end.ensures.place in
    path-too-long c.args.reader.now.source.now h.path (key_at start h) c.refusal_of_all.result is.1
    (subst (λ (es : List Event). 238 < length es) (c.split_at.ensures.front ∙ parts.0) c.if-path-gt-MOST_PATH_EVENTS.true)
    c.refusal_of_all.ensures.report

pub returns-clause-header : goal.returns-clause-header
returns-clause-header c =
    λ h end start more is stands ended e.
    let first = header-first start h more c.args.events.now c.in-Some.opening c.in-Some.inside.now e c.in-Some.ensures in
    let parts = header-path start h (shortened 0 more) c.in-Some.inside.now c.in-Some-path_end.end_of_path first.1
    c.in-Some-path_end.ensures.place in
    header-read (mode_of c.args.reader.now.mode) c.args.reader.now.source.now h end start more c.in-Some.opening _ c.split_at.result.0.now
    c.split_at.result.1.now _ _ is.1 stands ended first.0 (c.split_at.ensures.front ∙ parts.0)
    (c.split_at.ensures.back ∙ parts.1) c.if-path-gt-MOST_PATH_EVENTS.false c.path_behind.ensures refl c.suffix.ensures refl

pub returns-clause-path : goal.returns-clause-path
returns-clause-path c =
    let s = c.args.reader.now.source.now in
    let inside = first_in s c.args.events.now c.in-Some.opening c.in-Some.inside.now c.in-Some.ensures c.requires.spans in
    let path = in_take s c.in-Some-path_end.end_of_path c.in-Some.inside.now inside.1 in
    let behind : AreIn s c.split_at.result.1.now =
    subst (AreIn s) (sym c.split_at.ensures.back) (in_drop s c.in-Some-path_end.end_of_path c.in-Some.inside.now inside.1) in
    let closing = first-of-three s c.split_at.result.1.now _ c.in-len3-up.len_at_least behind in
    let opening = inside.0 in
    let is = c.path_behind.ensures in
    record {
      prefix = subst (IsSpanOf s) (sym (ap (λ (v : PathView). v.prefix) is)) opening;
      suffix = subst (IsSpanOf s) (sym (ap (λ (v : PathView). v.suffix) is)) closing;
      before = subst (IsSpanOf s) (sym (ap (λ (v : PathView). v.before) is))
          (record { start = opening.end; end = opening.end; order = omega arith });
      events = subst (AreIn s) (sym (ap (λ (v : PathView). v.events) is ∙ c.split_at.ensures.front)) path;
    }

pub returns-clause-trailing : goal.returns-clause-trailing
returns-clause-trailing c =
    let s = c.args.reader.now.source.now in
    let inside = first_in s c.args.events.now c.in-Some.opening c.in-Some.inside.now c.in-Some.ensures c.requires.spans in
    let behind : AreIn s c.split_at.result.1.now =
    subst (AreIn s) (sym c.split_at.ensures.back) (in_drop s c.in-Some-path_end.end_of_path c.in-Some.inside.now inside.1) in
    subst IsNear (sym c.suffix.ensures)
    (suffix-near (mode_of c.args.reader.now.mode) s _ c.args.reader.now.short
    (third-in s c.split_at.result.1.now _ c.in-len3-up.len_at_least behind))

pub returns-clause-rest : goal.returns-clause-rest
returns-clause-rest c =
    let s = c.args.reader.now.source.now in
    let n = c.in-Some-path_end.end_of_path in
    let inside = first_in s c.args.events.now c.in-Some.opening c.in-Some.inside.now c.in-Some.ensures c.requires.spans in
    let behind : AreIn s c.split_at.result.1.now =
    subst (AreIn s) (sym c.split_at.ensures.back) (in_drop s n c.in-Some.inside.now inside.1) in
    let one = inside.2 in
    let two = fewer n c.in-Some.inside.now in
    let same : length c.split_at.result.1.now ≡ length (drop n c.in-Some.inside.now) =
    ap (λ (es : List Event). length es) c.split_at.ensures.back in
    let three = fewer 3 c.split_at.result.1.now in (
      subst (AreIn s) (sym (take_rest c.split_at.result.1.now 3)) (in_drop s 3 c.split_at.result.1.now behind),
      subst (λ (es : List Event). length es < length c.args.events.now) (sym (take_rest c.split_at.result.1.now 3)) (omega (
        arith,
        one,
        two,
        same,
        three,
      )),
    )

pub suffix-requires : goal.suffix-requires
suffix-requires c =
    let s = c.args.reader.now.source.now in
    let inside = first_in s c.args.events.now c.in-Some.opening c.in-Some.inside.now c.in-Some.ensures c.requires.spans in
    let behind : AreIn s c.split_at.result.1.now =
    subst (AreIn s) (sym c.split_at.ensures.back) (in_drop s c.in-Some-path_end.end_of_path c.in-Some.inside.now inside.1) in
    third-in s c.split_at.result.1.now _ c.in-len3-up.len_at_least behind

pub returns-then-path-gt-MOST_PATH_EVENTS-clause-refused : goal.returns-then-path-gt-MOST_PATH_EVENTS-clause-refused
returns-then-path-gt-MOST_PATH_EVENTS-clause-refused c = c.refusal_of_all.ensures.refused v1_1
