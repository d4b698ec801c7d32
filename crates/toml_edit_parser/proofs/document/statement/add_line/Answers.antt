-- A key line, added to the slots of its table.
use Rattle.std.proofs.Common.{refl}
use Rattle.std.proofs.lemmas.Result.{err_from_is_err_and}
use Rattle.toml_edit_model.specs.Faults.{own_faults}
use Rattle.toml_edit_model.specs.Syntax.{key_line}
use Rattle.toml_edit_laws.specs.Building.{clash_at, mentions_at, source_at}
use Rattle.toml_edit_laws.specs.TableClash.{table_way_faults}
use Rattle.toml_edit_repr.specs.Modes.{mode_of}
use Rattle.toml_edit_parser.proofs.StatementLaws.{line-is-added, line-path, line-stopped, own-named}
use Rattle.toml_edit_parser.proofs.document.statement.add_line.Goals as goal

pub returns-in_err-path-clause-line : goal.returns-in_err-path-clause-line
returns-in_err-path-clause-line c =
    λ b f v end more is stands ended held leading e.
    let t = c.args.reader.now.source.now in
    let s = key_line f v end in
    let q = err_from_is_err_and c.from_residual.result c.from_residual.ensures.1 in
    rw (q.1, q.2) (own-named t (own_faults b.start s) (table_way_faults (clash_at b s)) c.in_err-path.field-0.0
    (c.in_err-path.ensures.line f v end b.start more is.0 is.1 stands ended leading e))

pub returns-in_err-add_value-clause-line : goal.returns-in_err-add_value-clause-line
returns-in_err-add_value-clause-line c =
    λ b f v end more is stands ended held leading e.
    let t = c.args.reader.now.source.now in
    let s = key_line f v end in
    let q = err_from_is_err_and c.from_residual-in_err-add_value.result c.from_residual-in_err-add_value.ensures.1 in
    let read = c.in_ok-path.ensures.line f v end b.start more is.0 is.1 stands ended leading e in
    rw (q.1, q.2) (line-stopped (mode_of c.args.reader.now.mode) b f v end c.args.building.now held t c.in_err-add_value.field-0.0
    (c.in_err-add_value.ensures.added (mode_of c.args.reader.now.mode) (source_at b s) (mentions_at b s)
    (line-path (mode_of c.args.reader.now.mode) t b f v end is stands c.in_ok-path.path read.path_is)))

pub returns-clause-line : goal.returns-clause-line
returns-clause-line c =
    λ b f v end more is stands ended held leading e.
    let t = c.args.reader.now.source.now in
    let s = key_line f v end in
    let read = c.in_ok-path.ensures.line f v end b.start more is.0 is.1 stands ended leading e in
    line-is-added (mode_of c.args.reader.now.mode) b f v end c.args.building.now held more _ c.in_ok-path.path _ _ is read
    (c.in_ok-add_value.ensures.added (mode_of c.args.reader.now.mode) (source_at b s) (mentions_at b s)
    (line-path (mode_of c.args.reader.now.mode) t b f v end is stands c.in_ok-path.path read.path_is)) refl refl refl
