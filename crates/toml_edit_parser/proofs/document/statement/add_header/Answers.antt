-- A header, by its parts.
use Rattle.std.proofs.lemmas.Result.{err_from_is_err_and}
use Rattle.toml_edit_model.specs.Faults.{own_faults}
use Rattle.toml_edit_model.specs.Syntax.{header}
use Rattle.toml_edit_laws.specs.Building.{clash_at}
use Rattle.toml_edit_laws.specs.TableClash.{table_way_faults}
use Rattle.toml_edit_repr.specs.Modes.{mode_of}
use Rattle.toml_edit_parser.proofs.StatementLaws.{header-is-added, later-named, own-named, parts-are}
use Rattle.toml_edit_parser.proofs.NearLaws.{near}
use Rattle.toml_edit_parser.proofs.document.statement.add_header.Goals as goal

pub returns-in_err-header-clause-header : goal.returns-in_err-header-clause-header
returns-in_err-header-clause-header c =
    λ b h end more is stands ended held leading array opening e.
    let t = c.args.reader.now.source.now in
    let s = header h end in
    let q = err_from_is_err_and c.from_residual.result c.from_residual.ensures.1 in
    rw (q.1, q.2) (own-named t (own_faults b.start s) (table_way_faults (clash_at b s)) c.in_err-header.field-0.0
    (c.in_err-header.ensures.header h end b.start more is.0 stands ended e))

pub returns-in_err-open_block-clause-header : goal.returns-in_err-open_block-clause-header
returns-in_err-open_block-clause-header c =
    λ b h end more is stands ended held leading array opening e.
    let t = c.args.reader.now.source.now in
    let s = header h end in
    let q = err_from_is_err_and c.from_residual-in_err-open_block.result c.from_residual-in_err-open_block.ensures.1 in
    let read = c.in_ok-header.ensures.header h end b.start more is.0 stands ended e in
    rw (q.1, q.2) (later-named t (own_faults b.start s) (table_way_faults (clash_at b s)) c.in_err-open_block.field-0.0
    (c.in_err-open_block.ensures.opens (mode_of c.args.reader.now.mode) b h end is stands held
    (parts-are (mode_of c.args.reader.now.mode) b h end more c.args.leading c.args.opening c.args.is_array c.in_ok-header.header
    c.in_ok-header.rest.now leading array opening read)))

pub returns-clause-header : goal.returns-clause-header
returns-clause-header c =
    λ b h end more is stands ended held leading array opening e.
    let t = c.args.reader.now.source.now in
    let read = c.in_ok-header.ensures.header h end b.start more is.0 stands ended e in
    header-is-added (mode_of c.args.reader.now.mode) b h end more c.in_ok-header.header c.in_ok-header.rest.now _ read
    (c.in_ok-open_block.ensures.opens (mode_of c.args.reader.now.mode) b h end is stands held
    (parts-are (mode_of c.args.reader.now.mode) b h end more c.args.leading c.args.opening c.args.is_array c.in_ok-header.header
    c.in_ok-header.rest.now leading array opening read))

pub open_block-requires-clause-leading : goal.open_block-requires-clause-leading
open_block-requires-clause-leading c = near c.args.reader.now.source.now c.args.leading c.args.reader.now.short c.requires.leading
