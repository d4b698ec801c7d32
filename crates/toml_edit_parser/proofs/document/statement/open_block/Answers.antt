-- The table of a header, put in the whole, and its slots, taken out.
use Rattle.std.proofs.Common.{◌≡◌, List, suc, pos, w64, refl, sym, ap, subst, ◌∙◌, arith}
use Rattle.std.proofs.lemmas.Int.{to_z_pos}
use Rattle.std.proofs.lemmas.Result.{err_from_is_err_and}
use Rattle.toml_edit_model.specs.Text.{Text}
use Rattle.toml_edit_model.specs.Syntax.{header}
use Rattle.toml_edit_laws.specs.Building.{mentions_at, slots_along, source_at}
use Rattle.toml_edit_laws.specs.AddPath.{put_along}
use Rattle.toml_edit_tree.specs.View.{item_view, slots_view}
use Rattle.toml_edit_parser.specs.BlockRead.{Swaps, names}
use Rattle.toml_edit_parser.specs.TableRead.{IsItemFor}
use Rattle.toml_edit_parser.specs.declared.document.path.Kind.{Kind}
use Rattle.toml_edit_parser.proofs.StatementLaws.{fewer-headers, header-is-opened, header-item, header-path, header-stopped, key-ends}
use Rattle.toml_edit_parser.proofs.StatementLaws.{key-stands, put-back}
use Rattle.toml_edit_parser.proofs.document.statement.open_block.Goals as goal
use Rattle.toml_edit_parser.proofs.ReadLaws.{mapped}

pub returns-in_err-read_names-clause-opens : goal.returns-in_err-read_names-clause-opens
returns-in_err-read_names-clause-opens c =
    λ mode b h end is stands held at.
    let q = err_from_is_err_and c.from_residual.result c.from_residual.ensures.1 in
    let t = c.args.reader.now.source.now in
    rw (q.1, q.2) (mapped c.in_err-read_names.field-0.0 (λ r. ⊥) _ (λ r none. absurd none)
    (c.in_err-read_names.ensures.names _ h.path _ (key-ends mode t b h end is stands) (key-stands mode t b h end is stands) at.path))

pub returns-in_err-add_path-clause-opens : goal.returns-in_err-add_path-clause-opens
returns-in_err-add_path-clause-opens c =
    λ mode b h end is stands held at.
    let t = c.args.reader.now.source.now in
    let old = c.args.building.now in
    let s = source_at b (header h end) in
    let n = item_view c.head_item.new.item in
    let q = err_from_is_err_and c.from_residual-in_err-add_path.result c.from_residual-in_err-add_path.ensures.1 in
    let same = ap names c.as_slice.ensures.value ∙ sym held.block in
    let back = subst (λ (ks : List Text). Swaps (slots_along ks (slots_view old.root)) (slots_view old.current) (slots_view old.root)
    (put_along ks (slots_view old.current) (slots_view old.root)) (slots_view c.swap_block.new.others) (slots_view c.swap_block.new.slots))
    same c.swap_block.ensures in
    let room = fewer-headers t b h end old held stands in
    let number : c.number_after-building.result ≡ suc b.headers = let one = held.headers in let next =
    c.number_after-building.ensures.next room in omega (arith, one, next) in
    let head = header-item mode s h end n c.args.header.is_array c.args.header.brackets refl at.brackets
    (c.head_item.ensures mode b h end at (to_z_pos w64 c.number_after-building.result c.number_after-building.ensures.limit
    ∙ ap pos number)) in
    rw (q.1, q.2) (header-stopped mode b h end c.header_kind.result c.args.header n (slots_view c.swap_block.new.slots) at
    c.header_kind.ensures old held
    (put-back mode b old held (slots_view c.swap_block.new.others) (slots_view c.swap_block.new.slots) back) t c.in_err-add_path.field-0.0
    (c.in_err-add_path.ensures.added mode s (mentions_at b (header h end))
    (subst (λ (k : Kind). IsItemFor mode k s n) (sym c.header_kind.ensures) head)
    (header-path mode t b h end is stands c.args.header at)))

pub returns-clause-opens : goal.returns-clause-opens
returns-clause-opens c =
    λ mode b h end is stands held at.
    let t = c.args.reader.now.source.now in
    let old = c.args.building.now in
    let s = source_at b (header h end) in
    let n = item_view c.head_item.new.item in
    let same = ap names c.as_slice.ensures.value ∙ sym held.block in
    let back = subst (λ (ks : List Text). Swaps (slots_along ks (slots_view old.root)) (slots_view old.current) (slots_view old.root)
    (put_along ks (slots_view old.current) (slots_view old.root)) (slots_view c.swap_block.new.others) (slots_view c.swap_block.new.slots))
    same c.swap_block.ensures in
    let room = fewer-headers t b h end old held stands in
    let number : c.number_after-building.result ≡ suc b.headers = let one = held.headers in let next =
    c.number_after-building.ensures.next room in omega (arith, one, next) in
    let head = header-item mode s h end n c.args.header.is_array c.args.header.brackets refl at.brackets
    (c.head_item.ensures mode b h end at (to_z_pos w64 c.number_after-building.result c.number_after-building.ensures.limit
    ∙ ap pos number)) in
    let empty = slots_view c.swap_block.new.others in
    let out = slots_view c.add_path.new.slots in
    header-is-opened mode b h end c.header_kind.result c.args.header n (slots_view c.swap_block.new.slots) at c.header_kind.ensures old held
    (put-back mode b old held (slots_view c.swap_block.new.others) (slots_view c.swap_block.new.slots) back) _ empty out is
    (c.in_ok-add_path.ensures.added mode s (mentions_at b (header h end))
    (subst (λ (k : Kind). IsItemFor mode k s n) (sym c.header_kind.ensures) head)
    (header-path mode t b h end is stands c.args.header at))
    (c.in_ok-read_names.ensures.names _ h.path _ (key-ends mode t b h end is stands) (key-stands mode t b h end is stands) at.path)
    (c.number_after-building.ensures.next room)
    (subst (λ (ks : List Text). Swaps (slots_along ks out) empty out (put_along ks empty out) (slots_view c.swap_block-2.new.others)
    (slots_view c.swap_block-2.new.slots))
    (ap names c.as_slice-2.ensures.value) c.swap_block-2.ensures)
