-- What is put back is the whole.
use Rattle.std.proofs.Common.{ap, sym, ◌∙◌}
use Rattle.toml_edit_laws.specs.Building.{slots_along}
use Rattle.toml_edit_laws.specs.AddPath.{put_along}
use Rattle.toml_edit_laws.specs.PlaceOrder.{slots_by_place}
use Rattle.toml_edit_tree.specs.View.{slots_view}
use Rattle.toml_edit_parser.specs.BlockRead.{names}
use Rattle.toml_edit_parser.proofs.SwapLaws.{whole-again}
use Rattle.toml_edit_parser.proofs.document.building.whole.Goals as goal

pub returns : goal.returns
returns c =
    λ b held.
    let h = c.args.building in
    let current = slots_view h.current in
    let root = slots_view h.root in
    let same = ap names c.as_slice.ensures.value ∙ sym held.block in
    ap slots_by_place
    (whole-again (names c.as_slice.result.now) current root held.left (slots_view c.swap_block.new.others)
    (slots_view c.swap_block.new.slots)
    (ap (λ ks. slots_along ks root) same ∙ held.there) c.swap_block.ensures
    ∙ ap (λ ks. put_along ks current root) same)
    ∙ sym held.slots
