-- The node is written again.
use Rattle.std.proofs.Common.{◌≡◌, arith, length, refl}
use Rattle.toml_edit_index.proofs.IndexLaws.{closes}
use Rattle.toml_edit_index.proofs.found.close.Goals as goal

pub returns : goal.returns
returns c =
    let ns = c.args.index.now.nodes in
    let end : c.len-next.result ≡ length ns.items = omega (arith, c.len-next.ensures, ns.ok.0) in
    λ before behind n split size. (
      closes ns.items c.args.at c.len-next.result c.index-node.result.now c.index-node.ensures end before behind n split size,
      refl,
      refl,
    )
