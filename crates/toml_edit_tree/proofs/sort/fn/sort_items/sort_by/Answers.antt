-- The closure at two slots.
use Rattle.std.proofs.Common.{[], ◌∷◌}
use Rattle.toml_edit_tree.proofs.sort.fn.sort_items.sort_by.Goals as goal

pub returns : goal.returns
returns g c lt by =
    let called = (g.met.F.FnMut.1.post_iff _ _ _).0 c.compare.ensures in
    (by.at (_ ∷ []) _ called.0 called.1).0
