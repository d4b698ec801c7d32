-- The closure that compares keys.
use Rattle.std.proofs.Common.{[], ◌∷◌, ◌∙◌}
use Rattle.std.specs.Ordering.{is_lt}
use Rattle.toml_edit_slots.proofs.list.fn.sort_by_key.sort_by.Goals as goal

pub returns : goal.returns
returns g c of by =
    let one = (g.met.F.FnMut.1.post_iff _ _ _).0 c.key.ensures in
    let other = (g.met.F.FnMut.1.post_iff _ _ _).0 c.key-2.ensures in
    let first = (by.at (_ ∷ []) _ one.0 one.1).0 in
    let second = (by.at (_ ∷ []) _ other.0 other.1).0 in
    ◌∙◌ {b = is_lt (g.K.Ord.cmp c.key.result c.key-2.result)} {c =
    is_lt (g.K.Ord.cmp (of c.args.one.now) (of c.args.other.now))} (λ i. is_lt (c.cmp.ensures i))
    (λ i. is_lt (g.K.Ord.cmp (first i) (second i)))
