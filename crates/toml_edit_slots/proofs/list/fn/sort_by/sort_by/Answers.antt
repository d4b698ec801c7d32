-- The closure at two items that hold elements.
use Rattle.std.proofs.Common.{[], ◌∷◌, ◌∙◌}
use Rattle.toml_edit_slots.specs.Sorts.{held_lt}
use Rattle.toml_edit_slots.proofs.list.fn.sort_by.sort_by.Goals as goal

pub returns-in-Some-Some : goal.returns-in-Some-Some
returns-in-Some-Some g c lt by =
    let called = (g.met.F.FnMut.1.post_iff _ _ _).0 c.compare.ensures in
    let answers = (by.at (_ ∷ []) _ called.0 called.1).0 in
    ◌∙◌ {c = held_lt lt (g.T.Holds.held c.args.one.now) (g.T.Holds.held c.args.other.now)} answers
    (λ i. held_lt lt (c.in-Some-Some.ensures i) (c.in-Some-Some.ensures' i))
