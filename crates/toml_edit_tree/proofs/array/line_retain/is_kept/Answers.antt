-- The closure is called with the value at the place.
use Rattle.std.proofs.Common.{◌≡◌, MatchOption, refl, subst, true}
use Rattle.toml_edit_tree.specs.ElementClosures.{SaysOfValue}
use Rattle.toml_edit_tree.proofs.array.line_retain.is_kept.Goals as goal

pub returns-in-Some : goal.returns-in-Some
returns-in-Some g c =
    subst (λ o. MatchOption o (c.keep.result ≡ true) (λ n. SaysOfValue g.F.Fn c.args.keep.now n c.keep.result)) c.in-Some.ensures
    (c.in-Some.value.now, refl, record { shown = c.in-Some.value; shows = refl; says = record { met = c.keep.ensures } })
