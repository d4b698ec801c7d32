use Rattle.std.proofs.Common.{arith, ◌≡◌, ◌+◌, ◌-◌, subst}
use Rattle.std.proofs.lemmas.Str.{IsCharBoundary-after_ascii}
use Rattle.std.specs.Str.{IsCharBoundary}
use Rattle.toml_edit_laws.proofs.reading.RunLaws.{within_from_byte}
use Rattle.toml_edit_token.proofs.run.skip.Goals as goal

pub range_from-requires : goal.range_from-requires
range_from-requires c _ =
    let s = c.args.s.now in
    let i = c.args.n - 1 in
    let more : i + 1 ≡ c.args.n = omega (arith, c.requires.some) in
    subst (IsCharBoundary s) more (IsCharBoundary-after_ascii s i c.utf8.s (within_from_byte s i c.requires.there) c.requires.ascii)
