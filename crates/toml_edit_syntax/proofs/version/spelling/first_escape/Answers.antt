use Rattle.std.proofs.Common.{◌∙◌, ◌-◌, length, take, drop, sym, arith}
use Rattle.std.proofs.lemmas.List.{length-take, length-drop}
use Rattle.toml_edit_syntax.proofs.late.EscapeSteps.{one_on, two_on}
use Rattle.toml_edit_syntax.proofs.version.spelling.first_escape.Goals as goal

pub bytes-preserved-then-first-eq92 : goal.bytes-preserved-then-first-eq92
bytes-preserved-then-first-eq92 c = record {
  place =
      let rest = c.bytes.rest.now in
      let tail = take (length rest - 1) (drop 1 rest) in
      omega (
        arith,
        length-take (length rest - 1) (drop 1 rest),
        length-drop 1 rest,
        length-take (length tail - 1) (drop 1 tail),
        length-drop 1 tail,
      );
  same = two_on c.bytes.at c.bytes.rest.now c.in-len1-up.len_at_least c.if-first-eq92.true c.in-len1-up-tail.len_at_least
      (sym c.escape_at.ensures ∙ c.in_default-escape_at.is)
      ∙ c.bytes.invariant.same;
}

pub bytes-preserved : goal.bytes-preserved
bytes-preserved c = record {
  place = let rest = c.bytes.rest.now in omega (arith, length-take (length rest - 1) (drop 1 rest), length-drop 1 rest);
  same = one_on c.bytes.at c.bytes.rest.now c.in-len1-up.len_at_least c.if-first-eq92.false ∙ c.bytes.invariant.same;
}
