-- Each piece goes on as the string is read.
use Rattle.std.proofs.Common.{[], sym, ap, rules, arith}
use Rattle.std.specs.Prelude.{option_map}
use Rattle.toml_edit_token.proofs.BlockLoop.{opened, unopened, piece_goes}
use Rattle.toml_edit_token.proofs.block_string.after_block.Goals as goal

pub returns-in_err-form-clause-rest : goal.returns-in_err-form-clause-rest
returns-in_err-form-clause-rest c =
    rw c.from_residual.ensures (sym (ap (option_map (λ p. p.1)) (unopened c.args.s.now c.in_err-form.ensures.value)))

pub pieces-init : goal.pieces-init
pieces-init c = (
  search rules,
  omega (arith, c.in_ok-form.ensures.within),
  ([], opened c.args.s.now c.in_ok-form.form c.in_ok-form.rest.now c.in_ok-form.ensures.value c.in_ok-form.ensures.within),
)

pub pieces-preserved : goal.pieces-preserved
pieces-preserved c =
    let l = c.pieces in
    let within = c.in_ok-piece.ensures.within in (
      search rules,
      omega (arith, l.invariant.1),
      piece_goes c.in_ok-form.form _ l.invariant.2.0 l.rest.now c.in_ok-piece.next.now l.invariant.2.1 c.in_ok-piece.piece
          c.in_ok-piece.ensures.piece c.in_default.not-Last,
    )
