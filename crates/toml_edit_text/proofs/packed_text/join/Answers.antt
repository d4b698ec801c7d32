-- Parts that share no bit are added up.
use Rattle.std.proofs.Common.{◌≡◌, ℕ, ◌+◌, ◌*◌, ◌^◌, ◌<◌, ◌%◌, bit_or, arith, lit≤}
use Rattle.std.proofs.lemmas.Nat.{shl_whole, shl_below, or_shifted}
use Rattle.toml_edit_text.specs.Form.{joined}
use Rattle.toml_edit_text.proofs.packed_text.join.Goals as goal

added_up : (high middle low : ℕ) → high < 2 ^ 8 → middle < 2 ^ 16 → low < 2 ^ 32 → bit_or (bit_or (high * 2 ^ 48 % 2 ^ 64) (middle * 2 ^ 32 % 2 ^ 64)) low ≡ joined high middle low
added_up high middle low h m l =
    let above : high * 2 ^ 48 + middle * 2 ^ 32 ≡ (high * 2 ^ 16 + middle) * 2 ^ 32 = omega arith in
    rw (
      shl_whole high 8 48 64 h (lit≤ tt),
      shl_whole middle 16 32 64 m (lit≤ tt),
      or_shifted high 48 (middle * 2 ^ 32) (shl_below middle 16 32 m),
      above,
      or_shifted (high * 2 ^ 16 + middle) 32 low l,
    ) (omega arith)

pub returns : goal.returns
returns c = added_up c.args.high c.args.middle c.args.low (omega arith) (omega arith) (omega arith)
