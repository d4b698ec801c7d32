use Rattle.std.proofs.Common.{◌≡◌, ℕ, ◌+◌, ◌*◌, ◌<◌, ◌≤◌, true, false, length}
use denote.Text.{Utf8}
use denote.Shadow.{shadow}
use Rattle.toml_edit_syntax.specs.EventReading.{preceded, items_read}
use Rattle.toml_edit_syntax.proofs.value.+value.Given as goal

abbrev pub decreases-value : goal.decreases-value
decreases-value l = 2 * length l.s.now

abbrev pub decreases-items : goal.decreases-items
decreases-items l = 2 * length l.s.now + 1

-- the loop has added what stands before `rest`, and goes on there
abbrev pub invariant-items-items : goal.invariant-items-items
invariant-items-items l = record {
  utf8 : shadow (Utf8 l.rest);
  shorter : length l.rest ≤ length l.fn.s;
  behind : l.comma ≡ true → length l.rest < length l.fn.s;
  read : (n : ℕ) → 2 * length l.fn.s + 3 ≤ n → (k : ℕ) × (2 * length l.rest + 3 ≤ k)
      × (preceded l.fn.events.items (items_read l.brackets n l.level l.whole false l.fn.s)
      ≡ preceded l.events.items (items_read l.brackets k l.level l.whole l.comma l.rest));
}

abbrev pub decreases-items-items : goal.decreases-items-items
decreases-items-items l = length l.rest
