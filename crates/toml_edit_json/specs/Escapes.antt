-- What a sink between quotes puts.
use Rattle.std.specs.Prelude.{◌≡◌, List, ℕ}
use Rattle.std.specs.Fmt.{WritesInCalls}
use Rattle.std.specs.Borrow.{MutBor}
use Rattle.json.specs.Print.{escape}

-- what stands for the text between quotes was put into the sink behind it
pub record Escapes {S : Type 0} (puts : S → List ℕ → S → Type 0) (f : MutBor S) (text : List ℕ)
    (g : MutBor S) : Type 0 where
  pub same_reference : g.ghost_name ≡ f.ghost_name
  pub wrote : WritesInCalls puts f.now (escape text) g.now
