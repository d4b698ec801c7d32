-- What a call does to a sink that holds back a tail.
use Rattle.std.specs.Prelude.{◌≡◌, ℕ, List, ◌++◌}
use Rattle.std.specs.Borrow.{MutBor}
use Rattle.std.specs.Fmt.{WritesInCalls}
use Rattle.toml_edit.specs.Tails.{tail_after, tail_text}
use Rattle.toml_edit.specs.declared.tail.Tail.{Tail}

-- `s` and `t` are the sink that it puts into, which takes all but the tail
pub record Holds {S : Type 0} (puts : S → List ℕ → S → Type 0) (before : Tail) (s : MutBor S)
    (text : List ℕ) (after : Tail) (t : MutBor S) : Type 0 where
  pub same_reference : t.ghost_name ≡ s.ghost_name
  pub tail : after ≡ tail_after before text
  pub released : List ℕ
  pub put : WritesInCalls puts s.now released t.now
  pub whole : tail_text before ++ text ≡ released ++ tail_text after
